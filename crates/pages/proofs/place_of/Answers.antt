-- `pages::place_of` meets its contract. Assumes nothing.
use lib.Seq.{get_or-drop}
use Rattle.pages.specs.Layout.{label_of}
use Rattle.pages.proofs.place_of.Goals as goal

pub returns : goal.returns
unfolding label_of
returns c = rw (c.from.ensures, get_or-drop)
