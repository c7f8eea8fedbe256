-- `pages::kind_of` meets its contract. Assumes nothing.
use lib.Seq.{get_or-drop}
use Rattle.pages.specs.Layout.{kind_of}
use Rattle.pages.proofs.kind_of.Goals as goal

pub returns : goal.returns
unfolding kind_of
returns c = rw get_or-drop
