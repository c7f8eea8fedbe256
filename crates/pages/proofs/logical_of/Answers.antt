-- `pages::logical_of` meets its contract. Assumes nothing.
use lib.Seq.{drop-drop}
use Rattle.pages.specs.Layout.{label_of}
use Rattle.pages.proofs.logical_of.Goals as goal

pub returns : goal.returns
unfolding label_of
returns c =
    rw (c.pair_at.ensures, drop-drop 2 c.args.main c.args.page.now)
