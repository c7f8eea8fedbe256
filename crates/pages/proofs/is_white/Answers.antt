-- `pages::is_white` meets its contract. Assumes nothing.
use mathlib.Core.Path.{sym}
use Rattle.bools.proofs.BoolLaws.{or_none}
use Rattle.pages.specs.Layout.{is_white_kind}
use Rattle.pages.proofs.is_white.Goals as goal

pub returns : goal.returns
unfolding is_white_kind
returns c = sym (or_none _)
