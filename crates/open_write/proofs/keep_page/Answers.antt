-- `open_write::keep_page` meets its contract. Assumes nothing.
use Prim.Native.Nat.{ℕ}
use mathlib.Core.List.{List, ◌++◌}
use mathlib.Core.Path.{ap, ◌∙◌}
use lib.ListN.{length}
use Rattle.cells.specs.Cells.{over}
use Rattle.open_write.proofs.WordLaws.{cleared_rest}
use Rattle.open_write.proofs.keep_page.Goals as goal

pub returns : goal.returns
returns c =
    c.copy.ensures
    ∙ ap (over c.args.bytes.now) c.clear.ensures
    ∙ ap (λ (xs : List ℕ). c.args.bytes.now ++ xs) (cleared_rest (length c.args.bytes.now) (length c.args.kept.now))
