-- `geometry::block_of_row` meets its contract: a shift by the logarithm of the page count. Assumes nothing.
use Prim.Native.Nat.{◌/◌, ◌^◌}
use mathlib.Core.Path.{ap, ◌∙◌}
use Rattle.geometry.proofs.ShiftLaws.{shift_quotient}
use Rattle.geometry.proofs.block_of_row.Goals as goal

pub returns : goal.returns
returns c =
    ap (λ k. c.args.row / 2 ^ k) c.page_shift.ensures.0 ∙ shift_quotient c.args.g.pages c.requires.pages_one c.args.row
