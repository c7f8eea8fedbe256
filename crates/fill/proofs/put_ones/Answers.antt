-- `fill::put_ones` meets its contract. Assumes nothing.
use Prim.Native.Nat.{ℕ}
use mathlib.Core.List.{List}
use mathlib.Core.Path.{ap, ◌∙◌}
use native.Mathlib.Omega.{arith}
use Rattle.copies.specs.Blocks.{formed}
use Rattle.fill.proofs.MainLaws.{put_ones}
use Rattle.fill.proofs.put_ones.Goals as goal

pub returns : goal.returns
returns c =
    c.form_main.ensures
    ∙ ap (λ (xs : List ℕ). formed c.args.kind c.args.place xs)
    (put_ones c.args.g.main c.args.page.now (omega (arith, c.requires.page_len)) _ _ c.erase_whole.auto.block c.erase_whole.ensures)
