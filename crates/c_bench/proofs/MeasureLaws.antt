-- What is measured of an operation, from the line that it leaves. Assumes nothing.
use Prim.Native.Nat.{ℕ, ◌-◌, ◌≤◌}
use mathlib.Core.List.{List}
use mathlib.Core.Path.{◌≡◌, ap, ◌∙◌}
use native.Mathlib.Omega.{arith}
use lib.ListN.{length}
use Rattle.chip_array.specs.Device.{Setting}
use Rattle.chip.specs.Chip.{Cycle}
use Rattle.bus.specs.Line.{Line, line, send_all, sent}
use Rattle.bus.specs.declared.Bus.{Bus}
use Rattle.bus.proofs.LineLaws.{sent_counts}
use Rattle.c_bench.specs.Start.{measured, measured_by}

module _ (s : Setting) (l : Line) (cs : List Cycle) (b : Bus) (a r h : List ℕ) (e : line b a r h ≡ send_all s l cs) where
  pub left_most : b.left ≤ l.left
  left_most = omega (arith, sent_counts s l cs, ap (λ (x : Line). x.left) e)

  pub measured_is : measured (l.left - b.left) a r h ≡ measured_by s l cs
  measured_is =
      let count : l.left - b.left ≡ length (sent s l cs) = omega (arith, sent_counts s l cs, ap (λ (x : Line). x.left) e) in
      ap (λ (n : ℕ). measured n a r h) count
      ∙ ap (λ (x : Line). measured (length (sent s l cs)) x.chip.array x.chip.register x.chip.history) e
