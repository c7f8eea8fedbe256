-- Laws of what the call that tells the dearest write hands back. Assumes nothing.
use Prim.Native.Nat.{ℕ}
use mathlib.Core.List.{List}
use mathlib.Core.Path.{◌≡◌, ap, ◌∙◌}
use borrow.Author.Tests.{eq-eqb, ne_eqb}
use lib.ListN.{length, set}
use Rattle.geometry.specs.declared.Geometry.{Geometry}
use Rattle.dearest.specs.Dearest.{told, dearest_told}
use Rattle.c_buffers.proofs.BufferLaws.{single}
use Rattle.flash_store.specs.Dearest.{dearest_handed, dearest_out, dearest_lent}

module _ (g : Geometry) (failed : ℕ) (words cycles : List ℕ) where
  pub cycles_wrongly : (length cycles ≡ 1 → ⊥) → dearest_handed 100 words cycles ≡ dearest_lent g failed words cycles
  unfolding dearest_lent
  cycles_wrongly x = rw (ne_eqb (length cycles) 1 x)

  pub dearest_handed_fact : (answer count : ℕ) (after : List ℕ) → length cycles ≡ 1 → told answer count after ≡ dearest_told g failed words
      → dearest_handed answer after (set cycles 0 count) ≡ dearest_lent g failed words cycles
  unfolding dearest_lent
  dearest_handed_fact answer count after h e =
      rw (eq-eqb (length cycles) 1 h) (ap (dearest_handed answer after) (single cycles count h) ∙ ap dearest_out e)
