-- Which confirm cycles are refused, for every chip: the wrong phase, too few address bytes, too little or too much data, a page that may not be programmed.
-- Assumes nothing.
use Prim.Native.Nat.{ℕ, ◌<◌}
use mathlib.Core.Bool.{true}
use mathlib.Core.List.{List}
use mathlib.Core.Path.{◌≡◌}
use native.Mathlib.Omega.{arith}
use borrow.Author.Tests.{eq-eqb, ne_eqb, lt-leb, eqb-false, leb-false}
use borrow.Table.Steps.{cases}
use lib.Dec.{eqb, leb}
use lib.ListN.{length, get_or}
use lib.Seq.{get_or-set_same}
use Rattle.geometry.specs.Sizes.{page_size}
use Rattle.chip_array.specs.Device.{Device, Setting, device, illegal_cycle, block_at, page_at, read_started, program_started, erase_started}

module _ (s : Setting) (d : Device) where
  -- 30h
  pub read_elsewhere : (d.interface.phase ≡ 3 → ⊥) → read_started s d ≡ illegal_cycle d
  unfolding read_started
  read_elsewhere n = rw (ne_eqb _ _ n)

  pub read_early : d.interface.phase ≡ 3 → (d.interface.count ≡ 5 → ⊥) → read_started s d ≡ illegal_cycle d
  unfolding read_started
  read_early p n = rw (eq-eqb _ _ p, ne_eqb _ _ n)

  -- D0h
  pub erase_elsewhere : (d.interface.phase ≡ 5 → ⊥) → erase_started s d ≡ illegal_cycle d
  unfolding erase_started
  erase_elsewhere n = rw (ne_eqb _ _ n)

  pub erase_early : d.interface.phase ≡ 5 → (d.interface.count ≡ 5 → ⊥) → erase_started s d ≡ illegal_cycle d
  unfolding erase_started
  erase_early p n = rw (eq-eqb _ _ p, ne_eqb _ _ n)

  -- 10h
  pub program_elsewhere : (d.interface.phase ≡ 6 → ⊥) → program_started s d ≡ illegal_cycle d
  unfolding program_started
  program_elsewhere n = rw (ne_eqb _ _ n)

  pub program_short : (d.interface.column ≡ page_size s.geometry → ⊥) → program_started s d ≡ illegal_cycle d
  unfolding program_started
  program_short n =
      rw (ne_eqb _ _ n)
      (cases (eqb d.interface.phase 6) (λ a. cases (eqb d.interface.first 0) (λ b. rw (a, b)) (λ b. rw (a, b))) (λ a. rw a))

  pub program_late : (d.interface.first ≡ 0 → ⊥) → program_started s d ≡ illegal_cycle d
  unfolding program_started
  program_late n = rw (ne_eqb _ _ n) (cases (eqb d.interface.phase 6) (λ a. rw a) (λ a. rw a))

  pub program_below : page_at s.geometry d.interface < get_or d.history (block_at s.geometry d.interface) 0 → program_started s d ≡ illegal_cycle d
  unfolding program_started
  program_below h =
      rw (lt-leb _ _ h)
      (cases (eqb d.interface.phase 6)
      (λ a. cases (eqb d.interface.first 0) (λ b. cases (eqb d.interface.column (page_size s.geometry)) (λ c. rw (a, b, c)) (λ c. rw (a, b, c))) (λ b. rw (a, b)))
      (λ a. rw a))

-- after 10h with a whole page the history lies above the page
history_above : (s : Setting) (d : Device) → d.interface.protected ≡ 0 → block_at s.geometry d.interface < length d.history
    → eqb d.interface.phase 6 ≡ true → eqb d.interface.first 0 ≡ true → eqb d.interface.column (page_size s.geometry) ≡ true
    → page_at s.geometry d.interface < get_or (program_started s d).history (block_at s.geometry d.interface) 0
unfolding program_started
history_above s d high h p z c =
    cases (leb (get_or d.history (block_at s.geometry d.interface) 0) (page_at s.geometry d.interface))
    (λ t. rw (p, z, c, t, eq-eqb _ _ high, get_or-set_same) (omega arith))
    (λ t. rw (p, z, c, t) (leb-false _ _ t))

-- the page of a program, programmed again with no erase between, whatever the array and the register hold by then
pub program_twice : (s : Setting) (d : Device) (a r : List ℕ) → d.interface.protected ≡ 0 → block_at s.geometry d.interface < length d.history
    → program_started s (device d.interface a r (program_started s d).history) ≡ illegal_cycle (device d.interface a r (program_started s d).history)
program_twice s d a r high h =
    let again = device d.interface a r (program_started s d).history in
    cases (eqb d.interface.phase 6)
    (λ p. cases (eqb d.interface.first 0)
    (λ z. cases (eqb d.interface.column (page_size s.geometry)) (λ c. program_below s again (history_above s d high h p z c)) (λ c. program_short s again (eqb-false _ _ c)))
    (λ z. program_late s again (eqb-false _ _ z)))
    (λ p. program_elsewhere s again (eqb-false _ _ p))
