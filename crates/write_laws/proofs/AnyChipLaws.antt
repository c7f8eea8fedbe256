-- A write and an erase of any chip: where each is spent, worn or stopped, when the answer 255 comes, which answers there are, and that the
-- largest allowance cuts nothing. Assumes nothing.
use Prim.Native.Nat.{ℕ, ◌≤◌, ◌<◌}
use mathlib.Core.List.{List}
use mathlib.Core.Logic.{◌↔◌}
use mathlib.Core.Path.{◌≡◌, refl, sym, subst}
use native.Mathlib.Omega.{arith}
use borrow.Author.Tests.{eq-eqb}
use lib.ListN.{length}
use Rattle.cells.specs.Bytes.{Bytes}
use Rattle.chip_array.specs.Device.{Device, Setting}
use Rattle.bus_sequences.specs.Cycles.{status_cycles}
use Rattle.state.specs.State.{next_number, number_end, held_bits}
use Rattle.state.specs.declared.State.{State}
use Rattle.request.specs.Call.{Result, result_with, sized_for, result_of}
use Rattle.request_refusals.specs.Refusals.{refusal_of}
use Rattle.request_refusals.proofs.RefusalLaws.{Accepted, accepted, by_refusal}
use Rattle.write_changes.specs.Changes.{Update, changing, write_update, erase_update, write_request, writing, erase_refusal, erase_request, erasing_logical}
use Rattle.write_laws.specs.Changing.{InRange}
use Rattle.write_laws.specs.Unready.{Waiting, Completing, InCommand, Shows, StoppedChange, none_left, UnreadyChange, BusyChange, CompletingChange, RefusedChange, AnyChangeAnswer, is_geometry, is_unmounted, is_address, is_length}
use Rattle.write_laws.proofs.MeantLaws as meant
use Rattle.write_laws.proofs.ChangingLaws.{sized-valid}
use Rattle.write_laws.proofs.RefusalLaws.{write_refuses_geometry, write_refuses_unmounted, write_refuses_logical, write_refuses_page, write_refuses_length, erase_refuses_geometry, erase_refuses_unmounted, erase_refuses_logical}
use Rattle.write_laws.proofs.UnreadyLaws.{change_unready, change_busy, change_completing}
use Rattle.write_laws.proofs.ChangeLaws.{below_last, change_shown, change_answers, change_255, change_uncut}

-- a write
module _ (s : Setting) (d : Device) (n : ℕ) (st : State) (logical page : ℕ) (bytes : List ℕ) where
  abbrev written : Result
  written = writing s d n st logical page bytes

  abbrev update : Update
  update = write_update st logical page bytes

  abbrev AcceptedWrite : Type 0
  AcceptedWrite = Accepted s.geometry (sized_for s d) st logical page (length bytes)

  pub accepted_write : AcceptedWrite → written ≡ changing s d n st update
  unfolding result_of write_request
  accepted_write a = rw (eq-eqb (refusal_of s d st logical page bytes) 0 (accepted s.geometry (sized_for s d) st logical page (length bytes) a))

  module _ (a : AcceptedWrite) where
    of_write : (Q : Result → Type 0) → Q (changing s d n st update) → Q written
    of_write Q x = subst Q (sym (accepted_write a)) x

    write_last : st.last < s.geometry.blocks
    write_last = below_last s d n st update a.sizes_fit a.is_mounted

    pub write_spent : Shows d → 2 ≤ n → d.interface.protected ≡ 0 → number_end ≤ next_number st → StoppedChange s d n st update 9 status_cycles written
    write_spent shows h high k =
        of_write (StoppedChange s d n st update 9 status_cycles) ((change_shown s d n st update a.sizes_fit a.is_mounted shows h high).spent_first k)

    pub write_worn : Shows d → 2 ≤ n → d.interface.protected ≡ 0 → next_number st < number_end → none_left s st → StoppedChange s d n st update 8 status_cycles written
    write_worn shows h high fits none =
        of_write (StoppedChange s d n st update 8 status_cycles) ((change_shown s d n st update a.sizes_fit a.is_mounted shows h high).worn_first fits none)

    pub write_unready : InCommand d → UnreadyChange s d n st update written
    write_unready within = of_write (UnreadyChange s d n st update) (change_unready s d st update within n)

    pub write_busy : Waiting d → BusyChange s d n st update written
    write_busy waiting = of_write (BusyChange s d n st update) (change_busy s d st update waiting a.sizes_fit write_last n)

    pub write_completing : Completing d → CompletingChange s d n st update written
    write_completing last = of_write (CompletingChange s d n st update) (change_completing s d st update last n)

  -- refused, or not
  by_write : (P : ℕ → Type 0) → ((k : ℕ) → AnyChangeAnswer k → k ≤ 7 → P k) → (AcceptedWrite → P (changing s d n st update).answer) → P written.answer
  by_write P refused goes =
      by_refusal s.geometry (sized_for s d) st logical page (length bytes) (λ k. P written.answer)
      (λ f. told 1 is_geometry (omega arith) (write_refuses_geometry s d n st logical page bytes f))
      (λ t f. told 7 is_unmounted (omega arith) (write_refuses_unmounted s d n st logical page bytes t f))
      (λ t m h. told 2 is_address (omega arith) (write_refuses_logical s d n st logical page bytes t m h))
      (λ t m l h. told 2 is_address (omega arith) (write_refuses_page s d n st logical page bytes t m l h))
      (λ t m l p x. told 3 is_length (omega arith) (write_refuses_length s d n st logical page bytes t m l p x))
      (λ a. of_write a (λ (x : Result). P x.answer) (goes a))
    where
      told : (k : ℕ) → AnyChangeAnswer k → k ≤ 7 → written ≡ result_with k st d 0 → P written.answer
      told k a h e = subst (λ (x : Result). P x.answer) (sym e) (refused k a h)

  -- no other answer comes, on any chip
  pub write_answers : AnyChangeAnswer written.answer
  write_answers =
      by_write AnyChangeAnswer (λ k a h. a) (λ a. change_answers s d n st update a.sizes_fit a.is_mounted)

  module _ (ranged : InRange s d st) (are_bytes : Bytes bytes) where
    proper_write : AcceptedWrite → meant.Proper s.geometry (held_bits st s.geometry.logical) update
    proper_write a = meant.write_proper s.geometry (sized-valid s d a.sizes_fit) st logical a.logical_below page bytes a.buffer_long are_bytes

    -- 255 comes exactly where a cycle is refused, so on no chip that is ready
    pub write_255 : (written.answer ≡ 255) ↔ (AcceptedWrite × RefusedChange s d n st)
    write_255 = (
      by_write (λ k. k ≡ 255 → AcceptedWrite × RefusedChange s d n st)
          (λ k a h z. absurd (omega (arith, z, h)))
          (λ a z. (a, (change_255 s d n st update a.sizes_fit a.is_mounted ranged (proper_write a)).0 z)),
      λ x. of_write x.0 (λ (y : Result). y.answer ≡ 255) ((change_255 s d n st update x.0.sizes_fit x.0.is_mounted ranged (proper_write x.0)).1 x.1),
    )

    -- the largest allowance cuts nothing
    pub write_uncut : n ≡ 4294967295 → written.answer ≡ 11 → ⊥
    write_uncut e =
        by_write (λ k. k ≡ 11 → ⊥) (λ k a h z. omega (arith, z, h)) (λ a. change_uncut s d n st update a.sizes_fit a.is_mounted ranged (proper_write a) e)

-- an erase
module _ (s : Setting) (d : Device) (n : ℕ) (st : State) (logical : ℕ) where
  abbrev erased : Result
  erased = erasing_logical s d n st logical

  abbrev AcceptedErase : Type 0
  AcceptedErase = Accepted s.geometry (sized_for s d) st logical 0 s.geometry.main

  pub accepted_erase : AcceptedErase → erased ≡ changing s d n st (erase_update logical)
  unfolding result_of erase_request
  accepted_erase a = rw (eq-eqb (erase_refusal s d st logical) 0 (accepted s.geometry (sized_for s d) st logical 0 s.geometry.main a))

  module _ (a : AcceptedErase) where
    of_erase : (Q : Result → Type 0) → Q (changing s d n st (erase_update logical)) → Q erased
    of_erase Q x = subst Q (sym (accepted_erase a)) x

    erase_last : st.last < s.geometry.blocks
    erase_last = below_last s d n st (erase_update logical) a.sizes_fit a.is_mounted

    pub erase_spent : Shows d → 2 ≤ n → d.interface.protected ≡ 0 → number_end ≤ next_number st → StoppedChange s d n st (erase_update logical) 9 status_cycles erased
    erase_spent shows h high k =
        of_erase (StoppedChange s d n st (erase_update logical) 9 status_cycles) ((change_shown s d n st (erase_update logical) a.sizes_fit a.is_mounted shows h high).spent_first k)

    pub erase_worn : Shows d → 2 ≤ n → d.interface.protected ≡ 0 → next_number st < number_end → none_left s st → StoppedChange s d n st (erase_update logical) 8 status_cycles erased
    erase_worn shows h high fits none =
        of_erase (StoppedChange s d n st (erase_update logical) 8 status_cycles) ((change_shown s d n st (erase_update logical) a.sizes_fit a.is_mounted shows h high).worn_first fits none)

    pub erase_unready : InCommand d → UnreadyChange s d n st (erase_update logical) erased
    erase_unready within = of_erase (UnreadyChange s d n st (erase_update logical)) (change_unready s d st (erase_update logical) within n)

    pub erase_busy_fact : Waiting d → BusyChange s d n st (erase_update logical) erased
    erase_busy_fact waiting = of_erase (BusyChange s d n st (erase_update logical)) (change_busy s d st (erase_update logical) waiting a.sizes_fit erase_last n)

    pub erase_completing : Completing d → CompletingChange s d n st (erase_update logical) erased
    erase_completing last = of_erase (CompletingChange s d n st (erase_update logical)) (change_completing s d st (erase_update logical) last n)

  by_erase : (P : ℕ → Type 0) → ((k : ℕ) → AnyChangeAnswer k → k ≤ 7 → P k) → (AcceptedErase → P (changing s d n st (erase_update logical)).answer) → P erased.answer
  by_erase P refused goes =
      by_refusal s.geometry (sized_for s d) st logical 0 s.geometry.main (λ k. P erased.answer)
      (λ f. told 1 is_geometry (omega arith) (erase_refuses_geometry s d n st logical f))
      (λ t f. told 7 is_unmounted (omega arith) (erase_refuses_unmounted s d n st logical t f))
      (λ t m h. told 2 is_address (omega arith) (erase_refuses_logical s d n st logical t m h))
      (λ t m l h. absurd (omega (arith, h, (sized-valid s d t).pages_least)))
      (λ t m l p x. absurd (x refl))
      (λ a. of_erase a (λ (x : Result). P x.answer) (goes a))
    where
      told : (k : ℕ) → AnyChangeAnswer k → k ≤ 7 → erased ≡ result_with k st d 0 → P erased.answer
      told k a h e = subst (λ (x : Result). P x.answer) (sym e) (refused k a h)

  pub erase_answers : AnyChangeAnswer erased.answer
  erase_answers =
      by_erase AnyChangeAnswer (λ k a h. a) (λ a. change_answers s d n st (erase_update logical) a.sizes_fit a.is_mounted)

  module _ (ranged : InRange s d st) where
    proper_erase : AcceptedErase → meant.Proper s.geometry (held_bits st s.geometry.logical) (erase_update logical)
    proper_erase a = meant.erase_proper s.geometry (sized-valid s d a.sizes_fit) st logical a.logical_below

    pub erase_255 : (erased.answer ≡ 255) ↔ (AcceptedErase × RefusedChange s d n st)
    erase_255 = (
      by_erase (λ k. k ≡ 255 → AcceptedErase × RefusedChange s d n st)
          (λ k a h z. absurd (omega (arith, z, h)))
          (λ a z. (a, (change_255 s d n st (erase_update logical) a.sizes_fit a.is_mounted ranged (proper_erase a)).0 z)),
      λ x. of_erase x.0 (λ (y : Result). y.answer ≡ 255) ((change_255 s d n st (erase_update logical) x.0.sizes_fit x.0.is_mounted ranged (proper_erase x.0)).1 x.1),
    )

    pub erase_uncut : n ≡ 4294967295 → erased.answer ≡ 11 → ⊥
    erase_uncut e =
        by_erase (λ k. k ≡ 11 → ⊥) (λ k a h z. omega (arith, z, h)) (λ a. change_uncut s d n st (erase_update logical) a.sizes_fit a.is_mounted ranged (proper_erase a) e)
