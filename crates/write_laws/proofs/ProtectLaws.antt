-- Writes and erases of a ready chip whose write-protect line is low: 13 after the status read, with nothing changed and the state as it came. Assumes nothing.
use Prim.Native.Nat.{ℕ, zero, suc, ◌≤◌, ◌<◌}
use mathlib.Core.List.{List}
use mathlib.Core.Path.{◌≡◌, refl, sym, subst, ◌∙◌}
use native.Mathlib.Omega.{arith}
use lib.ListN.{length, take}
use Rattle.chip_interface.specs.Interface.{in_phase}
use Rattle.chip_array.specs.Device.{Device, Setting, with_interface}
use Rattle.bus_sequences.specs.Cycles.{status_cycles}
use Rattle.state.specs.declared.State.{State}
use Rattle.request.specs.Call.{Result, result_with, sized_for, call_line}
use Rattle.request_refusals.proofs.RefusalLaws.{Accepted}
use Rattle.write_changes.specs.Changes.{Update, changing, write_update, erase_update, writing, erasing_logical}
use Rattle.write_laws.specs.Unready.{StoppedChange}
use Rattle.write_laws.proofs.UnreadyLaws.{change_cut, ready_cut, ready_protected}
use Rattle.write_laws.proofs.AnyChipLaws.{accepted_write, accepted_erase}

module _ (s : Setting) (d : Device) (n : ℕ) (st : State) (ready : d.interface.phase ≤ 2) where
  -- the chip shows its status, and has no other word changed
  abbrev shown : Device
  shown = with_interface (in_phase 1 (call_line d n).chip.interface) (call_line d n).chip

  module _ (u : Update) where
    pub change_protected : (d.interface.protected ≡ 0 → ⊥) → 2 ≤ n → changing s d n st u ≡ result_with 13 st shown 2
    change_protected low h = ready_protected s d st u ready n h low

    -- with fewer than two cycles the status read is cut, whatever the line
    pub change_short : n < 2 → StoppedChange s d n st u 11 (take n status_cycles) (changing s d n st u)
    change_short h = short n h
      where
        short : (k : ℕ) → k < 2 → StoppedChange s d k st u 11 (take k status_cycles) (changing s d k st u)
        short zero h = change_cut s d st u 0 refl
        short (suc zero) h = ready_cut s d st u ready 1 refl
        short (suc (suc k)) h = absurd (omega (arith, h))

  -- a write and an erase that are not refused
  module _ (logical page : ℕ) (bytes : List ℕ) (a : Accepted s.geometry (sized_for s d) st logical page (length bytes)) where
    pub write_protected : (d.interface.protected ≡ 0 → ⊥) → 2 ≤ n → writing s d n st logical page bytes ≡ result_with 13 st shown 2
    write_protected low h = accepted_write s d n st logical page bytes a ∙ change_protected (write_update st logical page bytes) low h

    pub write_short : n < 2 → StoppedChange s d n st (write_update st logical page bytes) 11 (take n status_cycles) (writing s d n st logical page bytes)
    write_short h =
        subst (λ (r : Result). StoppedChange s d n st (write_update st logical page bytes) 11 (take n status_cycles) r) (sym (accepted_write s d n st logical page bytes a)) (change_short (write_update st logical page bytes) h)

  module _ (logical : ℕ) (a : Accepted s.geometry (sized_for s d) st logical 0 s.geometry.main) where
    pub erase_protected : (d.interface.protected ≡ 0 → ⊥) → 2 ≤ n → erasing_logical s d n st logical ≡ result_with 13 st shown 2
    erase_protected low h = accepted_erase s d n st logical a ∙ change_protected (erase_update logical) low h

    pub erase_short : n < 2 → StoppedChange s d n st (erase_update logical) 11 (take n status_cycles) (erasing_logical s d n st logical)
    erase_short h =
        subst (λ (r : Result). StoppedChange s d n st (erase_update logical) 11 (take n status_cycles) r) (sym (accepted_erase s d n st logical a)) (change_short (erase_update logical) h)
