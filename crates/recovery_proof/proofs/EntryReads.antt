-- A read by an entry of the map, whatever is current on the array: done, silent or cut, and which bytes. Assumes nothing.
use Prim.Native.Nat.{ℕ, ◌≤◌}
use mathlib.Core.Bool.{true}
use mathlib.Core.List.{List}
use mathlib.Core.Logic.{⊎_elim}
use mathlib.Core.Path.{◌≡◌, refl, sym, subst, ◌∙◌}
use native.Mathlib.Omega.{arith}
use borrow.Table.Steps.{cases}
use borrow.Author.Tests.{eqb-true, eqb-false}
use lib.Dec.{eqb}
use lib.ListN.{length, get_or}
use Rattle.chip_array.specs.Device.{Device, Setting}
use Rattle.bus_polling.specs.Outcomes.{is_passed}
use Rattle.operations.specs.Ends.{read_end}
use Rattle.copies.specs.Blocks.{block_in, main_in, formed}
use Rattle.state.specs.State.{none}
use Rattle.state.specs.declared.State.{State}
use Rattle.request.specs.Call.{sized_for, call_line}
use Rattle.request.proofs.CallLaws.{answer_passed}
use Rattle.request_refusals.proofs.RefusalLaws.{Accepted}
use Rattle.read_page.specs.Fetching.{ReadResult}
use Rattle.read.specs.Reading.{reading_page}
use Rattle.read.proofs.ReadingLaws.{Gives, no_copy, one_copy, block_gives, request_ends, read_legal}
use Rattle.read.proofs.SentLaws.{read_sent_most}
use Rattle.request_laws.specs.Reads.{ReadsAs}
use Rattle.request_laws.proofs.PageReadLaws.{read_silent, read_cut}
use Rattle.recovery_write.proofs.EntryLaws.{EntryReads}

module _ (s : Setting) (d : Device) (n : ℕ) (state : State) (logical page : ℕ) (buffer : List ℕ) (a : Accepted s.geometry (sized_for s d) state logical page (length buffer)) (ready : d.interface.phase ≤ 2)
    (pages : ℕ → List ℕ) (e : EntryReads s.geometry d.array (get_or state.map logical 0) (get_or state.kinds logical 0) pages) where
  abbrev r : ReadResult
  r = reading_page s d n state logical page buffer

  abbrev entry : ℕ
  entry = get_or state.map logical 0

  module _ (heard : r.returned.answer ≡ 10 → ⊥) (uncut : r.returned.answer ≡ 11 → ⊥) where
    passed : (entry ≡ none → ⊥) → is_passed (read_end s (call_line d n) s.geometry.main).outcome ≡ true
    passed x =
        answer_passed _
        (sym (request_ends s d n state logical page buffer a ready x).answer_is
        ∙ ⊎_elim (λ z. z) (λ y. absurd (⊎_elim heard uncut y)) (read_legal s d n state logical page buffer a ready x))

    heard_gives : Gives s d state (pages page) r
    heard_gives =
        cases (eqb entry none)
        (λ t.
        let z = eqb-true entry none t in
        subst (Gives s d state (pages page)) (sym (no_copy s d n state logical page buffer a z))
        (record { done = refl; same_state = refl; same_array = refl; same_history = refl; bytes_are = sym (e.none_is z page a.page_below); still_sized = a.sizes_fit; still_ready = ready }))
        (λ t.
        let x = eqb-false entry none t in
        subst (λ (bytes : List ℕ). Gives s d state bytes r) (sym (e.copy_is x page a.page_below))
        (subst (Gives s d state (formed (get_or state.kinds logical 0) page (main_in s.geometry (block_in s.geometry d.array entry) page))) (sym (one_copy s d n state logical page buffer a x))
        (block_gives s d n state logical page buffer a ready entry (e.below x) (passed x))))

  pub reads_entry : ReadsAs s d n state (pages page) r
  reads_entry =
      record {
        gives = heard_gives;
        silent_by = read_silent s d n state logical page buffer a ready;
        cut_at = read_cut s d n state logical page buffer a ready;
        sent-most = omega (arith, read_sent_most s d n state logical page buffer);
      }
