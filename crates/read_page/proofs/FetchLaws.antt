-- A read into a buffer of its own that is copied on only if it passed. Assumes nothing.
use Prim.Native.Nat.{ℕ, zero, suc}
use mathlib.Core.Bool.{true, false, false≢true}
use mathlib.Core.List.{List, ◌∷◌, ◌++◌}
use mathlib.Core.Path.{◌≡◌, refl, sym, ap, ◌∙◌}
use borrow.Table.Steps.{cases}
use lib.Dec.{eqb}
use lib.ListN.{length, replicate}
use Rattle.cells.specs.Cells.{over}
use Rattle.chip_array.specs.Device.{Setting}
use Rattle.copies.specs.Blocks.{formed}
use Rattle.chip.specs.Chip.{Cycle}
use Rattle.chip.specs.Chip.Cycle.{command, data_out}
use Rattle.bus.specs.Line.{Line, send, send_all, goes_on}
use Rattle.bus.proofs.LineLaws.{send_all_append, send_all_stopped}
use Rattle.bus_polling.specs.Outcomes.{is_passed}
use Rattle.bus_polling.specs.Polling.{ended_as, outcome_of}
use Rattle.bus_polling.specs.declared.Outcome.{Outcome}
use Rattle.bus_sequences.specs.Cycles.{page_read, page_line, read_cycles, read_outcome, outputs, read_outputs, put_out}
use Rattle.read_page.specs.Fetching.{fetched}
use Rattle.cells.proofs.CellLaws.{over-all}

ended_goes : (l : Line) → is_passed (ended_as l) ≡ true → goes_on l ≡ true
unfolding ended_as goes_on is_passed
ended_goes l h =
    cases (eqb l.cut 0)
    (λ t. cases (eqb l.chip.interface.illegal 0) (λ u. rw (t, u)) (λ u. absurd (false≢true (sym (rw (t, u)) ∙ h))))
    (λ t. absurd (false≢true (sym (rw t) ∙ h)))

module _ (s : Setting) where
  -- a run that goes on to its end went on after each cycle
  went_on : (l : Line) (cs : List Cycle) → goes_on (send_all s l cs) ≡ true → goes_on l ≡ true
  went_on l cs h =
      cases (goes_on l) (λ t. t) (λ f. absurd (false≢true (sym f ∙ sym (ap goes_on (send_all_stopped s l cs f)) ∙ h)))

  outputs_long : (n : ℕ) (l : Line) → goes_on (send_all s l (replicate n data_out)) ≡ true → length (outputs s n l) ≡ n
  unfolding put_out send_all
  outputs_long zero l h = refl
  outputs_long (suc n) l h =
      rw (went_on (send s l data_out) (replicate n data_out) h) (ap suc (outputs_long n (send s l data_out) h))

  -- a read that passes puts out every byte, whatever the chip was
  pub passed_outputs_long : (l : Line) (row column n : ℕ) → is_passed (read_outcome s l row column n) ≡ true → length (read_outputs s l row column n) ≡ n
  unfolding read_outcome read_outputs read_cycles send_all
  passed_outputs_long l row column n h =
      cases (is_passed (outcome_of (page_line s l row column)))
      (λ t.
      let last : is_passed (ended_as (send_all s l (page_read s l row column ++ (command 0 ∷ replicate n data_out)))) ≡ true = sym (rw t) ∙ h in
      rw t
      (outputs_long n (send s (page_line s l row column) (command 0))
      (sym (ap goes_on (send_all_append s l (page_read s l row column) (command 0 ∷ replicate n data_out))) ∙ ended_goes _ last)))
      (λ t. absurd (false≢true (sym (ap is_passed (rw t) ∙ t) ∙ h)))

-- a read of as many bytes as the main part has
module _ (s : Setting) (l : Line) (row form page : ℕ) (buffer bytes : List ℕ) (m : Line) (o : Outcome) (long : length bytes ≡ s.geometry.main)
    (reached : m ≡ send_all s l (read_cycles s l row 0 (length bytes))) (ended : o ≡ read_outcome s l row 0 (length bytes)) where
  pub fetch_line : m ≡ send_all s l (read_cycles s l row 0 s.geometry.main)
  fetch_line = reached ∙ ap (λ (x : ℕ). send_all s l (read_cycles s l row 0 x)) long

  pub fetch_outcome : o ≡ read_outcome s l row 0 s.geometry.main
  fetch_outcome = ended ∙ ap (read_outcome s l row 0) long

  -- the buffer where it did not pass, and where its bytes were copied on and undone
  pub fetch_stopped : is_passed o ≡ false → buffer ≡ fetched s l row form page buffer
  unfolding fetched
  fetch_stopped f = rw (sym (ap is_passed fetch_outcome) ∙ f)

  pub fetch_passed : is_passed o ≡ true → length buffer ≡ s.geometry.main → (read into undone : List ℕ) → read ≡ over (read_outputs s l row 0 (length bytes)) bytes
      → into ≡ over read buffer → undone ≡ formed form page into → undone ≡ fetched s l row form page buffer
  unfolding fetched
  fetch_passed t fits read into undone e f u =
      let p = sym (ap is_passed fetch_outcome) ∙ t in
      let full = passed_outputs_long s l row 0 s.geometry.main p in
      let whole : read ≡ read_outputs s l row 0 s.geometry.main =
      e ∙ ap (λ (x : ℕ). over (read_outputs s l row 0 x) bytes) long ∙ over-all (read_outputs s l row 0 s.geometry.main) bytes (long ∙ sym full) in
      rw p (u ∙ ap (formed form page) (f ∙ ap (λ (x : List ℕ). over x buffer) whole ∙ over-all (read_outputs s l row 0 s.geometry.main) buffer (fits ∙ sym full)))
