-- What a page of a fill comes to, once its main bytes are there. Assumes nothing.
use Prim.Native.Nat.{ℕ}
use mathlib.Core.Bool.{true, false}
use mathlib.Core.List.{List}
use mathlib.Core.Path.{◌≡◌, sym, ap, ◌∙◌}
use lib.ListN.{take}
use Rattle.geometry.specs.Sizes.{row_of}
use Rattle.chip_array.specs.Device.{Setting}
use Rattle.chip.specs.Chip.{Cycle}
use Rattle.bus.specs.Line.{Line, send_all}
use Rattle.bus_polling.specs.Outcomes.{is_passed}
use Rattle.bus_polling.specs.Polling.{answer_of}
use Rattle.bus_polling.specs.declared.Outcome.{Outcome}
use Rattle.bus_polling.specs.declared.Outcome.TheVariants.{Passed}
use Rattle.bus_polling.proofs.OutcomeLaws.{is_passed_lem}
use Rattle.bus_sequences.specs.Cycles.{program_cycles}
use Rattle.operations.specs.Trace.{ArrayOperation}
use Rattle.progress.specs.Progress.{Progress, progress}
use Rattle.progress.specs.Steps.{program_on, ComesTo}
use Rattle.progress.proofs.StepLaws.{program_stopped}
use Rattle.copies.specs.Blocks.{formed}
use Rattle.fill.specs.Fill.{Copy, Source, Reaches, stored_page, copy_page, main_of, main_read, page_filled}
use Rattle.bools.proofs.BoolLaws.{clash}
use Rattle.fill_driver.proofs.AnsweredLaws.{program_reaches}

-- a page once its main bytes are there: the request has come to line m with outcome o
module _ (s : Setting) (block : ℕ) (c : Copy) (n : ℕ) (source : Source) (l m : Line) (o : Outcome) (r : Reaches s (main_read s n source) l m o) where
  abbrev bytes : List ℕ
  bytes = copy_page s.geometry c n (main_of s.geometry l.chip.array n source)

  abbrev read : List Cycle → List ArrayOperation → Progress
  read cs os = main_read s n source (progress l Passed cs os)

  -- the read did not pass
  pub page_stops : is_passed o ≡ false → ComesTo s (page_filled s block c n source) l m o
  unfolding page_filled
  page_stops f =
      let still : (cs : List Cycle) (os : List ArrayOperation) → read cs os ≡ program_on s block n bytes (read cs os) = λ cs os. sym (program_stopped s block n bytes (read cs os) (sym (ap is_passed (r.outcome_is cs os)) ∙ f)) in
      record {
        line_is = λ cs os. r.line_is cs os ∙ ap (λ (x : Progress). x.line) (still cs os);
        outcome_is = λ cs os. r.outcome_is cs os ∙ ap (λ (x : Progress). x.outcome) (still cs os);
        next_called = λ t. clash t (r.unanswered f);
      }

  -- its program leaves line m' and outcome o'
  pub page_programmed : is_passed o ≡ true → (page : List ℕ) → take s.geometry.main page ≡ formed c.kind n (main_of s.geometry l.chip.array n source) → (m' : Line) (o' : Outcome)
      → m' ≡ send_all s m (program_cycles s m (row_of s.geometry block n) (stored_page s.geometry c n (take s.geometry.main page))) → o' ≡ answer_of m' → ComesTo s (page_filled s block c n source) l m' o'
  unfolding page_filled
  page_programmed t page main_is m' o' e q =
      let sent_is = e ∙ ap (λ (x : List ℕ). send_all s m (program_cycles s m (row_of s.geometry block n) (stored_page s.geometry c n x))) main_is in
      let p = program_reaches s m (r.next_lent t) block n bytes m' o' sent_is q in
      let passed : (cs : List Cycle) (os : List ArrayOperation) → progress m Passed (read cs os).cycles (read cs os).started ≡ read cs os = λ cs os. (λ i. progress (r.line_is cs os i) ((sym (is_passed_lem o t) ∙ r.outcome_is cs os) i) (read cs os).cycles (read cs os).started) in
      record {
        line_is = λ cs os. p.line_is _ _ ∙ ap (λ (x : Progress). (program_on s block n bytes x).line) (passed cs os);
        outcome_is = λ cs os. p.outcome_is _ _ ∙ ap (λ (x : Progress). (program_on s block n bytes x).outcome) (passed cs os);
        next_called = p.next_called;
      }
