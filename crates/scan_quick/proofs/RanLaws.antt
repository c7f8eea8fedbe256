-- Runs of reads, one after the other. Assumes nothing.
use Prim.Native.Nat.{ℕ}
use mathlib.Core.Bool.{true, false, false≢true}
use mathlib.Core.List.{[]}
use mathlib.Core.Path.{◌≡◌, refl, sym, ap, ◌∙◌}
use native.Mathlib.Nat.{add-zero}
use borrow.Table.Steps.{cases}
use Rattle.geometry.specs.Sizes.{page_size, row_of}
use Rattle.chip_array.specs.Device.{Setting}
use Rattle.bus.specs.Line.{Line}
use Rattle.bus_polling.specs.Outcomes.{is_passed}
use Rattle.bus_polling.specs.declared.Outcome.{Outcome}
use Rattle.progress.specs.Progress.{Progress, progress, read_on}
use Rattle.scan_block.specs.Gathered.{Ran}
use Rattle.scan_block.specs.Pages.{pages_from}
use Rattle.scan_quick.specs.BlockRead.{page_read}

-- a request that has come to line m and outcome o
same_as : (p : Progress) (m : Line) (o : Outcome) → m ≡ p.line → o ≡ p.outcome → progress m o p.cycles p.started ≡ p
same_as p m o e q = λ i. record { line = e i; outcome = q i; cycles = p.cycles; started = p.started }

module _ (s : Setting) where
  pub ran_then : (first second : Progress → Progress) (l m k : Line) (o e f : Outcome) → Ran s first l m o e → Ran s second m k e f → Ran s (λ p. second (first p)) l k o f
  ran_then first second l m k o e f a b =
      record {
        line_is = λ cs os.
            let p = first (progress l o cs os) in
            b.line_is p.cycles p.started ∙ ap (λ (x : Progress). (second x).line) (same_as p m e (a.line_is cs os) (a.outcome_is cs os));
        outcome_is = λ cs os.
            let p = first (progress l o cs os) in
            b.outcome_is p.cycles p.started ∙ ap (λ (x : Progress). (second x).outcome) (same_as p m e (a.line_is cs os) (a.outcome_is cs os));
        same_array = b.same_array ∙ a.same_array;
        same_history = b.same_history ∙ a.same_history;
        next = b.next;
      }

  -- another name for the same run
  pub ran_same : (run other : Progress → Progress) (l m : Line) (o e : Outcome) → ((p : Progress) → p.line ≡ l → run p ≡ other p) → Ran s run l m o e → Ran s other l m o e
  ran_same run other l m o e same r =
      record {
        line_is = λ cs os. r.line_is cs os ∙ ap (λ (x : Progress). x.line) (same (progress l o cs os) refl);
        outcome_is = λ cs os. r.outcome_is cs os ∙ ap (λ (x : Progress). x.outcome) (same (progress l o cs os) refl);
        same_array = r.same_array;
        same_history = r.same_history;
        next = r.next;
      }

  -- a run that reads nothing once a read has not passed: if it passed, all before it did
  pub passed_before : (run : Progress → Progress) → ((p : Progress) → is_passed p.outcome ≡ false → run p ≡ p) → (l m : Line) (o e : Outcome) → Ran s run l m o e → is_passed e ≡ true → is_passed o ≡ true
  passed_before run stops l m o e r t =
      cases (is_passed o)
      (λ y. y)
      (λ f.
      let p = progress l o [] [] in
      let same : e ≡ o = r.outcome_is [] [] ∙ ap (λ (x : Progress). x.outcome) (stops p f) in
      absurd (false≢true (sym f ∙ sym (ap is_passed same) ∙ t)))

  pub one_page : (block first : ℕ) (p : Progress) → pages_from s block first 1 p ≡ page_read s block first p
  unfolding pages_from
  one_page block first p = ap (λ (i : ℕ). read_on s (row_of s.geometry block i) 0 (page_size s.geometry) p) (add-zero first)
