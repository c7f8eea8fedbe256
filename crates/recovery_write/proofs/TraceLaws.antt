-- The trace of a run that goes on after the operations of other calls: theirs, then its own. Assumes nothing.
use Prim.Native.Nat.{ℕ, zero, suc, ◌-◌}
use mathlib.Core.List.{List, ◌++◌, append_assoc}
use mathlib.Core.Path.{◌≡◌, refl, ap, ◌∙◌}
use borrow.Table.Steps.{cases}
use lib.Dec.{eqb}
use Rattle.geometry.specs.Sizes.{row_of}
use Rattle.chip_array.specs.Device.{Setting}
use Rattle.chip.specs.Chip.{Cycle}
use Rattle.bus.specs.Line.{Line}
use Rattle.bus_polling.specs.Outcomes.{is_passed}
use Rattle.bus_polling.specs.declared.Outcome.{Outcome}
use Rattle.operations.specs.Trace.{ArrayOperation, read_starts, erase_starts, program_starts}
use Rattle.progress.specs.Progress.{Progress, progress, read_on}
use Rattle.progress.specs.Steps.{erase_on, program_on}
use Rattle.fill.specs.Fill.{Copy, Source, given, kept, copy_page, main_of, main_read, page_filled}
use Rattle.fill_cursor.specs.Cursor.{after_due, programs, is_open_now}
use Rattle.fill_cursor.specs.declared.Cursor.{Cursor}
use Rattle.fill_cursor.specs.declared.Running.{Running}
use Rattle.fill_driver.specs.Driver.{Ran, ran_to, copy_of, source_of, performed, gone_on, acted, ran, form_now}

-- the same progress after other operations
abbrev pub after : List ArrayOperation → Progress → Progress
after os p = progress p.line p.outcome p.cycles (os ++ p.started)

abbrev pub ran_after : List ArrayOperation → Ran → Ran
ran_after os t = ran_to (after os t.progress) t.running

as_traced : {l : Line} {o : Outcome} {cs : List Cycle} {xs ys : List ArrayOperation} → xs ≡ ys → progress l o cs xs ≡ progress l o cs ys
as_traced {l} {o} {cs} e = ap (progress l o cs) e

module _ (s : Setting) (os : List ArrayOperation) where
  erase_after : (b : ℕ) (p : Progress) → erase_on s b (after os p) ≡ after os (erase_on s b p)
  unfolding erase_on
  erase_after b p =
      cases (is_passed p.outcome)
      (λ t. rw t (as_traced (append_assoc os p.started (erase_starts s p.line (row_of s.geometry b 0)))))
      (λ t. rw t refl)

  read_after : (row column n : ℕ) (p : Progress) → read_on s row column n (after os p) ≡ after os (read_on s row column n p)
  unfolding read_on
  read_after row column n p =
      cases (is_passed p.outcome)
      (λ t. rw t (as_traced (append_assoc os p.started (read_starts s p.line row column))))
      (λ t. rw t refl)

  program_after : (b i : ℕ) (bytes : List ℕ) (p : Progress) → program_on s b i bytes (after os p) ≡ after os (program_on s b i bytes p)
  unfolding program_on
  program_after b i bytes p =
      cases (is_passed p.outcome)
      (λ t. rw t (as_traced (append_assoc os p.started (program_starts s p.line (row_of s.geometry b i) bytes))))
      (λ t. rw t refl)

  main_after : (i : ℕ) (from : Source) (p : Progress) → main_read s i from (after os p) ≡ after os (main_read s i from p)
  unfolding main_read
  main_after i (given main) p = refl
  main_after i (kept old form) p = read_after (row_of s.geometry old i) 0 s.geometry.main p

  page_after_fact : (b : ℕ) (c : Copy) (i : ℕ) (from : Source) (p : Progress) → page_filled s b c i from (after os p) ≡ after os (page_filled s b c i from p)
  unfolding page_filled
  page_after_fact b c i from p =
      let bytes = copy_page s.geometry c i (main_of s.geometry p.line.chip.array i from) in
      ap (program_on s b i bytes) (main_after i from p) ∙ program_after b i bytes (main_read s i from p)

  performed_after : (c : Cursor) (form : ℕ) (invalid bytes : List ℕ) (p : Progress) → performed s c form invalid bytes (after os p) ≡ after os (performed s c form invalid bytes p)
  unfolding performed
  performed_after c form invalid bytes p =
      cases (eqb c.step 1)
      (λ t. rw t (erase_after c.block p))
      (λ t. rw t (page_after_fact c.block (copy_of c) c.page (source_of s.geometry c form invalid bytes c.page) p))

  acted_after : (bytes : List ℕ) (r : Running) (p : Progress) → acted s bytes r (after os p) ≡ ran_after os (acted s bytes r p)
  unfolding acted
  acted_after bytes r p =
      cases (eqb r.cursor.step 0)
      (λ t. rw t refl)
      (λ t. rw t (ap (λ (q : Progress). ran_to (gone_on q) (after_due s.geometry.pages r q.outcome)) (performed_after r.cursor (form_now r) r.state.invalid bytes p)))

  -- a run of a call, told after the operations of the calls before it
  pub ran_after_fact : (bytes : List ℕ) (n left : ℕ) (r : Running) (p : Progress) → ran s bytes n left r (after os p) ≡ ran_after os (ran s bytes n left r p)
  unfolding ran
  ran_after_fact bytes zero left r p = refl
  ran_after_fact bytes (suc n) left r p =
      let a = acted s bytes r p in
      cases (is_open_now r.cursor left)
      (λ t.
      rw t (ap (λ (x : Ran). ran s bytes n (left - programs r.cursor) x.running x.progress) (acted_after bytes r p)
      ∙ ran_after_fact bytes n (left - programs r.cursor) a.running a.progress))
      (λ t. rw t refl)
