-- How many page programs an advance sends, on any chip and from any state, and that nothing is sent after the last. Assumes nothing.
use Prim.Native.Nat.{ℕ, ◌+◌, ◌-◌, ◌≤◌}
use mathlib.Core.Bool.{Bool, true, false, cond}
use mathlib.Core.List.{List, [], ◌∷◌, ◌++◌, append_assoc}
use mathlib.Core.Path.{◌≡◌, refl, sym, ap, ◌∙◌}
use native.Mathlib.Omega.{arith}
use borrow.Table.Steps.{cases}
use borrow.Author.Tests.{eqb-true, eqb-false}
use lib.Dec.{eqb}
use Rattle.geometry.specs.Sizes.{row_of}
use Rattle.chip_array.specs.Device.{Setting}
use Rattle.chip.specs.Chip.{Cycle}
use Rattle.chip.specs.Chip.Cycle.{command}
use Rattle.bus.specs.Line.{Line, send_all, goes_on}
use Rattle.bus_polling.specs.Outcomes.{is_passed}
use Rattle.bus_polling.specs.Polling.{status_reads, answer_of}
use Rattle.bus_sequences.specs.Cycles.{read_address, erase_address, program_data, program_cycles}
use Rattle.operations.specs.Trace.{ArrayOperation, started_by, program_starts, program_sends}
use Rattle.progress.specs.Progress.{Progress, read_on}
use Rattle.progress.specs.Steps.{erase_on, program_on}
use Rattle.progress.proofs.StepLaws.{program_stopped}
use Rattle.fill.specs.Fill.{Source, given, kept, copy_page, main_of, main_read, page_filled}
use Rattle.fill_cursor.specs.Cursor.{programs}
use Rattle.fill_cursor.specs.declared.Cursor.{Cursor}
use Rattle.fill_driver.specs.Driver.{copy_of, source_of, performed}
use Rattle.bools.proofs.BoolLaws.{clash}
use Rattle.fill_portions.specs.Programs.{programs_in, ProgramLast}
use Rattle.fill_portions.proofs.AnyReadLaws.{told, goes_before, answer_goes, read_unfailed}

count-append : (xs ys : List ArrayOperation) → programs_in (xs ++ ys) ≡ programs_in xs + programs_in ys
unfolding programs_in
count-append [] ys = omega arith
count-append (x ∷ xs) ys = omega (arith, count-append xs ys)

-- an operation of another kind is none
other_kind : (s : Setting) (l : Line) (first : List Cycle) (code kind row : ℕ) (bytes : List ℕ) → eqb kind 2 ≡ false → programs_in (started_by s l first code kind row bytes) ≡ 0
unfolding started_by programs_in
other_kind s l first code kind row bytes f =
    cases (goes_on (send_all s l (first ++ (command code ∷ [])))) (λ t. rw t (ap (λ (b : Bool). cond b 1 0 + 0) f)) (λ t. rw t)

-- a program is at most one, and one if it was answered
program_few : (s : Setting) (l : Line) (row : ℕ) (bytes : List ℕ) → programs_in (program_starts s l row bytes) ≤ 1
unfolding started_by programs_in
program_few s l row bytes = cases (goes_on (send_all s l (program_data row bytes ++ (command 16 ∷ [])))) (λ t. rw t (omega arith)) (λ t. rw t (omega arith))

program_one : (s : Setting) (l : Line) (row : ℕ) (bytes : List ℕ) → told (answer_of (send_all s l (program_cycles s l row bytes))) ≡ true → programs_in (program_starts s l row bytes) ≡ 1
unfolding started_by programs_in
program_one s l row bytes t =
    let first = program_data row bytes in
    let steps = first ++ (command 16 ∷ command 112 ∷ []) in
    let all = goes_before s l steps (status_reads s (send_all s l steps).chip) (answer_goes (send_all s l (program_cycles s l row bytes)) t) in
    let split : (first ++ (command 16 ∷ [])) ++ (command 112 ∷ []) ≡ steps = append_assoc first (command 16 ∷ []) (command 112 ∷ []) in
    let goes = goes_before s l (first ++ (command 16 ∷ [])) (command 112 ∷ []) (ap (λ (cs : List Cycle). goes_on (send_all s l cs)) split ∙ all) in
    rw goes

-- in a request on its way
abbrev count : Progress → ℕ
count p = programs_in p.started

added_none : (before more : List ArrayOperation) → programs_in more ≡ 0 → programs_in (before ++ more) ≡ programs_in before
added_none before more e = omega (arith, count-append before more, e)

erase_none : (s : Setting) (block : ℕ) (p : Progress) → count (erase_on s block p) ≡ count p
unfolding erase_on
erase_none s block p =
    cases (is_passed p.outcome)
    (λ t. rw t (added_none p.started _ (other_kind s p.line (erase_address (row_of s.geometry block 0)) 208 3 (row_of s.geometry block 0) [] refl)))
    (λ t. rw t)

read_none : (s : Setting) (row column n : ℕ) (p : Progress) → count (read_on s row column n p) ≡ count p
unfolding read_on
read_none s row column n p =
    cases (is_passed p.outcome) (λ t. rw t (added_none p.started _ (other_kind s p.line (read_address row column) 48 1 row [] refl))) (λ t. rw t)

main_none : (s : Setting) (n : ℕ) (source : Source) (p : Progress) → count (main_read s n source p) ≡ count p
unfolding main_read
main_none s n (given main) p = refl
main_none s n (kept old form) p = read_none s (row_of s.geometry old n) 0 s.geometry.main p

-- a kept read that did not pass has not failed
main_untold : (s : Setting) (n : ℕ) (source : Source) (p : Progress) → is_passed p.outcome ≡ true → is_passed (main_read s n source p).outcome ≡ false → told (main_read s n source p).outcome ≡ false
unfolding main_read read_on
main_untold s n (given main) p t f = clash t f
main_untold s n (kept old form) p t f = rw f (rw t (read_unfailed s p.line (row_of s.geometry old n) 0 s.geometry.main))

program_adds : (s : Setting) (block page : ℕ) (bytes : List ℕ) (p : Progress) → count (program_on s block page bytes p) ≤ count p + 1
unfolding program_on
program_adds s block page bytes p =
    let row = row_of s.geometry block page in
    let more = program_starts s p.line row bytes in
    cases (is_passed p.outcome)
    (λ t. rw t (omega (arith, count-append p.started more, program_few s p.line row bytes)))
    (λ t. rw t (omega arith))

-- what is due: at most the page programs of the cursor, and just these if it passed or failed
module _ (s : Setting) (c : Cursor) (form : ℕ) (invalid bytes : List ℕ) (p : Progress) where
  abbrev source : Source
  source = source_of s.geometry c form invalid bytes c.page

  abbrev main : Progress
  main = main_read s c.page source p

  abbrev page : List ℕ
  page = copy_page s.geometry (copy_of c) c.page (main_of s.geometry p.line.chip.array c.page source)

  abbrev due : Progress
  due = performed s c form invalid bytes p

  erase_is : c.step ≡ 1 → due ≡ erase_on s c.block p
  unfolding performed
  erase_is e = rw e

  page_is : c.step ≡ 2 → due ≡ program_on s c.block c.page page main
  unfolding performed page_filled
  page_is e = rw e

  pub performed_few : c.step ≤ 2 → (c.step ≡ 0 → ⊥) → count due ≤ count p + programs c
  unfolding programs
  performed_few most some =
      cases (eqb c.step 2)
      (λ t. rw t (omega (arith, ap count (page_is (eqb-true c.step 2 t)), program_adds s c.block c.page page main, main_none s c.page source p)))
      (λ t.
      let one : c.step ≡ 1 = omega (arith, most, some, eqb-false c.step 2 t) in
      rw t (omega (arith, ap count (erase_is one), erase_none s c.block p)))

  module _ (passed : is_passed p.outcome ≡ true) (known : told due.outcome ≡ true) where
    module _ (two : c.step ≡ 2) where
      abbrev row : ℕ
      row = row_of s.geometry c.block c.page

      main_passed : is_passed main.outcome ≡ true
      main_passed =
          cases (is_passed main.outcome)
          (λ t. t)
          (λ t.
          let stop = page_is two ∙ program_stopped s c.block c.page page main t in
          clash known (ap (λ (x : Progress). told x.outcome) stop ∙ main_untold s c.page source p passed t))

      on_is : (program_on s c.block c.page page main).outcome ≡ answer_of (send_all s main.line (program_cycles s main.line row page))
      unfolding program_on
      on_is = rw main_passed

      one_started : programs_in (program_starts s main.line row page) ≡ 1
      one_started = program_one s main.line row page (sym (ap told (ap (λ (x : Progress). x.outcome) (page_is two) ∙ on_is)) ∙ known)

      started_is : due.started ≡ main.started ++ program_starts s main.line row page
      unfolding program_on
      started_is = ap (λ (x : Progress). x.started) (page_is two) ∙ rw main_passed

      cycles_is : due.cycles ≡ main.cycles ++ program_sends s main.line row page
      unfolding program_on
      cycles_is = ap (λ (x : Progress). x.cycles) (page_is two) ∙ rw main_passed

      pub performed_last : ProgramLast s due.cycles due.started
      performed_last =
          record {
            before = main.cycles;
            done = main.started;
            line = main.line;
            block = c.block;
            page = c.page;
            bytes = page;
            cycles_are = cycles_is;
            started_are = started_is;
            one = one_started;
          }

    pub performed_one : c.step ≤ 2 → (c.step ≡ 0 → ⊥) → count due ≡ count p + programs c
    unfolding programs
    performed_one most some =
        cases (eqb c.step 2)
        (λ t.
        let two = eqb-true c.step 2 t in
        rw t (omega (arith, ap programs_in (started_is two), count-append main.started (program_starts s main.line (row two) page), one_started two, main_none s c.page source p)))
        (λ t.
        let one : c.step ≡ 1 = omega (arith, most, some, eqb-false c.step 2 t) in
        rw t (omega (arith, ap count (erase_is one), erase_none s c.block p)))
