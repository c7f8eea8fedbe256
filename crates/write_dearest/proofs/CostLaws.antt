-- The most cycles that an operation and a fill send, whatever chip they meet. Assumes nothing.
use Prim.Native.Nat.{ℕ, zero, suc, ◌+◌, ◌≤◌}
use mathlib.Core.List.{List, [], ◌∷◌, ◌++◌, map}
use native.Mathlib.Omega.{arith}
use borrow.Table.Steps.{cases}
use lib.ListN.{length, replicate, length-append, length-replicate, length-map}
use Rattle.geometry.specs.declared.Geometry.{Geometry}
use Rattle.geometry.specs.Limits.{Valid}
use Rattle.geometry.specs.Sizes.{page_size, row_of}
use Rattle.chip_array.specs.Device.{Device, Setting}
use Rattle.chip.specs.Chip.{Cycle, exec}
use Rattle.chip.specs.Chip.Cycle.{command, data_in, data_out, status}
use Rattle.bus.specs.Line.{Line, admits, send, send_all, sent}
use Rattle.bus.proofs.LineLaws.{sent_counts}
use Rattle.bus_polling.specs.Outcomes.{is_passed}
use Rattle.bus_polling.specs.Polling.{waiting, polls, outcome_of, status_reads}
use Rattle.bus_sequences.specs.Cycles.{address_cycles, started_cycles, page_read, read_address, read_cycles, program_data, program_cycles, erase_address, erase_cycles, status_cycles}
use Rattle.pages.specs.Layout.{label}
use Rattle.pages.proofs.LayoutLaws.{width_most, length-encoded}
use Rattle.copies.specs.Blocks.{block_in, main_in, formed}
use Rattle.copies.proofs.FormLaws.{length-formed}
use Rattle.progress.specs.Progress.{Progress, read_on, status_on}
use Rattle.progress.specs.Steps.{erase_on, program_on}
use Rattle.fill.specs.Fill.{Copy, Source, given, kept, copy_page, main_of, main_read, page_filled, pages_filled, filled}
use Rattle.damage.specs.Run.{Spent, read_most, erase_most, source_most}
use Rattle.write_dearest.specs.Exactly.{sum_to}

module _ (s : Setting) where
  -- of a run no more cycles are sent than it has
  sent_few : (l : Line) (cs : List Cycle) → length (sent s l cs) ≤ length cs
  unfolding sent
  sent_few l [] = omega arith
  sent_few l (c ∷ cs) = cases (admits l) (λ t. rw t (omega (arith, sent_few (send s l c) cs))) (λ f. rw f (omega arith))

  run_spends : (l : Line) (cs : List Cycle) (k : ℕ) → length cs ≤ k → l.left ≤ (send_all s l cs).left + k
  run_spends l cs k h = omega (arith, sent_counts s l cs, sent_few l cs, h)

  polls-most : (n : ℕ) (d : Device) → polls s n d ≤ n
  unfolding polls
  polls-most zero d = omega arith
  polls-most (suc n) d =
      cases (waiting (exec s d status)) (λ t. rw t (omega (arith, polls-most n (exec s d status)))) (λ f. rw f (omega arith))

  -- an operation up to the status read that reports ready
  started_long : (l : Line) (first : List Cycle) (start : Cycle) → length (started_cycles s l first start) ≤ length first + 258
  started_long l first start =
      let d = (send_all s l (first ++ (start ∷ command 112 ∷ []))).chip in
      omega
      (arith, length-append (first ++ (start ∷ command 112 ∷ [])) (status_reads s d), length-append first (start ∷ command 112 ∷ []), length-replicate (polls s 256 d) status, polls-most 256 d)

  read_long : (l : Line) (row column n : ℕ) → length (read_cycles s l row column n) ≤ read_most n
  unfolding read_cycles
  read_long l row column n =
      let first = page_read s l row column in
      let rest = command 0 ∷ replicate n data_out in
      let few : length first ≤ 264 = started_long l (read_address row column) (command 48) in
      cases (is_passed (outcome_of (send_all s l first)))
      (λ t. rw t (omega (arith, few, length-append first rest, length-replicate n data_out)))
      (λ f. rw f (omega (arith, few, length-append first [])))

  program_long : (l : Line) (row : ℕ) (bytes : List ℕ) → length (program_cycles s l row bytes) ≤ 264 + length bytes
  program_long l row bytes =
      omega (arith, started_long l (program_data row bytes) (command 16), length-append (address_cycles 0 row) (map data_in bytes), length-map bytes data_in)

  erase_long : (l : Line) (row : ℕ) → length (erase_cycles s l row) ≤ erase_most
  erase_long l row = started_long l (erase_address row) (command 208)

  -- each as a step of a request; one that is not due sends nothing
  pub status_spends : (p : Progress) → Spent p (status_on s p) 2
  unfolding status_on
  status_spends p =
      cases (is_passed p.outcome) (λ t. rw t (run_spends p.line status_cycles 2 (omega arith))) (λ f. rw f (omega arith))

  read_spends : (row column n : ℕ) (p : Progress) → Spent p (read_on s row column n p) (read_most n)
  unfolding read_on
  read_spends row column n p =
      cases (is_passed p.outcome)
      (λ t. rw t (run_spends p.line (read_cycles s p.line row column n) (read_most n) (read_long p.line row column n)))
      (λ f. rw f (omega arith))

  erase_spends : (block : ℕ) (p : Progress) → Spent p (erase_on s block p) erase_most
  unfolding erase_on
  erase_spends block p =
      let row = row_of s.geometry block 0 in
      cases (is_passed p.outcome) (λ t. rw t (run_spends p.line (erase_cycles s p.line row) erase_most (erase_long p.line row))) (λ f. rw f (omega arith))

  program_spends : (block page : ℕ) (bytes : List ℕ) (p : Progress) → Spent p (program_on s block page bytes p) (264 + length bytes)
  unfolding program_on
  program_spends block page bytes p =
      let row = row_of s.geometry block page in
      cases (is_passed p.outcome)
      (λ t. rw t (run_spends p.line (program_cycles s p.line row bytes) (264 + length bytes) (program_long p.line row bytes)))
      (λ f. rw f (omega arith))

-- a page is no longer than it may be where its main bytes are not
page-most : (g : Geometry) → Valid g → (c : Copy) (n : ℕ) (main : List ℕ) → length main ≤ g.main → length (copy_page g c n main) ≤ page_size g
page-most g v c n main h =
    omega
    (arith, length-formed c.kind n main, length-encoded g.spare (label c.kind c.logical n c.number) (formed c.kind n main) (omega (arith, width_most c.kind, v.spare_least)), h)

-- a fill whose pages have no more main bytes than they may
module _ (s : Setting) (v : Valid s.geometry) (block : ℕ) (c : Copy) (source : ℕ → Source) (short : (array : List ℕ) (i : ℕ) → length (main_of s.geometry array i (source i)) ≤ s.geometry.main) where
  abbrev cost : ℕ → ℕ
  cost i = source_most s.geometry (source i)

  page_spends : (n : ℕ) (from : Source) (p : Progress) → length (main_of s.geometry p.line.chip.array n from) ≤ s.geometry.main
      → Spent p (page_filled s block c n from p) (source_most s.geometry from)
  unfolding page_filled main_of main_read source_most
  page_spends n (given main) p h =
      omega (arith, program_spends s block n (copy_page s.geometry c n main) p, page-most s.geometry v c n main h)
  page_spends n (kept old form) p h =
      let main = formed form n (main_in s.geometry (block_in s.geometry p.line.chip.array old) n) in
      let fetched = read_on s (row_of s.geometry old n) 0 s.geometry.main p in
      omega
      (arith, read_spends s (row_of s.geometry old n) 0 s.geometry.main p, program_spends s block n (copy_page s.geometry c n main) fetched, page-most s.geometry v c n main h)

  pages_spend : (n : ℕ) (p : Progress) → Spent p (pages_filled s block c source n p) (sum_to cost n)
  unfolding pages_filled sum_to
  pages_spend zero p = omega arith
  pages_spend (suc n) p =
      let q = pages_filled s block c source n p in
      omega (arith, pages_spend n p, page_spends n (source n) q (short q.line.chip.array n))

  pub fill_spends : (p : Progress) → Spent p (filled s block c source p) (erase_most + sum_to cost s.geometry.pages)
  fill_spends p = omega (arith, erase_spends s block p, pages_spend s.geometry.pages (erase_on s block p))
