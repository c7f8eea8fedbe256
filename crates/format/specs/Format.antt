-- Formatting, step after step and blocks rising: every page read, the status, erases, the count of blocks, table fills until one passes, the erase of
-- the old table's block.
use Rattle.std.specs.Prelude.{ℕ, ◌+◌, ◌-◌, max, Bool, cond, List, [], eqb, ltb, replicate}
use Rattle.geometry.specs.declared.Geometry.{Geometry}
use Rattle.chip_array.specs.Device.{Device, Setting}
use Rattle.bus_polling.specs.Outcomes.{is_passed, is_failed}
use Rattle.bus_polling.specs.declared.Outcome.TheVariants.{Passed}
use Rattle.progress.specs.Progress.{Progress, progress, reset_on, status_on}
use Rattle.progress.specs.Steps.{erase_on, resumed}
use Rattle.state_choose.specs.Choose.{count_permitted}
use Rattle.state.specs.State.{blank, none, mounted_with, numbers_left, with_invalid, held_bits}
use Rattle.state.specs.declared.State.{State}
use Rattle.request.specs.Call.{Result, result_with, Performed, result_of, unsent, performed, sized_for, call_line, stop_answer}
use Rattle.fill_tables.specs.Tables.{Tabled, tabled, end_of_run, after_status, tables_filled}
use Rattle.scan.specs.Scan.{blocks_read}
use Rattle.scan_summary.specs.declared.Depth.TheVariants.{Full}
use Rattle.format_scan.specs.Survey.{surveyed, union_to, passed_over}
use Rattle.format_scan.specs.declared.Survey.{Survey}
use Rattle.format_erase.specs.Round.{erased_to}

-- the state before the first table: numbers start one above the greatest on a whole page read, at 1 if none, and the search
-- at block 0; the table is the old one, if its list is carried over, and no logical block has a copy
unfoldable pub first_state : Geometry → List ℕ → List ℕ → ℕ → ℕ → State
first_state g marked invalid greatest old =
    mounted_with greatest old (g.blocks - 1) marked invalid (replicate 4096 none) (replicate 4096 0)

-- under N + 2 blocks are unmarked and valid
unfoldable pub too_few : Geometry → List ℕ → List ℕ → Bool
too_few g marked invalid = ltb (count_permitted marked invalid (replicate 512 0) g.blocks) (g.logical + 2)

-- an operation was silent or cut
abbrev pub stopped : Progress → Tabled
stopped p = tabled p (stop_answer p.outcome) (blank 2)

-- table fills until one passes; the block of the state's table is not filled
abbrev pub tables_from : Setting → State → Progress → Tabled
tables_from s st p = tables_filled s (held_bits st s.geometry.logical) (numbers_left st) st p

-- after the erase of the old table's block: if it failed, another table lists it
unfoldable pub after_late : Setting → ℕ → State → Progress → Tabled
after_late s old st e =
    cond (is_passed e.outcome) (tabled e 0 st)
    (cond (is_failed e.outcome) (tables_from s (with_invalid old st) (resumed e)) (stopped e))

-- once a new table is complete the block of the old one, if its list was carried over, is erased
unfoldable pub late_run : Setting → ℕ → Tabled → Tabled
late_run s old t =
    cond (eqb t.answer 0) (cond (ltb old s.geometry.blocks) (after_late s old t.state (erase_on s old t.progress)) t) t

-- the count of blocks, then table fills, then that erase
unfoldable pub tables_run : Setting → List ℕ → List ℕ → ℕ → ℕ → Progress → Tabled
tables_run s marked invalid greatest old p =
    cond (too_few s.geometry marked invalid) (tabled p 8 (blank 2))
    (late_run s old (tables_from s (first_state s.geometry marked invalid greatest old) p))

-- the first round of erases and what follows it, v being what was found before: invalid are the blocks carried over and those whose erase failed
unfoldable pub round_run : Setting → Survey → Progress → Tabled
round_run s v p =
    let r = erased_to s (passed_over s.geometry v) s.geometry.blocks p in
    cond (is_passed r.progress.outcome)
    (tables_run s v.marked (union_to v.carried r.invalid s.geometry.blocks) (max v.greatest r.numbers.greatest) v.old r.progress)
    (stopped r.progress)

-- the status read and what follows it
unfoldable pub status_run : Setting → State → Survey → Progress → Tabled
status_run s state v p = after_status state (status_on s p) (round_run s v (status_on s p))

-- every page, as a mount reads it, and what follows
unfoldable pub reads_run : Setting → State → Progress → Tabled
reads_run s state p =
    let q = blocks_read Full s s.geometry.blocks p in
    cond (is_passed q.outcome) (status_run s state (surveyed s.geometry q.line.chip.array) q) (stopped q)

-- a reset, and all of that: the cycles sent and the operations, the answer and the next state
abbrev pub format_run : Setting → Device → ℕ → State → Tabled
format_run s d n state = reads_run s state (reset_on s (progress (call_line d n) Passed [] []))

-- the request
unfoldable pub format_request : Setting → Device → ℕ → State → Performed Result
format_request s d n state =
    cond (sized_for s d) (performed (end_of_run n (format_run s d n state)) (format_run s d n state).progress) (unsent (result_with 1 state d 0))

abbrev pub formatting : Setting → Device → ℕ → State → Result
formatting s d n state = result_of (format_request s d n state)
