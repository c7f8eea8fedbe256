-- Mounting, full or quick: a reset, a scan of the chip, and what the definitions on the array make of it.
use Rattle.std.specs.Prelude.{ℕ, cond, List, [], eqb}
use Rattle.geometry.specs.declared.Geometry.{Geometry}
use Rattle.chip_array.specs.Device.{Device, Setting}
use Rattle.bus.specs.Line.{Line}
use Rattle.bus_polling.specs.Outcomes.{is_passed}
use Rattle.bus_polling.specs.declared.Outcome.TheVariants.{Passed}
use Rattle.copies.specs.Current.{current_table, filled_last, greatest_below, mount_answer}
use Rattle.copies.specs.Pick.{Pick, nothing, at}
use Rattle.copies.specs.Quick.{quick_below, quick_last}
use Rattle.state.specs.State.{blank, mounted_with}
use Rattle.state.specs.declared.State.{State}
use Rattle.scan_summary.specs.declared.Depth.{Depth}
use Rattle.scan_summary.specs.declared.Depth.TheVariants.{Full, Quick}
use Rattle.scan_found.specs.Contents.{map_in, kinds_of}
use Rattle.scan_found.specs.Found.{bits_at, marks_to}
use Rattle.progress.specs.Progress.{Progress, progress, reset_on}
use Rattle.scan.specs.Scan.{blocks_read}
use Rattle.request.specs.Call.{Result, result_with, Performed, result_of, unsent, performed, sized_for, call_line, stop_answer, end_at}

-- the block picked, 0 for none
unfoldable pub block_of : Pick → ℕ
block_of nothing = 0
block_of (at b) = b

-- the state with the current copies and their kinds, the table, the marks and the list, this greatest number and this block filled last
abbrev pub state_with : Geometry → List ℕ → ℕ → Pick → State
state_with g array greatest last =
    mounted_with greatest (block_of (current_table g array)) (block_of last) (marks_to g array g.blocks) (bits_at g array (block_of (current_table g array)))
    (map_in g array (block_of (current_table g array))) (kinds_of g array (block_of (current_table g array)))

-- the state that a mount answered 0 gives
unfoldable pub mounted_state : Geometry → List ℕ → State
mounted_state g array = state_with g array (greatest_below g array g.blocks) (filled_last g array)

-- and a quick one: the mount's rule over the pages that it reads
unfoldable pub quick_state : Geometry → List ℕ → State
quick_state g array = state_with g array (quick_below g array g.blocks) (quick_last g array)

unfoldable pub state_by : Depth → Geometry → List ℕ → State
state_by Full g array = mounted_state g array
state_by Quick g array = quick_state g array

-- by the answer: not mounted, and 0 in all other fields, for 4 to 6
unfoldable pub state_after : Depth → Geometry → List ℕ → ℕ → State
state_after depth g array answer = cond (eqb answer 0) (state_by depth g array) (blank 0)

-- a reset, and every block
abbrev pub mount_run : Depth → Setting → Line → Progress
mount_run depth s l = blocks_read depth s s.geometry.blocks (reset_on s (progress l Passed [] []))

-- where it has come to: the definitions on the array decide, or the operation that did not pass
unfoldable pub mount_end : Depth → Setting → ℕ → Progress → Result
mount_end depth s n p =
    cond (is_passed p.outcome)
    (end_at n (mount_answer s.geometry p.line.chip.array) (state_after depth s.geometry p.line.chip.array (mount_answer s.geometry p.line.chip.array)) p.line)
    (end_at n (stop_answer p.outcome) (blank 2) p.line)

-- the request: answer 1 where the sizes do not go together, with no cycle and nothing changed
unfoldable pub mount_request : Depth → Setting → Device → ℕ → State → Performed Result
mount_request depth s d n state =
    cond (sized_for s d) (performed (mount_end depth s n (mount_run depth s (call_line d n))) (mount_run depth s (call_line d n)))
    (unsent (result_with 1 state d 0))

abbrev pub mounting : Depth → Setting → Device → ℕ → State → Result
mounting depth s d n state = result_of (mount_request depth s d n state)
