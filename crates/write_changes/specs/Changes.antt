-- A write of one page and an erase of one logical block: data fills until one passes, then a table fill if any block failed.
use Rattle.std.specs.Prelude.{ℕ, zero, suc, Bool, true, false, cond, List, [], eqb, get_or, Option, Some, None}
use Rattle.geometry.specs.declared.Geometry.{Geometry}
use Rattle.chip_array.specs.Device.{Device, Setting}
use Rattle.bus_polling.specs.Outcomes.{is_passed, is_failed}
use Rattle.bus_polling.specs.declared.Outcome.TheVariants.{Passed}
use Rattle.pages.specs.Layout.{data_kind}
use Rattle.state_choose.specs.Choose.{chosen}
use Rattle.state.specs.State.{blank, none, next_number, numbers_left, taken, with_invalid, with_copy, held_bits, form_of}
use Rattle.state.specs.declared.State.{State}
use Rattle.progress.specs.Progress.{Progress, progress, status_on}
use Rattle.progress.specs.Steps.{resumed}
use Rattle.request.specs.Call.{Result, result_with, Performed, result_of, unsent, performed, sized_for, call_line, stop_answer}
use Rattle.request_refusals.specs.Refusals.{refusal, refusal_of}
use Rattle.fill.specs.Fill.{copy, Source, data_source, filled}
use Rattle.fill_tables.specs.Tables.{Tabled, tabled, end_of_run, after_status, tables_filled}

-- the new copy of a logical block: the block of the old one, none for an erase; the pages given and their bytes
pub record Update : Type 0 where
  pub logical : ℕ
  pub old : ℕ
  pub first : ℕ
  pub count : ℕ
  pub bytes : List ℕ

-- a write gives one page and keeps the others of the present copy
abbrev pub write_update : State → ℕ → ℕ → List ℕ → Update
write_update st logical page bytes =
    record { logical = logical; old = get_or st.map logical 0; first = page; count = 1; bytes = bytes }

-- an erase gives none and has no old copy: every page is FFh
abbrev pub erase_update : ℕ → Update
erase_update logical = record { logical = logical; old = none; first = 0; count = 0; bytes = [] }

-- where the main bytes of its pages come from: the state tells the kind of the old copy
abbrev pub update_source : Geometry → State → Update → ℕ → Source
update_source g st u = data_source g u.old (form_of st u.logical) u.first u.count u.bytes

-- the fill of block b under the next number
abbrev pub copy_filled : Setting → Update → State → ℕ → Progress → Progress
copy_filled s u st b p =
    filled s b (copy data_kind u.logical (next_number st)) (update_source s.geometry st u) p

-- how data fills ended: the answer, the next state, and whether any block failed
pub record Copied : Type 0 where
  pub progress : Progress
  pub answer : ℕ
  pub state : State
  pub failed : Bool

abbrev pub copied : Progress → ℕ → State → Bool → Copied
copied p a st f = record { progress = p; answer = a; state = st; failed = f }

-- an operation that was silent or cut stops the request
abbrev pub stopped_at : Progress → Copied
stopped_at q = copied q (stop_answer q.outcome) (blank 2) false

-- by how the fill ended: it passed; it failed and another is tried; it was silent or cut
unfoldable pub after_try : Update → State → ℕ → Bool → Progress → Copied → Copied
after_try u st b failed q more =
    cond (is_passed q.outcome) (copied q 0 (with_copy data_kind u.logical b (taken st)) failed)
    (cond (is_failed q.outcome) more (stopped_at q))

-- the block chosen, or none is left
unfoldable pub copy_tried : Setting → Update → State → Bool → Progress → (State → Progress → Copied) → Option ℕ → Copied
copy_tried s u st failed p more None = copied p 8 (blank 2) failed
copy_tried s u st failed p more (Some b) =
    let q = copy_filled s u st b p in
    let again = more (with_invalid b (taken st)) (resumed q) in
    after_try u st b failed q again

-- k numbers are left; held has a bit for each block that held something current at the request's start
unfoldable pub copies_filled : Setting → List ℕ → Update → ℕ → Bool → State → Progress → Copied
copies_filled s held u zero failed st p = copied p 9 (blank 2) failed
copies_filled s held u (suc k) failed st p =
    let more = copies_filled s held u k true in
    copy_tried s u st failed p more (chosen st.marked st.invalid held s.geometry.blocks st.last)

-- if any block failed, a table fill follows; then the request is acknowledged
unfoldable pub then_table : Setting → Copied → Tabled
then_table s d =
    cond (eqb d.answer 0)
    (cond d.failed
    (tables_filled s (held_bits d.state s.geometry.logical) (numbers_left d.state) d.state d.progress)
    (tabled d.progress 0 d.state))
    (tabled d.progress d.answer d.state)

abbrev pub change_run : Setting → State → Update → Progress → Tabled
change_run s st u p = then_table s (copies_filled s (held_bits st s.geometry.logical) u (numbers_left st) false st p)

-- a request that is not refused, from the chip handed in; n: the cycles allowed. It first reads the status
abbrev pub change_first : Setting → Device → ℕ → Progress
change_first s d n = status_on s (progress (call_line d n) Passed [] [])

abbrev pub change_call : Setting → Device → ℕ → State → Update → Tabled
change_call s d n st u = after_status st (change_first s d n) (change_run s st u (change_first s d n))

abbrev pub changing : Setting → Device → ℕ → State → Update → Result
changing s d n st u = end_of_run n (change_call s d n st u)

abbrev pub change_request : Setting → Device → ℕ → State → Update → Performed Result
change_request s d n st u = performed (changing s d n st u) (change_call s d n st u).progress

-- the request that writes one page
unfoldable pub write_request : Setting → Device → ℕ → State → ℕ → ℕ → List ℕ → Performed Result
write_request s d n st logical page bytes =
    cond (eqb (refusal_of s d st logical page bytes) 0) (change_request s d n st (write_update st logical page bytes))
    (unsent (result_with (refusal_of s d st logical page bytes) st d 0))

-- the request that erases one logical block: it has no page and no buffer, so 2 tests the logical block and 3 never comes
abbrev pub erase_refusal : Setting → Device → State → ℕ → ℕ
erase_refusal s d st logical = refusal s.geometry (sized_for s d) st logical 0 s.geometry.main

unfoldable pub erase_request : Setting → Device → ℕ → State → ℕ → Performed Result
erase_request s d n st logical =
    cond (eqb (erase_refusal s d st logical) 0) (change_request s d n st (erase_update logical))
    (unsent (result_with (erase_refusal s d st logical) st d 0))

abbrev pub writing : Setting → Device → ℕ → State → ℕ → ℕ → List ℕ → Result
writing s d n st logical page bytes = result_of (write_request s d n st logical page bytes)

abbrev pub erasing_logical : Setting → Device → ℕ → State → ℕ → Result
erasing_logical s d n st logical = result_of (erase_request s d n st logical)
