-- Table fills until one passes: each takes the next number, then the next permitted block; a failure makes that block invalid.
use Rattle.std.specs.Prelude.{ℕ, zero, suc, cond, List, eqb, Option, Some, None}
use Rattle.chip_array.specs.Device.{Setting}
use Rattle.bus_polling.specs.Outcomes.{is_passed, is_failed}
use Rattle.bus_polling.specs.declared.Outcome.{Outcome}
use Rattle.state_choose.specs.Choose.{chosen}
use Rattle.state.specs.State.{blank, next_number, taken, with_invalid, with_table}
use Rattle.state.specs.declared.State.{State}
use Rattle.request.specs.Call.{Result, answer_for, state_for, status_answer, status_state, end_at}
use Rattle.progress.specs.Progress.{Progress, progress}
use Rattle.fill.specs.Fill.{table_filled}
use Rattle.progress.specs.Steps.{resumed}

-- one fill tried; worn is 1 where no block was left for it
pub record Tried : Type 0 where
  pub progress : Progress
  pub state : State
  pub worn : ℕ

abbrev pub tried : Progress → State → ℕ → Tried
tried p s w = record { progress = p; state = s; worn = w }

-- the state by how the fill of a block ended
unfoldable pub after_fill : ℕ → Outcome → State → State
after_fill b o s = cond (is_passed o) (with_table b s) (cond (is_failed o) (with_invalid b s) s)

unfoldable pub try_block : Setting → State → Progress → Option ℕ → Tried
try_block s st p None = tried p st 1
try_block s st p (Some b) =
    tried (table_filled s b (next_number st) st.invalid p)
    (after_fill b (table_filled s b (next_number st) st.invalid p).outcome (taken st)) 0

-- held has a bit for each block that holds something current
unfoldable pub try_table : Setting → List ℕ → State → Progress → Tried
try_table s held st p = try_block s st p (chosen st.marked st.invalid held s.geometry.blocks st.last)

-- how table fills ended: 0 with the next state, or 8 worn, 9 spent, 10 silent, 11 cut with a stopped one
pub record Tabled : Type 0 where
  pub progress : Progress
  pub answer : ℕ
  pub state : State

abbrev pub tabled : Progress → ℕ → State → Tabled
tabled p a s = record { progress = p; answer = a; state = s }

-- where it has come to, of n cycles allowed
abbrev pub end_of_run : ℕ → Tabled → Result
end_of_run n t = end_at n t.answer t.state t.progress.line

-- a request that has read the status: what follows if the chip may be written, else 13 with the state as it came; silent or cut, a
-- stopped one
unfoldable pub after_status : State → Progress → Tabled → Tabled
after_status state p rest =
    cond (is_passed p.outcome) rest (tabled p (status_answer p.outcome) (status_state p.outcome state))

-- a fill that passed, or one that was silent or cut
abbrev pub ended_by : Progress → State → Tabled
ended_by p st = tabled p (answer_for p.outcome) (state_for p.outcome st)

-- k numbers are left
unfoldable pub tables_filled : Setting → List ℕ → ℕ → State → Progress → Tabled
tables_filled s held zero st p = tabled p 9 (blank 2)
tables_filled s held (suc k) st p =
    let t = try_table s held st p in
    let more = tables_filled s held k t.state (resumed t.progress) in
    cond (eqb t.worn 0) (cond (is_failed t.progress.outcome) more (ended_by t.progress t.state))
    (tabled t.progress 8 (blank 2))
