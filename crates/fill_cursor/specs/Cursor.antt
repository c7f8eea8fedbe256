-- A write or erase on its way: what is due, and what is due after it.
use Rattle.std.specs.Prelude.{ℕ, ◌+◌, ◌*◌, ◌≤◌, ◌<◌, Bool, false, cond, ◌≡◌, eqb, ltb, Option, Some, None}
use Rattle.geometry.specs.declared.Geometry.{Geometry}
use Rattle.bus_polling.specs.Outcomes.{is_passed, is_failed}
use Rattle.bus_polling.specs.declared.Outcome.{Outcome}
use Rattle.state_choose.specs.Choose.{chosen}
use Rattle.pages.specs.Layout.{data_kind}
use Rattle.state.specs.State.{blank, next_number, numbers_left, spent, taken, with_invalid, with_copy, with_table, held_bits}
use Rattle.state.specs.declared.State.{State}
use Rattle.request.specs.Call.{stop_answer}
use Rattle.fill_cursor.specs.declared.Cursor.{Cursor}
use Rattle.fill_cursor.specs.declared.Running.{Running}

abbrev pub running : Cursor → State → Running
running c s = record { cursor = c; state = s }

-- the same request elsewhere: phase, step, block, number, page, and whether a block failed
abbrev pub moved : ℕ → ℕ → ℕ → ℕ → ℕ → ℕ → Cursor → Cursor
moved phase step block number page failed c =
    record { phase = phase; step = step; logical = c.logical; first = c.first; count = c.count; old = c.old; block = block; number = number; page = page; failed = failed; answer = c.answer }

-- a request that starts in a phase: its logical block, the first page given, how many, and the block of the old copy
abbrev pub first_cursor : ℕ → ℕ → ℕ → ℕ → ℕ → Cursor
first_cursor phase logical first count old =
    record { phase = phase; step = 0; logical = logical; first = first; count = count; old = old; block = 0; number = 0; page = 0; failed = 0; answer = 0 }

-- one that has ended is 0 in all other fields
abbrev pub ended : ℕ → Cursor
ended a =
    record { phase = 2; step = 0; logical = 0; first = 0; count = 0; old = 0; block = 0; number = 0; page = 0; failed = 0; answer = a }

-- a number and a block were taken: the erase is due
abbrev pub filling : ℕ → ℕ → Cursor → Cursor
filling b n c = moved c.phase 1 b n 0 c.failed c

-- a page is due
abbrev pub on_page : ℕ → Cursor → Cursor
on_page n c = moved c.phase 2 c.block c.number n c.failed c

-- a block failed: another fill is due
abbrev pub replaced : Cursor → Cursor
replaced c = moved c.phase 0 0 0 0 1 c

-- the table is due
abbrev pub in_table : Cursor → Cursor
in_table c = moved 1 0 0 0 0 c.failed c

-- the request has stopped with an answer
abbrev pub stopped : ℕ → Running
stopped a = running (ended a) (blank 2)

unfoldable pub on_block : Cursor → State → Option ℕ → Running
on_block c st None = stopped 8
on_block c st (Some b) = running (filling b (next_number st) c) (taken st)

-- the blocks held are known at the request's start and change with a passed fill only
abbrev pub choice_of : Geometry → State → Option ℕ
choice_of g st = chosen st.marked st.invalid (held_bits st g.logical) g.blocks st.last

-- a fill takes the next number, then the next permitted block
unfoldable pub prepared : Geometry → Cursor → State → Running
prepared g c st = cond (spent st) (stopped 9) (on_block c st (choice_of g st))

-- the page that is due after an erase or a page that passed
unfoldable pub page_after : Cursor → ℕ
page_after c = cond (eqb c.step 1) 0 (c.page + 1)

-- the last page of a fill passed: a table follows a copy if any block failed; then the request is acknowledged
unfoldable pub filled_whole : Cursor → Cursor
filled_whole c = cond (eqb c.phase 0) (cond (eqb c.failed 0) (ended 0) (in_table c)) (ended 0)

-- an operation did not pass: another fill is due if it failed; the request stops if it was silent or cut
unfoldable pub unfilled : Cursor → Outcome → Cursor
unfilled c o = cond (is_failed o) (replaced c) (ended (stop_answer o))

-- what is due after the erase or page that was due ended so
unfoldable pub after_action : ℕ → Cursor → Outcome → Cursor
after_action pages c o =
    cond (is_passed o) (cond (ltb (page_after c) pages) (on_page (page_after c) c) (filled_whole c)) (unfilled c o)

-- the state after an operation on a block that did not pass, and after a fill
unfoldable pub withdrawn : ℕ → State → Outcome → State
withdrawn b st o = cond (is_failed o) (with_invalid b st) (blank 2)

unfoldable pub settled : Cursor → State → Outcome → State
settled c st o =
    cond (is_passed o)
    (cond (eqb c.phase 0) (with_copy data_kind c.logical c.block st) (with_table c.block st))
    (withdrawn c.block st o)

-- within a fill the state stays as it is
abbrev pub state_after : Cursor → Cursor → State → Outcome → State
state_after next c st o = cond (eqb next.step 2) st (settled c st o)

abbrev pub after_due : ℕ → Running → Outcome → Running
after_due pages r o =
    let next = after_action pages r.cursor o in
    running next (state_after next r.cursor r.state o)

-- page programs of what is due
unfoldable pub programs : Cursor → ℕ
programs c = cond (eqb c.step 2) 1 0

-- something is due, with so many page programs left
unfoldable pub is_open_now : Cursor → ℕ → Bool
is_open_now c left = cond (eqb left 0) false (ltb c.phase 2)

-- a cursor that goes on, on a chip, with so many bytes given
pub record Fits (g : Geometry) (long : ℕ) (c : Cursor) : Type 0 where
  pub step_most : c.step ≤ 2
  pub logical_below : c.logical < g.logical
  pub bytes_long : long ≡ c.count * g.main
  pub page_below : c.page < g.pages
  pub block_below : 0 < c.step → c.block < g.blocks

-- the most actions that can follow, with so many page programs left: each fill takes a number, and within a fill each
-- action is an erase or takes one of the page programs
unfoldable pub weight : Cursor → ℕ
weight c = cond (eqb c.step 0) 1 (cond (eqb c.step 1) 3 2)

unfoldable pub actions_most : ℕ → Running → ℕ
actions_most left r =
    cond (ltb r.cursor.phase 2) (weight r.cursor + 4 * (left + numbers_left r.state)) 0
