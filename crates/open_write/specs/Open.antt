-- The state with the write that is open on it: the words kept of it beside the base state, and its page.
use Rattle.std.specs.Prelude.{ℕ, ◌-◌, Bool, true, false, cond, List, ◌++◌, eqb, ltb, length, get_or, replicate}
use Rattle.geometry.specs.declared.Geometry.{Geometry}
use Rattle.state.specs.State.{mounted}
use Rattle.state.specs.declared.State.{State}
use Rattle.fill_cursor.specs.Cursor.{first_cursor}
use Rattle.fill_cursor.specs.declared.Cursor.{Cursor}
use Rattle.open_write.specs.declared.OpenWrite.{OpenWrite}

-- the base state, the open write, and the bytes kept of its page
pub record OpenState : Type 0 where
  pub state : State
  pub write : OpenWrite
  pub page : List ℕ

abbrev pub open_state : State → OpenWrite → List ℕ → OpenState
open_state st w page = record { state = st; write = w; page = page }

-- another base state beside the same write
abbrev pub with_state : State → OpenState → OpenState
with_state st x = open_state st x.write x.page

-- bytes kept for the page: the most main bytes of any geometry
abbrev pub kept_bytes : ℕ
kept_bytes = 4096

abbrev pub is_opened : OpenState → Bool
is_opened x = cond (eqb x.write.opened 0) false true

-- where the write stands, for every value of its words: a phase other than 0 fills a table, a step other than 0 has a page due,
-- and a write gives one page
abbrev pub cursor_of : OpenWrite → Cursor
cursor_of w =
    record { phase = cond (eqb w.phase 0) 0 1; step = cond (eqb w.step 0) 0 2; logical = w.logical; first = w.first; count = 1; old = w.old; block = w.block; number = w.number; page = w.page; failed = w.failed; answer = 0 }

-- the words kept of a write that stands so
abbrev pub words_of : Cursor → OpenWrite
words_of c =
    record { opened = 1; phase = c.phase; step = c.step; logical = c.logical; first = c.first; old = c.old; block = c.block; number = c.number; page = c.page; failed = c.failed }

-- none is open: 0 in all words
abbrev pub no_write : OpenWrite
no_write =
    record { opened = 0; phase = 0; step = 0; logical = 0; first = 0; old = 0; block = 0; number = 0; page = 0; failed = 0 }

-- no write is open any more: its words and its page are 0
abbrev pub closed : State → OpenState → OpenState
closed st x = open_state st no_write (replicate (length x.page) 0)

-- bytes at the front of a buffer, the rest of it 0
abbrev pub kept_page : List ℕ → List ℕ → List ℕ
kept_page bytes page = bytes ++ replicate (length page - length bytes) 0

-- a write of a page of a logical block is open, its bytes kept
abbrev pub opened_with : ℕ → ℕ → List ℕ → OpenState → OpenState
opened_with logical page bytes x =
    open_state x.state (words_of (first_cursor 0 logical page 1 (get_or x.state.map logical 0))) (kept_page bytes x.page)

-- the logical block, its page, the block being filled and its page are in the geometry
unfoldable pub words_fit : Geometry → OpenWrite → Bool
words_fit g w =
    cond (ltb w.logical g.logical)
    (cond (ltb w.first g.pages) (cond (ltb w.block g.blocks) (ltb w.page g.pages) false) false) false

-- and the page is kept in a buffer as long as it has to be
unfoldable pub open_fits : Geometry → OpenState → Bool
open_fits g x =
    cond (eqb (length x.page) kept_bytes) (cond (eqb x.write.opened 0) true (words_fit g x.write)) false

-- a state whose open write lies outside the geometry counts as not mounted
abbrev pub mounted_open : Geometry → OpenState → Bool
mounted_open g x = cond (mounted x.state g.blocks g.logical) (open_fits g x) false
