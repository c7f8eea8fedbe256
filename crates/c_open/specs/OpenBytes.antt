-- The state with its open write as bytes, and the state that such bytes are.
use Rattle.std.specs.Prelude.{ℕ, ◌<◌, ◌^◌, Bool, cond, List, ◌++◌, length, take, replicate}
use Rattle.cells.specs.Part.{part}
use Rattle.pages.specs.Layout.{bytes_of, number_of}
use Rattle.c_state.specs.StateBytes.{state_length, state_bytes, bytes_state}
use Rattle.state.specs.declared.State.{State}
use Rattle.open_write.specs.declared.OpenWrite.{OpenWrite}
use Rattle.open_write.specs.Open.{OpenState, open_state, no_write}

-- 17,520 bytes: the base state without its kinds, ten words of eight bytes, the page kept, and the kinds
abbrev pub open_length : ℕ
open_length = 17520

unfoldable pub write_bytes : OpenWrite → List ℕ
write_bytes w =
    bytes_of 8 w.opened
    ++ (bytes_of 8 w.phase
    ++ (bytes_of 8 w.step
    ++ (bytes_of 8 w.logical
    ++ (bytes_of 8 w.first
    ++ (bytes_of 8 w.old
    ++ (bytes_of 8 w.block
    ++ (bytes_of 8 w.number
    ++ (bytes_of 8 w.page
    ++ bytes_of 8 w.failed))))))))

unfoldable pub open_bytes : OpenState → List ℕ
open_bytes x = state_bytes x.state ++ (write_bytes x.write ++ (x.page ++ x.state.kinds))

-- the words, from where the base state ends
unfoldable pub bytes_write : List ℕ → OpenWrite
bytes_write xs =
    record {
      opened = number_of (part 9248 8 xs);
      phase = number_of (part 9256 8 xs);
      step = number_of (part 9264 8 xs);
      logical = number_of (part 9272 8 xs);
      first = number_of (part 9280 8 xs);
      old = number_of (part 9288 8 xs);
      block = number_of (part 9296 8 xs);
      number = number_of (part 9304 8 xs);
      page = number_of (part 9312 8 xs);
      failed = number_of (part 9320 8 xs);
    }

abbrev pub bytes_page : List ℕ → List ℕ
bytes_page xs = part 9328 4096 xs

-- the base state, whose kinds stand last
abbrev pub bytes_base : List ℕ → State
bytes_base xs = bytes_state (take state_length xs) (part 13424 4096 xs)

abbrev pub bytes_open : List ℕ → OpenState
bytes_open xs = open_state (bytes_base xs) (bytes_write xs) (bytes_page xs)

-- a base state beside a write that stays, or that is given up
abbrev pub left_open : Bool → State → OpenWrite → List ℕ → OpenState
left_open gone st w page = cond gone (open_state st no_write (replicate (length page) 0)) (open_state st w page)

-- each word is in the range of its type
pub record WordsRanged (w : OpenWrite) : Type 0 where
  pub opened_fits : w.opened < 2 ^ 64
  pub phase_fits : w.phase < 2 ^ 64
  pub step_fits : w.step < 2 ^ 64
  pub logical_fits : w.logical < 2 ^ 64
  pub first_fits : w.first < 2 ^ 64
  pub old_fits : w.old < 2 ^ 64
  pub block_fits : w.block < 2 ^ 64
  pub number_fits : w.number < 2 ^ 64
  pub page_fits : w.page < 2 ^ 64
  pub failed_fits : w.failed < 2 ^ 64
