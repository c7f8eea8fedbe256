-- How each operation ends, told without its cycles: the outcome, the array and the history that it leaves, and the cycles it sends.
use Rattle.std.specs.Prelude.{ℕ, ◌+◌, ◌-◌, ◌*◌, ◌≤◌, ◌<◌, Bool, false, cond, List, ◌≡◌, eqb, leb, ltb, length, set, get_or, replicate}
use Rattle.geometry.specs.Limits.{Valid}
use Rattle.geometry.specs.Sizes.{page_size, block_size, chip_size, row_count, row_of}
use Rattle.cells.specs.Cells.{programmed, weakened, raised}
use Rattle.cells.specs.Part.{part, put}
use Rattle.chip_interface.specs.Interface.{fate_word, next_fate, busy_of, failed_for, reset_code, output_phase}
use Rattle.chip_array.specs.Device.{Setting, Device, illegal_cycle}
use Rattle.chip.specs.Chip.{Cycle}
use Rattle.bus.specs.Line.{Line, send_all, status_out, uncut_line, cut_line}
use Rattle.bus_polling.specs.Polling.{outcome_of, answer_of, ended_as}
use Rattle.bus_polling.specs.Outcomes.{is_passed}
use Rattle.bus_sequences.specs.Cycles.{reset_cycles, confirm_cycles, when_ready, when_ready_outcome, read_cycles, read_outcome}
use Rattle.bus_polling.specs.declared.Outcome.{Outcome}
use Rattle.bus_polling.specs.declared.Outcome.TheVariants.{Passed, Failed, Silent, Cut, Illegal, Protected}

-- the chip as the store calls it: all lengths fit, no command under way, nothing refused or cut
pub record Called (s : Setting) (l : Line) : Type 0 where
  pub is_valid : Valid s.geometry
  pub array_long : length l.chip.array ≡ chip_size s.geometry
  pub register_long : length l.chip.register ≡ page_size s.geometry
  pub history_long : length l.chip.history ≡ s.geometry.blocks
  pub mask_long : length s.mask ≡ block_size s.geometry
  pub ready : l.chip.interface.phase ≤ output_phase
  pub legal : l.chip.interface.illegal ≡ 0
  pub uncut : l.cut ≡ 0

-- the same with any interface words: a command may be under way, or the chip busy
pub record Lent (s : Setting) (l : Line) : Type 0 where
  pub is_valid : Valid s.geometry
  pub array_long : length l.chip.array ≡ chip_size s.geometry
  pub register_long : length l.chip.register ≡ page_size s.geometry
  pub history_long : length l.chip.history ≡ s.geometry.blocks
  pub mask_long : length s.mask ≡ block_size s.geometry
  pub legal : l.chip.interface.illegal ≡ 0
  pub uncut : l.cut ≡ 0

-- what is left of a line for whoever does not look at cycles
pub record End : Type 0 where
  pub outcome : Outcome
  pub array : List ℕ
  pub history : List ℕ
  pub left : ℕ
  pub fate : ℕ

unfoldable pub end_of : Line → End
end_of l =
    record {
      outcome = outcome_of l;
      array = l.chip.array;
      history = l.chip.history;
      left = l.left;
      fate = l.chip.interface.fate;
    }

-- the same of a program or an erase, with the answer that bit 7 of its status gives
unfoldable pub answer_end : Line → End
answer_end l =
    record {
      outcome = answer_of l;
      array = l.chip.array;
      history = l.chip.history;
      left = l.left;
      fate = l.chip.interface.fate;
    }

-- a program or an erase with m cycles before its confirm cycle on a chip whose write-protect line is low: three more are sent, nothing changes, and no fate word is taken
unfoldable pub protected_end : Line → ℕ → End
protected_end l m =
    record {
      outcome = cond (ltb l.left (m + 3)) Cut Protected;
      array = l.chip.array;
      history = l.chip.history;
      left = l.left - (m + 3);
      fate = l.chip.interface.fate;
    }

-- status reads of an operation whose fate has k busy ones: one more, and 256 at the most
abbrev pub polls_for : ℕ → ℕ
polls_for k = cond (ltb k 256) (k + 1) 256

-- the fate word of the next operation
abbrev pub word_for : Setting → Device → ℕ
word_for s d = fate_word s.fates d.interface.fate

-- cycles of an operation with m cycles before its confirm cycle, up to the last status read
abbrev pub total_for : Setting → Device → ℕ → ℕ
total_for s d m = m + 2 + polls_for (busy_of (word_for s d))

abbrev pub passes : Setting → Line → ℕ → ℕ → Bool
passes s l op m =
    cond (ltb l.left (total_for s l.chip m)) false
    (cond (ltb (busy_of (word_for s l.chip)) 256) (eqb (failed_for op (word_for s l.chip)) 0) false)

abbrev pub ends_as : Setting → Line → ℕ → ℕ → Outcome
ends_as s l op m =
    cond (ltb l.left (total_for s l.chip m)) Cut
    (cond (ltb (busy_of (word_for s l.chip)) 256)
    (cond (eqb (failed_for op (word_for s l.chip)) 0) Passed Failed)
    Silent)

-- cut before the confirm cycle nothing changes; from then on a₁ and h₁ hold, and a₂ and h₂ if it passes
unfoldable pub confirmed_end : Setting → Line → ℕ → ℕ → List ℕ → List ℕ → List ℕ → List ℕ → End
confirmed_end s l op m a₁ h₁ a₂ h₂ =
    record {
      outcome = ends_as s l op m;
      array = cond (leb l.left m) l.chip.array (cond (passes s l op m) a₂ a₁);
      history = cond (leb l.left m) l.chip.history (cond (passes s l op m) h₂ h₁);
      left = l.left - total_for s l.chip m;
      fate = cond (leb l.left m) l.chip.interface.fate (next_fate s.fates l.chip.interface.fate);
    }

-- the bytes of a row and of a block
abbrev pub row_bytes_of : Setting → ℕ → List ℕ → List ℕ
row_bytes_of s row a = part (row * page_size s.geometry) (page_size s.geometry) a

abbrev pub with_row : Setting → ℕ → List ℕ → List ℕ → List ℕ
with_row s row ys a = put (row * page_size s.geometry) ys a

abbrev pub block_bytes_of : Setting → ℕ → List ℕ → List ℕ
block_bytes_of s block a = part (block * block_size s.geometry) (block_size s.geometry) a

abbrev pub with_block_bytes : Setting → ℕ → List ℕ → List ℕ → List ℕ
with_block_bytes s block ys a = put (block * block_size s.geometry) ys a

-- a program clears each bit that the data has clear; one that does not pass, those of them that the mask has set
unfoldable pub program_end : Setting → Line → ℕ → ℕ → List ℕ → End
program_end s l block page bytes =
    confirmed_end s l 2 (6 + length bytes)
    (with_row s (row_of s.geometry block page)
    (programmed (row_bytes_of s (row_of s.geometry block page) l.chip.array) (weakened bytes s.mask))
    l.chip.array)
    (set l.chip.history block (page + 1))
    (with_row s (row_of s.geometry block page)
    (programmed (row_bytes_of s (row_of s.geometry block page) l.chip.array) bytes)
    l.chip.array)
    (set l.chip.history block (page + 1))

-- an erase sets every bit of the block; one that does not pass, those that the mask has set
unfoldable pub erase_end : Setting → Line → ℕ → End
erase_end s l block =
    confirmed_end s l 3 4
    (with_block_bytes s block (raised (block_bytes_of s block l.chip.array) s.mask) l.chip.array)
    (set l.chip.history block 255)
    (with_block_bytes s block (replicate (block_size s.geometry) 255) l.chip.array)
    (set l.chip.history block 0)

-- a program as the store sends it: a page of the chip above all that were programmed since the block's erase, and a whole page of data
pub record MayProgram (s : Setting) (l : Line) (block page : ℕ) (bytes : List ℕ) : Type 0 where
  pub called : Called s l
  pub block_below : block < s.geometry.blocks
  pub page_below : page < s.geometry.pages
  pub in_order : get_or l.chip.history block 0 ≤ page
  pub bytes_long : length bytes ≡ page_size s.geometry

pub record MayErase (s : Setting) (l : Line) (block : ℕ) : Type 0 where
  pub called : Called s l
  pub block_below : block < s.geometry.blocks

-- the same with the write-protect line high
pub record CanProgram (s : Setting) (l : Line) (block page : ℕ) (bytes : List ℕ) : Type 0 where
  pub may : MayProgram s l block page bytes
  pub high : l.chip.interface.protected ≡ 0

pub record CanErase (s : Setting) (l : Line) (block : ℕ) : Type 0 where
  pub may : MayErase s l block
  pub high : l.chip.interface.protected ≡ 0

-- a read as the store sends it: n bytes of a row from a column on
pub record CanRead (s : Setting) (l : Line) (row column n : ℕ) : Type 0 where
  pub called : Called s l
  pub row_below : row < row_count s.geometry
  pub column_below : column < page_size s.geometry
  pub within : column + n ≤ page_size s.geometry

-- an operation on a chip that is not ready: its first cycle is refused, or cut off where none is left
unfoldable pub unready_line : Line → Line
unready_line l =
    cond (eqb l.left 0) (cut_line l.chip) (uncut_line (illegal_cycle l.chip) (l.left - 1))

unfoldable pub unready_end : Line → End
unready_end l =
    record {
      outcome = cond (eqb l.left 0) Cut Illegal;
      array = l.chip.array;
      history = l.chip.history;
      left = l.left - 1;
      fate = l.chip.interface.fate;
    }

-- an operation with m cycles before the one that starts it, and n cycles after the status read that reports ready
abbrev pub ready_total : Setting → Device → ℕ → ℕ → ℕ
ready_total s d m n = total_for s d m + cond (ltb (busy_of (word_for s d)) 256) n 0

-- one that changes neither the array nor the history, and does not fail
abbrev pub ready_end : Setting → Line → ℕ → ℕ → End
ready_end s l m n =
    record {
      outcome = cond (ltb l.left (ready_total s l.chip m n)) Cut
          (cond (ltb (busy_of (word_for s l.chip)) 256) Passed Silent);
      array = l.chip.array;
      history = l.chip.history;
      left = l.left - ready_total s l.chip m n;
      fate = cond (leb l.left m) l.chip.interface.fate (next_fate s.fates l.chip.interface.fate);
    }

abbrev pub end_of_ready : Setting → Line → List Cycle → List Cycle → End
end_of_ready s l first rest =
    record {
      outcome = when_ready_outcome s l first rest;
      array = (send_all s l (when_ready s l first rest)).chip.array;
      history = (send_all s l (when_ready s l first rest)).chip.history;
      left = (send_all s l (when_ready s l first rest)).left;
      fate = (send_all s l (when_ready s l first rest)).chip.interface.fate;
    }

-- a read of n bytes: its cycles, and how it ends
abbrev pub read_total : Setting → Device → ℕ → ℕ
read_total s d n = ready_total s d 6 (1 + n)

unfoldable pub read_end : Setting → Line → ℕ → End
read_end s l n = ready_end s l 6 (1 + n)

unfoldable pub end_of_read : Setting → Line → ℕ → ℕ → ℕ → End
end_of_read s l row column n =
    record {
      outcome = read_outcome s l row column n;
      array = (send_all s l (read_cycles s l row column n)).chip.array;
      history = (send_all s l (read_cycles s l row column n)).chip.history;
      left = (send_all s l (read_cycles s l row column n)).left;
      fate = (send_all s l (read_cycles s l row column n)).chip.interface.fate;
    }

-- a reset takes three cycles and changes neither the array nor the history
unfoldable pub reset_end : Line → End
reset_end l =
    record {
      outcome = cond (ltb l.left 3) Cut Passed;
      array = l.chip.array;
      history = l.chip.history;
      left = l.left - 3;
      fate = l.chip.interface.fate;
    }

unfoldable pub end_of_reset : Setting → Line → End
end_of_reset s l =
    record {
      outcome = ended_as (send_all s l reset_cycles);
      array = (send_all s l reset_cycles).chip.array;
      history = (send_all s l reset_cycles).chip.history;
      left = (send_all s l reset_cycles).left;
      fate = (send_all s l reset_cycles).chip.interface.fate;
    }

-- how a status read ended: whether the write-protect line is low
unfoldable pub status_end : Line → Outcome
status_end l =
    cond (is_passed (ended_as l)) (cond (eqb l.chip.interface.protected 0) Passed Protected) (ended_as l)

-- the byte of its status read, after FFh and 70h: 0 where it is not sent
unfoldable pub reset_status : Setting → Line → ℕ
reset_status s l = status_out (send_all s l (confirm_cycles reset_code))
