-- What makes a list of fate words and a number of cycles those of the dearest write.
use Rattle.std.specs.Prelude.{ℕ, ◌+◌, ◌-◌, ◌≤◌, ◌<◌, cond, List, ◌≡◌, eqb, get_or}
use Rattle.geometry.specs.declared.Geometry.{Geometry}
use Rattle.cells.specs.Bytes.{Bytes}
use Rattle.chip_array.specs.Device.{Device, Setting, setting}
use Rattle.state.specs.State.{numbers_left, free_blocks}
use Rattle.state.specs.declared.State.{State}
use Rattle.request.specs.Call.{started_in}
use Rattle.request_refusals.specs.Refusals.{refusal_of}
use Rattle.write_changes.specs.Changes.{write_request, writing}
use Rattle.damage.specs.Run.{failed_count}
use Rattle.dearest.specs.Dearest.{dearest_fates, dearest_cycles}
use Rattle.write_laws.specs.Changing.{InRange}

-- the failed fills of a write: each of them has made a block of its own invalid
abbrev pub failed_fills : Setting → Device → ℕ → State → ℕ → ℕ → List ℕ → ℕ
failed_fills s d n st logical page bytes =
    failed_count (started_in (write_request s d n st logical page bytes)) s.geometry.blocks

-- the numbers that a write takes: one for each data fill, and one for the table fill if any failed
abbrev pub numbers_for : ℕ → ℕ
numbers_for failed = failed + 1 + cond (eqb failed 0) 0 1

-- a write over an old copy that is not refused, on a ready chip whose write-protect line is high: n cycles are allowed, and of the permitted
-- blocks and of the numbers there are enough for so many failed fills
pub record Bears (s : Setting) (failed cycles : ℕ) (d : Device) (n : ℕ) (st : State) (logical page : ℕ) (bytes : List ℕ) : Type 0 where
  pub in_range : InRange s d st
  pub are_bytes : Bytes bytes
  pub is_ready : d.interface.phase ≤ 2
  pub line_high : d.interface.protected ≡ 0
  pub accepted : refusal_of s d st logical page bytes ≡ 0
  pub over_old : get_or st.map logical 0 < s.geometry.blocks
  pub blocks_left : failed < free_blocks st s.geometry.blocks s.geometry.logical
  pub numbers_left_fact : numbers_for failed ≤ numbers_left st
  pub allowed : cycles ≤ n

-- it is acknowledged, with so many failed fills and so many cycles
pub record Sends (s : Setting) (failed cycles : ℕ) (d : Device) (n : ℕ) (st : State) (logical page : ℕ) (bytes : List ℕ) : Type 0 where
  pub done : (writing s d n st logical page bytes).answer ≡ 0
  pub fills_failed : failed_fills s d n st logical page bytes ≡ failed
  pub cycles_sent : (writing s d n st logical page bytes).sent ≡ cycles

-- some write bears so many
pub record Borne (g : Geometry) (fates : List ℕ) (failed cycles : ℕ) : Type 0 where
  pub mask : List ℕ
  pub chip : Device
  pub allowance : ℕ
  pub state : State
  pub logical : ℕ
  pub page : ℕ
  pub bytes : List ℕ
  pub bears : Bears (setting g mask fates) failed cycles chip allowance state logical page bytes

-- most: no write sends more that is acknowledged with so many failed fills, on whatever chip and state, over an old copy or not, with whatever
-- mask and fate words.
-- attained: with these fate words every write that can bear so many failed fills has so many, and sends this many cycles.
-- exists: there is such a write
pub record Dearest (g : Geometry) (failed : ℕ) (fates : List ℕ) (cycles : ℕ) : Type 0 where
  pub most : (mask words : List ℕ) (d : Device) (n : ℕ) (st : State) (logical page : ℕ) (bytes : List ℕ)
      → InRange (setting g mask words) d st → Bytes bytes
      → (writing (setting g mask words) d n st logical page bytes).answer ≡ 0 → failed_fills (setting g mask words) d n st logical page bytes ≡ failed
      → (writing (setting g mask words) d n st logical page bytes).sent ≤ cycles
  pub attained : (mask : List ℕ) (d : Device) (n : ℕ) (st : State) (logical page : ℕ) (bytes : List ℕ)
      → Bears (setting g mask fates) failed cycles d n st logical page bytes → Sends (setting g mask fates) failed cycles d n st logical page bytes
  pub exists : Borne g fates failed cycles

-- the failed fills that the permitted blocks can bear: the table's block, the old copy's and the new one's are not among them
abbrev pub Bearable : Geometry → ℕ → Type 0
Bearable g failed = failed ≤ g.blocks - 3

-- the words and cycles that the call tells
abbrev pub DearestIs : Geometry → ℕ → Type 0
DearestIs g failed = Dearest g failed (dearest_fates g failed) (dearest_cycles g failed)
