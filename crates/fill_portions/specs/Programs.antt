-- The page programs of an advance, counted in its trace, and that nothing follows the last.
use Rattle.std.specs.Prelude.{ℕ, ◌+◌, ◌≤◌, ◌<◌, cond, List, [], ◌∷◌, ◌++◌, ◌≡◌, eqb}
use Rattle.geometry.specs.Sizes.{row_of}
use Rattle.chip_array.specs.Device.{Device, Setting}
use Rattle.bus.specs.Line.{Line}
use Rattle.chip.specs.Chip.{Cycle}
use Rattle.operations.specs.Trace.{ArrayOperation, program_sends, program_starts}
use Rattle.request.specs.Call.{sent_in, started_in}
use Rattle.open_write.specs.Open.{OpenState}
use Rattle.open_write.specs.Requests.{advance_request, advancing_write}

-- page programs among the operations of a trace, passed or failed
unfoldable pub programs_in : List ArrayOperation → ℕ
programs_in [] = 0
programs_in (o ∷ os) = cond (eqb o.kind 2) 1 0 + programs_in os

-- a trace that ends with a page program: its confirm cycle was sent, and no cycle came after those of the program
pub record ProgramLast (s : Setting) (cycles : List Cycle) (started : List ArrayOperation) : Type 0 where
  pub before : List Cycle
  pub done : List ArrayOperation
  pub line : Line
  pub block : ℕ
  pub page : ℕ
  pub bytes : List ℕ
  pub cycles_are : cycles ≡ before ++ program_sends s line (row_of s.geometry block page) bytes
  pub started_are : started ≡ done ++ program_starts s line (row_of s.geometry block page) bytes
  pub one : programs_in (program_starts s line (row_of s.geometry block page) bytes) ≡ 1

-- what an advance sends: as many page programs as it was given if it leaves the write open, passed or failed; never more; and nothing after the last
pub record AdvanceCounts (s : Setting) (d : Device) (n : ℕ) (x : OpenState) (most : ℕ) : Type 0 where
  pub few : programs_in (started_in (advance_request s d n x most)) ≤ most
  pub exactly : (advancing_write s d n x most).returned.answer ≡ 0 → (advancing_write s d n x most).finished ≡ 0 → programs_in (started_in (advance_request s d n x most)) ≡ most
  pub last : (advancing_write s d n x most).returned.answer ≡ 0 → (advancing_write s d n x most).finished ≡ 0 → 0 < most → ProgramLast s (sent_in (advance_request s d n x most)) (started_in (advance_request s d n x most))
