-- What a read gives of a chip that is not ready for a command: one in the middle of an operation, or busy.
use Rattle.std.specs.Prelude.{ℕ, ◌≤◌, ◌<◌, List, [], ◌∷◌, ◌≡◌, length, get_or, replicate}
use Rattle.chip_array.specs.Device.{Device, Setting}
use Rattle.chip.specs.Chip.{Cycle}
use Rattle.chip.specs.Chip.Cycle.{command}
use Rattle.state.specs.State.{none, blank}
use Rattle.state.specs.declared.State.{State}
use Rattle.request.specs.Call.{result_with, sized_for}
use Rattle.request_refusals.proofs.RefusalLaws.{Accepted}
use Rattle.read_page.specs.Fetching.{ReadResult, read_result, page_progress}
use Rattle.request_laws.specs.Reads.{ReadAnswer}

-- a chip takes commands when ready (0), with status shown (1) and with data output (2)
abbrev pub Unready : Device → Type 0
Unready d = 2 < d.interface.phase

-- the map's entry of a logical block
abbrev pub entry_at : State → ℕ → ℕ
entry_at state logical = get_or state.map logical 0

-- a read that is stopped with this answer after these cycles: array, register, history and buffer are as they were
pub record StoppedRead (s : Setting) (d : Device) (n : ℕ) (block page : ℕ) (buffer : List ℕ) (answer : ℕ) (cycles : List Cycle) (r : ReadResult) : Type 0 where
  pub answer_is : r.returned.answer ≡ answer
  pub state_is : r.returned.state ≡ blank 2
  pub cycles_are : (page_progress s d n block page).cycles ≡ cycles
  pub sent_is : r.returned.sent ≡ length cycles
  pub same_array : r.returned.chip.array ≡ d.array
  pub same_register : r.returned.chip.register ≡ d.register
  pub same_history : r.returned.chip.history ≡ d.history
  pub same_buffer : r.buffer ≡ buffer

-- an accepted read of a chip that is not ready: without a copy it is done with no cycle; with a copy it is cut where no
-- cycle is allowed, and otherwise its first cycle, 00h, is refused and no other is sent
pub record UnreadyRead (s : Setting) (d : Device) (n : ℕ) (state : State) (logical page : ℕ) (buffer : List ℕ) (r : ReadResult) : Type 0 where
  pub without_copy : entry_at state logical ≡ none → r ≡ read_result (result_with 0 state d 0) (replicate s.geometry.main 255)
  pub cut_first : (entry_at state logical ≡ none → ⊥) → n ≡ 0 → StoppedRead s d n (entry_at state logical) page buffer 11 [] r
  pub refused_first : (entry_at state logical ≡ none → ⊥) → 1 ≤ n → StoppedRead s d n (entry_at state logical) page buffer 255 (command 0 ∷ []) r

-- a read whose first cycle is sent and refused
pub record RefusedRead (s : Setting) (d : Device) (n : ℕ) (state : State) (logical page : ℕ) (buffer : List ℕ) : Type 0 where
  pub is_accepted : Accepted s.geometry (sized_for s d) state logical page (length buffer)
  pub has_copy_fact : entry_at state logical ≡ none → ⊥
  pub is_allowed : 1 ≤ n
  pub is_unready : Unready d

-- the answers of a read of any chip
pub data AnyReadAnswer : ℕ → Type 0 where
  of_ready : {k : ℕ} → ReadAnswer k → AnyReadAnswer k
  is_refused : AnyReadAnswer 255

-- array and history as they were
pub record ReadKeeps (d : Device) (r : ReadResult) : Type 0 where
  pub same_array : r.returned.chip.array ≡ d.array
  pub same_history : r.returned.chip.history ≡ d.history
