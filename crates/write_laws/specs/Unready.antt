-- What a write or an erase that is not refused does on a chip that is not ready for a command: one in the middle of a command, or busy.
use Rattle.std.specs.Prelude.{ℕ, ◌-◌, ◌≤◌, ◌<◌, true, List, [], ◌∷◌, ◌++◌, ◌⊎◌, ◌≡◌, length}
use Rattle.chip_interface.specs.Interface.{in_phase, busy_phase, busy_status_phase, status_code, erase_code}
use Rattle.chip_array.specs.Device.{Device, Setting, with_interface}
use Rattle.chip.specs.Chip.{Cycle, finished}
use Rattle.chip.specs.Chip.Cycle.{command}
use Rattle.bus.specs.Line.{uncut_line}
use Rattle.bus_polling.specs.declared.Outcome.TheVariants.{Passed}
use Rattle.bus_sequences.specs.Cycles.{status_cycles}
use Rattle.state_choose.specs.Choose.{permitted}
use Rattle.state.specs.State.{blank, next_number, number_end, held_bits}
use Rattle.state.specs.declared.State.{State}
use Rattle.request.specs.Call.{Result, result_with, fresh_interface}
use Rattle.progress.specs.Progress.{progress}
use Rattle.write_changes.specs.Changes.{Update, change_first, change_run, change_call}
use Rattle.request_laws.specs.Unready.{Unready}
use Rattle.write_laws.specs.Changing.{ChangeAnswer}

-- a busy chip, with busy status reads left or with none; every other chip that is not ready is in the middle of a command
abbrev pub Busy : Device → Type 0
Busy d = (d.interface.phase ≡ busy_phase) ⊎ (d.interface.phase ≡ busy_status_phase)

abbrev pub Waiting : Device → Type 0
Waiting d = Busy d × (d.interface.busy ≡ 0 → ⊥)

abbrev pub Completing : Device → Type 0
Completing d = Busy d × (d.interface.busy ≡ 0)

abbrev pub InCommand : Device → Type 0
InCommand d = Unready d × (Busy d → ⊥)

-- a request that ends with this answer and this state after these cycles: no array operation is started, and array, register and
-- history are as they were
pub record NothingChanged (s : Setting) (d : Device) (n : ℕ) (st : State) (u : Update) (answer : ℕ) (state : State) (cycles : List Cycle) (r : Result) : Type 0 where
  pub answer_is : r.answer ≡ answer
  pub state_is : r.state ≡ state
  pub cycles_are : (change_call s d n st u).progress.cycles ≡ cycles
  pub none_started : (change_call s d n st u).progress.started ≡ []
  pub sent_is : r.sent ≡ length cycles
  pub same_array : r.chip.array ≡ d.array
  pub same_register : r.chip.register ≡ d.register
  pub same_history : r.chip.history ≡ d.history

-- the same with a stopped state
abbrev pub StoppedChange : Setting → Device → ℕ → State → Update → ℕ → List Cycle → Result → Type 0
StoppedChange s d n st u answer cycles r = NothingChanged s d n st u answer (blank 2) cycles r

-- a block may be filled, and none may
abbrev pub may_fill : Setting → State → ℕ → Type 0
may_fill s st b = permitted st.marked st.invalid (held_bits st s.geometry.logical) b ≡ true

abbrev pub none_left : Setting → State → Type 0
none_left s st = (b : ℕ) → b < s.geometry.blocks → may_fill s st b → ⊥

-- the status read changes the interface alone: on a ready chip, and on a busy one with busy status reads left
abbrev pub Shows : Device → Type 0
Shows d = (d.interface.phase ≤ 2) ⊎ Waiting d

-- such a chip, the line high and the status read not cut: without a number the request is spent, then without a block worn, both after the
-- status read
pub record ShownChange (s : Setting) (d : Device) (n : ℕ) (st : State) (u : Update) (r : Result) : Type 0 where
  pub spent_first : number_end ≤ next_number st → StoppedChange s d n st u 9 status_cycles r
  pub worn_first : next_number st < number_end → none_left s st → StoppedChange s d n st u 8 status_cycles r

-- in the middle of a command: it is cut where no cycle is allowed, and else its first cycle, 70h, is refused and no other is sent; no number
-- and no block is asked for
pub record UnreadyChange (s : Setting) (d : Device) (n : ℕ) (st : State) (u : Update) (r : Result) : Type 0 where
  pub cut_first : n ≡ 0 → StoppedChange s d n st u 11 [] r
  pub refused_first : 1 ≤ n → StoppedChange s d n st u 255 (command status_code ∷ []) r

-- busy, with busy status reads left: the status read is taken, and cut or protected as on a ready chip; with the line high it is
-- spent or worn after it, and else the next cycle, 60h, is cut or refused and no other is sent
pub record BusyChange (s : Setting) (d : Device) (n : ℕ) (st : State) (u : Update) (r : Result) : Type 0 where
  pub cut_first : n ≡ 0 → StoppedChange s d n st u 11 [] r
  pub cut_second : n ≡ 1 → StoppedChange s d n st u 11 (command status_code ∷ []) r
  pub protected_so : 2 ≤ n → (d.interface.protected ≡ 0 → ⊥) → NothingChanged s d n st u 13 st status_cycles r
  pub shown_so : 2 ≤ n → d.interface.protected ≡ 0 → ShownChange s d n st u r
  pub cut_third : n ≡ 2 → d.interface.protected ≡ 0 → next_number st < number_end → (b : ℕ) → b < s.geometry.blocks → may_fill s st b → StoppedChange s d n st u 11 status_cycles r
  pub refused_third : 3 ≤ n → d.interface.protected ≡ 0 → next_number st < number_end → (b : ℕ) → b < s.geometry.blocks → may_fill s st b
      → StoppedChange s d n st u 255 (status_cycles ++ (command erase_code ∷ [])) r

-- a busy chip after 70h, and after a status read that completes the operation under way
abbrev pub busy_shown : Device → Device
busy_shown d = with_interface (in_phase busy_status_phase (fresh_interface d.interface)) d

abbrev pub completed_by : Setting → Device → Device
completed_by s d = finished s.geometry (busy_shown d)

-- busy, with none left: the status read completes the operation that was under way, and the request goes on from there; where that read is
-- refused nothing has changed, and with the line low what was under way is all that has
pub record CompletingChange (s : Setting) (d : Device) (n : ℕ) (st : State) (u : Update) (r : Result) : Type 0 where
  pub cut_first : n ≡ 0 → StoppedChange s d n st u 11 [] r
  pub cut_second : n ≡ 1 → StoppedChange s d n st u 11 (command status_code ∷ []) r
  pub line_is : 2 ≤ n → (change_first s d n).line ≡ uncut_line (completed_by s d) (n - 2)
  pub refused_second : 2 ≤ n → ((completed_by s d).interface.illegal ≡ 0 → ⊥) → StoppedChange s d n st u 255 status_cycles r
  pub protected_so : 2 ≤ n → (completed_by s d).interface.illegal ≡ 0 → (d.interface.protected ≡ 0 → ⊥) → r ≡ result_with 13 st (completed_by s d) 2
  pub goes_on : 2 ≤ n → (completed_by s d).interface.illegal ≡ 0 → d.interface.protected ≡ 0
      → change_call s d n st u ≡ change_run s st u (progress (uncut_line (completed_by s d) (n - 2)) Passed status_cycles [])

-- a request of which a cycle is refused: 70h in the middle of a command, 60h on a busy chip, or a status read that cannot complete what
-- was under way
pub data RefusedChange (s : Setting) (d : Device) (n : ℕ) (st : State) : Type 0 where
  in_command : InCommand d → 1 ≤ n → RefusedChange s d n st
  while_busy : Waiting d → d.interface.protected ≡ 0 → 3 ≤ n → next_number st < number_end → (b : ℕ) → b < s.geometry.blocks → may_fill s st b → RefusedChange s d n st
  not_completed : Completing d → 2 ≤ n → ((completed_by s d).interface.illegal ≡ 0 → ⊥) → RefusedChange s d n st

-- the answers of a write or an erase of any chip
pub data AnyChangeAnswer : ℕ → Type 0 where
  of_accepted : {k : ℕ} → ChangeAnswer k → AnyChangeAnswer k
  is_geometry : AnyChangeAnswer 1
  is_unmounted : AnyChangeAnswer 7
  is_address : AnyChangeAnswer 2
  is_length : AnyChangeAnswer 3
  is_refused : AnyChangeAnswer 255
