-- What it means that a write finished in portions is the plain write.
use Rattle.std.specs.Prelude.{ℕ, ◌+◌, ◌≤◌, cond, List, ◌≡◌, eqb, length, replicate}
use Rattle.std.proofs.Math.Option.{some}
use Rattle.geometry.specs.declared.Geometry.{Geometry}
use Rattle.chip_interface.specs.Interface.{output_phase}
use Rattle.chip_array.specs.Device.{Device, setting}
use Rattle.state.specs.declared.State.{State}
use Rattle.request.specs.Call.{Result}
use Rattle.write_changes.specs.Changes.{writing}
use Rattle.open_write.specs.Open.{OpenState, open_state, kept_bytes, no_write, closed}
use Rattle.open_write.specs.Requests.{OpenResult, Advanced, writing_open, opening_write}
use Rattle.fill_portions.specs.Portions.{Between, portions, without_reads}

-- the advance that ended the write hands back the plain write's answer, state and chip, with no write open; the cycles of the opening and of all
-- advances are the plain write's; it is finished exactly where the plain write is done
pub record AsPlain (w : Result) (x : OpenState) (first : ℕ) (a : Advanced) : Type 0 where
  pub same_answer : a.returned.answer ≡ w.answer
  pub same_state : a.returned.state ≡ closed w.state x
  pub same_array : a.returned.chip.array ≡ w.chip.array
  pub same_history : a.returned.chip.history ≡ w.chip.history
  pub same_cycles : first + a.returned.sent ≡ w.sent
  pub finished_is : a.finished ≡ cond (eqb w.answer 0) 1 0

-- two results that differ at most in the chip's interface and page register; first: cycles that belong to the second beside its own
pub record SameAs (w : OpenResult) (first : ℕ) (r : OpenResult) : Type 0 where
  pub same_answer : r.answer ≡ w.answer
  pub same_state : r.state ≡ w.state
  pub same_array : r.chip.array ≡ w.chip.array
  pub same_history : r.chip.history ≡ w.chip.history
  pub same_cycles : first + r.sent ≡ w.sent

-- a state with no write open, as formatting and mounting hand it out
abbrev pub unopened : State → OpenState
unopened st = open_state st no_write (replicate kept_bytes 0)

-- a write that is opened on a ready chip, with any allowances, and ended by an advance after any advances and reads; nothing is cut, neither there
-- nor in the plain write, which has this mask and these fate words and any allowance of its own. The bitmap of a state has 512 bytes
abbrev pub PortionsSame : Type 0
PortionsSame =
    (g : Geometry) (mask fates : List ℕ) (d : Device) (x : OpenState) (logical page : ℕ) (bytes : List ℕ) (n allowed : ℕ) (calls : List Between) (a : Advanced)
    → d.interface.phase ≤ output_phase
    → length x.state.invalid ≡ 512
    → (opening_write (setting g mask fates) d allowed x logical page bytes).answer ≡ 0
    → portions g mask fates calls (opening_write (setting g mask fates) d allowed x logical page bytes).state (opening_write (setting g mask fates) d allowed x logical page bytes).chip ≡ some a
    → (a.returned.answer ≡ 11 → ⊥)
    → ((writing (setting g mask fates) d n x.state logical page bytes).answer ≡ 11 → ⊥)
    → AsPlain (writing (setting g mask fates) d n x.state logical page bytes) x (opening_write (setting g mask fates) d allowed x logical page bytes).sent a

-- the same beside the plain write on the state with no write open, its words and its page 0: all of the state is the same too
abbrev pub PortionsPlain : Type 0
PortionsPlain =
    (g : Geometry) (mask fates : List ℕ) (d : Device) (st : State) (logical page : ℕ) (bytes : List ℕ) (n allowed : ℕ) (calls : List Between) (a : Advanced)
    → d.interface.phase ≤ output_phase
    → length st.invalid ≡ 512
    → (opening_write (setting g mask fates) d allowed (unopened st) logical page bytes).answer ≡ 0
    → portions g mask fates calls (opening_write (setting g mask fates) d allowed (unopened st) logical page bytes).state (opening_write (setting g mask fates) d allowed (unopened st) logical page bytes).chip ≡ some a
    → (a.returned.answer ≡ 11 → ⊥)
    → ((writing_open (setting g mask fates) d n (unopened st) logical page bytes).answer ≡ 11 → ⊥)
    → SameAs (writing_open (setting g mask fates) d n (unopened st) logical page bytes) (opening_write (setting g mask fates) d allowed (unopened st) logical page bytes).sent a.returned

-- any two lists of calls that end the same write, uncut, agree
abbrev pub WaysAgree : Type 0
WaysAgree =
    (g : Geometry) (mask fates : List ℕ) (d : Device) (x : OpenState) (logical page : ℕ) (bytes : List ℕ) (n allowed : ℕ) (calls others : List Between) (a b : Advanced)
    → d.interface.phase ≤ output_phase
    → length x.state.invalid ≡ 512
    → (opening_write (setting g mask fates) d allowed x logical page bytes).answer ≡ 0
    → portions g mask fates calls (opening_write (setting g mask fates) d allowed x logical page bytes).state (opening_write (setting g mask fates) d allowed x logical page bytes).chip ≡ some a
    → portions g mask fates others (opening_write (setting g mask fates) d allowed x logical page bytes).state (opening_write (setting g mask fates) d allowed x logical page bytes).chip ≡ some b
    → (a.returned.answer ≡ 11 → ⊥)
    → (b.returned.answer ≡ 11 → ⊥)
    → ((writing (setting g mask fates) d n x.state logical page bytes).answer ≡ 11 → ⊥)
    → SameAs b.returned 0 a.returned

-- an advance of the list ends the write, as a does
pub record EndsAs (g : Geometry) (mask fates : List ℕ) (calls : List Between) (x : OpenState) (d : Device) (a : Advanced) : Type 0 where
  pub last : Advanced
  pub is : portions g mask fates calls x d ≡ some last
  pub same : SameAs last.returned 0 a.returned

-- reads in between change nothing: without them the same advances end the write the same
abbrev pub ReadsBetween : Type 0
ReadsBetween =
    (g : Geometry) (mask fates : List ℕ) (d : Device) (x : OpenState) (logical page : ℕ) (bytes : List ℕ) (n allowed : ℕ) (calls : List Between) (a : Advanced)
    → d.interface.phase ≤ output_phase
    → length x.state.invalid ≡ 512
    → (opening_write (setting g mask fates) d allowed x logical page bytes).answer ≡ 0
    → portions g mask fates calls (opening_write (setting g mask fates) d allowed x logical page bytes).state (opening_write (setting g mask fates) d allowed x logical page bytes).chip ≡ some a
    → (a.returned.answer ≡ 11 → ⊥)
    → ((writing (setting g mask fates) d n x.state logical page bytes).answer ≡ 11 → ⊥)
    → EndsAs g mask fates (without_reads calls) (opening_write (setting g mask fates) d allowed x logical page bytes).state (opening_write (setting g mask fates) d allowed x logical page bytes).chip a
