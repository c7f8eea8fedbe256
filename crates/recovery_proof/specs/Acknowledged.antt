-- What a call answered 0 leaves for reads.
use Rattle.std.specs.Prelude.{ℕ, ◌≤◌, ◌<◌, true, List, ◌≡◌, length}
use Rattle.geometry.specs.declared.Geometry.{Geometry}
use Rattle.geometry.specs.Sizes.{block_size}
use Rattle.chip_interface.specs.Interface.{fate_word, busy_of}
use Rattle.chip_array.specs.Device.{Device, Setting}
use Rattle.request.specs.Call.{sized_for}
use Rattle.damage.specs.Run.{read_most}
use Rattle.open_write.specs.Open.{OpenState, mounted_open}
use Rattle.open_write.specs.Requests.{OpenRead}
use Rattle.recovery.specs.Calls.{Lent, Call, to_mount, to_read, to_write, to_erase, to_identify, to_open, to_advance, Callable, Store, state_of, setting_of, chip_of, read_of, answer_of, step}
use Rattle.recovery.specs.Recovery.{shown}

-- a read that is done: these bytes, the state with its open write as it was, nothing on the chip changed, and the chip ready for the next
-- call
pub record GivesOpen (s : Setting) (d : Device) (x : OpenState) (bytes : List ℕ) (r : OpenRead) : Type 0 where
  pub done : r.returned.answer ≡ 0
  pub same_state : r.returned.state ≡ x
  pub same_array : r.returned.chip.array ≡ d.array
  pub same_history : r.returned.chip.history ≡ d.history
  pub bytes_are : r.buffer ≡ bytes
  pub still_sized : sized_for s r.returned.chip ≡ true
  pub still_ready : r.returned.chip.interface.phase ≤ 2

-- so it is unless the read is silent or cut; silent only where its fate word has 256 or more busy reads, and cut only where all n cycles were sent
pub record ReadsOpen (s : Setting) (d : Device) (n : ℕ) (x : OpenState) (bytes : List ℕ) (r : OpenRead) : Type 0 where
  pub gives : (r.returned.answer ≡ 10 → ⊥) → (r.returned.answer ≡ 11 → ⊥) → GivesOpen s d x bytes r
  pub silent_by : r.returned.answer ≡ 10 → 256 ≤ busy_of (fate_word s.fates 0)
  pub cut_at : r.returned.answer ≡ 11 → r.returned.sent ≡ n
  pub sent-most : r.returned.sent ≤ read_most s.geometry.main

-- every rightly called read that is neither silent nor cut is answered 0 and gives the bytes shown
abbrev pub ReadsBack : Geometry → Store → Type 0
ReadsBack g y =
    (a : Lent) (logical page : ℕ) (buffer : List ℕ) → length a.mask ≡ block_size g → logical < g.logical → page < g.pages → length buffer ≡ g.main
    → ReadsOpen (setting_of g a) (chip_of a y.chip) a.allowed (state_of y) (shown g y logical page) (read_of g a logical page buffer y)

-- a call that is answered 0 with a mounted state only, or leaves one: the chip tells its size whatever the state, and leaves it
abbrev pub OfMounted : Geometry → Call → Store → Type 0
OfMounted g (to_mount depth a) y = Unit {0}
OfMounted g (to_read a logical page buffer) y = Unit {0}
OfMounted g (to_write a logical page bytes) y = Unit {0}
OfMounted g (to_erase a logical) y = Unit {0}
OfMounted g (to_identify a parameters logical) y = mounted_open g (state_of y) ≡ true
OfMounted g (to_open a logical page bytes) y = Unit {0}
OfMounted g (to_advance a most) y = Unit {0}

-- after such a call answered 0 they do
abbrev pub DoneReads : Geometry → Store → Type 0
DoneReads g y = (c : Call) → Callable c y → OfMounted g c y → answer_of g c y ≡ 0 → ReadsBack g (step g c y)
