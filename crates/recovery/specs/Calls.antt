-- Lists of calls on one chip, with power lost between them: each call gets the state and the chip that are there, and the book is kept
-- beside them.
use Rattle.std.specs.Prelude.{ℕ, Bool, true, false, cond, List, [], ◌∷◌, ◌≡◌, eqb, length}
use Rattle.std.proofs.Math.Option.{Option, none, some}
use Rattle.geometry.specs.declared.Geometry.{Geometry}
use Rattle.geometry.specs.Sizes.{page_size}
use Rattle.cells.specs.Bytes.{Bytes}
use Rattle.chip_interface.specs.Interface.{powered_on}
use Rattle.chip_interface.specs.declared.Interface.{Interface}
use Rattle.chip_array.specs.Device.{Device, device, Setting, setting, with_interface}
use Rattle.chip.specs.Chip.{Cycle}
use Rattle.operations.specs.Trace.{ArrayOperation}
use Rattle.copies.specs.Blocks.{block_in, is_marked}
use Rattle.state.specs.declared.State.{State}
use Rattle.request.specs.Call.{Performed, result_of, sent_in, started_in}
use Rattle.scan_summary.specs.declared.Depth.{Depth}
use Rattle.open_write.specs.Open.{OpenState, open_state, kept_bytes, is_opened, mounted_open}
use Rattle.open_write.specs.declared.OpenWrite.{OpenWrite}
use Rattle.open_write.specs.Requests.{OpenResult, OpenRead, OpenIdentified, Advanced, through, open_read_request, open_write_request, open_erase_request, open_format_request, open_mount_request, open_identify_request, open_request, advance_request}
use Rattle.damage.specs.Run.{failed_in}
use Rattle.recovery.specs.Book as book
use Rattle.recovery.specs.Book.{erase, Note, Account, blank_account, Entry, changed, mounted, opened, advanced, unentered, fed}
use Rattle.recovery.specs.Copy.{has_copy}

-- what each call brings of its own beside its arguments: the mask, the fate words, the cycles allowed, and the write-protect line, low where
-- the word is not 0, which does not change during the call
pub record Lent : Type 0 where
  pub mask : List ℕ
  pub fates : List ℕ
  pub allowed : ℕ
  pub protected : ℕ

-- a mount, full or quick; a read of a logical page into a buffer; a write of a logical page; an erase of a logical block; the chip asked for its size,
-- with the parameter page and the number of logical blocks; a write of a logical page opened; the open write advanced by so many page programs
pub data Call : Type 0 where
  to_mount : Depth → Lent → Call
  to_read : Lent → ℕ → ℕ → List ℕ → Call
  to_write : Lent → ℕ → ℕ → List ℕ → Call
  to_erase : Lent → ℕ → Call
  to_identify : Lent → List ℕ → ℕ → Call
  to_open : Lent → ℕ → ℕ → List ℕ → Call
  to_advance : Lent → ℕ → Call

-- bytes are bytes
abbrev pub Typed : Call → Type 0
Typed (to_mount depth a) = Bytes a.mask
Typed (to_read a logical page buffer) = Bytes a.mask
Typed (to_write a logical page bytes) = Bytes a.mask × Bytes bytes
Typed (to_erase a logical) = Bytes a.mask
Typed (to_identify a parameters logical) = Unit {0}
Typed (to_open a logical page bytes) = Bytes a.mask × Bytes bytes
Typed (to_advance a most) = Bytes a.mask

-- what happens to a store: a call, or power is lost; then come the state that the next call gets and what the page register holds
pub data Event : Type 0 where
  called : Call → Event
  power_lost : OpenState → List ℕ → Event

-- between two calls: the state with its open write and the page kept of it, and the chip, as the last one left them, the book with the
-- request under way, the blocks that bore a factory mark when the chip was formatted, and those for which E1h was read since the mount
-- or formatting that gave the mounted state
pub record Store : Type 0 where
  pub state : State
  pub write : OpenWrite
  pub page : List ℕ
  pub chip : Device
  pub account : Account
  pub marked : ℕ → Bool
  pub failed : ℕ → Bool

abbrev pub store : OpenState → Device → Account → (ℕ → Bool) → (ℕ → Bool) → Store
store x d y m f =
    record { state = x.state; write = x.write; page = x.page; chip = d; account = y; marked = m; failed = f }

abbrev pub state_of : Store → OpenState
state_of y = open_state y.state y.write y.page

-- the request under way
abbrev pub under_way : Store → Option Note
under_way y = y.account.noted

abbrev pub setting_of : Geometry → Lent → Setting
setting_of g a = setting g a.mask a.fates

-- an interface with this word for the write-protect line
abbrev pub with_line : ℕ → Interface → Interface
with_line k i =
    record { phase = i.phase; count = i.count; address = i.address; first = i.first; column = i.column; operation = i.operation; busy = i.busy; failed = i.failed; loaded = i.loaded; fate = i.fate; illegal = i.illegal; protected = k }

-- a chip as a call finds it
abbrev pub chip_of : Lent → Device → Device
chip_of a d = with_interface (with_line a.protected d.interface) d

-- what a mount, a read and an advance give on a store
abbrev pub mount_on : Depth → Geometry → Lent → Store → OpenResult
mount_on depth g a y =
    result_of (open_mount_request depth (setting_of g a) (chip_of a y.chip) a.allowed (state_of y))

abbrev pub read_of : Geometry → Lent → ℕ → ℕ → List ℕ → Store → OpenRead
read_of g a logical page buffer y =
    result_of (open_read_request (setting_of g a) (chip_of a y.chip) a.allowed (state_of y) logical page buffer)

abbrev pub advance_on : Geometry → Lent → ℕ → Store → Advanced
advance_on g a most y =
    result_of (advance_request (setting_of g a) (chip_of a y.chip) a.allowed (state_of y) most)

-- a call on a store, whole: its result, the cycles that it sends and the array operations that it starts
abbrev pub run_of : Geometry → Call → Store → Performed OpenResult
run_of g (to_mount depth a) y = open_mount_request depth (setting_of g a) (chip_of a y.chip) a.allowed (state_of y)
run_of g (to_read a logical page buffer) y =
    through (λ (r : OpenRead). r.returned) (open_read_request (setting_of g a) (chip_of a y.chip) a.allowed (state_of y) logical page buffer)
run_of g (to_write a logical page bytes) y =
    open_write_request (setting_of g a) (chip_of a y.chip) a.allowed (state_of y) logical page bytes
run_of g (to_erase a logical) y = open_erase_request (setting_of g a) (chip_of a y.chip) a.allowed (state_of y) logical
run_of g (to_identify a parameters logical) y =
    through (λ (r : OpenIdentified). r.returned) (open_identify_request a.mask a.fates (chip_of a y.chip) a.allowed (state_of y) parameters logical)
run_of g (to_open a logical page bytes) y =
    open_request (setting_of g a) (chip_of a y.chip) a.allowed (state_of y) logical page bytes
run_of g (to_advance a most) y =
    through (λ (r : Advanced). r.returned) (advance_request (setting_of g a) (chip_of a y.chip) a.allowed (state_of y) most)

abbrev pub answer_of : Geometry → Call → Store → ℕ
answer_of g c y = (result_of (run_of g c y)).answer

abbrev pub cycles_of : Geometry → Call → Store → List Cycle
cycles_of g c y = sent_in (run_of g c y)

abbrev pub trace_of : Geometry → Call → Store → List ArrayOperation
trace_of g c y = started_in (run_of g c y)

-- the write-protect line does not change while a write is open: it was high at the opening
abbrev pub LineKept : Call → Store → Type 0
LineKept (to_mount depth a) y = Unit {0}
LineKept (to_read a logical page buffer) y = Unit {0}
LineKept (to_write a logical page bytes) y = Unit {0}
LineKept (to_erase a logical) y = Unit {0}
LineKept (to_identify a parameters logical) y = Unit {0}
LineKept (to_open a logical page bytes) y = Unit {0}
LineKept (to_advance a most) y = is_opened (state_of y) ≡ true → a.protected ≡ 0

-- nothing else is assumed of a call
abbrev pub Callable : Call → Store → Type 0
Callable c y = Typed c × LineKept c y

-- the blocks that failed before, and those that fail in a trace
abbrev pub failed_after : (ℕ → Bool) → List ArrayOperation → ℕ → Bool
failed_after f os b = cond (f b) true (failed_in b os)

-- whether the request noted has a complete copy
unfoldable pub copy_of_note : Geometry → List ℕ → Option Note → Bool
copy_of_note g array none = false
copy_of_note g array (some t) = has_copy g array t.started

-- what the book is fed of a call
abbrev pub mount_entry : Geometry → Store → OpenResult → Entry
mount_entry g y r = mounted r.answer (copy_of_note g r.chip.array (under_way y))

abbrev pub entry_of : Geometry → Call → Store → Entry
entry_of g (to_mount depth a) y = mount_entry g y (mount_on depth g a y)
entry_of g (to_read a logical page buffer) y = unentered
entry_of g (to_write a logical page bytes) y =
    changed (book.write logical page bytes) (answer_of g (to_write a logical page bytes) y) (trace_of g (to_write a logical page bytes) y)
entry_of g (to_erase a logical) y = changed (erase logical) (answer_of g (to_erase a logical) y) (trace_of g (to_erase a logical) y)
entry_of g (to_identify a parameters logical) y = unentered
entry_of g (to_open a logical page bytes) y =
    opened (book.write logical page bytes) (answer_of g (to_open a logical page bytes) y)
entry_of g (to_advance a most) y =
    advanced (answer_of g (to_advance a most) y) (advance_on g a most y).finished (trace_of g (to_advance a most) y)

-- a mount answered 0 starts the failed blocks anew
unfoldable pub failed_next : Entry → (ℕ → Bool) → List ArrayOperation → ℕ → Bool
failed_next (mounted answer copy) f os b = cond (eqb answer 0) false (failed_after f os b)
failed_next (changed c answer started) f os b = failed_after f os b
failed_next (opened c answer) f os b = failed_after f os b
failed_next (advanced answer finished started) f os b = failed_after f os b
failed_next unentered f os b = failed_after f os b

-- one call
unfoldable pub step : Geometry → Call → Store → Store
step g c y =
    store (result_of (run_of g c y)).state (result_of (run_of g c y)).chip (fed g (entry_of g c y) y.account) y.marked
    (failed_next (entry_of g c y) y.failed (trace_of g c y))

-- power lost leaves array and history, the book with its note, and the blocks known to have failed; the interface is as after power on
unfoldable pub unpowered : OpenState → List ℕ → Store → Store
unpowered x register y =
    store x (device powered_on y.chip.array register y.chip.history) y.account y.marked y.failed

abbrev pub happens : Geometry → Event → Store → Store
happens g (called c) y = step g c y
happens g (power_lost x register) y = unpowered x register y

-- the state is gone: whatever stands in its place does not count as mounted
abbrev pub Possible : Geometry → Event → Store → Type 0
Possible g (called c) y = Callable c y
Possible g (power_lost x register) y =
    (mounted_open g x ≡ false) × (length x.page ≡ kept_bytes) × (length register ≡ page_size g)

-- each where it happens
unfoldable pub AllPossible : Geometry → List Event → Store → Type 0
AllPossible g [] y = Unit {0}
AllPossible g (e ∷ es) y = Possible g e y × AllPossible g es (happens g e y)

-- one event after the other
unfoldable pub after : Geometry → List Event → Store → Store
after g [] y = y
after g (e ∷ es) y = after g es (happens g e y)

-- what a formatting leaves: an empty book, nothing under way, and the blocks that failed in it
abbrev pub format_call : Geometry → Lent → Device → OpenState → Performed OpenResult
format_call g a d x = open_format_request (setting_of g a) (chip_of a d) a.allowed x

abbrev pub format_on : Geometry → Lent → Device → OpenState → OpenResult
format_on g a d x = result_of (format_call g a d x)

unfoldable pub begun : Geometry → Lent → Device → OpenState → Store
begun g a d x =
    let r = format_on g a d x in
    store r.state r.chip (blank_account g) (λ b. is_marked g (block_in g d.array b)) (λ b. failed_in b (started_in (format_call g a d x)))
