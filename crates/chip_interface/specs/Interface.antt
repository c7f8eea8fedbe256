-- The chip's command interface: what each cycle makes of it. Commands are those of 002, Table 5, as far as the store uses them.
use Rattle.std.specs.Prelude.{ℕ, ◌+◌, ◌*◌, ◌/◌, ◌%◌, Bool, false, cond, List, eqb, leb, ltb, length, get_or}
use Rattle.geometry.specs.declared.Geometry.{Geometry}
use Rattle.geometry.specs.Limits.{valid}
use Rattle.geometry.specs.Sizes.{page_size, row_count}
use Rattle.chip_interface.specs.declared.Interface.{Interface}

-- the phases. In the first three a new operation is taken: ready, status shown, data output
abbrev pub ready_phase : ℕ
ready_phase = 0

abbrev pub status_phase : ℕ
status_phase = 1

abbrev pub output_phase : ℕ
output_phase = 2

-- address bytes are awaited
abbrev pub read_address_phase : ℕ
read_address_phase = 3

abbrev pub program_address_phase : ℕ
program_address_phase = 4

abbrev pub erase_address_phase : ℕ
erase_address_phase = 5

abbrev pub program_data_phase : ℕ
program_data_phase = 6

-- busy, and busy with the status shown
abbrev pub busy_phase : ℕ
busy_phase = 7

abbrev pub busy_status_phase : ℕ
busy_status_phase = 8

-- the address byte of ECh is awaited
abbrev pub parameter_address_phase : ℕ
parameter_address_phase = 9

-- the operation that fetches the parameter page; 1 read, 2 program, 3 erase
abbrev pub parameters_operation : ℕ
parameters_operation = 4

-- the commands: FFh, 70h, 00h, 80h, 60h, ECh, and the confirm cycles 30h, 10h, D0h
abbrev pub reset_code : ℕ
reset_code = 255

abbrev pub status_code : ℕ
status_code = 112

abbrev pub read_code : ℕ
read_code = 0

abbrev pub program_code : ℕ
program_code = 128

abbrev pub erase_code : ℕ
erase_code = 96

abbrev pub parameter_code : ℕ
parameter_code = 236

abbrev pub read_confirm : ℕ
read_confirm = 48

abbrev pub program_confirm : ℕ
program_confirm = 16

abbrev pub erase_confirm : ℕ
erase_confirm = 208

abbrev pub powered_on : Interface
powered_on =
    record { phase = ready_phase; count = 0; address = 0; first = 0; column = 0; operation = 0; busy = 0; failed = 0; loaded = 0; fate = 0; illegal = 0; protected = 0 }

-- the same interface after a cycle that was answered illegal
abbrev pub refused : Interface → Interface
refused i =
    record { phase = i.phase; count = i.count; address = i.address; first = i.first; column = i.column; operation = i.operation; busy = i.busy; failed = i.failed; loaded = i.loaded; fate = i.fate; illegal = 1; protected = i.protected }

abbrev pub in_phase : ℕ → Interface → Interface
in_phase p i =
    record { phase = p; count = i.count; address = i.address; first = i.first; column = i.column; operation = i.operation; busy = i.busy; failed = i.failed; loaded = i.loaded; fate = i.fate; illegal = i.illegal; protected = i.protected }

-- FFh, taken in every phase (3.15): status E0h where the write-protect line is high, no page in the register
abbrev pub after_reset : Interface → Interface
after_reset i =
    record { phase = ready_phase; count = 0; address = 0; first = 0; column = 0; operation = 0; busy = 0; failed = 0; loaded = 0; fate = i.fate; illegal = i.illegal; protected = i.protected }

-- the first cycle of an operation, from the ready, status or data output phase
abbrev pub beginning : ℕ → ℕ → Interface → Interface
beginning p n i =
    record { phase = p; count = n; address = 0; first = i.first; column = i.column; operation = i.operation; busy = i.busy; failed = i.failed; loaded = 0; fate = i.fate; illegal = i.illegal; protected = i.protected }

unfoldable pub begun : ℕ → ℕ → Interface → Interface
begun p n i = cond (leb i.phase output_phase) (beginning p n i) (refused i)

-- 70h (3.11): when ready, and while busy
unfoldable pub status_mode : Interface → Interface
status_mode i =
    cond (leb i.phase output_phase) (in_phase status_phase i)
    (cond (eqb i.phase busy_phase) (in_phase busy_status_phase i) (cond (eqb i.phase busy_status_phase) i (refused i)))

-- 00h where the register holds a page (3.1, 3.11): data output from the present column
abbrev pub output_resumed : Interface → Interface
output_resumed i =
    record { phase = output_phase; count = i.count; address = i.address; first = i.column; column = i.column; operation = i.operation; busy = i.busy; failed = i.failed; loaded = i.loaded; fate = i.fate; illegal = i.illegal; protected = i.protected }

-- 00h
unfoldable pub read_mode : Interface → Interface
read_mode i =
    cond (leb i.phase output_phase) (cond (eqb i.loaded 1) (output_resumed i) (beginning read_address_phase 0 i)) (refused i)

-- the commands that start no array operation: FFh, 70h, 00h, 80h, 60h, ECh
unfoldable pub plain_command : ℕ → Interface → Interface
plain_command code i =
    cond (eqb code reset_code) (after_reset i)
    (cond (eqb code status_code) (status_mode i)
    (cond (eqb code read_code) (read_mode i)
    (cond (eqb code program_code) (begun program_address_phase 0 i)
    (cond (eqb code erase_code) (begun erase_address_phase 2 i)
    (cond (eqb code parameter_code) (begun parameter_address_phase 0 i) (refused i))))))

-- the row and the column of a full address register
abbrev pub row_of_address : ℕ → ℕ
row_of_address a = a / 65536

abbrev pub column_of_address : ℕ → ℕ
column_of_address a = a % 65536

unfoldable pub address_fits : Geometry → ℕ → Bool
address_fits g a =
    cond (valid g) (cond (ltb (column_of_address a) (page_size g)) (ltb (row_of_address a) (row_count g)) false) false

-- the address register after one more byte: low byte first
abbrev pub shifted : ℕ → ℕ → ℕ
shifted byte a = a / 256 + byte * 4294967296

abbrev pub more_address : ℕ → Interface → Interface
more_address a i =
    record { phase = i.phase; count = i.count + 1; address = a; first = i.first; column = i.column; operation = i.operation; busy = i.busy; failed = i.failed; loaded = i.loaded; fate = i.fate; illegal = i.illegal; protected = i.protected }

-- the phase after the last address byte
abbrev pub after_address : ℕ → ℕ
after_address p = cond (eqb p program_address_phase) program_data_phase p

abbrev pub full_address : ℕ → Interface → Interface
full_address a i =
    record { phase = after_address i.phase; count = 5; address = a; first = column_of_address a; column = column_of_address a; operation = i.operation; busy = i.busy; failed = i.failed; loaded = i.loaded; fate = i.fate; illegal = i.illegal; protected = i.protected }

-- one address byte in a phase that expects it; the last one only if the address lies in the geometry
unfoldable pub latched : Geometry → ℕ → Interface → Interface
latched g byte i =
    cond (leb 5 i.count) (refused i)
    (cond (ltb i.count 4) (more_address (shifted byte i.address) i)
    (cond (address_fits g (shifted byte i.address)) (full_address (shifted byte i.address) i) (refused i)))

-- an address cycle. After 00h with a page in the register the first address byte starts another read
unfoldable pub addressed : Geometry → ℕ → Interface → Interface
addressed g byte i =
    cond (eqb i.phase read_address_phase) (latched g byte i)
    (cond (eqb i.phase program_address_phase) (latched g byte i)
    (cond (eqb i.phase erase_address_phase) (latched g byte i)
    (cond (eqb i.phase output_phase)
    (cond (eqb i.first i.column) (latched g byte (beginning read_address_phase 0 i)) (refused i))
    (refused i))))

-- fate words: bits 0 to 15 count the busy status reads, bit 16 says failed; past the list's end 0
unfoldable pub fate_word : List ℕ → ℕ → ℕ
fate_word fates at = cond (ltb at (length fates)) (get_or fates at 0) 0

unfoldable pub next_fate : List ℕ → ℕ → ℕ
next_fate fates at = cond (ltb at (length fates)) (at + 1) at

abbrev pub busy_of : ℕ → ℕ
busy_of word = word % 65536

abbrev pub failed_of : ℕ → ℕ
failed_of word = word / 65536 % 2

-- a read does not fail
abbrev pub failed_for : ℕ → ℕ → ℕ
failed_for operation word = cond (eqb operation 1) 0 (failed_of word)

-- after the confirm cycle of an array operation (1 read, 2 program, 3 erase)
unfoldable pub started : ℕ → List ℕ → Interface → Interface
started operation fates i =
    record { phase = busy_phase; count = i.count; address = i.address; first = i.first; column = i.column; operation = operation; busy = busy_of (fate_word fates i.fate); failed = failed_for operation (fate_word fates i.fate); loaded = 0; fate = next_fate fates i.fate; illegal = i.illegal; protected = i.protected }

-- 10h or D0h with the write-protect line low: nothing starts (2.5), no fate word is taken, and the status shows the operation as failed with bit 7 clear
abbrev pub unstarted : ℕ → Interface → Interface
unstarted operation i =
    record { phase = ready_phase; count = i.count; address = i.address; first = i.first; column = i.column; operation = operation; busy = 0; failed = 1; loaded = 0; fate = i.fate; illegal = i.illegal; protected = i.protected }

-- the parameter page is fetched (operation 4): busy with a fate word, and like a read it does not fail
abbrev pub parameters_started : List ℕ → Interface → Interface
parameters_started fates i =
    record { phase = busy_phase; count = 1; address = 0; first = 0; column = 0; operation = parameters_operation; busy = busy_of (fate_word fates i.fate); failed = 0; loaded = 0; fate = next_fate fates i.fate; illegal = i.illegal; protected = i.protected }

-- the address cycle after ECh: 00h alone names the parameter page
unfoldable pub parameter_addressed : ℕ → List ℕ → Interface → Interface
parameter_addressed byte fates i =
    cond (eqb i.phase parameter_address_phase) (cond (eqb byte 0) (parameters_started fates i) (refused i)) (refused i)

-- with the write-protect line low, bit 7 clear: 00h busy, 60h ready, 61h failed
unfoldable pub protected_byte : ℕ → ℕ → ℕ
protected_byte ready failed = cond (eqb ready 0) 0 (cond (eqb failed 0) 96 97)

-- with the line high 80h busy, E0h passed, E1h failed
unfoldable pub status_byte : ℕ → ℕ → ℕ → ℕ
status_byte protected ready failed =
    cond (eqb protected 0) (cond (eqb ready 0) 128 (cond (eqb failed 0) 224 225)) (protected_byte ready failed)
