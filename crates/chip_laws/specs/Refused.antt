-- The cycles that the chip refuses, and neighbours that it takes: the rules of docs/CHIP-MODEL.md on the small chip. The rows that
-- interface, array and chip have each for itself, on the whole chip, and rows that several cycles lead to.
use Rattle.std.specs.Prelude.{ℕ, List, [], ◌∷◌, ◌++◌, map, ◌≡◌, replicate}
use Rattle.geometry.specs.declared.Geometry.{Geometry}
use Rattle.geometry.specs.Sizes.{column_bytes, row_bytes}
use Rattle.chip_interface.specs.Interface.{powered_on}
use Rattle.chip_interface.specs.Refused.{InterfaceRow, interface_rows, starting_codes}
use Rattle.chip_array.specs.Device.{Device, Setting, device, setting, illegal_cycle}
use Rattle.chip_array.specs.Refused.{call, erased_chip, refused_reads, refused_programs, refused_erases}
use Rattle.chip.specs.Chip.{Cycle, exec}
use Rattle.chip.specs.Chip.Cycle.{command, address, data_in, data_out, status, parameter_address, parameter_out}
use Rattle.chip.specs.Refused.{ChipRow, flags_after, finished_with, parameter_page, chip_rows}
use Rattle.bus.specs.Line.{run, Legal}

-- a geometry that no chip has
abbrev pub nowhere : Geometry
nowhere = record { main = 0; spare = 0; pages = 0; blocks = 0; logical = 0 }

abbrev pub fresh : Device
fresh = erased_chip powered_on

-- the same with the write-protect line low
abbrev pub protected_chip : Device
protected_chip =
    erased_chip record { phase = 0; count = 0; address = 0; first = 0; column = 0; operation = 0; busy = 0; failed = 0; loaded = 0; fate = 0; illegal = 0; protected = 1 }

-- a call, a chip, the cycles that lead to the place, and the cycles looked at there, each for itself
pub record Place : Type 0 where
  pub setting : Setting
  pub chip : Device
  pub before : List Cycle
  pub cycles : List Cycle

abbrev pub place : Setting → Device → List Cycle → List Cycle → Place
place s d b cs = record { setting = s; chip = d; before = b; cycles = cs }

abbrev pub at : List Cycle → List Cycle → Place
at b cs = place (call []) fresh b cs

-- for each place the flag there, and the flag after each of its cycles
unfoldable pub flags : List Place → List (List ℕ)
flags [] = []
flags (p ∷ ps) =
    let there = run p.setting p.chip p.before in
    (there.interface.illegal ∷ flags_after p.setting there p.cycles) ∷ flags ps

-- no flag at each place, and the flag k after each of its cycles
unfoldable pub all_as : ℕ → List Place → List (List ℕ)
all_as k [] = []
all_as k (p ∷ ps) = (0 ∷ map (λ (c : Cycle). k) p.cycles) ∷ all_as k ps

-- each cycle is refused and changes nothing but the flag
abbrev pub RefusedAt : Setting → Device → List Cycle → Type 0
RefusedAt s d [] = Unit {0}
RefusedAt s d (c ∷ cs) = (exec s d c ≡ illegal_cycle d) × RefusedAt s d cs

-- at every place the cycles before are legal and each cycle looked at is refused
abbrev pub Refused : List Place → Type 0
Refused [] = Unit {0}
Refused (p ∷ ps) =
    (Legal p.setting p.chip p.before
    × RefusedAt p.setting (run p.setting p.chip p.before) p.cycles)
    × Refused ps

-- each cycle is taken
abbrev pub TakenAt : Setting → Device → List Cycle → Type 0
TakenAt s d [] = Unit {0}
TakenAt s d (c ∷ cs) = ((exec s d c).interface.illegal ≡ 0) × TakenAt s d cs

abbrev pub Taken : List Place → Type 0
Taken [] = Unit {0}
Taken (p ∷ ps) =
    (Legal p.setting p.chip p.before
    × TakenAt p.setting (run p.setting p.chip p.before) p.cycles)
    × Taken ps

-- pieces of operations: 00h, 80h and 60h with addresses, data, confirm cycles, the status read that reports ready
abbrev pub reads : ℕ → ℕ → List Cycle
reads column row = command 0 ∷ map address (column_bytes column ++ row_bytes row)

abbrev pub programs : ℕ → ℕ → ℕ → List Cycle
programs column row n =
    command 128 ∷ (map address (column_bytes column ++ row_bytes row) ++ map data_in (replicate n 165))

abbrev pub erases : ℕ → List Cycle
erases row = command 96 ∷ map address (row_bytes row)

abbrev pub finishes : ℕ → List Cycle
finishes code = command code ∷ command 112 ∷ status ∷ []

-- ECh, its address byte, and the parameter page shown
abbrev pub fetches : List Cycle
fetches = command 236 ∷ parameter_address 0 ∷ []

abbrev pub parameters_shown : List Cycle
parameters_shown = fetches ++ (command 112 ∷ status ∷ command 0 ∷ [])

-- a page read, shown from a column on; a page programmed; a block erased
abbrev pub shown : ℕ → List Cycle
shown column = reads column 0 ++ (finishes 48 ++ (command 0 ∷ []))

abbrev pub programmed : ℕ → List Cycle
programmed row = programs 0 row 48 ++ finishes 16

abbrev pub erased : ℕ → List Cycle
erased row = erases row ++ finishes 208

-- commands that begin or confirm an operation
abbrev pub starting : List Cycle
starting = map command starting_codes

abbrev pub confirming : List Cycle
confirming = command 48 ∷ command 16 ∷ command 208 ∷ []

-- what a busy chip refuses
abbrev pub unless_busy : List Cycle
unless_busy =
    starting
    ++ (confirming ++ (address 0 ∷ data_in 0 ∷ data_out ∷ parameter_address 0 ∷ parameter_out parameter_page ∷ []))

-- the rows of the interface, the array and the chip
abbrev pub of_interface : InterfaceRow → Place
of_interface r =
    place (setting r.geometry (replicate 192 0) []) (erased_chip r.interface) []
    (map command r.commands ++ (map address r.addresses ++ map parameter_address r.parameter_addresses))

abbrev pub of_array : ℕ → Device → Place
of_array code d = place (call []) d [] (command code ∷ [])

abbrev pub of_chip : ChipRow → Place
of_chip r = place r.setting r.chip [] r.cycles

abbrev pub decided_below : List Place
decided_below =
    map of_interface interface_rows
    ++ (map (of_array 48) refused_reads
    ++ (map (of_array 16) refused_programs ++ (map (of_array 208) refused_erases ++ map of_chip chip_rows)))

abbrev pub refusals : List Place
refusals =
    -- 10h after no data, after fewer than main + spare bytes, and after fewer from a later column on
    at (programs 0 0 0) (command 16 ∷ [])
    ∷ at (programs 0 0 47) (command 16 ∷ [])
    ∷ at (programs 1 0 47) (command 16 ∷ [])
    -- data in past the last column
    ∷ at (programs 0 0 48) (data_in 0 ∷ [])
    -- after the last byte in: 70h and a status read, another operation, and the confirm cycle of another
    ∷ at (programs 0 0 48) (command 112 ∷ status ∷ (starting ++ (command 48 ∷ command 208 ∷ [])))
    -- data out before ready, with status shown, past the last column
    ∷ at (reads 0 0 ++ (command 48 ∷ command 112 ∷ [])) (data_out ∷ [])
    ∷ at (reads 0 0 ++ finishes 48) (data_out ∷ [])
    ∷ at (shown 0 ++ replicate 48 data_out) (data_out ∷ [])
    ∷ at (shown 40 ++ replicate 8 data_out) (data_out ∷ [])
    -- and where no page was read since the last reset, program or erase
    ∷ at (shown 0 ++ (command 255 ∷ command 0 ∷ [])) (data_out ∷ [])
    ∷ at (shown 0 ++ (programmed 0 ++ (command 0 ∷ []))) (data_out ∷ [])
    ∷ at (shown 0 ++ (erased 0 ++ (command 0 ∷ []))) (data_out ∷ [])
    -- an address byte among data out
    ∷ at (shown 0 ++ (data_out ∷ [])) (address 0 ∷ [])
    -- after a status read that was answered busy
    ∷ place (call (2 ∷ [])) fresh (reads 0 0 ++ finishes 48) unless_busy
    ∷ place (call (2 ∷ [])) fresh (programs 0 0 48 ++ finishes 16) unless_busy
    ∷ place (call (2 ∷ [])) fresh (erases 0 ++ finishes 208) unless_busy
    ∷ place (call (2 ∷ [])) fresh (fetches ++ (command 112 ∷ status ∷ [])) unless_busy
    -- the parameter page: past its last byte; where a page, and where nothing was read since; after it the page register; an
    -- address byte among its bytes
    ∷ at (parameters_shown ++ replicate 768 (parameter_out parameter_page)) (parameter_out parameter_page ∷ [])
    ∷ at (parameters_shown ++ shown 0) (parameter_out parameter_page ∷ [])
    ∷ at (parameters_shown ++ (command 255 ∷ command 0 ∷ [])) (parameter_out parameter_page ∷ [])
    ∷ at (shown 0 ++ parameters_shown) (data_out ∷ [])
    ∷ at (parameters_shown ++ (parameter_out parameter_page ∷ [])) (address 0 ∷ parameter_address 0 ∷ [])
    -- a page at or below the last one programmed
    ∷ at (programmed 1 ++ programs 0 1 48) (command 16 ∷ [])
    ∷ at (programmed 1 ++ programs 0 0 48) (command 16 ∷ [])
    -- also where the first program did not pass, was cut short by FFh, or came in an earlier call
    ∷ place (call (65536 ∷ [])) fresh (programmed 1 ++ programs 0 1 48) (command 16 ∷ [])
    ∷ at (programs 0 1 48 ++ (command 16 ∷ command 255 ∷ programs 0 1 48)) (command 16 ∷ [])
    ∷ place (call []) (device powered_on (replicate 768 255) (replicate 48 255) (2 ∷ 0 ∷ 0 ∷ 0 ∷ [])) (programs 0 1 48) (command 16 ∷ [])
    -- a program in a block whose last erase failed, was cut short by FFh, or did not pass in an earlier call
    ∷ place (call (65536 ∷ [])) fresh (erased 4 ++ programs 0 7 48) (command 16 ∷ [])
    ∷ at (erases 4 ++ (command 208 ∷ command 255 ∷ programs 0 7 48)) (command 16 ∷ [])
    ∷ place (call []) (device powered_on (replicate 768 255) (replicate 48 255) (0 ∷ 255 ∷ 0 ∷ 0 ∷ [])) (programs 0 7 48) (command 16 ∷ [])
    -- with the write-protect line low as well: 10h after fewer bytes, D0h after two row bytes, data out after it
    ∷ place (call []) protected_chip (programs 0 0 47) (command 16 ∷ [])
    ∷ place (call []) protected_chip (command 96 ∷ map address (0 ∷ 0 ∷ [])) (command 208 ∷ [])
    ∷ place (call []) protected_chip (erases 0 ++ (command 208 ∷ [])) (data_out ∷ command 16 ∷ command 208 ∷ [])
    ∷ decided_below

-- the neighbours that are taken
abbrev pub accepted : List Place
accepted =
    -- when ready, with status shown and with data output
    at [] (command 255 ∷ command 112 ∷ starting)
    ∷ at (command 112 ∷ []) (status ∷ command 255 ∷ command 112 ∷ starting)
    ∷ at (shown 0) (data_out ∷ command 255 ∷ command 112 ∷ starting)
    -- status repeats
    ∷ at (command 112 ∷ status ∷ []) (status ∷ [])
    -- the last address byte, with the last column and the last row
    ∷ at (command 0 ∷ map address (47 ∷ 0 ∷ 15 ∷ 0 ∷ [])) (address 0 ∷ [])
    ∷ at (command 128 ∷ map address (47 ∷ 0 ∷ 15 ∷ 0 ∷ [])) (address 0 ∷ [])
    ∷ at (command 96 ∷ map address (15 ∷ 0 ∷ [])) (address 0 ∷ [])
    -- the last byte in, the last byte out, and another read in the place of the first byte out
    ∷ at (programs 0 0 47) (data_in 0 ∷ [])
    ∷ at (shown 0 ++ replicate 47 data_out) (data_out ∷ [])
    ∷ at (shown 40) (address 0 ∷ [])
    -- confirm cycles; the page bits of an erase are ignored
    ∷ at (reads 47 15) (command 48 ∷ [])
    ∷ at (programs 0 15 48) (command 16 ∷ [])
    ∷ at (erases 15) (command 208 ∷ [])
    -- while busy
    ∷ at (reads 0 0 ++ (command 48 ∷ [])) (command 112 ∷ command 255 ∷ [])
    ∷ at (programs 0 0 48 ++ (command 16 ∷ [])) (command 112 ∷ command 255 ∷ [])
    ∷ at (erases 0 ++ (command 208 ∷ [])) (command 112 ∷ command 255 ∷ [])
    ∷ place (call (2 ∷ [])) fresh (erases 0 ++ finishes 208) (status ∷ command 112 ∷ command 255 ∷ [])
    ∷ of_chip (finished_with 768 48 4)
    -- the parameter page: with any lengths and geometry, up to its last byte, from the first one again after ECh, going on after
    -- status, and another read in the place of its first byte
    ∷ at (command 236 ∷ []) (parameter_address 0 ∷ command 255 ∷ [])
    ∷ at fetches (command 112 ∷ command 255 ∷ [])
    ∷ place (setting nowhere [] []) (device powered_on [] [] []) (fetches ++ (command 112 ∷ [])) (status ∷ [])
    ∷ place (setting nowhere [] []) (device powered_on [] [] []) parameters_shown (parameter_out parameter_page ∷ command 112 ∷ starting)
    ∷ at (parameters_shown ++ replicate 767 (parameter_out parameter_page)) (parameter_out parameter_page ∷ [])
    ∷ at (parameters_shown ++ (replicate 768 (parameter_out parameter_page) ++ parameters_shown)) (parameter_out parameter_page ∷ [])
    ∷ at (parameters_shown ++ (parameter_out parameter_page ∷ command 112 ∷ status ∷ command 0 ∷ [])) (parameter_out parameter_page ∷ [])
    ∷ at (parameters_shown ++ shown 0) (data_out ∷ [])
    -- FFh in the middle of an operation, and again
    ∷ at (reads 0 0) (command 255 ∷ [])
    ∷ at (programs 0 0 48) (command 255 ∷ [])
    ∷ at (command 255 ∷ []) (command 255 ∷ [])
    -- a page above the last one programmed, and any page after an erase that passed
    ∷ at (programmed 1 ++ programs 0 2 48) (command 16 ∷ [])
    ∷ at (programmed 1 ++ programs 0 4 48) (command 16 ∷ [])
    ∷ at (programmed 1 ++ (erased 0 ++ programs 0 0 48)) (command 16 ∷ [])
    ∷ place (call (65536 ∷ [])) fresh (erased 4 ++ (erased 4 ++ programs 0 7 48)) (command 16 ∷ [])
    -- confirm cycles with the write-protect line low, which start nothing: the chip is ready at once, and the page may be programmed again
    ∷ place (call []) protected_chip (programs 0 15 48) (command 16 ∷ [])
    ∷ place (call []) protected_chip (erases 15) (command 208 ∷ [])
    ∷ place (call []) protected_chip (programs 0 0 48 ++ (command 16 ∷ [])) (command 255 ∷ command 112 ∷ starting)
    ∷ place (call []) protected_chip (erases 0 ++ (command 208 ∷ [])) (command 255 ∷ command 112 ∷ starting)
    ∷ place (call []) protected_chip (programs 0 0 48 ++ (command 16 ∷ programs 0 0 48)) (command 16 ∷ [])
    ∷ []
