-- The commands and address bytes that the interface refuses: a table of the rules of docs/CHIP-MODEL.md that it decides alone, on the
-- small chip.
use Rattle.std.specs.Prelude.{ℕ, List, [], ◌∷◌, ◌++◌, map}
use Rattle.geometry.specs.declared.Geometry.{Geometry}
use Rattle.chip_interface.specs.declared.Interface.{Interface}
use Rattle.chip_interface.specs.Interface.{powered_on, plain_command, addressed, started, parameter_addressed, output_phase, status_code, read_code, program_code, erase_code, parameter_code}

abbrev pub small : Geometry
small = record { main = 32; spare = 16; pages = 4; blocks = 4; logical = 2 }

-- an interface, and the commands, address bytes and address bytes of ECh looked at there, each for itself
pub record InterfaceRow : Type 0 where
  pub geometry : Geometry
  pub interface : Interface
  pub commands : List ℕ
  pub addresses : List ℕ
  pub parameter_addresses : List ℕ

abbrev pub interface_row : Interface → List ℕ → List ℕ → InterfaceRow
interface_row i cs bs =
    record { geometry = small; interface = i; commands = cs; addresses = bs; parameter_addresses = [] }

abbrev pub parameter_row : Interface → List ℕ → InterfaceRow
parameter_row i bs = record { geometry = small; interface = i; commands = []; addresses = []; parameter_addresses = bs }

-- the flag of illegal answers after each of them, and the flags where all are refused
abbrev pub flags_of : InterfaceRow → List ℕ
flags_of r =
    map (λ (c : ℕ). (plain_command c r.interface).illegal) r.commands
    ++ (map (λ (b : ℕ). (addressed r.geometry b r.interface).illegal) r.addresses
    ++ map (λ (b : ℕ). (parameter_addressed b [] r.interface).illegal) r.parameter_addresses)

abbrev pub all_refused : InterfaceRow → List ℕ
all_refused r = map (λ (c : ℕ). 1) (r.commands ++ (r.addresses ++ r.parameter_addresses))

-- the interface after a command from power on, and address bytes
unfoldable pub latching : List ℕ → Interface → Interface
latching [] i = i
latching (b ∷ bs) i = latching bs (addressed small b i)

abbrev pub begun_with : ℕ → List ℕ → Interface
begun_with code bytes = latching bytes (plain_command code powered_on)

-- the address of the first page, and the row of the first block
abbrev pub first_page : List ℕ
first_page = 0 ∷ 0 ∷ 0 ∷ 0 ∷ 0 ∷ []

abbrev pub first_row : List ℕ
first_row = 0 ∷ 0 ∷ 0 ∷ []

-- a whole address given
abbrev pub read_addressed : Interface
read_addressed = begun_with read_code first_page

abbrev pub program_addressed : Interface
program_addressed = begun_with program_code first_page

abbrev pub erase_addressed : Interface
erase_addressed = begun_with erase_code first_row

-- status shown; busy, before 70h and after it
abbrev pub status_is_shown : Interface
status_is_shown = begun_with status_code []

abbrev pub read_busy : Interface
read_busy = started 1 [] read_addressed

abbrev pub program_busy : Interface
program_busy = started 2 [] program_addressed

abbrev pub erase_busy : Interface
erase_busy = started 3 [] erase_addressed

abbrev pub busy_shown : Interface → Interface
busy_shown i = plain_command status_code i

-- ECh sent, and its address byte
abbrev pub parameters_begun : Interface
parameters_begun = begun_with parameter_code []

abbrev pub parameters_busy : Interface
parameters_busy = parameter_addressed 0 [] parameters_begun

-- data output that has come to a column
abbrev pub output_at : ℕ → Interface
output_at column =
    record { phase = output_phase; count = 5; address = 0; first = 0; column = column; operation = 1; busy = 0; failed = 0; loaded = 1; fate = 0; illegal = 0; protected = 0 }

-- every command of 002, Table 5, that the model does not have, and one that is in no table
abbrev pub other_codes : List ℕ
other_codes = 5 ∷ 17 ∷ 21 ∷ 49 ∷ 53 ∷ 63 ∷ 120 ∷ 129 ∷ 133 ∷ 144 ∷ 209 ∷ 224 ∷ 239 ∷ 242 ∷ 243 ∷ 1 ∷ []

-- the commands that begin an operation
abbrev pub starting_codes : List ℕ
starting_codes = read_code ∷ program_code ∷ erase_code ∷ parameter_code ∷ []

abbrev pub interface_rows : List InterfaceRow
interface_rows =
    -- commands that the model does not have
    interface_row powered_on other_codes []
    ∷ interface_row read_addressed other_codes []
    ∷ interface_row program_addressed other_codes []
    ∷ interface_row read_busy other_codes []
    -- address bytes when ready, with status shown and among data out
    ∷ interface_row powered_on [] (0 ∷ [])
    ∷ interface_row status_is_shown [] (0 ∷ [])
    ∷ interface_row (output_at 1) [] (0 ∷ [])
    -- in the middle of an operation another one, 70h and, with the address given, one more byte of it
    ∷ interface_row (begun_with read_code []) (status_code ∷ starting_codes) []
    ∷ interface_row (begun_with program_code []) (status_code ∷ starting_codes) []
    ∷ interface_row (begun_with erase_code []) (status_code ∷ starting_codes) []
    ∷ interface_row read_addressed (status_code ∷ starting_codes) (0 ∷ [])
    ∷ interface_row program_addressed (status_code ∷ starting_codes) (0 ∷ [])
    ∷ interface_row erase_addressed (status_code ∷ starting_codes) (0 ∷ [])
    -- while busy, before 70h and after it
    ∷ interface_row read_busy starting_codes (0 ∷ [])
    ∷ interface_row program_busy starting_codes (0 ∷ [])
    ∷ interface_row erase_busy starting_codes (0 ∷ [])
    ∷ interface_row (busy_shown read_busy) starting_codes (0 ∷ [])
    ∷ interface_row (busy_shown program_busy) starting_codes (0 ∷ [])
    ∷ interface_row (busy_shown erase_busy) starting_codes (0 ∷ [])
    -- after ECh, and while the parameter page is fetched
    ∷ interface_row parameters_begun (status_code ∷ (starting_codes ++ other_codes)) (0 ∷ [])
    ∷ interface_row parameters_busy starting_codes (0 ∷ [])
    ∷ interface_row (busy_shown parameters_busy) starting_codes (0 ∷ [])
    -- the address byte of ECh: not 00h, and anywhere else
    ∷ parameter_row parameters_begun (1 ∷ 32 ∷ 255 ∷ [])
    ∷ parameter_row powered_on (0 ∷ [])
    ∷ parameter_row status_is_shown (0 ∷ [])
    ∷ parameter_row (output_at 0) (0 ∷ [])
    ∷ parameter_row (begun_with read_code []) (0 ∷ [])
    ∷ parameter_row (begun_with program_code []) (0 ∷ [])
    ∷ parameter_row (begun_with erase_code []) (0 ∷ [])
    ∷ parameter_row program_addressed (0 ∷ [])
    ∷ parameter_row read_busy (0 ∷ [])
    ∷ parameter_row parameters_busy (0 ∷ [])
    ∷ parameter_row (busy_shown parameters_busy) (0 ∷ [])
    -- a row or a column outside the geometry, and a geometry outside its limits
    ∷ interface_row (begun_with read_code (0 ∷ 0 ∷ 16 ∷ 0 ∷ [])) [] (0 ∷ [])
    ∷ interface_row (begun_with read_code (0 ∷ 0 ∷ 0 ∷ 0 ∷ [])) [] (1 ∷ [])
    ∷ interface_row (begun_with program_code (48 ∷ 0 ∷ 0 ∷ 0 ∷ [])) [] (0 ∷ [])
    ∷ interface_row (begun_with erase_code (16 ∷ 0 ∷ [])) [] (0 ∷ [])
    ∷ record {
      geometry = record { main = 32; spare = 16; pages = 4; blocks = 4; logical = 3 };
      interface = begun_with read_code (0 ∷ 0 ∷ 0 ∷ 0 ∷ []);
      commands = [];
      addresses = 0 ∷ [];
      parameter_addresses = [];
    }
    ∷ []
