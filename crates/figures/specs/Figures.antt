-- The bench figures: what the definitions give in each starred case, beside what the paper says.
use Rattle.std.specs.Prelude.{ℕ, ◌*◌, cond, List, [], ◌∷◌, ◌++◌, get_or, replicate, set}
use Rattle.geometry.specs.declared.Geometry.{Geometry}
use Rattle.geometry.specs.Sizes.{row_of, row_bytes, column_bytes}
use Rattle.cells.specs.Part.{put}
use Rattle.chip_interface.specs.Interface.{powered_on}
use Rattle.chip_array.specs.Device.{Device, Setting, device, setting}
use Rattle.pages.specs.Layout.{label, encoded, stored_check, whole, data_kind, table_kind}
use Rattle.copies.specs.Blocks.{block_in, page_in, formed}
use Rattle.copies.specs.Current.{mount_answer}
use Rattle.state.specs.State.{blank}
use Rattle.state.specs.declared.State.{State}
use Rattle.request.specs.Call.{Result}
use Rattle.fill.specs.Fill.{table_main}
use Rattle.format.specs.Format.{formatting}

-- the small chip, and the part of the data sheet
abbrev pub small : Geometry
small = record { main = 32; spare = 16; pages = 4; blocks = 4; logical = 2 }

abbrev pub part : Geometry
part = record { main = 2048; spare = 128; pages = 64; blocks = 4096; logical = 4094 }

-- a call with these fates whose mask lets nothing through
abbrev pub call : List ℕ → Setting
call fates = setting small (replicate 192 0) fates

-- a formatting of the small chip with these fates, of ten thousand cycles allowed
abbrev pub formatted : List ℕ → Result
formatted fates = formatting (call fates) (device powered_on (replicate 768 255) (replicate 48 255) (replicate 4 0)) 10000 (blank 0)

-- answer and cycles
abbrev pub bench : Result → List ℕ
bench r = r.answer ∷ r.sent ∷ []

-- the state that it hands back
abbrev pub formatted_state : State
formatted_state =
    record { status = 1; table = 0; last = 0; number = 1; marked = replicate 512 0; invalid = replicate 512 0; map = replicate 4096 65535; kinds = replicate 4096 0 }

-- a data page, all FFh, of logical block 0, page 0, number 2: of kind 44h, with a number of four bytes, of kind 64h, with one of eight, and of
-- kind 6Ch, whitened; and each with byte 4 of its spare bytes raised to 01h
abbrev pub narrow_page : List ℕ
narrow_page = encoded 16 (label 68 0 0 2) (replicate 32 255)

abbrev pub plain_page : List ℕ
plain_page = encoded 16 (label 100 0 0 2) (replicate 32 255)

abbrev pub data_page : List ℕ
data_page = encoded 16 (label data_kind 0 0 2) (formed data_kind 0 (replicate 32 255))

abbrev pub raised_page : List ℕ → List ℕ
raised_page page = set page 36 1

-- page 0 of the table that a formatting leaves in block 0
abbrev pub table_page : List ℕ
table_page = page_in small (block_in small (formatted []).chip.array 0) 0

-- a figure: what the definitions give, and what the paper says
pub record Figure : Type 0 where
  pub given : List ℕ
  pub paper : List ℕ

abbrev pub figure : List ℕ → List ℕ → Figure
figure g p = record { given = g; paper = p }

-- 1 for whole, 0 for not
abbrev pub whole_as : List ℕ → ℕ
whole_as page = cond (whole 32 page) 1 0

-- the starred cases, in the paper's order
abbrev pub figures : List Figure
figures =
    figure (row_bytes (row_of part 1023 63)) (255 ∷ 255 ∷ 0 ∷ [])
    ∷ figure (row_bytes (row_of part 1024 0)) (0 ∷ 0 ∷ 1 ∷ [])
    ∷ figure (row_bytes (row_of part 4095 63)) (255 ∷ 255 ∷ 3 ∷ [])
    ∷ figure (column_bytes 2048) (0 ∷ 8 ∷ [])
    ∷ figure (stored_check 32 narrow_page ∷ whole_as narrow_page ∷ []) (61 ∷ 1 ∷ [])
    ∷ figure (stored_check 32 plain_page ∷ whole_as plain_page ∷ []) (92 ∷ 1 ∷ [])
    ∷ figure (stored_check 32 data_page ∷ whole_as data_page ∷ []) (172 ∷ 1 ∷ [])
    ∷ figure (whole_as (raised_page narrow_page) ∷ whole_as (raised_page plain_page) ∷ whole_as (raised_page data_page) ∷ []) (0 ∷ 0 ∷ 0 ∷ [])
    ∷ figure (stored_check 32 table_page ∷ []) (160 ∷ [])
    ∷ figure (whole_as (replicate 48 255) ∷ []) (0 ∷ [])
    ∷ figure ((formatted (255 ∷ [])).answer ∷ []) (0 ∷ [])
    ∷ figure ((formatted (256 ∷ [])).answer ∷ []) (10 ∷ [])
    ∷ []

-- both columns
unfoldable pub given : List Figure → List (List ℕ)
given [] = []
given (f ∷ fs) = f.given ∷ given fs

unfoldable pub paper : List Figure → List (List ℕ)
paper [] = []
paper (f ∷ fs) = f.paper ∷ paper fs

-- a block whose pages bear one label, with these main bytes on page 0 and FFh on the others
abbrev pub block_with : ℕ → ℕ → ℕ → List ℕ → List ℕ
block_with kind logical number first =
    encoded 16 (label kind logical 0 number) first
    ++ (encoded 16 (label kind logical 1 number) (replicate 32 255)
    ++ (encoded 16 (label kind logical 2 number) (replicate 32 255) ++ encoded 16 (label kind logical 3 number) (replicate 32 255)))

-- a table under a number that lists the blocks whose bits one byte has set
abbrev pub table_block : ℕ → ℕ → List ℕ
table_block number bits = block_with table_kind 0 number (table_main small (bits ∷ []) 0)

-- an erased array with these bytes in a block
abbrev pub array_with : ℕ → List ℕ → List ℕ
array_with block bytes = put (block * 192) bytes (replicate 768 255)

-- the array with a table under number 1 in block 0, and with a data copy in a block, A5h in page 0 and FFh in the others
abbrev pub table_array : List ℕ
table_array = array_with 0 (table_block 1 0)

abbrev pub copy_array : ℕ → ℕ → ℕ → List ℕ
copy_array block logical number = put (block * 192) (block_with data_kind logical number (replicate 32 165)) table_array

abbrev pub chip_with : List ℕ → Device
chip_with array = device powered_on array (replicate 48 255) (replicate 4 0)

-- the erased chip with its write-protect line low
abbrev pub protected_chip : Device
protected_chip =
    device (record { phase = 0; count = 0; address = 0; first = 0; column = 0; operation = 0; busy = 0; failed = 0; loaded = 0; fate = 0; illegal = 0; protected = 1 })
    (replicate 768 255) (replicate 48 255) (replicate 4 0)

-- tables with one number in blocks 1 and 2
abbrev pub tied_array : List ℕ → List ℕ
tied_array lower = put 192 (lower ++ table_block 3 0) (replicate 768 255)

-- a formatting for N logical blocks of a chip with a table under a number in block 0, whose first erase fails and takes no
-- effect; in the second form the first program of a table fails too
abbrev pub formatted_from : ℕ → ℕ → List ℕ → Result
formatted_from n number fates =
    formatting (setting (record { main = 32; spare = 16; pages = 4; blocks = 4; logical = n }) (replicate 192 0) fates) (chip_with (array_with 0 (table_block number 0))) 10000 (blank 0)

abbrev pub erase_fails : List ℕ
erase_fails = replicate 16 0 ++ (65536 ∷ [])

abbrev pub program_fails : List ℕ
program_fails = erase_fails ++ (replicate 8 0 ++ (65536 ∷ []))

-- answers where conditions meet: mounts of two tables with one number (a clash; done where the lower lists the other; the
-- lower is current and wrong), of a table that is labelled with logical block 1, and of one that lists a marked block
abbrev pub mount_rows : List Figure
mount_rows =
    figure (mount_answer small (tied_array (table_block 3 0)) ∷ []) (6 ∷ [])
    ∷ figure (mount_answer small (tied_array (table_block 3 4)) ∷ []) (0 ∷ [])
    ∷ figure (mount_answer small (tied_array (block_with table_kind 0 3 (replicate 32 255))) ∷ []) (5 ∷ [])
    ∷ figure (mount_answer small (array_with 0 (block_with table_kind 1 1 (table_main small (0 ∷ []) 0))) ∷ []) (5 ∷ [])
    ∷ figure (mount_answer small (set (array_with 0 (table_block 1 8)) 608 0) ∷ []) (5 ∷ [])
    ∷ []

-- formattings: number 18,446,744,073,709,551,615 is used, the next fill gets 9, and so does a first fill above it; 8 comes before 9
-- where three blocks are left for N = 2
abbrev pub format_rows : List Figure
format_rows =
    figure ((formatted_from 1 18446744073709551614 erase_fails).answer ∷ (formatted_from 1 18446744073709551614 erase_fails).state.number ∷ []) (0 ∷ 18446744073709551615 ∷ [])
    ∷ figure ((formatted_from 1 18446744073709551614 program_fails).answer ∷ []) (9 ∷ [])
    ∷ figure ((formatted_from 1 18446744073709551615 erase_fails).answer ∷ []) (9 ∷ [])
    ∷ figure ((formatted_from 2 18446744073709551615 erase_fails).answer ∷ []) (8 ∷ [])
    ∷ []

-- a formatting for one logical block of a chip whose current table, under number 7 in block 0, was filled for two and lists the blocks whose bits one byte
-- has set
abbrev pub formatted_again : ℕ → List ℕ → Result
formatted_again bits fates =
    formatting (setting (record { main = 32; spare = 16; pages = 4; blocks = 4; logical = 1 }) (replicate 192 0) fates) (chip_with (array_with 0 (table_block 7 bits))) 10000 (blank 0)

-- answer, cycles, the table's block, its number and the first byte of its bitmap
abbrev pub again : Result → List ℕ
again r = r.answer ∷ r.sent ∷ r.state.table ∷ r.state.number ∷ get_or r.state.invalid 0 0 ∷ []
