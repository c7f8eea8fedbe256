-- The definitions computed on the small chip: 32 main and 16 spare bytes, 4 pages, 4 blocks, 2 logical blocks. Assumes nothing.
use Prim.Native.Nat.{ℕ}
use mathlib.Core.Bool.{true, false}
use mathlib.Core.List.{List, [], ◌∷◌, ◌++◌}
use mathlib.Core.Path.{◌≡◌, refl}
use lib.Count.{ones, ones_in}
use lib.ListN.{replicate, set}
use Rattle.geometry.specs.declared.Geometry.{Geometry}
use Rattle.cells.specs.Part.{put}
use Rattle.bitmaps.specs.Bitmap.{bit_at, with_bit, count_bits, clear_from}
use Rattle.whitening.specs.Stream.{shifted, stepped, bits_given, bytes_given}
use Rattle.whitening.specs.Whitened.{xored}
use Rattle.pages.specs.Check.{zero_bits}
use Rattle.pages.specs.Layout.{is_white_kind, whole, all_ones, stored_check, counted_check, kind_of, data_kind, table_kind, number_width, is_data_kind, is_table_kind, label_of, number_of, bytes_of, label_bytes, encoded, label}
use Rattle.copies.specs.Blocks.{formed, is_marked, agrees, complete_to, is_complete, is_table, is_data, is_copy_of, any_to, greatest_to, has_number, greatest}
use Rattle.copies.specs.Pick.{nothing, at, better, pick, some_below}
use Rattle.copies.specs.Table.{table_page, clear_where, right_first, right_page, right_to, right_table}
use Rattle.copies.specs.Current.{current_table, current_copy, page_of, reading, greatest_below, next_number, filled_last, shares_number, clashes_at, clashes, judge_table, mount_answer}

abbrev small : Geometry
small = record { main = 32; spare = 16; pages = 4; blocks = 4; logical = 2 }

abbrev blank : List ℕ
blank = replicate 192 255

-- a block whose pages bear one label, with these main bytes on page 0 and FFh on the others
abbrev copy_with : ℕ → ℕ → ℕ → List ℕ → List ℕ
copy_with kind logical number first =
    encoded 16 (label kind logical 0 number) (formed kind 0 first)
    ++ (encoded 16 (label kind logical 1 number) (formed kind 1 (replicate 32 255))
    ++ (encoded 16 (label kind logical 2 number) (formed kind 2 (replicate 32 255)) ++ encoded 16 (label kind logical 3 number) (formed kind 3 (replicate 32 255))))

-- a table that lists the blocks whose bits are set in one byte
abbrev table_with : ℕ → ℕ → List ℕ
table_with number bits = copy_with table_kind 0 number (table_page 32 4 2 (bits ∷ []))

-- the chip after formatting, and with a copy of logical block 1 in block 2 beside it
abbrev formatted : List ℕ
formatted = table_with 1 0 ++ (blank ++ (blank ++ blank))

abbrev written : ℕ → List ℕ
written bits = table_with 1 bits ++ (blank ++ (copy_with data_kind 1 2 (replicate 32 165) ++ blank))

-- table page 0 after formatting, number 1, has check 160
table_check : stored_check 32 (encoded 16 (label table_kind 0 0 1) (table_page 32 4 2 (0 ∷ []))) ≡ 160
unfolding whole all_ones stored_check counted_check kind_of number_width is_data_kind is_table_kind label_of number_of bytes_of label_bytes encoded zero_bits ones ones_in bit_at with_bit count_bits is_marked agrees complete_to is_complete is_table is_data is_copy_of any_to greatest_to has_number greatest better pick table_page clear_from clear_where right_first right_page right_to right_table current_table current_copy page_of greatest_below next_number filled_last some_below shares_number clashes_at clashes judge_table mount_answer put formed is_white_kind xored bytes_given bits_given stepped shifted
table_check = refl

-- an erased chip has no table
erased_answer : mount_answer small (blank ++ (blank ++ (blank ++ blank))) ≡ 4
unfolding whole all_ones stored_check counted_check kind_of number_width is_data_kind is_table_kind label_of number_of bytes_of label_bytes encoded zero_bits ones ones_in bit_at with_bit count_bits is_marked agrees complete_to is_complete is_table is_data is_copy_of any_to greatest_to has_number greatest better pick table_page clear_from clear_where right_first right_page right_to right_table current_table current_copy page_of greatest_below next_number filled_last some_below shares_number clashes_at clashes judge_table mount_answer put formed is_white_kind xored bytes_given bits_given stepped shifted
erased_answer = refl

-- a formatted chip is mounted
formatted_answer : mount_answer small formatted ≡ 0
unfolding whole all_ones stored_check counted_check kind_of number_width is_data_kind is_table_kind label_of number_of bytes_of label_bytes encoded zero_bits ones ones_in bit_at with_bit count_bits is_marked agrees complete_to is_complete is_table is_data is_copy_of any_to greatest_to has_number greatest better pick table_page clear_from clear_where right_first right_page right_to right_table current_table current_copy page_of greatest_below next_number filled_last some_below shares_number clashes_at clashes judge_table mount_answer put formed is_white_kind xored bytes_given bits_given stepped shifted
formatted_answer = refl

-- its table is in block 0
formatted_table : current_table small formatted ≡ at 0
unfolding whole all_ones stored_check counted_check kind_of number_width is_data_kind is_table_kind label_of number_of bytes_of label_bytes encoded zero_bits ones ones_in bit_at with_bit count_bits is_marked agrees complete_to is_complete is_table is_data is_copy_of any_to greatest_to has_number greatest better pick table_page clear_from clear_where right_first right_page right_to right_table current_table current_copy page_of greatest_below next_number filled_last some_below shares_number clashes_at clashes judge_table mount_answer put formed is_white_kind xored bytes_given bits_given stepped shifted
formatted_table = refl

-- the next number is 2
formatted_next : next_number small formatted ≡ 2
unfolding whole all_ones stored_check counted_check kind_of number_width is_data_kind is_table_kind label_of number_of bytes_of label_bytes encoded zero_bits ones ones_in bit_at with_bit count_bits is_marked agrees complete_to is_complete is_table is_data is_copy_of any_to greatest_to has_number greatest better pick table_page clear_from clear_where right_first right_page right_to right_table current_table current_copy page_of greatest_below next_number filled_last some_below shares_number clashes_at clashes judge_table mount_answer put formed is_white_kind xored bytes_given bits_given stepped shifted
formatted_next = refl

-- block 0 was filled last
formatted_last : filled_last small formatted ≡ at 0
unfolding whole all_ones stored_check counted_check kind_of number_width is_data_kind is_table_kind label_of number_of bytes_of label_bytes encoded zero_bits ones ones_in bit_at with_bit count_bits is_marked agrees complete_to is_complete is_table is_data is_copy_of any_to greatest_to has_number greatest better pick table_page clear_from clear_where right_first right_page right_to right_table current_table current_copy page_of greatest_below next_number filled_last some_below shares_number clashes_at clashes judge_table mount_answer put formed is_white_kind xored bytes_given bits_given stepped shifted
formatted_last = refl

-- a copy is current
written-copy : current_copy small (written 0) 0 1 ≡ at 2
unfolding whole all_ones stored_check counted_check kind_of number_width is_data_kind is_table_kind label_of number_of bytes_of label_bytes encoded zero_bits ones ones_in bit_at with_bit count_bits is_marked agrees complete_to is_complete is_table is_data is_copy_of any_to greatest_to has_number greatest better pick table_page clear_from clear_where right_first right_page right_to right_table current_table current_copy page_of greatest_below next_number filled_last some_below shares_number clashes_at clashes judge_table mount_answer put formed is_white_kind xored bytes_given bits_given stepped shifted
written-copy = refl

-- its page is read
written_read : reading small (written 0) 0 1 0 ≡ replicate 32 165
unfolding whole all_ones stored_check counted_check kind_of number_width is_data_kind is_table_kind label_of number_of bytes_of label_bytes encoded zero_bits ones ones_in bit_at with_bit count_bits is_marked agrees complete_to is_complete is_table is_data is_copy_of any_to greatest_to has_number greatest better pick table_page clear_from clear_where right_first right_page right_to right_table current_table current_copy page_of formed is_white_kind greatest_below next_number filled_last some_below shares_number clashes_at clashes judge_table mount_answer put xored bytes_given bits_given stepped shifted
written_read = refl

-- copies of the kinds before, 64h and 44h, are read as they stand
plain_read_lem : reading small (table_with 1 0 ++ (blank ++ (copy_with 100 1 2 (replicate 32 165) ++ blank))) 0 1 0 ≡ replicate 32 165
unfolding whole all_ones stored_check counted_check kind_of number_width is_data_kind is_table_kind label_of number_of bytes_of label_bytes encoded zero_bits ones ones_in bit_at with_bit count_bits is_marked agrees complete_to is_complete is_table is_data is_copy_of any_to greatest_to has_number greatest better pick table_page clear_from clear_where right_first right_page right_to right_table current_table current_copy page_of formed is_white_kind greatest_below next_number filled_last some_below shares_number clashes_at clashes judge_table mount_answer put xored bytes_given bits_given stepped shifted
plain_read_lem = refl

narrow_read : reading small (table_with 1 0 ++ (blank ++ (copy_with 68 1 2 (replicate 32 165) ++ blank))) 0 1 0 ≡ replicate 32 165
unfolding whole all_ones stored_check counted_check kind_of number_width is_data_kind is_table_kind label_of number_of bytes_of label_bytes encoded zero_bits ones ones_in bit_at with_bit count_bits is_marked agrees complete_to is_complete is_table is_data is_copy_of any_to greatest_to has_number greatest better pick table_page clear_from clear_where right_first right_page right_to right_table current_table current_copy page_of formed is_white_kind greatest_below next_number filled_last some_below shares_number clashes_at clashes judge_table mount_answer put xored bytes_given bits_given stepped shifted
narrow_read = refl

-- a logical block without a copy reads FFh
written_none : reading small (written 0) 0 0 3 ≡ replicate 32 255
unfolding whole all_ones stored_check counted_check kind_of number_width is_data_kind is_table_kind label_of number_of bytes_of label_bytes encoded zero_bits ones ones_in bit_at with_bit count_bits is_marked agrees complete_to is_complete is_table is_data is_copy_of any_to greatest_to has_number greatest better pick table_page clear_from clear_where right_first right_page right_to right_table current_table current_copy page_of greatest_below next_number filled_last some_below shares_number clashes_at clashes judge_table mount_answer put formed is_white_kind xored bytes_given bits_given stepped shifted
written_none = refl

-- a copy in a listed block is left aside
listed_copy : current_copy small (written 4) 0 1 ≡ nothing
unfolding whole all_ones stored_check counted_check kind_of number_width is_data_kind is_table_kind label_of number_of bytes_of label_bytes encoded zero_bits ones ones_in bit_at with_bit count_bits is_marked agrees complete_to is_complete is_table is_data is_copy_of any_to greatest_to has_number greatest better pick table_page clear_from clear_where right_first right_page right_to right_table current_table current_copy page_of greatest_below next_number filled_last some_below shares_number clashes_at clashes judge_table mount_answer put formed is_white_kind xored bytes_given bits_given stepped shifted
listed_copy = refl

-- a table that lists its own block is wrong
own_block : mount_answer small (table_with 1 1 ++ (blank ++ (blank ++ blank))) ≡ 5
unfolding whole all_ones stored_check counted_check kind_of number_width is_data_kind is_table_kind label_of number_of bytes_of label_bytes encoded zero_bits ones ones_in bit_at with_bit count_bits is_marked agrees complete_to is_complete is_table is_data is_copy_of any_to greatest_to has_number greatest better pick table_page clear_from clear_where right_first right_page right_to right_table current_table current_copy page_of greatest_below next_number filled_last some_below shares_number clashes_at clashes judge_table mount_answer put formed is_white_kind xored bytes_given bits_given stepped shifted
own_block = refl

-- two complete blocks with one number clash
one_number : mount_answer small (table_with 2 0 ++ (blank ++ (copy_with data_kind 1 2 (replicate 32 165) ++ blank))) ≡ 6
unfolding whole all_ones stored_check counted_check kind_of number_width is_data_kind is_table_kind label_of number_of bytes_of label_bytes encoded zero_bits ones ones_in bit_at with_bit count_bits is_marked agrees complete_to is_complete is_table is_data is_copy_of any_to greatest_to has_number greatest better pick table_page clear_from clear_where right_first right_page right_to right_table current_table current_copy page_of greatest_below next_number filled_last some_below shares_number clashes_at clashes judge_table mount_answer put formed is_white_kind xored bytes_given bits_given stepped shifted
one_number = refl

-- of two tables with one number the lower is current
tie : current_table small (blank ++ (table_with 3 0 ++ (table_with 3 0 ++ blank))) ≡ at 1
unfolding whole all_ones stored_check counted_check kind_of number_width is_data_kind is_table_kind label_of number_of bytes_of label_bytes encoded zero_bits ones ones_in bit_at with_bit count_bits is_marked agrees complete_to is_complete is_table is_data is_copy_of any_to greatest_to has_number greatest better pick table_page clear_from clear_where right_first right_page right_to right_table current_table current_copy page_of greatest_below next_number filled_last some_below shares_number clashes_at clashes judge_table mount_answer put formed is_white_kind xored bytes_given bits_given stepped shifted
tie = refl

-- both layouts on one chip: a table of kind 54h, copies of logical block 0 of kind 44h in block 1 and of 6Ch in block 2
abbrev both_layouts : ℕ → ℕ → List ℕ
both_layouts narrow wide =
    copy_with 84 0 1 (table_page 32 4 2 (0 ∷ [])) ++ (copy_with 68 0 narrow (replicate 32 90) ++ (copy_with data_kind 0 wide (replicate 32 165) ++ blank))

narrow_table : mount_answer small (both_layouts 2 3) ≡ 0
unfolding whole all_ones stored_check counted_check kind_of number_width is_data_kind is_table_kind label_of number_of bytes_of label_bytes encoded zero_bits ones ones_in bit_at with_bit count_bits is_marked agrees complete_to is_complete is_table is_data is_copy_of any_to greatest_to has_number greatest better pick table_page clear_from clear_where right_first right_page right_to right_table current_table current_copy page_of greatest_below next_number filled_last some_below shares_number clashes_at clashes judge_table mount_answer put formed is_white_kind xored bytes_given bits_given stepped shifted
narrow_table = refl

-- the greater number is current, whichever layout it has
wide_current : current_copy small (both_layouts 2 3) 0 0 ≡ at 2
unfolding whole all_ones stored_check counted_check kind_of number_width is_data_kind is_table_kind label_of number_of bytes_of label_bytes encoded zero_bits ones ones_in bit_at with_bit count_bits is_marked agrees complete_to is_complete is_table is_data is_copy_of any_to greatest_to has_number greatest better pick table_page clear_from clear_where right_first right_page right_to right_table current_table current_copy page_of greatest_below next_number filled_last some_below shares_number clashes_at clashes judge_table mount_answer put formed is_white_kind xored bytes_given bits_given stepped shifted
wide_current = refl

narrow_current : current_copy small (both_layouts 3 2) 0 0 ≡ at 1
unfolding whole all_ones stored_check counted_check kind_of number_width is_data_kind is_table_kind label_of number_of bytes_of label_bytes encoded zero_bits ones ones_in bit_at with_bit count_bits is_marked agrees complete_to is_complete is_table is_data is_copy_of any_to greatest_to has_number greatest better pick table_page clear_from clear_where right_first right_page right_to right_table current_table current_copy page_of greatest_below next_number filled_last some_below shares_number clashes_at clashes judge_table mount_answer put formed is_white_kind xored bytes_given bits_given stepped shifted
narrow_current = refl

-- also where one has no room for the other's
past_narrow : current_copy small (both_layouts 4294967295 4294967296) 0 0 ≡ at 2
unfolding whole all_ones stored_check counted_check kind_of number_width is_data_kind is_table_kind label_of number_of bytes_of label_bytes encoded zero_bits ones ones_in bit_at with_bit count_bits is_marked agrees complete_to is_complete is_table is_data is_copy_of any_to greatest_to has_number greatest better pick table_page clear_from clear_where right_first right_page right_to right_table current_table current_copy page_of greatest_below next_number filled_last some_below shares_number clashes_at clashes judge_table mount_answer put formed is_white_kind xored bytes_given bits_given stepped shifted
past_narrow = refl

-- one number in both clashes, and of two tables with one number the lower is current
layouts_clash : mount_answer small (both_layouts 2 2) ≡ 6
unfolding whole all_ones stored_check counted_check kind_of number_width is_data_kind is_table_kind label_of number_of bytes_of label_bytes encoded zero_bits ones ones_in bit_at with_bit count_bits is_marked agrees complete_to is_complete is_table is_data is_copy_of any_to greatest_to has_number greatest better pick table_page clear_from clear_where right_first right_page right_to right_table current_table current_copy page_of greatest_below next_number filled_last some_below shares_number clashes_at clashes judge_table mount_answer put formed is_white_kind xored bytes_given bits_given stepped shifted
layouts_clash = refl

layouts_tie : current_table small (blank ++ (copy_with 84 0 3 (table_page 32 4 2 (0 ∷ [])) ++ (table_with 3 0 ++ blank))) ≡ at 1
unfolding whole all_ones stored_check counted_check kind_of number_width is_data_kind is_table_kind label_of number_of bytes_of label_bytes encoded zero_bits ones ones_in bit_at with_bit count_bits is_marked agrees complete_to is_complete is_table is_data is_copy_of any_to greatest_to has_number greatest better pick table_page clear_from clear_where right_first right_page right_to right_table current_table current_copy page_of greatest_below next_number filled_last some_below shares_number clashes_at clashes judge_table mount_answer put formed is_white_kind xored bytes_given bits_given stepped shifted
layouts_tie = refl

-- a copy of a logical block that is none clashes
past_last_lem : mount_answer small (table_with 1 0 ++ (blank ++ (copy_with data_kind 2 2 (replicate 32 165) ++ blank))) ≡ 6
unfolding whole all_ones stored_check counted_check kind_of number_width is_data_kind is_table_kind label_of number_of bytes_of label_bytes encoded zero_bits ones ones_in bit_at with_bit count_bits is_marked agrees complete_to is_complete is_table is_data is_copy_of any_to greatest_to has_number greatest better pick table_page clear_from clear_where right_first right_page right_to right_table current_table current_copy page_of greatest_below next_number filled_last some_below shares_number clashes_at clashes judge_table mount_answer put formed is_white_kind xored bytes_given bits_given stepped shifted
past_last_lem = refl

-- a block whose last page alone is whole is not complete
last_page_lem : is_complete small (set (copy_with data_kind 1 2 (replicate 32 165)) 0 167) ≡ false
unfolding whole all_ones stored_check counted_check kind_of number_width is_data_kind is_table_kind label_of number_of bytes_of label_bytes encoded zero_bits ones ones_in bit_at with_bit count_bits is_marked agrees complete_to is_complete is_table is_data is_copy_of any_to greatest_to has_number greatest better pick table_page clear_from clear_where right_first right_page right_to right_table current_table current_copy page_of greatest_below next_number filled_last some_below shares_number clashes_at clashes judge_table mount_answer put formed is_white_kind xored bytes_given bits_given stepped shifted
last_page_lem = refl

-- a mark in page 1 is a factory mark
mark_page_1 : is_marked small (set blank 80 0) ≡ true
unfolding whole all_ones stored_check counted_check kind_of number_width is_data_kind is_table_kind label_of number_of bytes_of label_bytes encoded zero_bits ones ones_in bit_at with_bit count_bits is_marked agrees complete_to is_complete is_table is_data is_copy_of any_to greatest_to has_number greatest better pick table_page clear_from clear_where right_first right_page right_to right_table current_table current_copy page_of greatest_below next_number filled_last some_below shares_number clashes_at clashes judge_table mount_answer put formed is_white_kind xored bytes_given bits_given stepped shifted
mark_page_1 = refl
