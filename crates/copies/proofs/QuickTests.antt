-- What a quick mount reads and finds, computed on the small chip: 32 main and 16 spare bytes, 4 pages, 4 blocks, 2 logical blocks. Assumes nothing.
use Prim.Native.Nat.{ℕ}
use mathlib.Core.Bool.{true, false}
use mathlib.Core.List.{List, [], ◌∷◌, ◌++◌}
use mathlib.Core.Path.{◌≡◌, refl}
use lib.Count.{ones, ones_in}
use lib.ListN.{replicate, set}
use Rattle.geometry.specs.declared.Geometry.{Geometry}
use Rattle.bitmaps.specs.Bitmap.{bit_at, count_bits}
use Rattle.pages.specs.Check.{zero_bits}
use Rattle.pages.specs.Layout.{whole, all_ones, stored_check, counted_check, kind_of, data_kind, table_kind, number_width, is_data_kind, is_table_kind, label_of, number_of, bytes_of, label_bytes, encoded, label}
use Rattle.copies.specs.Blocks.{is_marked, agrees, complete_to, is_complete, any_to, greatest_to, has_number, greatest}
use Rattle.copies.specs.Current.{greatest_below, next_number, filled_last}
use Rattle.copies.specs.Pick.{at, better, pick}
use Rattle.copies.specs.Quick.{ends_whole, reads_page, number_on, quick_has, quick_greatest, quick_below, quick_number, quick_last}
use Rattle.copies.specs.Table.{table_page}

abbrev small : Geometry
small = record { main = 32; spare = 16; pages = 4; blocks = 4; logical = 2 }

abbrev erased : List ℕ
erased = replicate 48 255

abbrev page : ℕ → ℕ → List ℕ
page i number = encoded 16 (label data_kind 1 i number) (replicate 32 165)

abbrev empty : List ℕ
empty = erased ++ (erased ++ (erased ++ erased))

-- a table under number 1; a block of which only pages 1 and 2 are whole, under number 4
abbrev gap : List ℕ
gap =
    (encoded 16 (label table_kind 0 0 1) (table_page 32 4 2 (0 ∷ []))
    ++ (encoded 16 (label table_kind 0 1 1) (replicate 32 255)
    ++ (encoded 16 (label table_kind 0 2 1) (replicate 32 255) ++ encoded 16 (label table_kind 0 3 1) (replicate 32 255))))
    ++ ((erased ++ (page 1 4 ++ (page 2 4 ++ erased))) ++ (empty ++ empty))

-- a full mount goes on from 5, after block 1
full_next : next_number small gap ≡ 5
unfolding whole all_ones stored_check counted_check kind_of number_width is_data_kind is_table_kind label_of number_of bytes_of label_bytes encoded zero_bits ones ones_in bit_at count_bits is_marked any_to greatest_to has_number greatest table_page greatest_below next_number
full_next = refl

full_last : filled_last small gap ≡ at 1
unfolding whole all_ones stored_check counted_check kind_of number_width is_data_kind is_table_kind label_of number_of bytes_of label_bytes encoded zero_bits ones ones_in bit_at count_bits is_marked any_to greatest_to has_number greatest better pick table_page filled_last
full_last = refl

-- a quick one from 2, after block 0
quick_next : quick_number small gap ≡ 2
unfolding whole all_ones stored_check counted_check kind_of number_width is_data_kind is_table_kind label_of number_of bytes_of label_bytes encoded zero_bits ones ones_in bit_at count_bits is_marked greatest_to ends_whole number_on quick_greatest quick_below quick_number table_page
quick_next = refl

quick_last_lem : quick_last small gap ≡ at 0
unfolding whole all_ones stored_check counted_check kind_of number_width is_data_kind is_table_kind label_of number_of bytes_of label_bytes encoded zero_bits ones ones_in bit_at count_bits is_marked greatest_to better pick ends_whole number_on quick_has quick_greatest quick_last table_page
quick_last_lem = refl

-- a block with whole ends and a page between that is not: all its pages are read, and it is not complete
broken_read : reads_page small (page 0 3 ++ (set (page 1 3) 0 167 ++ (page 2 3 ++ page 3 3))) 2 ≡ true
unfolding whole all_ones stored_check counted_check kind_of number_width is_data_kind is_table_kind label_of number_of bytes_of label_bytes encoded zero_bits ones ones_in ends_whole reads_page
broken_read = refl

broken_block : is_complete small (page 0 3 ++ (set (page 1 3) 0 167 ++ (page 2 3 ++ page 3 3))) ≡ false
unfolding whole all_ones stored_check counted_check kind_of number_width is_data_kind is_table_kind label_of number_of bytes_of label_bytes encoded zero_bits ones ones_in is_marked agrees complete_to is_complete
broken_block = refl

-- where the last page is not whole, page 2 is not read
short_read : reads_page small (page 0 3 ++ (page 1 3 ++ (page 2 3 ++ erased))) 2 ≡ false
unfolding whole all_ones stored_check counted_check kind_of number_width is_data_kind is_table_kind label_of number_of bytes_of label_bytes encoded zero_bits ones ones_in ends_whole reads_page
short_read = refl
