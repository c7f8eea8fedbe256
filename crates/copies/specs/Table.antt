-- The table of invalid blocks: its page 0 and its other pages.
use Rattle.std.specs.Prelude.{ℕ, zero, suc, ◌+◌, ◌-◌, ◌*◌, ◌≤◌, Bool, true, false, cond, List, ◌++◌, eqb, take, drop, replicate}
use Rattle.geometry.specs.declared.Geometry.{Geometry}
use Rattle.cells.specs.Part.{put}
use Rattle.bitmaps.specs.Bitmap.{bit_at, count_bits, clear_from, bitmap_bytes}
use Rattle.pages.specs.Layout.{label_of, bytes_of, number_of, all_ones}
use Rattle.copies.specs.Blocks.{page_in, main_in}

-- a page has room for header and bitmap
pub record Roomy (blocks main : ℕ) : Type 0 where
  pub blocks_least : 1 ≤ blocks
  pub blocks_most : blocks ≤ 4096
  pub room : 8 + bitmap_bytes blocks ≤ main
  pub main_most : main ≤ 4096

-- header: blocks, logical blocks, invalid blocks, offset of the bitmap, each in two bytes
abbrev pub header : ℕ → ℕ → List ℕ → List ℕ
header blocks logical bits =
    bytes_of 2 blocks ++ (bytes_of 2 logical ++ (bytes_of 2 (count_bits bits blocks) ++ bytes_of 2 8))

-- main bytes of page 0: header, bitmap, FFh
unfoldable pub table_page : ℕ → ℕ → ℕ → List ℕ → List ℕ
table_page main blocks logical bits =
    header blocks logical bits
    ++ (take (bitmap_bytes blocks) bits ++ replicate (main - (8 + bitmap_bytes blocks)) 255)

-- the fields and the bitmap of a table's page 0
abbrev pub field_of : List ℕ → ℕ → ℕ
field_of main at = number_of (take 2 (drop at main))

abbrev pub bitmap_of : ℕ → List ℕ → List ℕ
bitmap_of blocks main = take (bitmap_bytes blocks) (drop 8 main)

abbrev pub lists : Geometry → List ℕ → ℕ → Bool
lists g table b = bit_at (bitmap_of g.blocks (main_in g table 0)) b

-- no bit is set for a block that some test picks
unfoldable pub clear_where : (ℕ → Bool) → List ℕ → ℕ → Bool
clear_where test bits zero = true
clear_where test bits (suc n) =
    let less = clear_where test bits n in cond (test n) (cond (bit_at bits n) false less) less

-- page 0 has the layout, its counts and the given geometry
unfoldable pub right_first : ℕ → ℕ → List ℕ → Bool
right_first blocks logical main =
    cond (eqb (field_of main 0) blocks)
    (cond (eqb (field_of main 2) logical)
    (cond (eqb (field_of main 4) (count_bits (bitmap_of blocks main) blocks))
    (cond (eqb (field_of main 6) 8)
    (cond (clear_from (bitmap_of blocks main) blocks (8 * bitmap_bytes blocks - blocks))
    (all_ones (drop (8 + bitmap_bytes blocks) main))
    false)
    false)
    false)
    false)
    false

-- page p of a table: page 0 is labelled with logical block 0 and has the layout, the others are FFh
unfoldable pub right_page : Geometry → ℕ → List ℕ → Bool
right_page g p page =
    cond (eqb p 0)
    (cond (eqb (label_of g.main page).logical 0) (right_first g.blocks g.logical (take g.main page)) false)
    (all_ones (take g.main page))

-- the first n pages
unfoldable pub right_to : Geometry → List ℕ → ℕ → Bool
right_to g block zero = true
right_to g block (suc n) = let less = right_to g block n in cond (right_page g n (page_in g block n)) less false

-- the geometry with another number of logical blocks
abbrev pub with_logical : ℕ → Geometry → Geometry
with_logical n g = record { main = g.main; spare = g.spare; pages = g.pages; blocks = g.blocks; logical = n }

-- the number that a table's page 0 names itself
abbrev pub own_count : Geometry → List ℕ → Geometry
own_count g block = with_logical (field_of (main_in g block 0) 2) g

-- the layout of the first n pages: 1 right for the geometry, 2 right for the number of logical blocks named in page 0 only, 0 neither
abbrev pub layout_to : Geometry → List ℕ → ℕ → ℕ
layout_to g block n = cond (right_to g block n) 1 (cond (right_to (own_count g block) block n) 2 0)

-- one page more
unfoldable pub right_with : Geometry → ℕ → List ℕ → ℕ → ℕ
right_with g p page right =
    cond (eqb right 0) 0
    (cond (right_page g p page) right (cond (right_page (with_logical (field_of (take g.main page) 2) g) p page) 2 0))

-- a buffer that takes the bitmap of page 0, one page more
unfoldable pub bits_with : Geometry → ℕ → List ℕ → List ℕ → List ℕ
bits_with g p page bits = cond (eqb p 0) (put 0 (bitmap_of g.blocks (take g.main page)) bits) bits

-- the whole table; marked tells the blocks with a factory mark
unfoldable pub right_table : Geometry → (ℕ → Bool) → List ℕ → Bool
right_table g marked block =
    cond (right_to g block g.pages) (clear_where marked (bitmap_of g.blocks (main_in g block 0)) g.blocks) false

-- right for the number of logical blocks that it names itself
unfoldable pub laid_table : Geometry → (ℕ → Bool) → List ℕ → Bool
laid_table g marked block = right_table (own_count g block) marked block
