-- What the blocks scanned so far told: marks, complete copies, the current table, the greatest number.
use Rattle.std.specs.Prelude.{ℕ, zero, suc, Bool, true, false, cond, List, ltb, replicate}
use Rattle.geometry.specs.declared.Geometry.{Geometry}
use Rattle.bitmaps.specs.Bitmap.{with_bit}
use Rattle.cells.specs.Part.{put}
use Rattle.pages.specs.Layout.{is_table_kind}
use Rattle.copies.specs.Blocks.{block_in, main_in, is_marked}
use Rattle.scan_summary.specs.Depth.{summary_by}
use Rattle.scan_summary.specs.Summary.{says_complete, says_number}
use Rattle.copies.specs.Table.{bitmap_of, layout_to}
use Rattle.scan_summary.specs.declared.Depth.{Depth}
use Rattle.scan_summary.specs.declared.Summary.{Summary}
use Rattle.scan_found.specs.declared.Found.{Found}

abbrev pub blank_found : Found
blank_found =
    record { any = false; greatest = 0; last = 0; tables = false; table = 0; number = 0; right = 0; bits = replicate 512 0; marked = replicate 512 0 }

-- a factory mark
unfoldable pub mark_noted : ℕ → Summary → Found → Found
mark_noted b s f =
    cond s.marked
    (record { any = f.any; greatest = f.greatest; last = f.last; tables = f.tables; table = f.table; number = f.number; right = f.right; bits = f.bits; marked = with_bit f.marked b })
    f

-- a number that is the first, or greater than those before
abbrev pub is_greater : Summary → Found → Bool
is_greater s f = cond f.any (ltb f.greatest s.greatest) true

abbrev pub with_greatest : ℕ → Summary → Found → Found
with_greatest b s f =
    record { any = true; greatest = s.greatest; last = b; tables = f.tables; table = f.table; number = f.number; right = f.right; bits = f.bits; marked = f.marked }

unfoldable pub greatest_noted : ℕ → Summary → Found → Found
greatest_noted b s f = cond (says_number s) (cond (is_greater s f) (with_greatest b s f) f) f

-- a complete table that is the first, or has a greater number than the one before
abbrev pub is_newer : Summary → Found → Bool
is_newer s f = cond f.tables (ltb f.number s.number) true

abbrev pub with_table : ℕ → Summary → ℕ → List ℕ → Found → Found
with_table b s right bits f =
    record { any = f.any; greatest = f.greatest; last = f.last; tables = true; table = b; number = s.number; right = right; bits = bits; marked = f.marked }

unfoldable pub table_noted : ℕ → Summary → ℕ → List ℕ → Found → Found
table_noted b s right bits f =
    cond (says_complete s) (cond (is_table_kind s.kind) (cond (is_newer s f) (with_table b s right bits f) f) f) f

unfoldable pub noted : ℕ → Summary → ℕ → List ℕ → Found → Found
noted b s right bits f = table_noted b s right bits (greatest_noted b s (mark_noted b s f))

-- the summary by the depth of the scan, the layout as a table, and the bitmap of a block of the array
abbrev pub summary_at : Depth → Geometry → List ℕ → ℕ → Summary
summary_at k g array b = summary_by k g (block_in g array b)

abbrev pub right_at : Geometry → List ℕ → ℕ → ℕ
right_at g array b = layout_to g (block_in g array b) g.pages

abbrev pub bits_at : Geometry → List ℕ → ℕ → List ℕ
bits_at g array b = put 0 (bitmap_of g.blocks (main_in g (block_in g array b) 0)) (replicate 512 0)

-- after the first n blocks of an array
unfoldable pub found_to : Depth → Geometry → List ℕ → ℕ → Found
found_to k g array zero = blank_found
found_to k g array (suc n) =
    let less = found_to k g array n in noted n (summary_at k g array n) (right_at g array n) (bits_at g array n) less

-- the factory marks of the first n blocks of an array
unfoldable pub marks_to : Geometry → List ℕ → ℕ → List ℕ
marks_to g array zero = replicate 512 0
marks_to g array (suc n) =
    let less = marks_to g array n in cond (is_marked g (block_in g array n)) (with_bit less n) less
