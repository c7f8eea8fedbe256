-- What a quick mount reads of each block: its first and last page, the mark byte of page 1, and the other pages where both are whole.
use Rattle.std.specs.Prelude.{ℕ, zero, suc, ◌+◌, ◌-◌, max, Bool, true, false, cond, List, eqb}
use Rattle.geometry.specs.declared.Geometry.{Geometry}
use Rattle.copies.specs.Blocks.{block_in, is_marked, whole_in, label_in, greatest_to}
use Rattle.copies.specs.Numbers.{PagesRead}
use Rattle.copies.specs.Pick.{Pick, pick}

abbrev pub last_page : Geometry → ℕ
last_page g = g.pages - 1

-- the first and the last page are whole: then the others are read
unfoldable pub ends_whole : Geometry → List ℕ → Bool
ends_whole g block = cond (whole_in g block 0) (whole_in g block (last_page g)) false

-- page i is read whole
unfoldable pub reads_page : Geometry → List ℕ → ℕ → Bool
reads_page g block i = cond (ends_whole g block) true (cond (eqb i 0) true (eqb i (last_page g)))

-- the number on a page, 0 if it is not whole
unfoldable pub number_on : Geometry → List ℕ → ℕ → ℕ
number_on g block i = cond (whole_in g block i) (label_in g block i).number 0

-- whether a page that is read is whole, and the greatest number on one, 0 if none is; of a block without a factory mark
unfoldable pub quick_has : Geometry → List ℕ → Bool
quick_has g block = cond (is_marked g block) false (cond (whole_in g block 0) true (whole_in g block (last_page g)))

unfoldable pub quick_greatest : Geometry → List ℕ → ℕ
quick_greatest g block =
    cond (is_marked g block) 0
    (cond (ends_whole g block) (greatest_to g block g.pages) (max (number_on g block 0) (number_on g block (last_page g))))

-- the greatest of the blocks below n, 0 if none
unfoldable pub quick_below : Geometry → List ℕ → ℕ → ℕ
quick_below g array zero = 0
quick_below g array (suc n) = max (quick_below g array n) (quick_greatest g (block_in g array n))

-- the mount's rule over the pages read: the next number, and the block filled last
unfoldable pub quick_number : Geometry → List ℕ → ℕ
quick_number g array = quick_below g array g.blocks + 1

unfoldable pub quick_last : Geometry → List ℕ → Pick
quick_last g array = pick (λ b. quick_has g (block_in g array b)) (λ b. quick_greatest g (block_in g array b)) g.blocks

-- the pages that count for it: those read that are whole, of unmarked blocks
abbrev pub quick_pages : Geometry → List ℕ → PagesRead
quick_pages g array =
    record {
      blocks = g.blocks;
      pages = g.pages;
      counts = λ b i.
          cond (is_marked g (block_in g array b)) false (cond (reads_page g (block_in g array b) i) (whole_in g (block_in g array b) i) false);
      number = λ b i. (label_in g (block_in g array b) i).number;
    }
