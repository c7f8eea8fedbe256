-- What the pages tell that a quick mount reads of a block: the first, the last, the mark byte of page 1, and then the others where both are whole.
use Rattle.std.specs.Prelude.{ℕ, zero, suc, ◌-◌, true, cond, List, eqb}
use Rattle.geometry.specs.declared.Geometry.{Geometry}
use Rattle.copies.specs.Blocks.{page_in, mark_byte}
use Rattle.copies.specs.Quick.{last_page, ends_whole}
use Rattle.scan_summary.specs.Summary.{blank_summary, stepped}
use Rattle.scan_summary.specs.declared.Summary.{Summary}

-- after the mark byte of a page alone
unfoldable pub marking : ℕ → Summary → Summary
marking byte s =
    record { marked = cond (eqb byte 255) s.marked true; complete = s.complete; kind = s.kind; logical = s.logical; number = s.number; any = s.any; greatest = s.greatest }

unfoldable pub ends_summed : Geometry → List ℕ → Summary
ends_summed g block =
    marking (mark_byte g block 1) (stepped g.main (last_page g) (page_in g block (last_page g)) (stepped g.main 0 (page_in g block 0) blank_summary))

-- pages 1 to n after these
unfoldable pub middle_summed : Geometry → List ℕ → ℕ → Summary
middle_summed g block zero = ends_summed g block
middle_summed g block (suc n) = stepped g.main (suc n) (page_in g block (suc n)) (middle_summed g block n)

unfoldable pub quick_summed : Geometry → List ℕ → Summary
quick_summed g block = cond (ends_whole g block) (middle_summed g block (g.pages - 2)) (ends_summed g block)
