-- The reads that a request on the journal makes, and the pages that they give.
use Rattle.std.specs.Prelude.{ℕ, zero, suc, ◌/◌, ◌%◌, cond, List, eqb, ltb, get_or, replicate}
use Rattle.geometry.specs.declared.Geometry.{Geometry}
use Rattle.geometry.specs.Sizes.{row_of}
use Rattle.chip_array.specs.Device.{Setting}
use Rattle.copies.specs.Blocks.{block_in, main_in, formed}
use Rattle.journal.specs.Records.{Pages, room, records}
use Rattle.journal.specs.Takings.{targets, replaced_by}
use Rattle.state.specs.State.{none}
use Rattle.progress.specs.Progress.{Progress, read_on}

-- the block of the copy that page k of the journal's order lies in, by a state's map
abbrev pub block_of : Geometry → List ℕ → ℕ → ℕ
block_of g map k = get_or map (k / g.pages) 0

-- the kind of that copy, by a state's kinds
abbrev pub kind_of : Geometry → List ℕ → ℕ → ℕ
kind_of g kinds k = get_or kinds (k / g.pages) 0

-- the journal's pages as a map and kinds give them on an array; a logical block without a copy reads FFh
unfoldable pub pages_by : Geometry → List ℕ → List ℕ → List ℕ → Pages
pages_by g array map kinds k =
    cond (eqb (block_of g map k) none) (replicate g.main 255)
    (formed (kind_of g kinds k) (k % g.pages) (main_in g (block_in g array (block_of g map k)) (k % g.pages)))

-- the first n bytes of page k are read, where its logical block has a copy
unfoldable pub part_on : Setting → List ℕ → ℕ → ℕ → Progress → Progress
part_on s map k n p =
    cond (eqb (block_of s.geometry map k) none) p
    (read_on s (row_of s.geometry (block_of s.geometry map k) (k % s.geometry.pages)) 0 n p)

-- the main bytes of the first n pages
unfoldable pub pages_on : Setting → List ℕ → ℕ → Progress → Progress
pages_on s map zero p = p
pages_on s map (suc n) p = part_on s map n s.geometry.main (pages_on s map n p)

-- pages read to find where a journal of e records ends: these and the one after them, if there is room for it
abbrev pub reads_for : ℕ → ℕ → ℕ
reads_for e most = cond (ltb e most) (suc e) most

-- the journal read to its end
abbrev pub pass_on : Setting → List ℕ → Pages → Progress → Progress
pass_on s map pages p = pages_on s map (reads_for (records pages (room s.geometry)) (room s.geometry)) p

-- the bytes up to count and price of record k of e, counted from 0, if it is in force: a whitened page is undone from its start
unfoldable pub amount_on : Setting → List ℕ → Pages → ℕ → ℕ → Progress → Progress
amount_on s map pages e k p = cond (replaced_by (targets pages) e (suc k)) p (part_on s map k 9 p)

-- of the first n
unfoldable pub amounts_on : Setting → List ℕ → Pages → ℕ → ℕ → Progress → Progress
amounts_on s map pages e zero p = p
amounts_on s map pages e (suc n) p = amount_on s map pages e n (amounts_on s map pages e n p)
