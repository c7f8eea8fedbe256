-- What is current on an array, the reading of a logical page, and the refusals of a mount.
use Rattle.std.specs.Prelude.{ℕ, zero, suc, ◌+◌, max, Bool, true, false, cond, not, List, eqb, leb, replicate}
use Rattle.geometry.specs.declared.Geometry.{Geometry}
use Rattle.copies.specs.Blocks.{block_in, is_marked, is_complete, is_table, is_data, is_copy_of, number_in, label_in, has_number, greatest, plain_in}
use Rattle.copies.specs.Pick.{Pick, nothing, at, pick, some_below}
use Rattle.copies.specs.Table.{lists, right_table}

abbrev pub number_at : Geometry → List ℕ → ℕ → ℕ
number_at g array b = number_in g (block_in g array b)

-- the current table: the complete one with the greatest number, the lower block at a tie
unfoldable pub current_table : Geometry → List ℕ → Pick
current_table g array = pick (λ b. is_table g (block_in g array b)) (number_at g array) g.blocks

-- a block that the table does not list
abbrev pub unlisted : Geometry → List ℕ → ℕ → ℕ → Bool
unlisted g array table b = not (lists g (block_in g array table) b)

-- current for a logical block: its complete copy with the greatest number, copies in listed blocks left aside
unfoldable pub current_copy : Geometry → List ℕ → ℕ → ℕ → Pick
current_copy g array table logical =
    pick (λ b. cond (unlisted g array table b) (is_copy_of g logical (block_in g array b)) false) (number_at g array) g.blocks

-- the main bytes of a page of the picked block, FFh if there is none
unfoldable pub page_of : Geometry → List ℕ → ℕ → Pick → List ℕ
page_of g array p nothing = replicate g.main 255
page_of g array p (at b) = plain_in g (block_in g array b) p

-- the kind of the picked block's copy, 0 if there is none
unfoldable pub kind_at : Geometry → List ℕ → Pick → ℕ
kind_at g array nothing = 0
kind_at g array (at b) = (label_in g (block_in g array b) 0).kind

-- the reading of a logical page
abbrev pub reading : Geometry → List ℕ → ℕ → ℕ → ℕ → List ℕ
reading g array table logical p = page_of g array p (current_copy g array table logical)

-- the greatest number on any whole page of an unmarked block below n, 0 if none
unfoldable pub greatest_below : Geometry → List ℕ → ℕ → ℕ
greatest_below g array zero = 0
greatest_below g array (suc n) = max (greatest_below g array n) (greatest g (block_in g array n))

-- the next number: one above the greatest on any whole page of an unmarked block, 1 if none
unfoldable pub next_number : Geometry → List ℕ → ℕ
next_number g array = greatest_below g array g.blocks + 1

-- the block filled last: the lowest that holds the greatest number
unfoldable pub filled_last : Geometry → List ℕ → Pick
filled_last g array =
    pick (λ b. has_number g (block_in g array b)) (λ b. greatest g (block_in g array b)) g.blocks

-- a complete block that the table does not list
abbrev pub counts : Geometry → List ℕ → ℕ → ℕ → Bool
counts g array table b = cond (unlisted g array table b) (is_complete g (block_in g array b)) false

-- such a block below n bears this number
unfoldable pub shares_number : Geometry → List ℕ → ℕ → ℕ → ℕ → Bool
shares_number g array table number n =
    some_below (λ b. cond (counts g array table b) (eqb (number_at g array b) number) false) n

-- such a block is a data copy of a block ≥ N, or bears the number of one below it
unfoldable pub clashes_at : Geometry → List ℕ → ℕ → ℕ → Bool
clashes_at g array table b =
    cond (counts g array table b)
    (cond (cond (is_data g (block_in g array b)) (leb g.logical (label_in g (block_in g array b) 0).logical) false)
    true
    (shares_number g array table (number_at g array b) b))
    false

unfoldable pub clashes : Geometry → List ℕ → ℕ → ℕ → Bool
clashes g array table n = some_below (clashes_at g array table) n

-- a mount's answer on an array, uncut and not silent: 0 done, 4 no table, 5 wrong table, 6 clash
unfoldable pub judge_table : Geometry → List ℕ → Pick → ℕ
judge_table g array nothing = 4
judge_table g array (at t) =
    cond (right_table g (λ b. is_marked g (block_in g array b)) (block_in g array t))
    (cond (lists g (block_in g array t) t) 5 (cond (clashes g array t g.blocks) 6 0))
    5

unfoldable pub mount_answer : Geometry → List ℕ → ℕ
mount_answer g array = judge_table g array (current_table g array)
