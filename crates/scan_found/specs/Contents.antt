-- The copies that a scan found: kind, logical block and number of each complete block; clashes, the map and the kinds of its copies.
use Rattle.std.specs.Prelude.{ℕ, zero, suc, Bool, true, false, cond, List, [], ◌∷◌, ◌++◌, eqb, leb, ltb, get_or, set}
use Rattle.geometry.specs.declared.Geometry.{Geometry}
use Rattle.bitmaps.specs.Bitmap.{bit_at}
use Rattle.pages.specs.Layout.{is_data_kind}
use Rattle.copies.specs.Current.{current_copy, kind_at}
use Rattle.copies.specs.Pick.{Pick, nothing, at, some_below}
use Rattle.scan_summary.specs.Summary.{says_complete}
use Rattle.scan_summary.specs.declared.Depth.{Depth}
use Rattle.scan_summary.specs.declared.Summary.{Summary}
use Rattle.scan_found.specs.Found.{summary_at}

-- kind 0 stands for a block that is not complete
pub record Contents : Type 0 where
  pub kinds : List ℕ
  pub logicals : List ℕ
  pub numbers : List ℕ

abbrev pub contents : List ℕ → List ℕ → List ℕ → Contents
contents k l n = record { kinds = k; logicals = l; numbers = n }

unfoldable pub copy_noted : ℕ → Summary → Contents → Contents
copy_noted b s c =
    cond (says_complete s) (contents (set c.kinds b s.kind) (set c.logicals b s.logical) (set c.numbers b s.number))
    c

-- after the first n blocks of an array
unfoldable pub contents_to : Depth → Geometry → List ℕ → Contents → ℕ → Contents
contents_to k g array c zero = c
contents_to k g array c (suc n) = let less = contents_to k g array c n in copy_noted n (summary_at k g array n) less

-- a complete block that the bitmap does not list
unfoldable pub counted : Contents → List ℕ → ℕ → Bool
counted c bits b = cond (bit_at bits b) false (cond (eqb (get_or c.kinds b 0) 0) false true)

-- such a block bears this number
unfoldable pub bears : Contents → List ℕ → ℕ → ℕ → Bool
bears c bits number b = cond (counted c bits b) (eqb (get_or c.numbers b 0) number) false

-- a data copy of a logical block ≥ N
unfoldable pub past_last : Contents → ℕ → ℕ → Bool
past_last c logical b = cond (is_data_kind (get_or c.kinds b 0)) (leb logical (get_or c.logicals b 0)) false

unfoldable pub clashing : Contents → List ℕ → ℕ → ℕ → Bool
clashing c bits logical b =
    cond (counted c bits b) (cond (past_last c logical b) true (some_below (bears c bits (get_or c.numbers b 0)) b)) false

-- the entry that block b replaces: an empty one, or that of a block with a lower number
unfoldable pub replaces : Contents → ℕ → ℕ → ℕ → Bool
replaces c blocks old b = cond (ltb old blocks) (ltb (get_or c.numbers old 0) (get_or c.numbers b 0)) true

-- a counted data copy of a logical block below N
unfoldable pub is_candidate : Contents → List ℕ → ℕ → ℕ → Bool
is_candidate c bits logical b =
    cond (counted c bits b) (cond (is_data_kind (get_or c.kinds b 0)) (ltb (get_or c.logicals b 0) logical) false) false

unfoldable pub entry_noted : Contents → List ℕ → ℕ → ℕ → ℕ → List ℕ → List ℕ
entry_noted c bits blocks logical b map =
    cond (is_candidate c bits logical b)
    (cond (replaces c blocks (get_or map (get_or c.logicals b 0) 0) b) (set map (get_or c.logicals b 0) b) map)
    map

-- the map after the first n blocks
unfoldable pub map_to : Contents → List ℕ → ℕ → ℕ → List ℕ → ℕ → List ℕ
map_to c bits blocks logical map zero = map
map_to c bits blocks logical map (suc n) =
    let less = map_to c bits blocks logical map n in entry_noted c bits blocks logical n less

-- the kind of an entry's block, 0 where the entry is empty
abbrev pub kind_for : Contents → ℕ → ℕ
kind_for c entry = cond (ltb entry 4096) (get_or c.kinds entry 0) 0

-- the kinds of the copies that the first n entries of the map have
unfoldable pub kinds_to : Contents → List ℕ → List ℕ → ℕ → List ℕ
kinds_to c map kinds zero = kinds
kinds_to c map kinds (suc n) = let less = kinds_to c map kinds n in set less n (kind_for c (get_or map n 0))

-- an entry of the map: the block picked, FFFFh for none
unfoldable pub entry_of : Pick → ℕ
entry_of nothing = 65535
entry_of (at b) = b

-- the list of the first n values
unfoldable pub tabulate : (ℕ → ℕ) → ℕ → List ℕ
tabulate f zero = []
tabulate f (suc n) = tabulate f n ++ (f n ∷ [])

-- what the current copies of an array under a table are to a function of the picked block, a value for each past the last logical block
abbrev pub copies_of : (Pick → ℕ) → ℕ → Geometry → List ℕ → ℕ → List ℕ
copies_of f past g array table = tabulate (λ l. cond (ltb l g.logical) (f (current_copy g array table l)) past) 4096

-- their blocks, and their kinds; entries past the last logical block are empty, and of kind 0
unfoldable pub map_in : Geometry → List ℕ → ℕ → List ℕ
map_in g array table = copies_of entry_of 65535 g array table

unfoldable pub kinds_of : Geometry → List ℕ → ℕ → List ℕ
kinds_of g array table = copies_of (kind_at g array) 0 g array table
