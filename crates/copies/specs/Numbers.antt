-- The next number and the block filled last, said of the pages that a mount reads.
use Rattle.std.specs.Prelude.{ℕ, ◌-◌, ◌<◌, Bool, true, false, cond, List, ◌⊎◌, ◌≡◌}
use Rattle.geometry.specs.declared.Geometry.{Geometry}
use Rattle.copies.specs.Blocks.{block_in, is_marked, whole_in, label_in}
use Rattle.copies.specs.Pick.{Pick, nothing, at}

-- which pages count, and the number of each: page i of block b
pub record PagesRead : Type 0 where
  pub blocks : ℕ
  pub pages : ℕ
  pub counts : ℕ → ℕ → Bool
  pub number : ℕ → ℕ → ℕ

-- any whole page of an unmarked block
abbrev pub whole_pages : Geometry → List ℕ → PagesRead
whole_pages g array =
    record {
      blocks = g.blocks;
      pages = g.pages;
      counts = λ b i. cond (is_marked g (block_in g array b)) false (whole_in g (block_in g array b) i);
      number = λ b i. (label_in g (block_in g array b) i).number;
    }

-- block b holds number m: one of its pages counts and bears it
pub record Holds (r : PagesRead) (b m : ℕ) : Type 0 where
  pub page : ℕ
  pub within : page < r.pages
  pub counts : r.counts b page ≡ true
  pub bears : r.number b page ≡ m

pub record Held (r : PagesRead) (m : ℕ) : Type 0 where
  pub block : ℕ
  pub below : block < r.blocks
  pub holds : Holds r block m

abbrev pub NoneHeld : PagesRead → Type 0
NoneHeld r = (b m : ℕ) → b < r.blocks → Holds r b m → ⊥

-- the next number is one above the greatest that is held, 1 if none is
pub record IsNext (r : PagesRead) (n : ℕ) : Type 0 where
  pub above : (b m : ℕ) → b < r.blocks → Holds r b m → m < n
  pub one_above : Held r (n - 1) ⊎ (NoneHeld r × (n ≡ 1))

-- the lowest block that holds number m
pub record Lowest (r : PagesRead) (m b : ℕ) : Type 0 where
  pub below : b < r.blocks
  pub holds : Holds r b m
  pub lower : (k : ℕ) → k < b → Holds r k m → ⊥

-- with next number n, the block that holds the one below it, the lower of two, was filled last
abbrev pub IsLast : PagesRead → ℕ → Pick → Type 0
IsLast r n nothing = NoneHeld r
IsLast r n (at b) = Lowest r (n - 1) b
