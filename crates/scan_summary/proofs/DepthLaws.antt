-- A scan of either depth tells of every block what the definitions say. Assumes nothing.
use Prim.Native.Nat.{ℕ, suc, ◌≤◌, ◌<◌, max}
use mathlib.Core.Bool.{true, false, cond}
use mathlib.Core.List.{List}
use mathlib.Core.Path.{◌≡◌, refl}
use native.Mathlib.Omega.{arith}
use denote.Enum.Declared.{tag_of}
use Rattle.geometry.specs.declared.Geometry.{Geometry}
use Rattle.geometry.specs.Limits.{Valid}
use Rattle.copies.specs.Blocks.{block_in, is_marked, is_complete}
use Rattle.copies.specs.Current.{number_at, greatest_below, filled_last}
use Rattle.copies.specs.Pick.{pick}
use Rattle.copies.specs.Quick.{quick_below, quick_last}
use Rattle.copies.proofs.CompleteLaws.{complete_number}
use Rattle.copies.proofs.NumberLaws.{none-greatest, greatest_in}
use Rattle.copies.proofs.QuickLaws.{none_quick, quick_number_fact, quick_in}
use Rattle.scan_summary.specs.Depth.{summary_by, has_by, greatest_by, below_by, last_by}
use Rattle.scan_summary.specs.Summary.{says_complete, says_number}
use Rattle.scan_summary.specs.declared.Depth.{Depth}
use Rattle.scan_summary.specs.declared.Depth.TheVariants.{Full, Quick}
use Rattle.scan_summary.proofs.BlockLaws as block
use Rattle.scan_summary.specs.contracts.Depth.{the_type}
use Rattle.scan_summary.proofs.BlockLaws.{Labelled}
use Rattle.scan_summary.proofs.QuickLaws.{quick_marked, quick_complete, quick_label, quick_has_fact, quick_greatest_fact}

module _ (g : Geometry) (three : 3 ≤ g.pages) (x : List ℕ) where
  pub says_marked : (k : Depth) → (summary_by k g x).marked ≡ is_marked g x
  unfolding summary_by
  says_marked Full = block.says_marked g x (omega arith)
  says_marked Quick = quick_marked g x three

  pub says_complete_fact : (k : Depth) → says_complete (summary_by k g x) ≡ is_complete g x
  unfolding summary_by
  says_complete_fact Full = block.says_complete_fact g x (omega arith)
  says_complete_fact Quick = quick_complete g x three

  pub complete_label : (k : Depth) → is_complete g x ≡ true → Labelled g x (summary_by k g x)
  unfolding summary_by
  complete_label Full = block.complete_label g x (omega arith)
  complete_label Quick = quick_label g x three

  pub says_number_fact : (k : Depth) → says_number (summary_by k g x) ≡ has_by k g x
  unfolding summary_by has_by
  says_number_fact Full = block.says_number_fact g x (omega arith)
  says_number_fact Quick = quick_has_fact g x three

  pub says_greatest : (k : Depth) → has_by k g x ≡ true → (summary_by k g x).greatest ≡ greatest_by k g x
  unfolding summary_by has_by greatest_by
  says_greatest Full = block.says_greatest g x (omega arith)
  says_greatest Quick = quick_greatest_fact g x three

-- a block of which no page read is whole
pub none_by : (k : Depth) (g : Geometry) (x : List ℕ) → has_by k g x ≡ false → greatest_by k g x ≡ 0
unfolding has_by greatest_by
none_by Full g x f = none-greatest g x f
none_by Quick g x f = none_quick g x f

-- the greatest number, block by block
pub below_zero : (k : Depth) (g : Geometry) (array : List ℕ) → below_by k g array 0 ≡ 0
unfolding below_by greatest_below quick_below
below_zero Full g array = refl
below_zero Quick g array = refl

pub below_next : (k : Depth) (g : Geometry) (array : List ℕ) (n : ℕ) → below_by k g array (suc n) ≡ max (below_by k g array n) (greatest_by k g (block_in g array n))
unfolding below_by greatest_by greatest_below quick_below
below_next Full g array n = refl
below_next Quick g array n = refl

-- the number of a complete copy is none above it
pub copy_below : (k : Depth) (g : Geometry) → Valid g → (array : List ℕ) (b : ℕ) → b < g.blocks → is_complete g (block_in g array b) ≡ true → number_at g array b ≤ below_by k g array g.blocks
unfolding below_by
copy_below Full g v array b h c = omega (arith, complete_number g v (block_in g array b) c, greatest_in g array g.blocks b h)
copy_below Quick g v array b h c =
    omega (arith, quick_number_fact g (omega (arith, v.pages_least)) (block_in g array b) c, quick_in g array g.blocks b h)

-- the block filled last is picked from what was read
pub last_picked : (k : Depth) (g : Geometry) (array : List ℕ) → last_by k g array ≡ pick (λ b. has_by k g (block_in g array b)) (λ b. greatest_by k g (block_in g array b)) g.blocks
unfolding last_by has_by greatest_by filled_last quick_last
last_picked Full g array = refl
last_picked Quick g array = refl

-- a depth by the number of the variant
pub full_by_tag : (k : Depth) → tag_of the_type k ≡ 0 → k ≡ Full
full_by_tag Full h = refl
full_by_tag Quick h = absurd (omega (arith, h))

pub quick_by_tag : (k : Depth) → tag_of the_type k ≡ 1 → k ≡ Quick
quick_by_tag Full h = absurd (omega (arith, h))
quick_by_tag Quick h = refl
