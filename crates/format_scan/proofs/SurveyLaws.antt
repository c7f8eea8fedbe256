-- What a formatting takes over from a scan is what the definitions on the array say. Assumes nothing.
use Prim.Native.Nat.{ℕ, zero, suc, ◌≤◌, ◌<◌}
use mathlib.Core.Bool.{Bool, true, false, cond, false≢true}
use mathlib.Core.List.{List}
use mathlib.Core.Logic.{⊎_elim}
use mathlib.Core.Path.{◌≡◌, refl, sym, subst}
use native.Mathlib.Omega.{arith}
use lib.Dec.{eqb}
use lib.ListN.{length, replicate}
use Rattle.geometry.specs.declared.Geometry.{Geometry}
use Rattle.geometry.specs.Limits.{Valid}
use Rattle.geometry.specs.Sizes.{chip_size}
use Rattle.bitmaps.specs.Bitmap.{bit_at, never_both}
use Rattle.copies.specs.Blocks.{block_in, main_in, is_marked}
use Rattle.copies.specs.Carried.{carried_by}
use Rattle.copies.proofs.CarriedLaws.{right_names}
use Rattle.copies.specs.Current.{current_table, greatest_below}
use Rattle.copies.specs.Pick.{nothing, at}
use Rattle.copies.specs.Table.{bitmap_of, clear_where, lists, with_logical, own_count, right_to, right_table, laid_table}
use Rattle.scan_summary.specs.Depth.{below_by}
use Rattle.scan_summary.specs.declared.Depth.TheVariants.{Full}
use Rattle.chip_array.specs.Device.{Setting}
use Rattle.bus.specs.Line.{Line}
use Rattle.scan.proofs.ChipLaws.{Through}
use Rattle.scan_summary.specs.declared.Depth.{Depth}
use Rattle.scan_found.specs.Contents.{Contents, contents_to, entry_of}
use Rattle.scan_found.specs.Found.{found_to, bits_at, right_at, marks_to}
use Rattle.scan_found.specs.declared.Found.{Found}
use Rattle.scan_found.proofs.FoundLaws.{found_marked, found_greatest, kept, Chosen, Missing, table_found}
use Rattle.mount.proofs.MountLaws.{bit_of, clear_is, table_below}
use Rattle.format_scan.specs.Survey.{survey, carries, survey_of, list_bits, surveyed}

-- a table that is right is laid out as well, so either layout will do
layouts : (a l c o : Bool) → (a ≡ true → l ≡ true) → cond (eqb (cond a 1 (cond l 2 0)) 0) false (cond c (cond o false true) false) ≡ cond (cond l c false) (cond o false true) false
layouts true true c o i = refl
layouts true false c o i = absurd (false≢true (i refl))
layouts false true c o i = refl
layouts false false c o i = refl

-- right for the geometry, so right for the number that it names
right_own : (g : Geometry) (block : List ℕ) (n : ℕ) → 0 < n → right_to g block n ≡ true → right_to (own_count g block) block n ≡ true
right_own g block zero h t = absurd (omega (arith, h))
right_own g block (suc n) h t =
    subst (λ (k : ℕ). right_to (with_logical k g) block (suc n) ≡ true) (sym (right_names g block n t)) t

-- the pick that a test leaves, and what is taken over
carried_arms : (g : Geometry) (array marked : List ℕ) (t greatest : ℕ) (a b : Bool)
    → cond (cond a (cond b false true) false) (survey marked (bits_at g array t) t greatest) (survey marked (replicate 512 0) 65535 greatest)
    ≡ survey marked (list_bits g array (cond a (cond b nothing (at t)) nothing)) (entry_of (cond a (cond b nothing (at t)) nothing)) greatest
unfolding list_bits entry_of
carried_arms g array marked t greatest true true = refl
carried_arms g array marked t greatest true false = refl
carried_arms g array marked t greatest false b = refl

module _ (g : Geometry) (v : Valid g) (array : List ℕ) (long : length array ≡ chip_size g) where
  three : 3 ≤ g.pages
  three = omega (arith, v.pages_least)

  abbrev f : Found
  f = found_to Full g array g.blocks

  abbrev marks : ℕ → Bool
  marks b = is_marked g (block_in g array b)

  carries_table : (t : ℕ) → t < g.blocks
      → cond (eqb (right_at g array t) 0) false (cond (never_both (marks_to g array g.blocks) (bits_at g array t) g.blocks) (cond (bit_at (bits_at g array t) t) false true) false)
      ≡ cond (laid_table g marks (block_in g array t)) (cond (lists g (block_in g array t) t) false true) false
  unfolding laid_table right_table
  carries_table t h =
      rw (clear_is Full g v array long t h, bit_of Full g v array long t h t h)
      (layouts (right_to g (block_in g array t) g.pages) (right_to (own_count g (block_in g array t)) (block_in g array t) g.pages)
      (clear_where marks (bitmap_of g.blocks (main_in g (block_in g array t) 0)) g.blocks) (lists g (block_in g array t) t)
      (right_own g (block_in g array t) g.pages (omega (arith, three))))

  picked : Chosen Full g three array g.blocks (kept f) → current_table g array ≡ at f.table
  unfolding current_table
  picked c = c.is_picked

  missing : Missing Full g three array g.blocks (kept f) → current_table g array ≡ nothing
  unfolding current_table
  missing m = m.none_picked

  found_chosen : Chosen Full g three array g.blocks (kept f) → survey_of g f ≡ surveyed g array
  unfolding survey_of carries carried_by below_by
  found_chosen c =
      let here = picked c in
      let below = table_below Full g v array long f.table here in
      rw (c.tables_one, c.right_is, c.bits_are, found_marked Full g three array g.blocks, found_greatest Full g three array g.blocks, here, carries_table f.table below)
      (carried_arms g array (marks_to g array g.blocks) f.table (greatest_below g array g.blocks) (laid_table g marks (block_in g array f.table)) (lists g (block_in g array f.table) f.table))

  found_missing : Missing Full g three array g.blocks (kept f) → survey_of g f ≡ surveyed g array
  unfolding survey_of carries carried_by list_bits entry_of below_by
  found_missing m =
      rw (m.tables_none, found_marked Full g three array g.blocks, found_greatest Full g three array g.blocks, missing m)

  pub survey_found : survey_of g f ≡ surveyed g array
  survey_found = ⊎_elim found_missing found_chosen (table_found Full g three array g.blocks)

-- a scan that keeps no contents
pub keeps_none : {depth : Depth} {s : Setting} {l m : Line} {n : ℕ} {found : Found} {before after : Contents} → Through depth s l m n found before after
    → Through depth s l m n found before (contents_to depth s.geometry l.chip.array before n)
keeps_none {depth} {s} {l} {m} {n} {found} {before} r = subst (Through depth s l m n found before) r.contents_are r
