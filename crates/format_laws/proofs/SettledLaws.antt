-- On a settled array the table is current, lists what it should, and a mount succeeds. Assumes nothing.
use Prim.Native.Nat.{ℕ, zero, suc, ◌≤◌, ◌<◌}
use mathlib.Core.Bool.{true, false, cond, false≢true}
use mathlib.Core.List.{List}
use mathlib.Core.Logic.{◌⊎◌, inl, inr, ⊎_elim}
use mathlib.Core.Path.{◌≡◌, sym, ap, subst, ◌∙◌}
use native.Mathlib.Omega.{arith}
use borrow.Table.Steps.{cases}
use borrow.Author.Tests.{eqb-true, eqb-false, ne_eqb, not-true}
use lib.Dec.{eqb}
use lib.ListN.{length, replicate, length-replicate, get_or-replicate}
use Rattle.geometry.specs.declared.Geometry.{Geometry}
use Rattle.geometry.specs.Limits.{Valid}
use Rattle.geometry.specs.Sizes.{page_size, chip_size}
use Rattle.bools.proofs.BoolLaws.{both}
use Rattle.cells.specs.Bytes.{Bytes}
use Rattle.bitmaps.specs.Bitmap.{bit_at}
use Rattle.bitmaps.proofs.BitmapLaws.{Bitmap}
use Rattle.copies.specs.Blocks.{block_in, page_in, whole_in, is_marked, is_complete, is_table, is_data, is_copy_of, greatest_to, has_number, greatest}
use Rattle.copies.specs.Current as current
use Rattle.copies.specs.Current.{current_table, current_copy, filled_last, number_at, counts, unlisted, shares_number, clashes_at, clashes, mount_answer, reading, greatest_below, kind_at}
use Rattle.copies.specs.Pick.{nothing, at}
use Rattle.copies.specs.Table.{lists}
use Rattle.copies.proofs.PickLaws.{picked_is, none_below}
use Rattle.copies.proofs.CompleteLaws.{complete_pages, table_complete, data_complete, copy_data}
use Rattle.copies.proofs.NumberLaws.{greatest_least, greatest_in}
use Rattle.scan_found.specs.Contents.{entry_of, map_in, kinds_of}
use Rattle.scan_found.specs.Found.{bits_at}
use Rattle.fill.specs.Fill.{table_copy, table_main, copy_page}
use Rattle.damage.proofs.CopyLaws.{erased_unwhole, erased_greatest}
use Rattle.mount_laws.proofs.StateLaws.{mounts_by, map_told, kinds_told}
use Rattle.state.specs.State.{number_end}
use Rattle.format_laws.proofs.TableBlockLaws as held

-- a table under a number lists the invalid blocks; every other unmarked block is erased, or is listed and has no whole
-- page with that number or a greater one, or is the former table's: block `former`, none if it is not on the chip
pub record Settled (g : Geometry) (array invalid : List ℕ) (table former number : ℕ) : Type 0 where
  pub is_valid : Valid g
  pub array_long : length array ≡ chip_size g
  pub invalid_bits : Bitmap g.blocks invalid
  pub table_below : table < g.blocks
  pub table_valid : bit_at invalid table ≡ false
  pub number_some : 0 < number
  pub number_fits : number < number_end
  pub table_pages_fact : (i : ℕ) → i < g.pages → page_in g (block_in g array table) i ≡ copy_page g (table_copy number) i (table_main g invalid i)
  pub erased : (b : ℕ) → b < g.blocks → (b ≡ table → ⊥) → (b ≡ former → ⊥) → is_marked g (block_in g array b) ≡ false → bit_at invalid b ≡ false
      → (i : ℕ) → i < g.pages → page_in g (block_in g array b) i ≡ replicate (page_size g) 255
  pub listed : (b : ℕ) → b < g.blocks → is_marked g (block_in g array b) ≡ false → bit_at invalid b ≡ true → greatest_to g (block_in g array b) g.pages < number
  pub apart : (b : ℕ) → b < g.blocks → is_marked g (block_in g array b) ≡ true → bit_at invalid b ≡ false
  pub former_lower : former < g.blocks → greatest_to g (block_in g array former) g.pages < number
  pub former_no_data : former < g.blocks → is_data g (block_in g array former) ≡ false

module _ {g : Geometry} {array invalid : List ℕ} {table former number : ℕ} (r : Settled g array invalid table former number) where
  abbrev row : ℕ → List ℕ
  row b = block_in g array b

  v : Valid g
  v = r.is_valid

  zero_below : 0 < g.pages
  zero_below = omega (arith, v.pages_least)

  -- the table's block
  pub table_whole : (i : ℕ) → i < g.pages → whole_in g (row table) i ≡ true
  table_whole = held.table_whole g v invalid r.invalid_bits number r.number_fits (row table) r.table_pages_fact

  pub page_bytes : (i : ℕ) → i < g.pages → Bytes (page_in g (row table) i)
  page_bytes = held.page_bytes g v invalid r.invalid_bits number r.number_fits (row table) r.table_pages_fact

  pub lists_invalid : (b : ℕ) → b < g.blocks → lists g (row table) b ≡ bit_at invalid b
  lists_invalid = held.lists_invalid g v invalid r.invalid_bits number r.number_fits (row table) r.table_pages_fact

  pub number_is : number_at g array table ≡ number
  number_is = held.number_is g v invalid r.invalid_bits number r.number_fits (row table) r.table_pages_fact

  pub table_no_data : is_data g (row table) ≡ false
  table_no_data = held.table_no_data g v invalid r.invalid_bits number r.number_fits (row table) r.table_pages_fact

  pub bitmap_back : bits_at g array table ≡ invalid
  bitmap_back = held.bitmap_back g v invalid r.invalid_bits number r.number_fits (row table) r.table_pages_fact

  pub table_greatest : greatest_to g (row table) g.pages ≡ number
  table_greatest = held.table_greatest g v invalid r.invalid_bits number r.number_fits (row table) r.table_pages_fact

  -- nothing unlisted is complete but the table and the former one
  pub only_table : (b : ℕ) → b < g.blocks → is_complete g (row b) ≡ true → bit_at invalid b ≡ false → (b ≡ table) ⊎ (b ≡ former)
  only_table b h t f =
      cases (eqb b table)
      (λ e. inl (eqb-true b table e))
      (λ e.
      cases (eqb b former)
      (λ u. inr (eqb-true b former u))
      (λ u.
      let blank = erased_unwhole g v (row b) (r.erased b h (eqb-false b table e) (eqb-false b former u) (complete_pages g (row b) t).unmarked f) 0 zero_below in
      absurd (false≢true (sym blank ∙ (complete_pages g (row b) t).is_whole 0 zero_below))))

  -- every other block's numbers are lower
  lower : (b : ℕ) → b < g.blocks → (b ≡ table → ⊥) → is_marked g (row b) ≡ false → greatest_to g (row b) g.pages < number
  lower b h x m =
      cases (eqb b former)
      (λ e.
      let at-former = eqb-true b former e in
      subst (λ (k : ℕ). greatest_to g (row k) g.pages < number) (sym at-former) (r.former_lower (omega (arith, h, at-former))))
      (λ e.
      cases (bit_at invalid b)
      (λ t. r.listed b h m t)
      (λ f. omega (arith, r.number_some, erased_greatest g v (row b) (r.erased b h x (eqb-false b former e) m f))))

  lower_complete : (b : ℕ) → b < g.blocks → (b ≡ table → ⊥) → is_complete g (row b) ≡ true → number_at g array b < number
  lower_complete b h x t =
      omega (arith, lower b h x (complete_pages g (row b) t).unmarked, greatest_least g (row b) g.pages 0 zero_below ((complete_pages g (row b) t).is_whole 0 zero_below))

  -- the current table
  pub current_is : current_table g array ≡ at table
  unfolding current_table
  current_is =
      sym (picked_is (λ b. is_table g (row b)) (number_at g array) g.blocks (at table)
      (record {
        below = r.table_below;
        passes = held.is_table_fact g v invalid r.invalid_bits number r.number_fits (row table) r.table_pages_fact;
        greatest = λ k h t.
            cases (eqb k table)
            (λ e. omega (arith, ap (number_at g array) (eqb-true k table e)))
            (λ e. omega (arith, number_is, lower_complete k h (eqb-false k table e) (table_complete g (row k) t)));
        lowest = λ k h t. omega (arith, number_is, lower_complete k (omega (arith, h, r.table_below)) (λ e. omega (arith, e, h)) (table_complete g (row k) t));
      }))

  -- the numbers of unmarked blocks
  table_has : has_number g (row table) ≡ true
  unfolding has_number
  table_has = rw (held.table_unmarked g v invalid r.invalid_bits number r.number_fits (row table) r.table_pages_fact) (held.table_any g v invalid r.invalid_bits number r.number_fits (row table) r.table_pages_fact)

  greatest_table : greatest g (row table) ≡ number
  unfolding greatest
  greatest_table = rw (held.table_unmarked g v invalid r.invalid_bits number r.number_fits (row table) r.table_pages_fact) table_greatest

  greatest_other : (b : ℕ) → b < g.blocks → (b ≡ table → ⊥) → greatest g (row b) < number
  unfolding greatest
  greatest_other b h x = cases (is_marked g (row b)) (λ t. rw t r.number_some) (λ f. rw f (lower b h x f))

  pub last_is : filled_last g array ≡ at table
  unfolding filled_last
  last_is =
      sym (picked_is (λ b. has_number g (row b)) (λ b. greatest g (row b)) g.blocks (at table)
      (record {
        below = r.table_below;
        passes = table_has;
        greatest = λ k h t.
            cases (eqb k table)
            (λ e. omega (arith, ap (λ (b : ℕ). greatest g (row b)) (eqb-true k table e)))
            (λ e. omega (arith, greatest_table, greatest_other k h (eqb-false k table e)));
        lowest = λ k h t. omega (arith, greatest_table, greatest_other k (omega (arith, h, r.table_below)) (λ e. omega (arith, e, h)));
      }))

  all_most : (n : ℕ) → n ≤ g.blocks → greatest_below g array n ≤ number
  unfolding greatest_below
  all_most zero h = omega arith
  all_most (suc n) h =
      let less = all_most n (omega (arith, h)) in
      cases (eqb n table)
      (λ e. omega (arith, less, ap (λ (b : ℕ). greatest g (row b)) (eqb-true n table e), greatest_table))
      (λ e. omega (arith, less, greatest_other n (omega (arith, h)) (eqb-false n table e)))

  pub greatest_is : greatest_below g array g.blocks ≡ number
  greatest_is =
      omega (arith, all_most g.blocks (omega arith), greatest_in g array g.blocks table r.table_below, greatest_table)

  -- no data copy is current
  unlisted_bit : (b : ℕ) → b < g.blocks → unlisted g array table b ≡ true → bit_at invalid b ≡ false
  unlisted_bit b h t = sym (lists_invalid b h) ∙ not-true (lists g (row table) b) t

  no_data : (b : ℕ) → b < g.blocks → is_complete g (row b) ≡ true → bit_at invalid b ≡ false → is_data g (row b) ≡ false
  no_data b h t f =
      ⊎_elim
      (λ e. ap (λ (k : ℕ). is_data g (row k)) e ∙ table_no_data)
      (λ e. ap (λ (k : ℕ). is_data g (row k)) e ∙ r.former_no_data (omega (arith, h, e)))
      (only_table b h t f)

  pub no_copy : (logical : ℕ) → current_copy g array table logical ≡ nothing
  unfolding current_copy
  no_copy logical =
      sym (picked_is (λ b. cond (unlisted g array table b) (is_copy_of g logical (row b)) false) (number_at g array) g.blocks nothing
      (λ k h. cases (cond (unlisted g array table k) (is_copy_of g logical (row k)) false) (λ t. absurd (none_passes k h t)) (λ f. f)))
    where
      none_passes : (k : ℕ) → k < g.blocks → cond (unlisted g array table k) (is_copy_of g logical (row k)) false ≡ true → ⊥
      none_passes k h t =
          let parts = both (unlisted g array table k) (is_copy_of g logical (row k)) t in
          let copy = (copy_data g logical (row k) parts.1).0 in
          false≢true (sym (no_data k h (data_complete g (row k) copy) (unlisted_bit k h parts.0)) ∙ copy)

  -- no clash
  counted : (b : ℕ) → b < g.blocks → counts g array table b ≡ true → (is_complete g (row b) ≡ true) × (bit_at invalid b ≡ false)
  counted b h t = let parts = both (unlisted g array table b) (is_complete g (row b)) t in (parts.1, unlisted_bit b h parts.0)

  differ : (b c : ℕ) → b < g.blocks → c < b → counts g array table b ≡ true → counts g array table c ≡ true → number_at g array c ≡ number_at g array b → ⊥
  differ b c h l t u same =
      let below : c < g.blocks = omega (arith, h, l) in
      ⊎_elim
      (λ e. omega (arith, lower_complete c below (λ x. omega (arith, x, e, l)) (counted c below u).0, same, ap (number_at g array) e, number_is))
      (λ e.
      ⊎_elim
      (λ w. omega (arith, lower_complete b h (λ x. omega (arith, x, w, l)) (counted b h t).0, same, ap (number_at g array) w, number_is))
      (λ w. omega (arith, w, e, l))
      (only_table c below (counted c below u).0 (counted c below u).1))
      (only_table b h (counted b h t).0 (counted b h t).1)

  not_shared : (b : ℕ) → b < g.blocks → counts g array table b ≡ true → shares_number g array table (number_at g array b) b ≡ false
  unfolding shares_number
  not_shared b h t =
      none_below (λ c. cond (counts g array table c) (eqb (number_at g array c) (number_at g array b)) false) b
      (λ c l. cases (counts g array table c) (λ u. rw u (ne_eqb (number_at g array c) (number_at g array b) (differ b c h l t u))) (λ u. rw u))

  no_clash_at : (b : ℕ) → b < g.blocks → clashes_at g array table b ≡ false
  unfolding clashes_at
  no_clash_at b h =
      cases (counts g array table b)
      (λ t. rw (t, no_data b h (counted b h t).0 (counted b h t).1) (not_shared b h t))
      (λ f. rw f)

  no_clash : clashes g array table g.blocks ≡ false
  unfolding clashes
  no_clash = none_below (clashes_at g array table) g.blocks no_clash_at

  pub mounts_well : mount_answer g array ≡ 0
  mounts_well =
      mounts_by g array table current_is (held.right_table_fact g v invalid r.invalid_bits number r.number_fits (row table) r.table_pages_fact (λ b. is_marked g (row b)) r.apart) (lists_invalid table r.table_below ∙ r.table_valid) no_clash

  -- the state's map, and its kinds
  pub map_blank : map_in g array table ≡ replicate 4096 65535
  unfolding entry_of
  map_blank =
      map_told g array table (replicate 4096 65535) (length-replicate {A = ℕ} 4096 65535) (λ l h k. get_or-replicate 4096 l 65535 0 k ∙ sym (ap entry_of (no_copy l))) (λ l h k. get_or-replicate 4096 l 65535 0 k)

  pub kinds_blank : kinds_of g array table ≡ replicate 4096 0
  unfolding kind_at
  kinds_blank =
      kinds_told g array table (replicate 4096 0) (length-replicate {A = ℕ} 4096 0) (λ l h k. get_or-replicate 4096 l 0 0 k ∙ sym (ap (kind_at g array) (no_copy l))) (λ l h k. get_or-replicate 4096 l 0 0 k)

  pub reads_blank : (logical p : ℕ) → reading g array table logical p ≡ replicate g.main 255
  unfolding current.page_of
  reads_blank logical p = ap (current.page_of g array p) (no_copy logical)
