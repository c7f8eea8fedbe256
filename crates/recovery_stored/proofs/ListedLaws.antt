-- A block that is complete as a new table is current, and the copies and readings stay. Assumes nothing.
use Prim.Native.Nat.{ℕ, ◌+◌, ◌<◌}
use mathlib.Core.Bool.{true, false}
use mathlib.Core.List.{List}
use mathlib.Core.Path.{◌≡◌, sym, subst, ◌∙◌}
use borrow.Table.Steps.{cases}
use Rattle.geometry.specs.declared.Geometry.{Geometry}
use Rattle.bools.proofs.BoolLaws.{clash}
use Rattle.bitmaps.specs.Bitmap.{bit_at}
use Rattle.bitmaps.proofs.BitmapLaws.{Bitmap}
use Rattle.copies.specs.Blocks.{block_in, page_in, is_marked, is_complete, is_data, is_table}
use Rattle.copies.specs.Pick.{at}
use Rattle.copies.specs.Table.{lists}
use Rattle.copies.specs.Current.{current_table, current_copy, number_at}
use Rattle.copies.proofs.CompleteLaws.{complete_pages, table_complete, copy_data}
use Rattle.fill.specs.Fill.{table_copy, table_main, copy_page}
use Rattle.scan_found.specs.Found.{bits_at}
use Rattle.state.specs.State.{number_end}
use Rattle.format_laws.proofs.TableBlockLaws as held
use Rattle.recovery_stored.specs.Stored.{Stored}
use Rattle.recovery_stored.specs.After.{After, Based, Below, Free, Listed}
use Rattle.recovery_stored.proofs.StoredLaws.{stored_based}
use Rattle.recovery_stored.proofs.BaseLaws as base
use Rattle.recovery_stored.proofs.CalmLaws as calm

module _ (g : Geometry) (before after : List ℕ) (t b n : ℕ) (s : Stored g before) (e : current_table g before ≡ at t) (f : Free g before t b)
    (low : Below g before n) (left : n < number_end) (invalid : List ℕ) (bits : Bitmap g.blocks invalid) (r : After g before after b (λ i. copy_page g (table_copy n) i (table_main g invalid i))) (done : is_complete g (block_in g after b) ≡ true) where
  abbrev y : ℕ → List ℕ
  y i = copy_page g (table_copy n) i (table_main g invalid i)

  abbrev row : List ℕ
  row = block_in g after b

  based : Based g before t b
  based = stored_based g before t b s e f

  pages_are : (i : ℕ) → i < g.pages → page_in g row i ≡ y i
  pages_are i h = r.only i h ((complete_pages g row done).is_whole i h)

  number_is : number_at g after b ≡ n
  number_is = held.number_is g s.is_valid invalid bits n left row pages_are

  no_data : is_data g row ≡ false
  no_data = held.table_no_data g s.is_valid invalid bits n left row pages_are

  pub bits_are : bits_at g after b ≡ invalid
  bits_are = held.bitmap_back g s.is_valid invalid bits n left row pages_are

  pub table_below : Below g after (n + 1)
  table_below = base.below_new g before after t b y based r n low number_is

  lists_are : (c : ℕ) → c < g.blocks → lists g row c ≡ bit_at invalid c
  lists_are = held.lists_invalid g s.is_valid invalid bits n left row pages_are

  table_is : current_table g after ≡ at b
  unfolding current_table
  table_is =
      base.best_new g before after t b y based r n low number_is (λ c. is_table g (block_in g after c)) (λ c h w. table_complete g (block_in g after c) w)
      (held.is_table_fact g s.is_valid invalid bits n left row pages_are)

  -- it lists what table t listed, no block with a mark, not its own, and none with a current copy
  module _ (still : (c : ℕ) → c < g.blocks → lists g (block_in g before t) c ≡ true → bit_at invalid c ≡ true) (own : bit_at invalid b ≡ false)
      (clear : (l c : ℕ) → l < g.logical → current_copy g before t l ≡ at c → bit_at invalid c ≡ false) (spares : (c : ℕ) → c < g.blocks → is_marked g (block_in g before c) ≡ true → bit_at invalid c ≡ false) where
    more : (c : ℕ) → c < g.blocks → lists g row c ≡ false → lists g (block_in g before t) c ≡ false
    more c h l = cases (lists g (block_in g before t) c) (λ u. clash (still c h u) (sym (lists_are c h) ∙ l)) (λ u. u)

    copies_are : (l : ℕ) → l < g.logical → current_copy g after b l ≡ current_copy g before t l
    copies_are l h =
        calm.copy_stays g before after t b y s e f r b more l h
        (λ c k w. base.pages_kept g before after t b y based r c k (λ q. clash (subst (λ (z : ℕ). is_data g (block_in g after z) ≡ true) q (copy_data g l (block_in g after c) w).0) no_data))
        (λ c k q. lists_are c k ∙ clear l c h q)

    pub near_table : Listed g before after t b invalid
    near_table =
        record {
          stored = calm.stored_by g before after t b y s e f r b more table_is
              (held.right_table_fact g s.is_valid invalid bits n left row pages_are (λ c. is_marked g (block_in g after c)) (λ c h m. spares c h (sym (calm.marks g before after t b y s e f r c h) ∙ m)))
              (lists_are b f.below ∙ own)
              (calm.apart_new g before after t b y s e f r b more n low number_is (λ d. clash d no_data));
          marks = calm.marks g before after t b y s e f r;
          table_is = table_is;
          lists_are = lists_are;
          copies = copies_are;
          kinds = λ l h. calm.kind_stays g before after t b y s e f r b l h (copies_are l h);
          reads = λ l p h k. calm.reads_stay g before after t b y s e f r b l p h (copies_are l h);
        }
