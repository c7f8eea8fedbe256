-- One erase or one table fill of a block other than the current table's: no entry is forgotten. Assumes nothing.
use Prim.Native.Nat.{ℕ, ◌+◌, ◌<◌}
use mathlib.Core.Bool.{Bool, true, false}
use mathlib.Core.List.{List}
use mathlib.Core.Path.{◌≡◌, sym, ap, subst, ◌∙◌}
use native.Mathlib.Omega.{arith}
use borrow.Table.Steps.{cases}
use borrow.Author.Tests.{eqb-true, eqb-false}
use lib.Dec.{eqb}
use Rattle.geometry.specs.declared.Geometry.{Geometry}
use Rattle.geometry.specs.Limits.{Valid}
use Rattle.bools.proofs.BoolLaws.{both, clash}
use Rattle.bitmaps.specs.Bitmap.{bit_at}
use Rattle.bitmaps.proofs.BitmapLaws.{Bitmap}
use Rattle.copies.specs.Blocks.{SamePages, block_in, page_in, main_in, is_marked, is_complete, is_table}
use Rattle.copies.specs.Pick.{at}
use Rattle.copies.specs.Table.{bitmap_of, lists, right_to, right_table, own_count, laid_table}
use Rattle.copies.specs.Current.{current_table, number_at}
use Rattle.copies.proofs.CompleteLaws.{complete_pages, table_complete}
use Rattle.copies.proofs.CarriedLaws.{right_laid}
use Rattle.mount_laws.proofs.StateLaws.{right_at_fact, clear_picked, picked_clear}
use Rattle.fill.specs.Fill.{table_copy, table_main, copy_page}
use Rattle.state.specs.State.{number_end}
use Rattle.format_laws.proofs.TableBlockLaws as table
use Rattle.recovery_stored.specs.Stored.{Left, Stored}
use Rattle.recovery_stored.specs.After.{After, Based, Below, MarksSame}
use Rattle.recovery_stored.specs.Remembered.{Remembers}
use Rattle.recovery_stored.proofs.BaseLaws as base

-- a chip between two calls remembers what its table lists
pub stored_remembers : (g : Geometry) (array : List ℕ) (t : ℕ) → Stored g array → current_table g array ≡ at t → Remembers g array (λ b. lists g (block_in g array t) b) t
stored_remembers g array t s e =
    let r = right_at_fact g array t e s.mounts in
    record {
      is_valid = s.is_valid;
      array_long = s.array_long;
      table_is = e;
      laid = right_laid g (omega (arith, s.is_valid.pages_least)) (λ b. is_marked g (block_in g array b)) (block_in g array t) r.right;
      own = r.own;
      left = λ b i h j k l. s.left t b i e h j k l;
      kept = λ b h k. k;
    }

-- a block of such a chip that may be erased or filled
pub remembers_based : (g : Geometry) (array : List ℕ) (keeps : ℕ → Bool) (t b : ℕ) → Remembers g array keeps t → b < g.blocks → is_marked g (block_in g array b) ≡ false
    → lists g (block_in g array t) b ≡ false → (b ≡ t → ⊥) → Based g array t b
remembers_based g array keeps t b m below clear free off =
    record {
      is_valid = m.is_valid;
      array_long = m.array_long;
      table_is = m.table_is;
      below = below;
      unmarked = clear;
      off_table = off;
      left = λ i h. m.left b i below h clear free;
    }

-- a table is laid out as well where the marks are the same
pub laid_same : (g : Geometry) (marks others : ℕ → Bool) (row : List ℕ) → ((c : ℕ) → c < g.blocks → others c ≡ marks c) → laid_table g marks row ≡ true → laid_table g others row ≡ true
unfolding laid_table right_table
laid_same g marks others row same t =
    let parts = both (right_to (own_count g row) row g.pages) _ t in
    rw parts.0
    (picked_clear others (bitmap_of g.blocks (main_in g row 0)) g.blocks
    (λ c h m. clear_picked marks (bitmap_of g.blocks (main_in g row 0)) g.blocks parts.1 c h (sym (same c h) ∙ m)))

module _ (g : Geometry) (before after : List ℕ) (keeps : ℕ → Bool) (t b : ℕ) (y : ℕ → List ℕ) (m : Remembers g before keeps t) (d : Based g before t b) (r : After g before after b y) where
  abbrev old : ℕ → List ℕ
  old c = block_in g before c

  abbrev new : ℕ → List ℕ
  new c = block_in g after c

  row : new t ≡ old t
  row = base.table_row g before after t b y d r

  same : MarksSame g before after
  same = base.marks g before after t b y d r

  -- every page of an unmarked block that a table lists no less is one that this store can leave
  left_after : (c i : ℕ) → c < g.blocks → i < g.pages → is_marked g (new c) ≡ false → lists g (old t) c ≡ false → Left g (page_in g (new c) i)
  left_after c i h j k l =
      cases (eqb c b)
      (λ o. subst (λ (z : ℕ). Left g (page_in g (new z) i)) (sym (eqb-true c b o)) (r.left i j))
      (λ o. subst (λ (z : List ℕ). Left g (page_in g z i)) (sym (r.others c h (eqb-false c b o))) (m.left c i h j (sym (same c h) ∙ k) l))

  -- nothing new is complete: the table stays
  pub remembers_calm : (is_complete g (new b) ≡ true → SamePages g (new b) (old b)) → Remembers g after keeps t
  remembers_calm kept =
      record {
        is_valid = m.is_valid;
        array_long = r.long;
        table_is = base.table_kept g before after t b y d r kept;
        laid = subst (λ (x : List ℕ). laid_table g (λ c. is_marked g (new c)) x ≡ true) (sym row)
            (laid_same g (λ c. is_marked g (old c)) (λ c. is_marked g (new c)) (old t) same m.laid);
        own = ap (λ (x : List ℕ). lists g x t) row ∙ m.own;
        left = λ c i h j k l. left_after c i h j k (sym (ap (λ (x : List ℕ). lists g x c) row) ∙ l);
        kept = λ c h k. ap (λ (x : List ℕ). lists g x c) row ∙ m.kept c h k;
      }

-- block b is complete as a new table under a number above every complete block's, and lists what table t lists
module _ (g : Geometry) (before after : List ℕ) (keeps : ℕ → Bool) (t b n : ℕ) (invalid : List ℕ) (bits : Bitmap g.blocks invalid) (fits : n < number_end)
    (m : Remembers g before keeps t) (d : Based g before t b) (low : Below g before n)
    (r : After g before after b (λ i. copy_page g (table_copy n) i (table_main g invalid i))) (done : is_complete g (block_in g after b) ≡ true)
    (still : (c : ℕ) → c < g.blocks → lists g (block_in g before t) c ≡ true → bit_at invalid c ≡ true) (unlisted : bit_at invalid b ≡ false)
    (apart : (c : ℕ) → c < g.blocks → is_marked g (block_in g before c) ≡ true → bit_at invalid c ≡ false) where
  abbrev held : List ℕ
  held = block_in g after b

  abbrev pages : ℕ → List ℕ
  pages i = copy_page g (table_copy n) i (table_main g invalid i)

  v : Valid g
  v = m.is_valid

  pages_are : (i : ℕ) → i < g.pages → page_in g held i ≡ pages i
  pages_are i h = r.only i h ((complete_pages g held done).is_whole i h)

  is_n : number_at g after b ≡ n
  is_n = table.number_is g v invalid bits n fits held pages_are

  lists_are : (c : ℕ) → c < g.blocks → lists g held c ≡ bit_at invalid c
  lists_are = table.lists_invalid g v invalid bits n fits held pages_are

  pub below_new : Below g after (n + 1)
  below_new = base.below_new g before after t b pages d r n low is_n

  table_new : current_table g after ≡ at b
  unfolding current_table
  table_new =
      base.best_new g before after t b pages d r n low is_n (λ c. is_table g (block_in g after c)) (λ c h w. table_complete g (block_in g after c) w) (table.is_table_fact g v invalid bits n fits held pages_are)

  marks_same : MarksSame g before after
  marks_same = base.marks g before after t b pages d r

  laid_new : laid_table g (λ c. is_marked g (block_in g after c)) held ≡ true
  laid_new =
      right_laid g (omega (arith, v.pages_least)) (λ c. is_marked g (block_in g after c)) held
      (table.right_table_fact g v invalid bits n fits held pages_are (λ c. is_marked g (block_in g after c)) (λ c h k. apart c h (sym (marks_same c h) ∙ k)))

  pub remembers_new : Remembers g after keeps b
  remembers_new =
      record {
        is_valid = v;
        array_long = r.long;
        table_is = table_new;
        laid = laid_new;
        own = lists_are b d.below ∙ unlisted;
        left = λ c i h j k l.
            left_after g before after keeps t b pages m d r c i h j k
            (cases (lists g (block_in g before t) c) (λ u. clash (still c h u) (sym (lists_are c h) ∙ l)) (λ u. u));
        kept = λ c h k. lists_are c h ∙ still c h (m.kept c h k);
      }
