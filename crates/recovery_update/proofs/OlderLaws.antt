-- What an older store leaves is a chip that this store can leave, whatever kinds it knows. Assumes nothing.
use Prim.Native.Nat.{ℕ, zero, suc, ◌≤◌, ◌<◌}
use mathlib.Core.Bool.{true, false, cond, true≢false}
use mathlib.Core.List.{List}
use mathlib.Core.Path.{◌≡◌, refl, sym, ap, subst, ◌∙◌}
use native.Mathlib.Omega.{arith}
use borrow.Table.Steps.{cases}
use borrow.Author.Tests.{eqb-true}
use lib.Dec.{eqb}
use Rattle.geometry.specs.declared.Geometry.{Geometry}
use Rattle.bools.proofs.BoolLaws.{both}
use Rattle.pages.specs.Layout.{among, is_white_kind, kind_of, label_of, whole}
use Rattle.pages.proofs.OverLaws.{over-length}
use Rattle.copies.specs.Blocks.{block_in, page_in, main_in, is_marked, complete_to, is_complete, is_table, is_data}
use Rattle.copies.specs.Pick.{Pick, nothing, at}
use Rattle.copies.specs.Table.{lists}
use Rattle.copies.specs.Current.{number_at, current_table, current_copy, page_of, reading, unlisted, shares_number, clashes_at, clashes, judge_table, mount_answer}
use Rattle.copies.proofs.PickLaws.{pick_same, some_same}
use Rattle.copies.proofs.FormLaws.{formed-plain}
use Rattle.copies.proofs.CompleteLaws.{complete_pages}
use Rattle.damage.proofs.PlaceLaws.{page-long}
use Rattle.recovery_stored.specs.Stored.{Left, Stored}
use Rattle.recovery_stored.proofs.PageLaws.{left-whole}
use Rattle.recovery_write.proofs.ContentLaws.{current_copied}
use Rattle.recovery_update.specs.Older.{before_wide, before_white, older_whole, older_to, older_complete, older_table, older_data, older_current, older_counts, older_shares, older_clashes_at, older_judge, OlderLeft, OlderStored, ListedOlder}

-- no page that is not whole was so before
none_older : (kinds : List ℕ) (g : Geometry) (p : List ℕ) → whole g.main p ≡ false → older_whole kinds g p ≡ false
none_older kinds g p f = cases (among kinds (kind_of g.main p)) (λ t. rw (t, f)) (λ t. rw t)

module _ (kinds : List ℕ) (g : Geometry) (array : List ℕ) (s : OlderStored kinds g array) (listed : ListedOlder kinds g array) (t : ℕ) (current : older_current kinds g array ≡ at t) where
  abbrev row : ℕ → List ℕ
  row b = block_in g array b

  module _ (b : ℕ) (below : b < g.blocks) where
    -- a page that could be left can still be
    left_now : (i : ℕ) → i < g.pages → OlderLeft kinds g (page_in g (row b) i) → Left g (page_in g (row b) i)
    left_now i h l =
        record {
          page = l.page;
          long = over-length l.is_over ∙ page-long g s.is_valid array s.array_long b below i h;
          is_whole = (both (among kinds (kind_of g.main l.page)) (whole g.main l.page) l.is_whole).1;
          is_over = l.is_over;
        }

    module _ (clear : is_marked g (row b) ≡ false) where
      -- a page that is whole was so before
      was_whole : (i : ℕ) → i < g.pages → whole g.main (page_in g (row b) i) ≡ true → older_whole kinds g (page_in g (row b) i) ≡ true
      unfolding left_now
      was_whole i h w =
          cases (lists g (row t) b)
          (λ y. listed t b i current below h clear y w)
          (λ n.
          let l = s.left t b i current below h clear n in
          subst (λ (p : List ℕ). older_whole kinds g p ≡ true) (sym (left-whole g s.is_valid (page_in g (row b) i) (left_now i h l) w)) l.is_whole)

      same_whole : (i : ℕ) → i < g.pages → older_whole kinds g (page_in g (row b) i) ≡ whole g.main (page_in g (row b) i)
      same_whole i h =
          cases (whole g.main (page_in g (row b) i)) (λ w. was_whole i h w ∙ sym w) (λ f. none_older kinds g (page_in g (row b) i) f ∙ sym f)

      same_to : (n : ℕ) → n ≤ g.pages → older_to kinds g (row b) n ≡ complete_to g (row b) n
      unfolding older_to complete_to
      same_to zero h = refl
      same_to (suc n) h = rw (same_whole n (omega (arith, h)), same_to n (omega (arith, h)))

    same_complete : older_complete kinds g (row b) ≡ is_complete g (row b)
    unfolding older_complete is_complete
    same_complete = cases (is_marked g (row b)) (λ m. rw m) (λ m. rw m (same_to m g.pages (omega arith)))

    same_table : older_table kinds g (row b) ≡ is_table g (row b)
    unfolding older_table is_table
    same_table = rw same_complete

    same_data : older_data kinds g (row b) ≡ is_data g (row b)
    unfolding older_data is_data
    same_data = rw same_complete

  same_current : older_current kinds g array ≡ current_table g array
  unfolding older_current current_table
  same_current =
      pick_same (λ b. older_table kinds g (row b)) (λ b. is_table g (row b)) (number_at g array) (number_at g array) g.blocks (λ b h. same_table b h) (λ b h u. refl)

  -- a page of a current copy reads as it is stored, where none of these kinds is whitened
  reads_stored : ((k : ℕ) → among kinds k ≡ true → is_white_kind k ≡ false) → (l b i : ℕ) → current_copy g array t l ≡ at b → reading g array t l i ≡ main_in g (row b) i
  unfolding page_of label_of
  reads_stored plain l b i e =
      let c = current_copied g array t l b e in
      let pages = complete_pages g (row b) c.complete in
      let least : 0 < g.pages = omega (arith, s.is_valid.pages_least) in
      let first = was_whole b c.below pages.unmarked 0 least (pages.is_whole 0 least) in
      ap (page_of g array i) e
      ∙ formed-plain (kind_of g.main (page_in g (row b) 0)) i (main_in g (row b) i) (plain _ (both (among kinds (kind_of g.main (page_in g (row b) 0))) (whole g.main (page_in g (row b) 0)) first).0)

  same_shares : (number n : ℕ) → n ≤ g.blocks → older_shares kinds g array t number n ≡ shares_number g array t number n
  unfolding older_shares shares_number
  same_shares number n h =
      some_same (λ b. cond (older_counts kinds g array t b) (eqb (number_at g array b) number) false)
      (λ b. cond (cond (unlisted g array t b) (is_complete g (row b)) false) (eqb (number_at g array b) number) false) n
      (λ b k. rw (same_complete b (omega (arith, h, k))))

  same_clash : (b : ℕ) → b < g.blocks → older_clashes_at kinds g array t b ≡ clashes_at g array t b
  unfolding older_clashes_at clashes_at
  same_clash b h = rw (same_complete b h, same_data b h, same_shares (number_at g array b) b (omega (arith, h)))

  same_answer : older_judge kinds g array (at t) ≡ judge_table g array (at t)
  unfolding older_judge judge_table clashes
  same_answer = rw (some_same (older_clashes_at kinds g array t) (clashes_at g array t) g.blocks same_clash)

  here : Stored g array
  unfolding mount_answer
  here =
      let is : current_table g array ≡ at t = sym same_current ∙ current in
      record {
        is_valid = s.is_valid;
        array_long = s.array_long;
        mounts = ap (judge_table g array) is ∙ sym same_answer ∙ ap (older_judge kinds g array) (sym current) ∙ s.mounts;
        left = λ u b i e hb hi m n. left_now b hb i hi (s.left u b i (same_current ∙ e) hb hi m n);
      }

pub older_stored : (kinds : List ℕ) (g : Geometry) (array : List ℕ) → OlderStored kinds g array → ListedOlder kinds g array → Stored g array
unfolding older_judge
older_stored kinds g array s listed = by (older_current kinds g array) refl
  where
    by : (o : Pick) → older_current kinds g array ≡ o → Stored g array
    by nothing e = absurd (omega (arith, sym (ap (older_judge kinds g array) e) ∙ s.mounts))
    by (at t) e = here kinds g array s listed t e

-- so do the pages of a chip that such a store left: an update changes no byte of them
pub older_reads : (kinds : List ℕ) → ((k : ℕ) → among kinds k ≡ true → is_white_kind k ≡ false) → (g : Geometry) (array : List ℕ) → OlderStored kinds g array → ListedOlder kinds g array
    → (t l b i : ℕ) → older_current kinds g array ≡ at t → current_copy g array t l ≡ at b → reading g array t l i ≡ main_in g (block_in g array b) i
older_reads kinds plain g array s listed t l b i current e = reads_stored kinds g array s listed t current plain l b i e

-- both older versions wrote plain pages only
pub before-white : (k : ℕ) → among before_white k ≡ true → is_white_kind k ≡ false
unfolding is_white_kind
before-white k m = cases (eqb k 108) (λ e. absurd (true≢false (sym m ∙ rw (eqb-true k 108 e)))) (λ f. rw f)

pub before_wide_lem : (k : ℕ) → among before_wide k ≡ true → is_white_kind k ≡ false
unfolding is_white_kind
before_wide_lem k m = cases (eqb k 108) (λ e. absurd (true≢false (sym m ∙ rw (eqb-true k 108 e)))) (λ f. rw f)
