-- What stays as it was where one block was filled and nothing new is complete. Assumes nothing.
use Prim.Native.Nat.{ℕ, ◌+◌, ◌<◌}
use mathlib.Core.Bool.{Bool, true, false, cond}
use mathlib.Core.List.{List}
use mathlib.Core.Path.{◌≡◌, refl, sym, ap, subst, ◌∙◌}
use native.Mathlib.Omega.{arith}
use borrow.Table.Steps.{cases}
use borrow.Author.Tests.{eqb-true, eqb-false, not-true}
use lib.Dec.{eqb}
use Rattle.geometry.specs.declared.Geometry.{Geometry}
use Rattle.geometry.specs.Limits.{Valid}
use Rattle.bools.proofs.BoolLaws.{both, clash}
use Rattle.copies.specs.Blocks.{SamePages, block_in, page_in, main_in, plain_in, label_in, is_marked, is_complete, is_table, is_data, is_copy_of}
use Rattle.copies.specs.Pick.{Pick, nothing, at, pick, Best, Picked}
use Rattle.copies.specs.Table.{bitmap_of, lists, right_table}
use Rattle.copies.specs.Current as current
use Rattle.copies.specs.Current.{current_table, current_copy, kind_at, number_at, counts, unlisted, reading}
use Rattle.copies.proofs.PickLaws.{pick_is, picked_is, pick_fewer, pick_same}
use Rattle.copies.proofs.CompleteLaws.{complete_pages, table_complete, data_complete, copy_data, number_same, label_same, complete_same, table_same, data_same, copy_same}
use Rattle.mount_laws.proofs.StateLaws.{Right, right_at_fact, right_parts, mounts_by, clear_picked, picked_clear}
use Rattle.recovery_stored.specs.Stored.{Left, Stored}
use Rattle.recovery_stored.specs.After.{After, Based, Below, Free, MarksSame, Calm}
use Rattle.recovery_stored.proofs.StoredLaws.{same_at, stored_based}
use Rattle.recovery_stored.proofs.BaseLaws as base
use Rattle.recovery_stored.proofs.BaseLaws.{pick_less, picked_best}
use Rattle.recovery_stored.proofs.ApartLaws.{Apart, clash_apart, apart_clash}

module _ (g : Geometry) (before after : List ℕ) (t b : ℕ) (y : ℕ → List ℕ) (s : Stored g before) (e : current_table g before ≡ at t) (f : Free g before t b) (r : After g before after b y) where
  abbrev old : ℕ → List ℕ
  old c = block_in g before c

  abbrev new : ℕ → List ℕ
  new c = block_in g after c

  v : Valid g
  v = s.is_valid

  based : Based g before t b
  based = stored_based g before t b s e f

  found : Right g before t
  found = right_at_fact g before t e s.mounts

  pub apart : Apart g before t
  apart = clash_apart g before t found.unclashed

  pub pages_kept : (c : ℕ) → c < g.blocks → (c ≡ b → ⊥) → SamePages g (new c) (old c)
  pages_kept = base.pages_kept g before after t b y based r

  pub table_row : new t ≡ old t
  table_row = base.table_row g before after t b y based r

  pub marks : MarksSame g before after
  marks = base.marks g before after t b y based r

  lower : (n : ℕ) → Below g before n → (c : ℕ) → c < g.blocks → (c ≡ b → ⊥) → is_complete g (new c) ≡ true → number_at g after c < n
  lower = base.lower g before after t b y based r

  -- under a table that lists as many blocks or more
  module _ (u : ℕ) (more : (c : ℕ) → c < g.blocks → lists g (new u) c ≡ false → lists g (old t) c ≡ false) where
    copy_test : (l c : ℕ) → c < g.blocks → cond (unlisted g after u c) (is_copy_of g l (new c)) false ≡ true → SamePages g (new c) (old c) → cond (unlisted g before t c) (is_copy_of g l (old c)) false ≡ true
    copy_test l c h w p =
        let parts = both (unlisted g after u c) (is_copy_of g l (new c)) w in
        rw (more c h (not-true (lists g (new u) c) parts.0), ← copy_same g v (new c) (old c) p l) parts.1

    -- the copies of a logical block that has no new one, if the current one is not listed
    pub copy_stays : (l : ℕ) → l < g.logical → ((c : ℕ) → c < g.blocks → is_copy_of g l (new c) ≡ true → SamePages g (new c) (old c))
        → ((c : ℕ) → c < g.blocks → current_copy g before t l ≡ at c → lists g (new u) c ≡ false) → current_copy g after u l ≡ current_copy g before t l
    unfolding current_copy
    copy_stays l low kept clear =
        let test : ℕ → Bool = λ c. cond (unlisted g before t c) (is_copy_of g l (old c)) false in
        pick_less (λ c. cond (unlisted g before t c) (is_copy_of g l (old c)) false) (λ c. cond (unlisted g after u c) (is_copy_of g l (new c)) false) (number_at g before) (number_at g after) g.blocks
        (λ c h w.
        let p = kept c h (both (unlisted g after u c) (is_copy_of g l (new c)) w).1 in
        (copy_test l c h w p, number_same g v (new c) (old c) p))
        (λ m q.
        let best = picked_best test (number_at g before) g.blocks m q in
        let row : new m ≡ old m = r.others m best.below (λ x. f.off_copies l low (q ∙ ap at x)) in
        rw (clear m best.below q, row) (both (unlisted g before t m) (is_copy_of g l (old m)) best.passes).1)

    counts_old : (c : ℕ) → c < g.blocks → SamePages g (new c) (old c) → counts g after u c ≡ true → counts g before t c ≡ true
    counts_old c h p w =
        let parts = both (unlisted g after u c) (is_complete g (new c)) w in
        rw (more c h (not-true (lists g (new u) c) parts.0), ← complete_same g v (new c) (old c) p) parts.1

    logical_old : (c : ℕ) → c < g.blocks → SamePages g (new c) (old c) → counts g after u c ≡ true → is_data g (new c) ≡ true → (label_in g (new c) 0).logical < g.logical
    logical_old c h p w d =
        rw (label_same g v (new c) (old c) p) (apart.logical_below c h (counts_old c h p w) (sym (data_same g v (new c) (old c) p) ∙ d))

    differ_old : (c d : ℕ) → c < g.blocks → d < c → SamePages g (new c) (old c) → SamePages g (new d) (old d) → counts g after u c ≡ true → counts g after u d ≡ true → number_at g after d ≡ number_at g after c → ⊥
    differ_old c d h k p q w z x =
        apart.numbers_differ c d h k (counts_old c h p w) (counts_old d (omega (arith, h, k)) q z)
        (sym (number_same g v (new d) (old d) q) ∙ x ∙ number_same g v (new c) (old c) p)

    -- no clash: where all that counts did before, and where block b bears a number above those of the others
    pub apart_kept : ((c : ℕ) → c < g.blocks → is_complete g (new c) ≡ true → SamePages g (new c) (old c)) → Apart g after u
    apart_kept kept =
        let same : (c : ℕ) → c < g.blocks → counts g after u c ≡ true → SamePages g (new c) (old c) =
        λ c h w. kept c h (both (unlisted g after u c) (is_complete g (new c)) w).1 in
        record {
          logical_below = λ c h w. logical_old c h (same c h w) w;
          numbers_differ = λ c d h k w z. differ_old c d h k (same c h w) (same d (omega (arith, h, k)) z) w z;
        }

    pub apart_new : (n : ℕ) → Below g before n → number_at g after b ≡ n → (is_data g (new b) ≡ true → (label_in g (new b) 0).logical < g.logical) → Apart g after u
    apart_new n low is_n fits =
        let other : (c : ℕ) → c < g.blocks → (c ≡ b → ⊥) → counts g after u c ≡ true → number_at g after c ≡ number_at g after b → ⊥ =
        λ c h x w q. omega (arith, lower n low c h x (both (unlisted g after u c) (is_complete g (new c)) w).1, q, is_n) in
        record {
          logical_below = λ c h w d.
              cases (eqb c b)
              (λ q. subst (λ (k : ℕ). (label_in g (new k) 0).logical < g.logical) (sym (eqb-true c b q)) (fits (subst (λ (k : ℕ). is_data g (new k) ≡ true) (eqb-true c b q) d)))
              (λ q. logical_old c h (pages_kept c h (eqb-false c b q)) w d);
          numbers_differ = λ c d h k w z x.
              let hd : d < g.blocks = omega (arith, h, k) in
              cases (eqb c b)
              (λ q. let at_b = eqb-true c b q in other d hd (λ i. omega (arith, i, at_b, k)) z (x ∙ ap (number_at g after) at_b))
              (λ q.
              cases (eqb d b)
              (λ o. let at_b = eqb-true d b o in other c h (eqb-false c b q) w (sym x ∙ ap (number_at g after) at_b))
              (λ o. differ_old c d h k (pages_kept c h (eqb-false c b q)) (pages_kept d hd (eqb-false d b o)) w z x));
        }

    -- what is left of every block, once this table is current
    pub stored_by : current_table g after ≡ at u → right_table g (λ c. is_marked g (new c)) (new u) ≡ true → lists g (new u) u ≡ false → Apart g after u → Stored g after
    stored_by is-u right own a =
        record {
          is_valid = v;
          array_long = r.long;
          mounts = mounts_by g after u is-u right own (apart_clash g after u a);
          left = λ k c i q h j m l.
              let free : lists g (new u) c ≡ false = ap (λ (z : ℕ). lists g (new z) c) (same_at (sym is-u ∙ q)) ∙ l in
              cases (eqb c b)
              (λ o. subst (λ (z : ℕ). Left g (page_in g (new z) i)) (sym (eqb-true c b o)) (r.left i j))
              (λ o.
              subst (λ (z : List ℕ). Left g (page_in g z i)) (sym (r.others c h (eqb-false c b o)))
              (s.left t c i e h j (sym (marks c h) ∙ m) (more c h free)));
        }

  -- the block of a current copy is not b
  picked_off : (l : ℕ) → l < g.logical → (c : ℕ) → current_copy g before t l ≡ at c → (c < g.blocks) × (c ≡ b → ⊥)
  unfolding current_copy
  picked_off l low c o = ((picked_best (λ k. cond (unlisted g before t k) (is_copy_of g l (old k)) false) (number_at g before) g.blocks c o).below, λ x. f.off_copies l low (o ∙ ap at x))

  -- a page of such a block, and its kind
  page_stays : (p : ℕ) (o : Pick) → ((c : ℕ) → o ≡ at c → (c < g.blocks) × (c ≡ b → ⊥)) → current.page_of g after p o ≡ current.page_of g before p o
  unfolding current.page_of
  page_stays p nothing there = refl
  page_stays p (at c) there = ap (λ (z : List ℕ). plain_in g z p) (r.others c (there c refl).0 (there c refl).1)

  label_stays : (o : Pick) → ((c : ℕ) → o ≡ at c → (c < g.blocks) × (c ≡ b → ⊥)) → kind_at g after o ≡ kind_at g before o
  unfolding kind_at
  label_stays nothing there = refl
  label_stays (at c) there = ap (λ (z : List ℕ). (label_in g z 0).kind) (r.others c (there c refl).0 (there c refl).1)

  -- readings and kind of a logical block whose current copy stays
  pub reads_stay : (u l p : ℕ) → l < g.logical → current_copy g after u l ≡ current_copy g before t l → reading g after u l p ≡ reading g before t l p
  reads_stay u l p low q = ap (current.page_of g after p) q ∙ page_stays p (current_copy g before t l) (picked_off l low)

  pub kind_stays : (u l : ℕ) → l < g.logical → current_copy g after u l ≡ current_copy g before t l → kind_at g after (current_copy g after u l) ≡ kind_at g before (current_copy g before t l)
  kind_stays u l low q = ap (kind_at g after) q ∙ label_stays (current_copy g before t l) (picked_off l low)

  -- under the same table
  pub lists_old : (c : ℕ) → c < g.blocks → lists g (new t) c ≡ false → lists g (old t) c ≡ false
  lists_old c h l = sym (ap (λ (z : List ℕ). lists g z c) table_row) ∙ l

  pub copy_free : (l c : ℕ) → c < g.blocks → current_copy g before t l ≡ at c → lists g (new t) c ≡ false
  unfolding current_copy
  copy_free l c h q =
      let best = picked_best (λ k. cond (unlisted g before t k) (is_copy_of g l (old k)) false) (number_at g before) g.blocks c q in
      ap (λ (z : List ℕ). lists g z c) table_row ∙ not-true (lists g (old t) c) (both (unlisted g before t c) (is_copy_of g l (old c)) best.passes).0

  table_right : right_table g (λ c. is_marked g (new c)) (new t) ≡ true
  unfolding right_table
  table_right =
      let parts = right_parts g v before s.array_long t found in
      rw (table_row, parts.0)
      (picked_clear (λ c. is_marked g (new c)) (bitmap_of g.blocks (main_in g (old t) 0)) g.blocks
      (λ c h m. clear_picked (λ k. is_marked g (old k)) (bitmap_of g.blocks (main_in g (old t) 0)) g.blocks parts.1 c h (sym (marks c h) ∙ m)))

  pub stored_same : current_table g after ≡ at t → Apart g after t → Stored g after
  stored_same is-t a = stored_by t lists_old is-t table_right (ap (λ (z : List ℕ). lists g z t) table_row ∙ found.own) a

  -- block b is complete only if its pages are as they were
  module _ (kept : is_complete g (new b) ≡ true → (i : ℕ) → i < g.pages → page_in g (new b) i ≡ page_in g (old b) i) where
    all_kept : (c : ℕ) → c < g.blocks → is_complete g (new c) ≡ true → SamePages g (new c) (old c)
    all_kept = base.all_kept g before after t b y based r kept

    table_is : current_table g after ≡ at t
    table_is = base.table_kept g before after t b y based r kept

    copies_are : (l : ℕ) → l < g.logical → current_copy g after t l ≡ current_copy g before t l
    copies_are l low =
        copy_stays t lists_old l low (λ c h w. all_kept c h (data_complete g (new c) (copy_data g l (new c) w).0)) (copy_free l)

    pub near_calm : Calm g before after t
    near_calm =
        record {
          stored = stored_same table_is (apart_kept t lists_old all_kept);
          marks = marks;
          table_is = table_is;
          table_same = table_row;
          copies = copies_are;
          kinds = λ l low. kind_stays t l low (copies_are l low);
          reads = λ l p low h. reads_stay t l p low (copies_are l low);
        }

    pub below_calm : (n : ℕ) → Below g before n → Below g after n
    below_calm = base.below_kept g before after t b y based r kept

-- block b is as it was, or erased in part
module _ (g : Geometry) (before after : List ℕ) (t b : ℕ) where
  abbrev own : ℕ → List ℕ
  own i = page_in g (block_in g before b) i

  own_pages : After g before after b own → is_complete g (block_in g after b) ≡ true → (i : ℕ) → i < g.pages → page_in g (block_in g after b) i ≡ own i
  own_pages r w i h = r.only i h ((complete_pages g (block_in g after b) w).is_whole i h)

  pub old_calm : Stored g before → current_table g before ≡ at t → Free g before t b → After g before after b own → Calm g before after t
  old_calm s e f r = near_calm g before after t b own s e f r (own_pages r)

  pub old_below : (n : ℕ) → Stored g before → current_table g before ≡ at t → Free g before t b → After g before after b own → Below g before n → Below g after n
  old_below n s e f r = below_calm g before after t b own s e f r (own_pages r) n

-- block b is not complete
module _ (g : Geometry) (before after : List ℕ) (t b : ℕ) where
  pub new_calm : (y : ℕ → List ℕ) → Stored g before → current_table g before ≡ at t → Free g before t b → After g before after b y → is_complete g (block_in g after b) ≡ false → Calm g before after t
  new_calm y s e f r not = near_calm g before after t b y s e f r (λ w. clash w not)

  pub new_below : (n : ℕ) (y : ℕ → List ℕ) → Stored g before → current_table g before ≡ at t → Free g before t b → After g before after b y → is_complete g (block_in g after b) ≡ false → Below g before n → Below g after n
  new_below n y s e f r not = below_calm g before after t b y s e f r (λ w. clash w not) n
