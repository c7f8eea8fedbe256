-- What stays as it was where one block other than the table's was erased or filled. Assumes nothing.
use Prim.Native.Nat.{ℕ, ◌+◌, ◌<◌}
use mathlib.Core.Bool.{Bool, true}
use mathlib.Core.List.{List}
use mathlib.Core.Path.{◌≡◌, refl, sym, ap, subst, ◌∙◌}
use native.Mathlib.Omega.{arith}
use borrow.Table.Steps.{cases}
use borrow.Author.Tests.{eqb-true, eqb-false}
use lib.Dec.{eqb}
use Rattle.geometry.specs.declared.Geometry.{Geometry}
use Rattle.geometry.specs.Limits.{Valid}
use Rattle.copies.specs.Blocks.{SamePages, block_in, page_in, is_marked, is_complete, is_table}
use Rattle.copies.specs.Pick.{at, pick, Best, Picked}
use Rattle.copies.specs.Current.{current_table, number_at}
use Rattle.copies.proofs.PickLaws.{pick_is, picked_is, pick_fewer, pick_same}
use Rattle.copies.proofs.CompleteLaws.{table_complete, number_same, complete_same, table_same}
use Rattle.recovery_stored.specs.After.{After, Based, Below, MarksSame}
use Rattle.recovery_stored.proofs.StoredLaws.{same_at}

-- fewer blocks pass, with the numbers they had, and the picked one still does
pub pick_less : (test fewer : ℕ → Bool) (number count : ℕ → ℕ) (n : ℕ) → ((k : ℕ) → k < n → fewer k ≡ true → (test k ≡ true) × (count k ≡ number k))
    → ((m : ℕ) → pick test number n ≡ at m → fewer m ≡ true) → pick fewer count n ≡ pick test number n
pick_less test fewer number count n within still =
    pick_same fewer fewer count number n (λ k h. refl) (λ k h t. (within k h t).1) ∙ pick_fewer test fewer number n (λ k h t. (within k h t).0) still

-- the picked block is the best
pub picked_best : (test : ℕ → Bool) (number : ℕ → ℕ) (n m : ℕ) → pick test number n ≡ at m → Best test number n m
picked_best test number n m e = subst (Picked test number n) e (pick_is test number n)

module _ (g : Geometry) (before after : List ℕ) (t b : ℕ) (y : ℕ → List ℕ) (s : Based g before t b) (r : After g before after b y) where
  abbrev old : ℕ → List ℕ
  old c = block_in g before c

  abbrev new : ℕ → List ℕ
  new c = block_in g after c

  v : Valid g
  v = s.is_valid

  table_best : Best (λ c. is_table g (old c)) (number_at g before) g.blocks t
  unfolding current_table
  table_best = picked_best (λ c. is_table g (old c)) (number_at g before) g.blocks t s.table_is

  pub pages_kept : (c : ℕ) → c < g.blocks → (c ≡ b → ⊥) → SamePages g (new c) (old c)
  pages_kept c h x = λ i k. ap (λ (z : List ℕ). page_in g z i) (r.others c h x)

  pub table_row : new t ≡ old t
  table_row = r.others t table_best.below (λ x. s.off_table (sym x))

  pub marks : MarksSame g before after
  marks c h =
      cases (eqb c b)
      (λ q. let at_b = eqb-true c b q in ap (λ (k : ℕ). is_marked g (new k)) at_b ∙ r.unmarked ∙ sym (ap (λ (k : ℕ). is_marked g (old k)) at_b ∙ s.unmarked))
      (λ q. ap (is_marked g) (r.others c h (eqb-false c b q)))

  -- numbers: those of the other blocks, and of all where block b bears the next one
  pub lower : (n : ℕ) → Below g before n → (c : ℕ) → c < g.blocks → (c ≡ b → ⊥) → is_complete g (new c) ≡ true → number_at g after c < n
  lower n low c h x w =
      let p = pages_kept c h x in
      omega (arith, low c h (sym (complete_same g v (new c) (old c) p) ∙ w), number_same g v (new c) (old c) p)

  module _ (n : ℕ) (low : Below g before n) (is_n : number_at g after b ≡ n) where
    pub below_new : Below g after (n + 1)
    below_new c h w =
        cases (eqb c b)
        (λ q. omega (arith, ap (number_at g after) (eqb-true c b q), is_n))
        (λ q. omega (arith, lower n low c h (eqb-false c b q) w))

    -- it is picked wherever it passes
    pub best_new : (test : ℕ → Bool) → ((c : ℕ) → c < g.blocks → test c ≡ true → is_complete g (new c) ≡ true) → test b ≡ true → pick test (number_at g after) g.blocks ≡ at b
    best_new test complete passes =
        sym (picked_is test (number_at g after) g.blocks (at b)
        (record {
          below = s.below;
          passes = passes;
          greatest = λ c h w. omega (arith, below_new c h (complete c h w), is_n);
          lowest = λ c h w.
              let below : c < g.blocks = omega (arith, h, s.below) in
              omega (arith, lower n low c below (λ q. omega (arith, q, h)) (complete c below w), is_n);
        }))

  -- the table, where no other block has become one
  pub table_stays : ((c : ℕ) → c < g.blocks → is_table g (new c) ≡ true → SamePages g (new c) (old c)) → current_table g after ≡ at t
  unfolding current_table
  table_stays kept =
      pick_less (λ c. is_table g (old c)) (λ c. is_table g (new c)) (number_at g before) (number_at g after) g.blocks
      (λ c h u. (sym (table_same g v (new c) (old c) (kept c h u)) ∙ u, number_same g v (new c) (old c) (kept c h u)))
      (λ m q. subst (λ (k : ℕ). is_table g (new k) ≡ true) (same_at (sym s.table_is ∙ q)) (ap (is_table g) table_row ∙ table_best.passes))
      ∙ s.table_is

  -- block b is complete only if its pages are as they were
  module _ (kept : is_complete g (new b) ≡ true → SamePages g (new b) (old b)) where
    pub all_kept : (c : ℕ) → c < g.blocks → is_complete g (new c) ≡ true → SamePages g (new c) (old c)
    all_kept c h w =
        cases (eqb c b)
        (λ q. subst (λ (k : ℕ). SamePages g (new k) (old k)) (sym (eqb-true c b q)) (kept (subst (λ (k : ℕ). is_complete g (new k) ≡ true) (eqb-true c b q) w)))
        (λ q. pages_kept c h (eqb-false c b q))

    pub table_kept : current_table g after ≡ at t
    table_kept = table_stays (λ c h w. all_kept c h (table_complete g (new c) w))

    pub below_kept : (n : ℕ) → Below g before n → Below g after n
    below_kept n low c h w =
        let p = all_kept c h w in
        omega (arith, low c h (sym (complete_same g v (new c) (old c) p) ∙ w), number_same g v (new c) (old c) p)
