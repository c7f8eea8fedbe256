-- No clash, said of the blocks that count: their numbers differ, and their logical blocks are on the chip. Assumes nothing.
use Prim.Native.Nat.{ℕ, ◌<◌}
use mathlib.Core.Bool.{Bool, true, false, cond}
use mathlib.Core.List.{List}
use mathlib.Core.Path.{◌≡◌, refl}
use borrow.Table.Steps.{cases}
use borrow.Author.Tests.{eqb-false, ne_eqb, leb-false, lt-leb}
use lib.Dec.{eqb, leb}
use Rattle.geometry.specs.declared.Geometry.{Geometry}
use Rattle.bools.proofs.BoolLaws.{clash}
use Rattle.copies.specs.Blocks.{block_in, label_in, is_data}
use Rattle.copies.specs.Pick.{some_below}
use Rattle.copies.specs.Current.{counts, number_at, shares_number, clashes_at, clashes}
use Rattle.copies.proofs.PickLaws.{some_is, none_below}

pub record Apart (g : Geometry) (array : List ℕ) (t : ℕ) : Type 0 where
  pub logical_below : (b : ℕ) → b < g.blocks → counts g array t b ≡ true → is_data g (block_in g array b) ≡ true → (label_in g (block_in g array b) 0).logical < g.logical
  pub numbers_differ : (b c : ℕ) → b < g.blocks → c < b → counts g array t b ≡ true → counts g array t c ≡ true → number_at g array c ≡ number_at g array b → ⊥

-- none below n passes
each_fails : (test : ℕ → Bool) (n : ℕ) → some_below test n ≡ false → (k : ℕ) → k < n → test k ≡ false
each_fails test n f k h = cases (test k) (λ t. clash (some_is test n k h t) f) (λ u. u)

-- a chain of tests that fails, with the first one passed
first-fails : (a x : Bool) → cond a true x ≡ false → a ≡ false
first-fails true x e = e
first-fails false x e = refl

second-fails : (a x : Bool) → cond a true x ≡ false → x ≡ false
second-fails true x e = clash refl e
second-fails false x e = e

then_fails : (a x : Bool) → cond a x false ≡ false → a ≡ true → x ≡ false
then_fails true x e t = e
then_fails false x e t = clash t refl

module _ (g : Geometry) (array : List ℕ) (t : ℕ) where
  abbrev past : ℕ → Bool
  past b = cond (is_data g (block_in g array b)) (leb g.logical (label_in g (block_in g array b) 0).logical) false

  abbrev shares : ℕ → ℕ → Bool
  shares n b = cond (counts g array t b) (eqb (number_at g array b) n) false

  none_at : clashes g array t g.blocks ≡ false → (b : ℕ) → b < g.blocks → counts g array t b ≡ true → cond (past b) true (shares_number g array t (number_at g array b) b) ≡ false
  unfolding clashes clashes_at
  none_at f b h c = then_fails (counts g array t b) _ (each_fails (clashes_at g array t) g.blocks f b h) c

  pub clash_apart : clashes g array t g.blocks ≡ false → Apart g array t
  unfolding shares_number
  clash_apart f =
      record {
        logical_below = λ b h c d.
            leb-false g.logical (label_in g (block_in g array b) 0).logical
            (then_fails (is_data g (block_in g array b)) _ (first-fails (past b) _ (none_at f b h c)) d);
        numbers_differ = λ b c h k u w.
            eqb-false (number_at g array c) (number_at g array b)
            (then_fails (counts g array t c) _ (each_fails (shares (number_at g array b)) b (second-fails (past b) _ (none_at f b h u)) c k) w);
      }

  module _ (a : Apart g array t) where
    not_past : (b : ℕ) → b < g.blocks → counts g array t b ≡ true → past b ≡ false
    not_past b h c =
        cases (is_data g (block_in g array b))
        (λ d. rw (d, lt-leb g.logical (label_in g (block_in g array b) 0).logical (a.logical_below b h c d)))
        (λ d. rw d)

    not_shared : (b : ℕ) → b < g.blocks → counts g array t b ≡ true → shares_number g array t (number_at g array b) b ≡ false
    unfolding shares_number
    not_shared b h u =
        none_below (shares (number_at g array b)) b
        (λ c k.
        cases (counts g array t c)
        (λ w. rw (w, ne_eqb (number_at g array c) (number_at g array b) (a.numbers_differ b c h k u w)))
        (λ w. rw w))

    none_clashes : (b : ℕ) → b < g.blocks → clashes_at g array t b ≡ false
    unfolding clashes_at
    none_clashes b h =
        cases (counts g array t b)
        (λ c. rw (c, not_past b h c) (not_shared b h c))
        (λ c. rw c)

    pub apart_clash : clashes g array t g.blocks ≡ false
    unfolding clashes
    apart_clash = none_below (clashes_at g array t) g.blocks none_clashes
