-- Whether a request has a complete copy, by the parts of its trace and by the blocks of the chip. Assumes nothing.
use Prim.Native.Nat.{ℕ, zero, suc, ◌<◌}
use mathlib.Core.Bool.{Bool, true, false, cond}
use mathlib.Core.List.{List, [], ◌∷◌, ◌++◌}
use mathlib.Core.Path.{◌≡◌, refl, sym, ap, ◌∙◌}
use native.Mathlib.Omega.{arith}
use borrow.Table.Steps.{cases}
use borrow.Author.Tests.{eq-eqb, eqb-true}
use lib.Dec.{eqb}
use Rattle.geometry.specs.declared.Geometry.{Geometry}
use Rattle.operations.specs.Trace.{ArrayOperation}
use Rattle.pages.specs.Layout.{kind_of, is_data_kind}
use Rattle.copies.specs.Blocks.{block_in, is_complete}
use Rattle.copies.proofs.PickLaws.{up_to, some_same, some_is, none_below}
use Rattle.damage.specs.Touched.{Each, Some, first, later, Programs}
use Rattle.damage.proofs.TraceLaws.{or_assoc}
use Rattle.damage.proofs.EachLaws.{each_map}
use Rattle.bools.proofs.BoolLaws.{both, one_true, and_none}
use Rattle.recovery.specs.Copy.{is_data_program, sent_page, sent_pages, has_copy}

module _ (g : Geometry) where
  module _ (b i : ℕ) where
    pub sent_append : (xs ys : List ArrayOperation) → sent_page g b i (xs ++ ys) ≡ cond (sent_page g b i xs) true (sent_page g b i ys)
    unfolding sent_page
    sent_append [] ys = refl
    sent_append (x ∷ xs) ys = rw (sent_append xs ys) (sym (or_assoc (is_data_program g b i x) (sent_page g b i xs) (sent_page g b i ys)))

    programs_data : (bytes : List ℕ) (o : ArrayOperation) → Programs b i bytes o → is_data_kind (kind_of g.main bytes) ≡ true → is_data_program g b i o ≡ true
    unfolding is_data_program
    programs_data bytes o a t =
        rw (eq-eqb _ _ a.kind_is, eq-eqb _ _ a.block_is, eq-eqb _ _ a.page_is) (ap (λ (x : List ℕ). is_data_kind (kind_of g.main x)) a.bytes_are ∙ t)

    pub sent_some : (bytes : List ℕ) (os : List ArrayOperation) → Some (Programs b i bytes) os → is_data_kind (kind_of g.main bytes) ≡ true → sent_page g b i os ≡ true
    unfolding sent_page
    sent_some bytes [] x t = elim x [ ]
    sent_some bytes (o ∷ os) (first a) t = rw (programs_data bytes o a t)
    sent_some bytes (o ∷ os) (later a) t = rw (sent_some bytes os a t) (one_true (is_data_program g b i o))

    unsent : (os : List ArrayOperation) → Each (λ o. is_data_program g b i o ≡ false) os → sent_page g b i os ≡ false
    unfolding sent_page Each
    unsent [] a = refl
    unsent (o ∷ os) a = rw (a.0, unsent os a.1)

    elsewhere : (o : ArrayOperation) → (o.kind ≡ 2 → o.block ≡ b → ⊥) → is_data_program g b i o ≡ false
    unfolding is_data_program
    elsewhere o f =
        cases (eqb o.kind 2)
        (λ t. cases (eqb o.block b) (λ u. absurd (f (eqb-true _ _ t) (eqb-true _ _ u))) (λ u. rw (t, u)))
        (λ t. rw t)

    other_data : (o : ArrayOperation) → (o.kind ≡ 2 → is_data_kind (kind_of g.main o.bytes) ≡ false) → is_data_program g b i o ≡ false
    unfolding is_data_program
    other_data o f =
        cases (eqb o.kind 2)
        (λ t. rw (t, f (eqb-true _ _ t)) (ap (λ (x : Bool). cond (eqb o.block b) x false) (and_none (eqb o.page i)) ∙ and_none (eqb o.block b)))
        (λ t. rw t)

    -- no program of the block, or none of a data page
    pub sent_none : (os : List ArrayOperation) → Each (λ o. o.kind ≡ 2 → o.block ≡ b → ⊥) os → sent_page g b i os ≡ false
    sent_none os a = unsent os (each_map (λ o. o.kind ≡ 2 → o.block ≡ b → ⊥) (λ o. is_data_program g b i o ≡ false) elsewhere os a)

    pub sent_no_data : (os : List ArrayOperation) → Each (λ o. o.kind ≡ 2 → is_data_kind (kind_of g.main o.bytes) ≡ false) os → sent_page g b i os ≡ false
    sent_no_data os a = unsent os (each_map (λ o. o.kind ≡ 2 → is_data_kind (kind_of g.main o.bytes) ≡ false) (λ o. is_data_program g b i o ≡ false) other_data os a)

  module _ (b : ℕ) (os : List ArrayOperation) where
    pub pages_all : (n : ℕ) → ((i : ℕ) → i < n → sent_page g b i os ≡ true) → sent_pages g b os n ≡ true
    unfolding sent_pages
    pages_all zero f = refl
    pages_all (suc n) f = rw (f n (omega arith)) (pages_all n (λ i h. f i (omega (arith, h))))

    pub pages_each : (n : ℕ) → sent_pages g b os n ≡ true → (i : ℕ) → i < n → sent_page g b i os ≡ true
    unfolding sent_pages
    pages_each zero t i h = absurd (omega (arith, h))
    pages_each (suc n) t i h =
        let two = both (sent_page g b n os) (sent_pages g b os n) t in
        up_to (λ (x : ℕ). sent_page g b x os ≡ true) n i h (pages_each n two.1 i) two.0

  -- block by block the same
  pub has_same : (A B : List ℕ) (xs ys : List ArrayOperation)
      → ((c : ℕ) → c < g.blocks → cond (sent_pages g c ys g.pages) (is_complete g (block_in g B c)) false ≡ cond (sent_pages g c xs g.pages) (is_complete g (block_in g A c)) false)
      → has_copy g B ys ≡ has_copy g A xs
  unfolding has_copy
  has_same A B xs ys e = some_same _ _ g.blocks e

  nothing_sent : (b n : ℕ) → 0 < n → sent_pages g b [] n ≡ false
  unfolding sent_pages sent_page
  nothing_sent b zero h = absurd (omega (arith, h))
  nothing_sent b (suc n) h = refl

  module _ (array : List ℕ) where
    pub has_some : (os : List ArrayOperation) (b : ℕ) → b < g.blocks → sent_pages g b os g.pages ≡ true → is_complete g (block_in g array b) ≡ true → has_copy g array os ≡ true
    unfolding has_copy
    has_some os b h t u = some_is _ g.blocks b h (rw (t, u))

    pub has_none : 0 < g.pages → has_copy g array [] ≡ false
    unfolding has_copy
    has_none h = none_below _ g.blocks (λ b l. rw (nothing_sent b g.pages h))
