-- Laws of the search for a block, and of the count of those that may be filled. Assumes nothing.
use Prim.Native.Nat.{ℕ, zero, suc, ◌+◌, ◌-◌, ◌/◌, ◌%◌, ◌≤◌, ◌<◌}
use mathlib.Core.Bool.{Bool, true, false}
use mathlib.Core.List.{List}
use mathlib.Core.Logic.{◌↔◌}
use mathlib.Core.Path.{◌≡◌, refl, sym, ap, ◌∙◌}
use native.Mathlib.Nat.{add-zero, mod_self, mod-lt, mod-eq_of_lt, mod-add-mod, add-mod-mod, add-mod_right}
use native.Mathlib.Numerals.{add-one}
use native.Mathlib.Omega.{arith}
use borrow.Table.Steps.{cases}
use borrow.Author.Tests.{eqb-true, eqb-false}
use lib.Dec.{eqb}
use Rattle.std.specs.Prelude.{Option, Some, None}
use Rattle.std.proofs.lemmas.Option.{none-some, same_Some}
use Rattle.state_choose.specs.Choose.{permitted, next_block, search_after, count_permitted}
use lib.ListN.{length}
use Rattle.bools.proofs.BoolLaws.{unless}
use Rattle.bitmaps.specs.Bitmap.{bit_at, with_bit}
use Rattle.bitmaps.proofs.BitLaws.{bit-set, bit_kept}

pub next_below : (blocks b : ℕ) → b < blocks → next_block blocks b < blocks
next_below blocks b h =
    cases (eqb (b + 1) blocks) (λ t. rw t (omega arith)) (λ t. rw t (omega (arith, eqb-false (b + 1) blocks t)))

module _ (test : ℕ → Bool) (blocks : ℕ) where
  -- the next block is taken, or the search goes on after it
  pub search_found : (m n b : ℕ) → n < m → test (next_block blocks b) ≡ true → Some (next_block blocks b) ≡ search_after test blocks (m - n) b
  unfolding search_after
  search_found m n b h t =
      let e : m - n ≡ suc (m - (n + 1)) = omega arith in
      rw (e, t)

  pub search_on : (m n b : ℕ) → n < m → test (next_block blocks b) ≡ false → search_after test blocks (m - (n + 1)) (next_block blocks b) ≡ search_after test blocks (m - n) b
  unfolding search_after
  search_on m n b h t =
      let e : m - n ≡ suc (m - (n + 1)) = omega arith in
      rw (e, t)

  pub search_over : (m n b : ℕ) → m ≤ n → None ≡ search_after test blocks (m - n) b
  unfolding search_after
  search_over m n b h =
      let e : m - n ≡ 0 = omega arith in
      rw e

-- the block k after b, wrapping
pub after : ℕ → ℕ → ℕ → ℕ
after blocks b k = (b + k) % blocks

pub after_below : (blocks b k : ℕ) → 0 < blocks → after blocks b k < blocks
unfolding after
after_below blocks b k h = mod-lt (b + k) h

add_suc-left : (b k : ℕ) → b + suc k ≡ b + 1 + k
add_suc-left b k = omega arith

next_is : (blocks b : ℕ) → b < blocks → next_block blocks b ≡ (b + 1) % blocks
next_is blocks b h =
    cases (eqb (b + 1) blocks)
    (λ t. rw (t, eqb-true (b + 1) blocks t) (sym (mod_self blocks)))
    (λ t. rw (t, mod-eq_of_lt {n = b + 1} {m = blocks} (omega (arith, eqb-false (b + 1) blocks t))))

-- k after the next block is k + 1 after the block
after_next : (blocks b k : ℕ) → b < blocks → after blocks (next_block blocks b) k ≡ after blocks b (suc k)
unfolding after
after_next blocks b k h =
    ap (λ (x : ℕ). (x + k) % blocks) (next_is blocks b h) ∙ mod-add-mod (b + 1) blocks k ∙ ap (λ (x : ℕ). x % blocks) (omega arith)

after_one : (blocks b : ℕ) → b < blocks → after blocks b 1 ≡ next_block blocks b
unfolding after
after_one blocks b h = sym (next_is blocks b h)

module _ (test : ℕ → Bool) (blocks : ℕ) where
  -- where the search finds nothing, none of the n blocks after b passes the test
  pub worn_none : (n b : ℕ) → b < blocks → search_after test blocks n b ≡ None → (k : ℕ) → k < n → test (after blocks b (suc k)) ≡ false
  unfolding search_after
  worn_none zero b h e k l = absurd (omega arith)
  worn_none (suc n) b h e k l =
      cases (test (next_block blocks b))
      (λ t. absurd (none-some (next_block blocks b) (sym e ∙ rw t)))
      (λ t. go k l t (worn_none n (next_block blocks b) (next_below blocks b h) (sym (rw t) ∙ e)))
    where
      go : (k : ℕ) → k < suc n → test (next_block blocks b) ≡ false → ((j : ℕ) → j < n → test (after blocks (next_block blocks b) (suc j)) ≡ false) → test (after blocks b (suc k)) ≡ false
      go zero l t w = ap test (after_one blocks b h) ∙ t
      go (suc k) l t w = ap test (sym (after_next blocks b (suc k) h)) ∙ w k (omega arith)

  pub none_worn : (n b : ℕ) → b < blocks → ((k : ℕ) → k < n → test (after blocks b (suc k)) ≡ false) → search_after test blocks n b ≡ None
  unfolding search_after
  none_worn zero b h f = refl
  none_worn (suc n) b h f =
      rw (ap test (sym (after_one blocks b h)) ∙ f 0 (omega arith))
      (none_worn n (next_block blocks b) (next_below blocks b h) (λ k l. ap test (after_next blocks b (suc k) h) ∙ f (suc k) (omega arith)))

  -- the block found passes the test, and no earlier one does
  pub record Found (n b c : ℕ) : Type 0 where
    pub steps : ℕ
    pub within : steps < n
    pub is : after blocks b (suc steps) ≡ c
    pub passes : test c ≡ true
    pub first : (k : ℕ) → k < steps → test (after blocks b (suc k)) ≡ false

  pub found : (n b c : ℕ) → b < blocks → search_after test blocks n b ≡ Some c → Found n b c
  unfolding search_after
  found zero b c h e = absurd (none-some c e)
  found (suc n) b c h e =
      cases (test (next_block blocks b))
      (λ t.
      let s : next_block blocks b ≡ c = same_Some (next_block blocks b) c (sym (rw t) ∙ e) in
      record {
        steps = 0;
        within = omega arith;
        is = after_one blocks b h ∙ s;
        passes = ap test (sym s) ∙ t;
        first = λ k l. absurd (omega arith);
      })
      (λ t. later t (found n (next_block blocks b) c (next_below blocks b h) (sym (rw t) ∙ e)))
    where
      earlier : test (next_block blocks b) ≡ false → (r : Found n (next_block blocks b) c) → (k : ℕ) → k < suc r.steps → test (after blocks b (suc k)) ≡ false
      earlier t r zero l = ap test (after_one blocks b h) ∙ t
      earlier t r (suc k) l = ap test (sym (after_next blocks b (suc k) h)) ∙ r.first k (omega arith)

      later : test (next_block blocks b) ≡ false → Found n (next_block blocks b) c → Found (suc n) b c
      later t r =
          record {
            steps = suc r.steps;
            within = omega (arith, r.within);
            is = sym (after_next blocks b (suc r.steps) h) ∙ r.is;
            passes = r.passes;
            first = earlier t r;
          }

-- every block is met, the one that the search began at last
pub met : (blocks b c : ℕ) → b < blocks → c < blocks → after blocks b (suc ((c + blocks - b - 1) % blocks)) ≡ c
unfolding after
met blocks b c hb hc =
    ap (λ (x : ℕ). x % blocks) (add_suc-left b ((c + blocks - b - 1) % blocks))
    ∙ add-mod-mod (b + 1) (c + blocks - b - 1) blocks
    ∙ ap (λ (x : ℕ). x % blocks) (omega arith)
    ∙ add-mod_right c blocks
    ∙ mod-eq_of_lt hc

-- worn exactly where no block of the chip may be filled
pub worn_exactly : (test : ℕ → Bool) (blocks last : ℕ) → last < blocks → (search_after test blocks blocks last ≡ None) ↔ ((c : ℕ) → c < blocks → test c ≡ false)
worn_exactly test blocks last h = (
  λ e c l. ap test (sym (met blocks last c h l)) ∙ worn_none test blocks blocks last h e ((c + blocks - last - 1) % blocks) (mod-lt (c + blocks - last - 1) (omega arith)),
  λ f. none_worn test blocks blocks last h (λ k l. f (after blocks last (suc k)) (after_below blocks last (suc k) (omega arith))),
)

-- one block more is counted, where it may be filled
module _ (marked invalid held : List ℕ) where
  pub count_permitted_fact : (n : ℕ) → permitted marked invalid held n ≡ true → count_permitted marked invalid held (n + 1) ≡ count_permitted marked invalid held n + 1
  unfolding count_permitted
  count_permitted_fact n h = rw (add-one, h)

  pub count_refused : (n : ℕ) → permitted marked invalid held n ≡ false → count_permitted marked invalid held (n + 1) ≡ count_permitted marked invalid held n
  unfolding count_permitted
  count_refused n h = rw (add-one, h) (add-zero (count_permitted marked invalid held n))

-- a choice is a block or none
pub by_choice : {P : Type 0} (c : Option ℕ) → (c ≡ None → P) → ((b : ℕ) → c ≡ Some b → P) → P
by_choice None f g = f refl
by_choice (Some b) f g = g b refl

pub permitted_parts : (marked invalid held : List ℕ) (b : ℕ) → permitted marked invalid held b ≡ true → (bit_at marked b ≡ false) × (bit_at invalid b ≡ false)
unfolding permitted
permitted_parts marked invalid held b t =
    let x = unless (bit_at marked b) _ t in
    (x.0, (unless (bit_at invalid b) _ x.1).0)

-- a block that is made invalid is permitted no more
module _ (marked invalid held : List ℕ) (b : ℕ) (there : b / 8 < length invalid) where
  pub permitted_other : (c : ℕ) → (c ≡ b → ⊥) → permitted marked (with_bit invalid b) held c ≡ permitted marked invalid held c
  unfolding permitted
  permitted_other c x = rw (bit_kept invalid b c x)

  pub permitted_gone : permitted marked (with_bit invalid b) held b ≡ false
  unfolding permitted
  permitted_gone = cases (bit_at marked b) (λ t. rw t) (λ t. rw (t, bit-set invalid b there))

  pub count_same : (n : ℕ) → n ≤ b → count_permitted marked (with_bit invalid b) held n ≡ count_permitted marked invalid held n
  unfolding count_permitted
  count_same zero h = refl
  count_same (suc n) h = rw (permitted_other n (λ e. omega (arith, e, h)), count_same n (omega (arith, h)))

  pub count_less : permitted marked invalid held b ≡ true → (n : ℕ) → b < n → count_permitted marked (with_bit invalid b) held n + 1 ≡ count_permitted marked invalid held n
  unfolding count_permitted
  count_less t zero h = absurd (omega (arith, h))
  count_less t (suc n) h =
      cases (eqb b n)
      (λ e.
      let same = eqb-true b n e in
      let gone : permitted marked (with_bit invalid b) held n ≡ false = ap (permitted marked (with_bit invalid b) held) (sym same) ∙ permitted_gone in
      let was : permitted marked invalid held n ≡ true = ap (permitted marked invalid held) (sym same) ∙ t in
      rw (gone, was, count_same n (omega (arith, same))) (omega arith))
      (λ e.
      let x = eqb-false b n e in
      let less = count_less t n (omega (arith, h, x)) in
      rw (permitted_other n (λ y. x (sym y))) (omega (arith, less)))
