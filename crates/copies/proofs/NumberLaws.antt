-- Numbers on whole pages: the greatest of a block and of an array, the next number and the block filled last. Assumes nothing.
use Prim.Native.Nat.{ℕ, zero, suc, ◌+◌, ◌-◌, ◌≤◌, ◌<◌}
use mathlib.Core.Bool.{Bool, true, false, false≢true}
use mathlib.Core.List.{List}
use mathlib.Core.Logic.{◌⊎◌, ◌↔◌, inl, inr}
use mathlib.Core.Path.{◌≡◌, refl, sym, ap, subst, ◌∙◌}
use native.Mathlib.Omega.{arith}
use borrow.Table.Steps.{cases}
use borrow.Author.Tests.{eqb-true, eqb-false, leb-true, leb-false, ltb-true, ltb-false}
use lib.Dec.{eqb, leb, ltb}
use Rattle.geometry.specs.declared.Geometry.{Geometry}
use Rattle.bools.proofs.BoolLaws.{unless, clash}
use Rattle.copies.specs.Blocks.{block_in, whole_in, label_in, is_marked, any_to, greatest_to, has_number, greatest}
use Rattle.copies.specs.Current.{greatest_below, next_number, filled_last}
use Rattle.copies.specs.Numbers.{PagesRead, whole_pages, Holds, Held, NoneHeld, IsNext, Lowest, IsLast}
use Rattle.copies.specs.Pick.{Pick, nothing, at, pick, Picked}
use Rattle.copies.proofs.PickLaws.{pick_is}

-- numbers on whole pages are below some number
pub greatest-most : (g : Geometry) (row : List ℕ) (k n : ℕ) → 0 < k → ((i : ℕ) → i < n → whole_in g row i ≡ true → (label_in g row i).number < k) → greatest_to g row n < k
unfolding greatest_to
greatest-most g row k zero z f = z
greatest-most g row k (suc n) z f =
    let less = greatest-most g row k n z (λ i h. f i (omega (arith, h))) in
    cases (whole_in g row n)
    (λ t. rw t (omega (arith, less, f n (omega arith) t)))
    (λ t. rw t less)

-- the number of a whole page
pub greatest_least : (g : Geometry) (row : List ℕ) (n i : ℕ) → i < n → whole_in g row i ≡ true → (label_in g row i).number ≤ greatest_to g row n
unfolding greatest_to
greatest_least g row zero i h t = absurd (omega (arith, h))
greatest_least g row (suc n) i h t =
    cases (eqb i n)
    (λ e.
    let j = eqb-true i n e in
    let here : whole_in g row n ≡ true = ap (whole_in g row) (sym j) ∙ t in
    rw here (omega (arith, ap (λ (k : ℕ). (label_in g row k).number) j)))
    (λ e.
    let less = greatest_least g row n i (omega (arith, h, eqb-false i n e)) t in
    cases (whole_in g row n) (λ u. rw u (omega (arith, less))) (λ u. rw u less))

-- some page is whole, or none and the greatest is 0
pub any_is : (g : Geometry) (row : List ℕ) (n i : ℕ) → i < n → whole_in g row i ≡ true → any_to g row n ≡ true
unfolding any_to
any_is g row zero i h t = absurd (omega (arith, h))
any_is g row (suc n) i h t =
    cases (whole_in g row n)
    (λ u. rw u)
    (λ u.
    cases (eqb i n)
    (λ e. clash (ap (whole_in g row) (sym (eqb-true i n e)) ∙ t) u)
    (λ e. rw u (any_is g row n i (omega (arith, h, eqb-false i n e)) t)))

pub none_to : (g : Geometry) (row : List ℕ) (n : ℕ) → any_to g row n ≡ false → greatest_to g row n ≡ 0
unfolding any_to greatest_to
none_to g row zero f = refl
none_to g row (suc n) f =
    cases (whole_in g row n)
    (λ t. absurd (false≢true (sym f ∙ rw t)))
    (λ t. rw t (none_to g row n (sym (rw t) ∙ f)))

pub none-greatest : (g : Geometry) (row : List ℕ) → has_number g row ≡ false → greatest g row ≡ 0
unfolding has_number greatest
none-greatest g row f = cases (is_marked g row) (λ t. rw t) (λ t. rw t (none_to g row g.pages (sym (rw t) ∙ f)))

-- a page that bears the greatest number of the first n
pub record Greatest (g : Geometry) (row : List ℕ) (n : ℕ) : Type 0 where
  pub page : ℕ
  pub within : page < n
  pub is_whole : whole_in g row page ≡ true
  pub bears : (label_in g row page).number ≡ greatest_to g row n

still-greatest : (g : Geometry) (row : List ℕ) (n : ℕ) → greatest_to g row n ≡ greatest_to g row (suc n) → Greatest g row n → Greatest g row (suc n)
still-greatest g row n e r =
    record { page = r.page; within = omega (arith, r.within); is_whole = r.is_whole; bears = r.bears ∙ e }

pub greatest_on : (g : Geometry) (row : List ℕ) (n : ℕ) → any_to g row n ≡ true → Greatest g row n
unfolding any_to greatest_to
greatest_on g row zero t = absurd (false≢true t)
greatest_on g row (suc n) t =
    let number = (label_in g row n).number in
    cases (whole_in g row n)
    (λ w.
    cases (leb (greatest_to g row n) number)
    (λ l. record { page = n; within = omega arith; is_whole = w; bears = rw w (omega (arith, leb-true (greatest_to g row n) number l)) })
    (λ l.
    let more : number < greatest_to g row n = leb-false (greatest_to g row n) number l in
    let some : any_to g row n ≡ true = cases (any_to g row n) (λ a. a) (λ a. absurd (omega (arith, more, none_to g row n a))) in
    still-greatest g row n (rw w (omega (arith, more))) (greatest_on g row n some)))
    (λ w. still-greatest g row n (rw w) (greatest_on g row n (sym (rw w) ∙ t)))

-- that of a block is none above the greatest of the array
pub greatest_in : (g : Geometry) (array : List ℕ) (n b : ℕ) → b < n → greatest g (block_in g array b) ≤ greatest_below g array n
unfolding greatest_below
greatest_in g array zero b h = absurd (omega (arith, h))
greatest_in g array (suc n) b h =
    cases (eqb b n)
    (λ e. omega (arith, ap (λ (k : ℕ). greatest g (block_in g array k)) (eqb-true b n e)))
    (λ e. omega (arith, greatest_in g array n b (omega (arith, h, eqb-false b n e))))

pub greatest_up : (g : Geometry) (array : List ℕ) (n k : ℕ) → ((b : ℕ) → b < n → greatest g (block_in g array b) ≤ k) → greatest_below g array n ≤ k
unfolding greatest_below
greatest_up g array zero k f = omega arith
greatest_up g array (suc n) k f = omega (arith, greatest_up g array n k (λ b h. f b (omega (arith, h))), f n (omega arith))

-- what a mount keeps of a block: whether it holds a number, and the greatest
pub record Kept (r : PagesRead) (has : ℕ → Bool) (most : ℕ → ℕ) (b : ℕ) : Type 0 where
  pub held : has b ≡ true → Holds r b (most b)
  pub each : (m : ℕ) → Holds r b m → (has b ≡ true) × (m ≤ most b)
  pub none : has b ≡ false → most b ≡ 0

-- the rule of the next number and the block filled last, over any pages read; top is the least that no block's number exceeds
module _ (r : PagesRead) (has : ℕ → Bool) (most : ℕ → ℕ) (kept : (b : ℕ) → b < r.blocks → Kept r has most b) (top : ℕ)
    (upper : (b : ℕ) → b < r.blocks → most b ≤ top) (least : (k : ℕ) → ((b : ℕ) → b < r.blocks → most b ≤ k) → top ≤ k) where
  above : (b m : ℕ) → b < r.blocks → Holds r b m → m < top + 1
  above b m h x = omega (arith, ((kept b h).each m x).1, upper b h)

  none_held : Picked has most r.blocks nothing → NoneHeld r
  none_held none b m h x = clash ((kept b h).each m x).0 (none b h)

  -- the number of the block picked is the top
  top_is : (b : ℕ) → Picked has most r.blocks (at b) → most b ≡ top + 1 - 1
  top_is b p =
      let within = least (most b) (λ k h. cases (has k) (λ t. p.greatest k h t) (λ f. omega (arith, (kept k h).none f))) in
      omega (arith, within, upper b p.below)

  held_at : (b : ℕ) → Picked has most r.blocks (at b) → Holds r b (top + 1 - 1)
  held_at b p = subst (Holds r b) (top_is b p) ((kept b p.below).held p.passes)

  next_of : (o : Pick) → Picked has most r.blocks o → IsNext r (top + 1)
  next_of nothing none =
      let zero-top : top ≤ 0 = least 0 (λ k h. omega (arith, (kept k h).none (none k h))) in
      record { above = above; one_above = inr (none_held none, omega (arith, zero-top)) }
  next_of (at b) p =
      record { above = above; one_above = inl (record { block = b; below = p.below; holds = held_at b p }) }

  last_of : (o : Pick) → Picked has most r.blocks o → IsLast r (top + 1) o
  last_of nothing none = none_held none
  last_of (at b) p =
      record {
        below = p.below;
        holds = held_at b p;
        lower = λ k h x.
            let l : k < r.blocks = omega (arith, h, p.below) in
            omega (arith, p.lowest k h ((kept k l).each (top + 1 - 1) x).0, ((kept k l).each (top + 1 - 1) x).1, top_is b p);
      }

  pub next_kept : IsNext r (top + 1)
  next_kept = next_of (pick has most r.blocks) (pick_is has most r.blocks)

  pub last_kept : IsLast r (top + 1) (pick has most r.blocks)
  last_kept = last_of (pick has most r.blocks) (pick_is has most r.blocks)

-- no two numbers are next, and no two blocks were filled last
module _ (r : PagesRead) where
  -- a next number is not 0, and none lies above another
  next_some : (k : ℕ) → Held r (k - 1) ⊎ (NoneHeld r × (k ≡ 1)) → NoneHeld r → 0 < k
  next_some k (inl h) none = absurd (none h.block (k - 1) h.below h.holds)
  next_some k (inr one) none = omega (arith, one.1)

  not_over : (n k : ℕ) → IsNext r k → Held r (n - 1) ⊎ (NoneHeld r × (n ≡ 1)) → n ≤ k
  not_over n k b (inl h) = omega (arith, b.above h.block (n - 1) h.below h.holds)
  not_over n k b (inr one) = omega (arith, one.1, next_some k b.one_above one.0)

  pub next_one : (n k : ℕ) → IsNext r n → IsNext r k → n ≡ k
  next_one n k a b = omega (arith, not_over n k b a.one_above, not_over k n a b.one_above)

  lowest_most : (m b c : ℕ) → Lowest r m b → Lowest r m c → b ≤ c
  lowest_most m b c x y = cases (ltb c b) (λ l. absurd (x.lower c (ltb-true c b l) y.holds)) (λ l. ltb-false c b l)

  pub last_one : (n : ℕ) (o q : Pick) → IsLast r n o → IsLast r n q → o ≡ q
  last_one n nothing nothing x y = refl
  last_one n nothing (at c) x y = absurd (x c (n - 1) y.below y.holds)
  last_one n (at b) nothing x y = absurd (y b (n - 1) x.below x.holds)
  last_one n (at b) (at c) x y =
      let e : b ≡ c = omega (arith, lowest_most (n - 1) b c x y, lowest_most (n - 1) c b y x) in
      ap at e

-- what the definitions keep of the whole pages of an unmarked block
module _ (g : Geometry) (array : List ℕ) where
  abbrev all : PagesRead
  all = whole_pages g array

  abbrev has : ℕ → Bool
  has b = has_number g (block_in g array b)

  abbrev most : ℕ → ℕ
  most b = greatest g (block_in g array b)

  held_on : (b : ℕ) → is_marked g (block_in g array b) ≡ false → Greatest g (block_in g array b) g.pages → Holds all b (most b)
  unfolding greatest
  held_on b u r = record { page = r.page; within = r.within; counts = rw u r.is_whole; bears = rw u r.bears }

  held_most : (b : ℕ) → has b ≡ true → Holds all b (most b)
  unfolding has_number
  held_most b t =
      let row = block_in g array b in
      let parts = unless (is_marked g row) (any_to g row g.pages) t in
      held_on b parts.0 (greatest_on g row g.pages parts.1)

  each_held : (b m : ℕ) → Holds all b m → (has b ≡ true) × (m ≤ most b)
  unfolding has_number greatest
  each_held b m x =
      let row = block_in g array b in
      let parts = unless (is_marked g row) (whole_in g row x.page) x.counts in (
        rw parts.0 (any_is g row g.pages x.page x.within parts.1),
        rw parts.0 (omega (arith, x.bears, greatest_least g row g.pages x.page x.within parts.1)),
      )

  whole_kept : (b : ℕ) → b < g.blocks → Kept all has most b
  whole_kept b h = record { held = held_most b; each = each_held b; none = none-greatest g (block_in g array b) }

  next_is : IsNext all (next_number g array)
  unfolding next_number
  next_is = next_kept all has most whole_kept (greatest_below g array g.blocks) (greatest_in g array g.blocks) (greatest_up g array g.blocks)

  last_is : IsLast all (next_number g array) (filled_last g array)
  unfolding next_number filled_last
  last_is = last_kept all has most whole_kept (greatest_below g array g.blocks) (greatest_in g array g.blocks) (greatest_up g array g.blocks)

  -- a mount's next number, exactly
  pub next_exactly : (n : ℕ) → (n ≡ next_number g array) ↔ IsNext all n
  next_exactly n = (λ e. subst (IsNext all) (sym e) next_is, λ x. next_one all n (next_number g array) x next_is)

  -- and the block filled last
  pub last_exactly : (o : Pick) → (o ≡ filled_last g array) ↔ IsLast all (next_number g array) o
  last_exactly o =
      (λ e. subst (IsLast all (next_number g array)) (sym e) last_is, λ x. last_one all (next_number g array) o (filled_last g array) x last_is)
