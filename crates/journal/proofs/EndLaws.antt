-- Where a journal ends: all pages before are records in order, and the next one is none. Assumes nothing.
use Prim.Native.Nat.{ℕ, zero, suc, ◌*◌, ◌≤◌, ◌<◌}
use mathlib.Core.Bool.{true, false, cond}
use mathlib.Core.Path.{◌≡◌, refl, sym, subst}
use native.Mathlib.Omega.{arith}
use borrow.Table.Steps.{cases}
use borrow.Author.Tests.{eqb-true, eqb-false, leb-true, leb-false}
use lib.Dec.{eqb, leb}
use Rattle.geometry.specs.declared.Geometry.{Geometry}
use Rattle.bools.proofs.BoolLaws.{clash}
use Rattle.journal.specs.Records.{Pages, is_next, records, room}

-- e of the first n pages are records, one after the other, and the page after them is not the next
pub record Ends (pages : Pages) (n e : ℕ) : Type 0 where
  pub within : e ≤ n
  pub before : (k : ℕ) → k < e → is_next k (pages k) ≡ true
  pub after : e < n → is_next e (pages e) ≡ false

-- the same of one page more: the journal ended before, it takes the page, or it ends there
ends-before : {pages : Pages} {n e : ℕ} → e < n → Ends pages n e → Ends pages (suc n) e
ends-before h x = record { within = omega (arith, h); before = x.before; after = λ _. x.after h }

ends_longer : {pages : Pages} {n : ℕ} → Ends pages n n → is_next n (pages n) ≡ true → Ends pages (suc n) (suc n)
ends_longer {pages} {n} x t =
    record {
      within = omega arith;
      before = λ k h. cases (eqb k n) (λ e. subst (λ (i : ℕ). is_next i (pages i) ≡ true) (sym (eqb-true k n e)) t) (λ e. x.before k (omega (arith, h, eqb-false k n e)));
      after = λ h. absurd (omega (arith, h));
    }

ends_here : {pages : Pages} {n : ℕ} → Ends pages n n → is_next n (pages n) ≡ false → Ends pages (suc n) n
ends_here x f = record { within = omega arith; before = x.before; after = λ _. f }

pub records_end : (pages : Pages) (n : ℕ) → Ends pages n (records pages n)
unfolding records
records_end pages zero = record { within = omega arith; before = λ k h. absurd (omega (arith, h)); after = λ h. absurd (omega (arith, h)) }
records_end pages (suc n) =
    let less = records_end pages n in
    cases (eqb (records pages n) n)
    (λ t.
    let whole = subst (Ends pages n) (eqb-true (records pages n) n t) less in
    cases (is_next n (pages n)) (λ u. rw (t, u) (ends_longer whole u)) (λ u. rw (t, u) (ends_here whole u)))
    (λ t. rw t (ends-before (omega (arith, less.within, eqb-false (records pages n) n t)) less))

-- there is one such end
pub ends-once : {pages : Pages} {n d e : ℕ} → Ends pages n d → Ends pages n e → d ≤ e
ends-once {pages} {n} {d} {e} x y =
    cases (leb d e)
    (λ t. leb-true d e t)
    (λ t.
    let h : e < d = leb-false d e t in
    clash (x.before e h) (y.after (omega (arith, h, x.within))))

pub records_are : (pages : Pages) (n e : ℕ) → Ends pages n e → records pages n ≡ e
records_are pages n e x =
    let a = ends-once (records_end pages n) x in
    let b = ends-once x (records_end pages n) in
    omega (arith, a, b)

-- records are those of the pages counted
pub records_same : (p q : Pages) (n : ℕ) → ((k : ℕ) → k < n → p k ≡ q k) → records p n ≡ records q n
unfolding records
records_same p q zero e = refl
records_same p q (suc n) e =
    let less = records_same p q n (λ k h. e k (omega (arith, h))) in
    let page = e n (omega arith) in
    λ i. cond (eqb (less i) n) (cond (is_next n (page i)) (suc n) n) (less i)

-- room is for 65,535 records at the most, and for one a page
pub room_most : (g : Geometry) → room g ≤ 65535
unfolding room
room_most g = cases (leb (g.logical * g.pages) 65535) (λ t. rw t (leb-true (g.logical * g.pages) 65535 t)) (λ t. rw t (omega arith))

pub room_within : (g : Geometry) → room g ≤ g.logical * g.pages
unfolding room
room_within g = cases (leb (g.logical * g.pages) 65535) (λ t. rw t (omega arith)) (λ t. rw t (omega (arith, leb-false (g.logical * g.pages) 65535 t)))
