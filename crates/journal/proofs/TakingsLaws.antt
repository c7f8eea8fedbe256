-- Takings fit 64 bits, and what a record entered at the end adds to them. Assumes nothing.
use Prim.Native.Nat.{ℕ, zero, suc, ◌+◌, ◌-◌, ◌*◌, ◌≤◌, ◌<◌}
use mathlib.Core.Bool.{Bool, true, false, cond}
use mathlib.Core.List.{List}
use mathlib.Core.Path.{◌≡◌, refl, sym, ap, ap₂, subst, ◌∙◌}
use native.Mathlib.Omega.{arith}
use borrow.Table.Steps.{cases}
use borrow.Author.Tests.{eq-eqb, ne_eqb, le-leb, eqb-true, eqb-false, leb-true}
use lib.Dec.{eqb, leb}
use lib.ListN.{drop}
use Rattle.bools.proofs.BoolLaws.{both, unless}
use Rattle.cells.specs.Bytes.{Bytes}
use Rattle.pages.specs.Layout.{all_ones}
use Rattle.copies.specs.Pick.{some_below}
use Rattle.journal.specs.Records.{Pages, number_in, is_next, replaces_in, amount_in, records}
use Rattle.journal.specs.Takings.{targets, amounts, replaced_by, in_force, counts, takings, takings_of}
use Rattle.journal.proofs.BytesLaws.{amount_most}
use Rattle.journal.proofs.EndLaws.{records_end, records_are}
use Rattle.journal.proofs.ForceLaws.{sum_same, sum-most, none_later, one_more, force_none, force_again, force_taken}

-- the most that n records can come to
pub takings-most : (pages : Pages) (n : ℕ) → ((k : ℕ) → k < n → Bytes (pages k)) → takings pages n ≤ n * 281470681677825
unfolding takings
takings-most pages n b =
    sum-most (counts (amounts pages) (targets pages) n) n 281470681677825
    (λ k h. cases (replaced_by (targets pages) n (suc k)) (λ t. rw t (omega arith)) (λ t. rw t (amount_most (pages k) (b k h))))

-- 65,535 records fit 64 bits
pub takings_fit : (pages : Pages) (n : ℕ) → n ≤ 65535 → ((k : ℕ) → k < n → Bytes (pages k)) → takings pages n < 18446744073709551616
takings_fit pages n h b = omega (arith, h, takings-most pages n b)

-- a record replaces an earlier one, or 0
pub next_earlier : (k : ℕ) (page : List ℕ) → is_next k page ≡ true → replaces_in page ≤ k
unfolding is_next
next_earlier k page t =
    let tail = all_ones (drop 11 page) in
    let rest = cond (leb (replaces_in page) k) tail false in
    leb-true (replaces_in page) k (both (leb (replaces_in page) k) tail (both (eqb (number_in page) (suc k)) rest t).1).0

-- records that are replaced, and takings, are those of the pages that are counted
pub replaced_same : (p q : Pages) (m t : ℕ) → ((k : ℕ) → k < m → p k ≡ q k) → replaced_by (targets p) m t ≡ replaced_by (targets q) m t
unfolding some_below
replaced_same p q zero t e = refl
replaced_same p q (suc m) t e =
    ap₂ (λ (a b : Bool). cond a true b) (ap (λ (x : List ℕ). eqb (replaces_in x) t) (e m (omega arith))) (replaced_same p q m t (λ k h. e k (omega (arith, h))))

pub in_force_same : (p q : Pages) (n t : ℕ) → ((k : ℕ) → k < n → p k ≡ q k) → in_force p n t ≡ in_force q n t
unfolding in_force
in_force_same p q n t e = ap (λ (b : Bool). cond (eqb t 0) false (cond (leb t n) (cond b false true) false)) (replaced_same p q n t e)

pub takings_same : (p q : Pages) (n : ℕ) → ((k : ℕ) → k < n → p k ≡ q k) → takings p n ≡ takings q n
unfolding takings
takings_same p q n e =
    sum_same _ _ n (λ k h. ap₂ (λ (b : Bool) (a : ℕ). cond b 0 a) (replaced_same p q n (suc k) e) (ap amount_in (e k h)))

-- one in force is among the records
pub in_force_most : (pages : Pages) (n t : ℕ) → in_force pages n t ≡ true → (0 < t) × (t ≤ n)
unfolding in_force
in_force_most pages n t h =
    let a = unless (eqb t 0) _ h in
    let b = both (leb t n) _ a.1 in
    (omega (arith, eqb-false t 0 a.0), leb-true t n b.0)

-- one record more is in force itself; the one that it replaces no longer is; all others as before
module _ (pages : Pages) (n : ℕ) (earlier : (k : ℕ) → k ≤ n → replaces_in (pages k) ≤ k) where
  pub in_force_last : in_force pages (suc n) (suc n) ≡ true
  unfolding in_force
  in_force_last = rw (ne_eqb (suc n) 0 (λ z. omega (arith, z)), le-leb (suc n) (suc n) (omega arith), none_later (amounts pages) (targets pages) n earlier (suc n) (suc n) (omega arith) (omega arith))

  pub in_force_not : (t : ℕ) → t ≡ replaces_in (pages n) → in_force pages (suc n) t ≡ false
  unfolding in_force
  in_force_not t e =
      cases (eqb t 0)
      (λ z. rw z)
      (λ z. rw (z, le-leb t (suc n) (omega (arith, e, earlier n (omega arith))), one_more (amounts pages) (targets pages) n earlier t, eq-eqb (replaces_in (pages n)) t (sym e)))

  pub in_force_other : (t : ℕ) → t ≤ n → (t ≡ replaces_in (pages n) → ⊥) → in_force pages (suc n) t ≡ in_force pages n t
  unfolding in_force
  in_force_other t h x =
      rw (le-leb t (suc n) (omega (arith, h)), le-leb t n h, one_more (amounts pages) (targets pages) n earlier t, ne_eqb (replaces_in (pages n)) t (λ z. x (sym z)))

  -- takings with it: it counts, and what it takes out of force no longer does
  pub adds : takings pages (suc n) + cond (in_force pages n (replaces_in (pages n))) (amount_in (pages (replaces_in (pages n) - 1))) 0 ≡ takings pages n + amount_in (pages n)
  unfolding takings in_force
  adds =
      cases (eqb (replaces_in (pages n)) 0)
      (λ z. rw z (let e = force_none (amounts pages) (targets pages) n earlier (eqb-true (replaces_in (pages n)) 0 z) in omega (arith, e)))
      (λ z.
      let h = le-leb (replaces_in (pages n)) n (earlier n (omega arith)) in
      cases (replaced_by (targets pages) n (replaces_in (pages n)))
      (λ t. rw (z, h, t) (let e = force_again (amounts pages) (targets pages) n earlier t in omega (arith, e)))
      (λ t.
      let m = replaces_in (pages n) - 1 in
      let e : suc m ≡ replaces_in (pages n) = omega (arith, eqb-false (replaces_in (pages n)) 0 z) in
      rw (z, h, t) (force_taken (amounts pages) (targets pages) n earlier m e (ap (replaced_by (targets pages) n) e ∙ t))))

-- pages that hold a record at the end of a journal, all else as it was. The page after it is no record, as an erased one is none
module _ (before after : Pages) (most : ℕ) (same : (k : ℕ) → (k ≡ records before most → ⊥) → after k ≡ before k)
    (fits : records before most < most) (next : is_next (records before most) (after (records before most)) ≡ true)
    (last : suc (records before most) < most → is_next (suc (records before most)) (before (suc (records before most))) ≡ false) where
  abbrev n : ℕ
  n = records before most

  earlier_same : (k : ℕ) → k < n → after k ≡ before k
  earlier_same k h = same k (λ e. omega (arith, e, h))

  -- there is one record more
  pub one_longer : records after most ≡ suc n
  one_longer =
      records_are after most (suc n)
      (record {
        within = omega (arith, fits);
        before = λ k h.
            cases (eqb k n)
            (λ t. subst (λ (i : ℕ). is_next i (after i) ≡ true) (sym (eqb-true k n t)) next)
            (λ t.
            let l : k < n = omega (arith, h, eqb-false k n t) in
            ap (is_next k) (earlier_same k l) ∙ (records_end before most).before k l);
        after = λ h. ap (is_next (suc n)) (same (suc n) (λ e. omega (arith, e))) ∙ last h;
      })

  all_earlier : (k : ℕ) → k ≤ n → replaces_in (after k) ≤ k
  all_earlier k h =
      next_earlier k (after k)
      (cases (eqb k n)
      (λ t. subst (λ (i : ℕ). is_next i (after i) ≡ true) (sym (eqb-true k n t)) next)
      (λ t.
      let l : k < n = omega (arith, h, eqb-false k n t) in
      ap (is_next k) (earlier_same k l) ∙ (records_end before most).before k l))

  abbrev target : ℕ
  target = replaces_in (after n)

  -- takings, with what was replaced, are those before and what the record amounts to
  pub append_adds : takings_of after most + cond (in_force before n target) (amount_in (before (target - 1))) 0 ≡ takings_of before most + amount_in (after n)
  append_adds =
      let force = in_force_same after before n target earlier_same in
      let what : cond (in_force after n target) (amount_in (after (target - 1))) 0 ≡ cond (in_force before n target) (amount_in (before (target - 1))) 0 =
      cases (in_force before n target)
      (λ t.
      let h = in_force_most before n target t in
      rw (force, t) (ap amount_in (earlier_same (target - 1) (omega (arith, h.0, h.1)))))
      (λ t. rw (force, t)) in
      let e = adds after n all_earlier in
      let a : takings_of after most ≡ takings after (suc n) = ap (takings after) one_longer in
      let b : takings after n ≡ takings before n = takings_same after before n earlier_same in
      omega (arith, what, e, a, b)
