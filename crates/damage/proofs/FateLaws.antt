-- What makes an operation silent or fail: a fate word of the call. Assumes nothing.
use Prim.Native.Nat.{ℕ, ◌≤◌}
use mathlib.Core.Bool.{true, false≢true}
use mathlib.Core.List.{List}
use mathlib.Core.Path.{◌≡◌, sym, ◌∙◌}
use native.Mathlib.Omega.{arith}
use borrow.Table.Steps.{cases}
use borrow.Author.Tests.{eqb-false, ltb-true, ltb-false}
use lib.Dec.{eqb, ltb}
use lib.ListN.{length, get_or}
use Rattle.chip_interface.specs.Interface.{fate_word, busy_of, failed_of, failed_for}
use Rattle.chip_array.specs.Device.{Setting}
use Rattle.bus.specs.Line.{Line}
use Rattle.operations.specs.Ends.{read_end, read_total, ends_as, total_for, word_for}
use Rattle.bus_polling.specs.Outcomes.{is_failed, is_silent}
use Rattle.damage.specs.Run.{Slow, Failing}

-- past the list's end no word is slow and none fails
pub slow_word_lem : (fates : List ℕ) (i : ℕ) → 256 ≤ busy_of (fate_word fates i) → Slow fates
unfolding fate_word
slow_word_lem fates i h =
    cases (ltb i (length fates))
    (λ t. record { place = i; within = ltb-true i (length fates) t; busy = rw t at h })
    (λ f. absurd (omega (arith, rw f at h)))

pub failing_word : (fates : List ℕ) (i : ℕ) → (failed_of (fate_word fates i) ≡ 0 → ⊥) → Failing fates
unfolding fate_word
failing_word fates i x =
    cases (ltb i (length fates))
    (λ t.
    let set : failed_of (get_or fates i 0) ≡ 0 → ⊥ = λ z. x (rw t z) in
    record { place = i; within = ltb-true i (length fates) t; fails = omega (arith, set) })
    (λ f. absurd (x (rw f)))

module _ (s : Setting) (l : Line) where
  pub read_slow : (n : ℕ) → is_silent (read_end s l n).outcome ≡ true → Slow s.fates
  unfolding read_end is_silent
  read_slow n z =
      cases (ltb l.left (read_total s l.chip n))
      (λ t. absurd (false≢true (sym (rw t) ∙ z)))
      (λ t.
      cases (ltb (busy_of (word_for s l.chip)) 256)
      (λ u. absurd (false≢true (sym (rw (t, u)) ∙ z)))
      (λ u. slow_word_lem s.fates l.chip.interface.fate (ltb-false (busy_of (word_for s l.chip)) 256 u)))

  pub ends_slow : (op m : ℕ) → is_silent (ends_as s l op m) ≡ true → Slow s.fates
  unfolding is_silent
  ends_slow op m z =
      cases (ltb l.left (total_for s l.chip m))
      (λ t. absurd (false≢true (sym (rw t) ∙ z)))
      (λ t.
      cases (ltb (busy_of (word_for s l.chip)) 256)
      (λ u.
      cases (eqb (failed_for op (word_for s l.chip)) 0) (λ w. absurd (false≢true (sym (rw (t, u, w)) ∙ z))) (λ w. absurd (false≢true (sym (rw (t, u, w)) ∙ z))))
      (λ u. slow_word_lem s.fates l.chip.interface.fate (ltb-false (busy_of (word_for s l.chip)) 256 u)))

  set_word : (op : ℕ) → (failed_for op (word_for s l.chip) ≡ 0 → ⊥) → Failing s.fates
  set_word op x =
      cases (eqb op 1)
      (λ t. absurd (x (rw t)))
      (λ f. failing_word s.fates l.chip.interface.fate (λ z. x (rw f z)))

  pub ends_failing : (op m : ℕ) → is_failed (ends_as s l op m) ≡ true → Failing s.fates
  unfolding is_failed
  ends_failing op m z =
      cases (ltb l.left (total_for s l.chip m))
      (λ t. absurd (false≢true (sym (rw t) ∙ z)))
      (λ t.
      cases (ltb (busy_of (word_for s l.chip)) 256)
      (λ u.
      cases (eqb (failed_for op (word_for s l.chip)) 0)
      (λ w. absurd (false≢true (sym (rw (t, u, w)) ∙ z)))
      (λ w. set_word op (eqb-false (failed_for op (word_for s l.chip)) 0 w)))
      (λ u. absurd (false≢true (sym (rw (t, u)) ∙ z))))
