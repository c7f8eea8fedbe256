-- How an operation ends, for every allowance, fate and mask.
use Prim.Native.Nat.{ℕ, ◌+◌, ◌≤◌, ◌<◌}
use mathlib.Core.Bool.{true, cond, false≢true}
use mathlib.Core.List.{List}
use mathlib.Core.Path.{◌≡◌, refl, sym, ap, subst, ◌∙◌}
use native.Mathlib.Omega.{arith}
use borrow.Author.Tests.{eq-eqb, ne_eqb, le-leb, lt-leb, lt-ltb, le-ltb, leb-true, leb-false, ltb-true, ltb-false}
use borrow.Table.Steps.{cases}
use lib.Dec.{eqb, leb, ltb}
use lib.ListN.{length, take}
use Rattle.geometry.specs.Limits.{Valid}
use Rattle.geometry.specs.Sizes.{page_size, block_size, chip_size}
use Rattle.chip_interface.specs.Interface.{busy_of, failed_for, next_fate}
use Rattle.chip_array.specs.Device.{Device, Setting}
use Rattle.chip.specs.Chip.{Cycle}
use Rattle.bus.specs.Line.{Line, run, send_all, uncut_line, Quiet}
use Rattle.bus_polling.specs.Polling.{outcome_of}
use Rattle.bus_sequences.specs.Cycles.{started_cycles}
use Rattle.operations.specs.Ends.{Called, End, end_of, confirmed_end, ends_as, word_for, total_for}
use Rattle.bus_polling.specs.Outcomes.{answered}
use Rattle.operations.proofs.ConfirmLaws.{Confirmed, through, silent, early_cut, late_cut}

pub same_end : {x y : End} → x.outcome ≡ y.outcome → x.array ≡ y.array → x.history ≡ y.history → x.left ≡ y.left → x.fate ≡ y.fate → x ≡ y
same_end o a h l f = λ i. record { outcome = o i; array = a i; history = h i; left = l i; fate = f i }

-- the numbers and bytes of an operation: quiet up to the cycle that starts it, and what passing adds
pub record Effect (s : Setting) (d : Device) (first : List Cycle) (start : Cycle) (op : ℕ) (d₂ d₄ : Device) (a₂ h₂ : List ℕ) : Type 0 where
  pub confirmed : Confirmed s d first start d₂ d₄
  pub quiet : (n : ℕ) → Quiet d (run s d (take n first))
  pub busy_is : d₂.interface.busy ≡ busy_of (word_for s d)
  pub failed_is : d₂.interface.failed ≡ failed_for op (word_for s d)
  pub fate_is : d₂.interface.fate ≡ next_fate s.fates d.interface.fate
  pub then_failed : d₄.interface.failed ≡ d₂.interface.failed
  pub then_fate : d₄.interface.fate ≡ d₂.interface.fate
  pub then_array : d₄.array ≡ cond (eqb d₂.interface.failed 0) a₂ d₂.array
  pub then_history : d₄.history ≡ cond (eqb d₂.interface.failed 0) h₂ d₂.history

module _ (s : Setting) (d : Device) (first : List Cycle) (start : Cycle) (op : ℕ) (d₂ d₄ : Device) (a₂ h₂ : List ℕ) (e : Effect s d first start op d₂ d₄ a₂ h₂) where
  whole : ℕ → Line
  whole n = send_all s (uncut_line d n) (started_cycles s (uncut_line d n) first start)

  expected : ℕ → End
  expected n = confirmed_end s (uncut_line d n) op (length first) d₂.array d₂.history a₂ h₂

  ends_early : (n : ℕ) → n ≤ length first → end_of (whole n) ≡ expected n
  unfolding end_of confirmed_end outcome_of whole expected
  ends_early n h =
      let t = lt-ltb n (total_for s d (length first)) (omega arith) in
      let l = le-leb n (length first) h in
      let q = e.quiet n in
      ap end_of (early_cut s d first start d₂ d₄ e.confirmed n h)
      ∙ same_end (rw t) (rw l q.array) (rw l q.history) (omega arith) (rw l q.fate)

  ends_late : (n : ℕ) → length first < n → n < total_for s d (length first) → end_of (whole n) ≡ expected n
  unfolding end_of confirmed_end outcome_of whole expected
  ends_late n h k =
      let t = lt-ltb n (total_for s d (length first)) k in
      let l = lt-leb n (length first) h in
      let c = late_cut s d first start d₂ d₄ e.confirmed n h (rw e.busy_is k) in
      ap end_of c.3 ∙ same_end (rw t) (rw (l, t)) (rw (l, t)) (omega arith) (rw l (c.1 ∙ e.fate_is))

  ends_silent : (n : ℕ) → total_for s d (length first) ≤ n → 256 ≤ busy_of (word_for s d) → end_of (whole n) ≡ expected n
  unfolding end_of confirmed_end outcome_of whole expected
  ends_silent n h k =
      let t = le-ltb n (total_for s d (length first)) h in
      let b = le-ltb (busy_of (word_for s d)) 256 k in
      let m : length first + 2 + 256 ≤ n = rw b at h in
      let l = lt-leb n (length first) (omega arith) in
      let c = e.confirmed in
      ap end_of (silent s d first start d₂ d₄ c n (rw e.busy_is k) m)
      ∙ same_end (rw (eq-eqb _ _ c.legal, t, b)) (rw (l, t, b)) (rw (l, t, b)) (rw b) (rw l e.fate_is)

  ends_ready : (n : ℕ) → total_for s d (length first) ≤ n → busy_of (word_for s d) < 256 → end_of (whole n) ≡ expected n
  unfolding end_of confirmed_end outcome_of whole expected
  ends_ready n h k =
      let t = le-ltb n (total_for s d (length first)) h in
      let b = lt-ltb (busy_of (word_for s d)) 256 k in
      let m : length first + 2 + (busy_of (word_for s d) + 1) ≤ n = rw b at h in
      let l = lt-leb n (length first) (omega arith) in
      let c = e.confirmed in
      ap end_of (through s d first start d₂ d₄ c n (rw e.busy_is k) (rw e.busy_is m))
      ∙ same_end
      (rw (eq-eqb _ _ c.still_legal, ne_eqb d₄.interface.phase 8 (λ x. omega (arith, x, c.settled)), e.then_failed, e.failed_is, t, b))
      (e.then_array ∙ rw (e.failed_is, l, t, b))
      (e.then_history ∙ rw (e.failed_is, l, t, b))
      (rw (e.busy_is, b))
      (rw l (e.then_fate ∙ e.fate_is))

  -- the closed form
  pub effect_ends : (n : ℕ) → end_of (send_all s (uncut_line d n) (started_cycles s (uncut_line d n) first start)) ≡ confirmed_end s (uncut_line d n) op (length first) d₂.array d₂.history a₂ h₂
  unfolding whole expected
  effect_ends n =
      cases (leb n (length first)) (λ t. ends_early n (leb-true n (length first) t))
      (λ t. cases (ltb n (total_for s d (length first)))
      (λ u. ends_late n (leb-false n (length first) t) (ltb-true n (total_for s d (length first)) u))
      (λ u. cases (ltb (busy_of (word_for s d)) 256)
      (λ v. ends_ready n (ltb-false n (total_for s d (length first)) u) (ltb-true (busy_of (word_for s d)) 256 v))
      (λ v. ends_silent n (ltb-false n (total_for s d (length first)) u) (ltb-false (busy_of (word_for s d)) 256 v))))

  -- an operation that was answered leaves the chip ready for the next
  pub effect_next : (n : ℕ) → Valid s.geometry → length s.mask ≡ block_size s.geometry → length d₄.array ≡ chip_size s.geometry → length d₄.register ≡ page_size s.geometry → length d₄.history ≡ s.geometry.blocks → answered (ends_as s (uncut_line d n) op (length first)) ≡ true → Called s (send_all s (uncut_line d n) (started_cycles s (uncut_line d n) first start))
  unfolding answered
  effect_next n v m al rl hl a =
      let c = e.confirmed in
      cases (ltb n (total_for s d (length first)))
      (λ t. absurd (false≢true (sym (rw t) ∙ a)))
      (λ t. cases (ltb (busy_of (word_for s d)) 256)
      (λ u.
      let k = ltb-true (busy_of (word_for s d)) 256 u in
      let h : length first + 2 + (busy_of (word_for s d) + 1) ≤ n = rw u at (ltb-false n (total_for s d (length first)) t) in
      subst (λ (x : Line). Called s x)
      (sym (through s d first start d₂ d₄ c n (rw e.busy_is k) (rw e.busy_is h)))
      (record {
        is_valid = v;
        array_long = al;
        register_long = rl;
        history_long = hl;
        mask_long = m;
        ready = omega (arith, c.settled);
        legal = c.still_legal;
        uncut = refl;
      }))
      (λ u. absurd (false≢true (sym (rw (t, u)) ∙ a))))
