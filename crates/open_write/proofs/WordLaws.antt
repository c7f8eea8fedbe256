-- The words kept of an open write tell where it stands. Assumes nothing.
use Prim.Native.Nat.{ℕ, zero, suc, ◌-◌, ◌≤◌, ◌<◌}
use mathlib.Core.Bool.{cond}
use mathlib.Core.Path.{◌≡◌, sym, ap, ◌∙◌}
use native.Mathlib.Nat.{sub-zero}
use native.Mathlib.Omega.{arith}
use borrow.Table.Steps.{cases}
use borrow.Author.Tests.{eqb-true, eqb-false}
use lib.Dec.{eqb}
use lib.ListN.{drop, replicate}
use Rattle.fill_cursor.specs.declared.Cursor.{Cursor}
use Rattle.open_write.specs.Open.{cursor_of, words_of}

-- a write that goes on, as it stands between two calls: no erase is due
pub record Kept (c : Cursor) : Type 0 where
  pub goes_on : c.phase < 2
  pub step_most : c.step ≤ 2
  pub no_erase : c.step ≡ 1 → ⊥
  pub one_page : c.count ≡ 1
  pub unanswered : c.answer ≡ 0

-- the same elsewhere
abbrev standing : ℕ → ℕ → ℕ → ℕ → Cursor → Cursor
standing phase step count answer c =
    record { phase = phase; step = step; logical = c.logical; first = c.first; count = count; old = c.old; block = c.block; number = c.number; page = c.page; failed = c.failed; answer = answer }

phase_told : (n : ℕ) → n < 2 → cond (eqb n 0) 0 1 ≡ n
phase_told n h =
    cases (eqb n 0) (λ t. rw t (sym (eqb-true n 0 t))) (λ f. rw f (omega (arith, h, eqb-false n 0 f)))

step-told : (n : ℕ) → n ≤ 2 → (n ≡ 1 → ⊥) → cond (eqb n 0) 0 2 ≡ n
step-told n h some =
    cases (eqb n 0) (λ t. rw t (sym (eqb-true n 0 t))) (λ f. rw f (omega (arith, h, some, eqb-false n 0 f)))

pub words_tell : (c : Cursor) → Kept c → cursor_of (words_of c) ≡ c
words_tell c k =
    ap (λ (n : ℕ). standing n (cond (eqb c.step 0) 0 2) 1 0 c) (phase_told c.phase k.goes_on)
    ∙ ap (λ (n : ℕ). standing c.phase n 1 0 c) (step-told c.step k.step_most k.no_erase)
    ∙ ap (λ (n : ℕ). standing c.phase c.step n 0 c) (sym k.one_page)
    ∙ ap (λ (n : ℕ). standing c.phase c.step c.count n c) (sym k.unanswered)

-- the rest of a buffer that was cleared
pub cleared_rest : (k n : ℕ) → drop k (replicate {A = ℕ} n 0) ≡ replicate (n - k) 0
cleared_rest zero n = ap (λ (m : ℕ). replicate m 0) (sym (sub-zero n))
cleared_rest (suc k) zero = ap (λ (m : ℕ). replicate m 0) e where
  e : 0 ≡ 0 - suc k
  e = omega arith
cleared_rest (suc k) (suc n) = cleared_rest k n ∙ ap (λ (m : ℕ). replicate m 0) e where
  e : n - k ≡ suc n - suc k
  e = omega arith
