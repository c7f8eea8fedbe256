-- What every operation keeps, the first round of erases keeps. Assumes nothing.
use Prim.Native.Nat.{ℕ, zero, suc}
use mathlib.Core.List.{List}
use borrow.Table.Steps.{cases}
use Rattle.bitmaps.specs.Bitmap.{bit_at}
use Rattle.chip_array.specs.Device.{Setting}
use Rattle.bus_polling.specs.Outcomes.{is_passed, is_failed}
use Rattle.progress.specs.Progress.{Progress}
use Rattle.progress.specs.Steps.{erase_on, resumed}
use Rattle.progress.specs.Kept.{Kept}
use Rattle.scan_block.proofs.KeepLaws.{pages_keep}
use Rattle.format_erase.specs.Round.{after_erase, block_erased, erased_to}

module _ (s : Setting) (P : Progress → Type 0) (k : Kept s P) where
  after_keeps : (b : ℕ) (q : Progress) → P q → P (after_erase s b q)
  unfolding after_erase
  after_keeps b q h =
      cases (is_failed q.outcome) (λ f. rw f (pages_keep s P k b s.geometry.pages (resumed q) (k.resume q f h))) (λ f. rw f h)

  block_keeps : (marked : List ℕ) (b : ℕ) (p : Progress) → P p → P (block_erased s marked b p)
  unfolding block_erased
  block_keeps marked b p h =
      cases (is_passed p.outcome)
      (λ t. cases (bit_at marked b) (λ u. rw (t, u) h) (λ u. rw (t, u) (after_keeps b (erase_on s b p) (k.erase b p h))))
      (λ t. rw t h)

  pub round_keeps : (marked : List ℕ) (n : ℕ) (p : Progress) → P p → P (erased_to s marked n p).progress
  unfolding erased_to
  round_keeps marked zero p h = h
  round_keeps marked (suc n) p h = block_keeps marked n (erased_to s marked n p).progress (round_keeps marked n p h)
