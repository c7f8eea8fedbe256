-- The refusals of a read: each is answered exactly under its condition, with nothing sent or changed. Assumes nothing.
use Prim.Native.Nat.{ℕ, ◌≤◌, ◌<◌}
use mathlib.Core.Bool.{true, false}
use mathlib.Core.List.{List}
use mathlib.Core.Path.{◌≡◌, sym, ap, ◌∙◌}
use native.Mathlib.Omega.{arith}
use borrow.Table.Steps.{cases}
use borrow.Author.Tests.{ne_eqb}
use lib.Dec.{eqb}
use lib.ListN.{length, get_or}
use Rattle.chip_array.specs.Device.{Device, Setting}
use Rattle.bus_polling.specs.Outcomes.{is_passed}
use Rattle.state.specs.State.{none, mounted}
use Rattle.state.specs.declared.State.{State}
use Rattle.request.specs.Call.{result_with, sized_for, result_of}
use Rattle.request_refusals.specs.Refusals.{refusal_of}
use Rattle.request_refusals.proofs.RefusalLaws.{refused_geometry, refused_unmounted, refused_logical, refused_page, refused_length}
use Rattle.request.proofs.CallLaws.{stop_least}
use Rattle.read_page.specs.Fetching.{read_result, page_progress, reading_block}
use Rattle.read.specs.Reading.{copy_request, read_request, reading_page}

-- a read that is refused sends nothing and changes nothing
module _ (s : Setting) (d : Device) (n : ℕ) (state : State) (logical page : ℕ) (buffer : List ℕ) where
  refuses : (k : ℕ) → refusal_of s d state logical page buffer ≡ k → (k ≡ 0 → ⊥) → reading_page s d n state logical page buffer ≡ read_result (result_with k state d 0) buffer
  unfolding result_of read_request
  refuses k e x =
      rw (ne_eqb (refusal_of s d state logical page buffer) 0 (λ z. x (sym e ∙ z)))
      (ap (λ (y : ℕ). read_result (result_with y state d 0) buffer) e)

  pub read_refuses_geometry : sized_for s d ≡ false → reading_page s d n state logical page buffer ≡ read_result (result_with 1 state d 0) buffer
  read_refuses_geometry f =
      refuses 1 (refused_geometry s.geometry (sized_for s d) state logical page (length buffer) f) (λ z. omega (arith, z))

  pub read_refuses_unmounted : sized_for s d ≡ true → mounted state s.geometry.blocks s.geometry.logical ≡ false → reading_page s d n state logical page buffer ≡ read_result (result_with 7 state d 0) buffer
  read_refuses_unmounted t f =
      refuses 7 (refused_unmounted s.geometry (sized_for s d) state logical page (length buffer) t f) (λ z. omega (arith, z))

  module _ (t : sized_for s d ≡ true) (m : mounted state s.geometry.blocks s.geometry.logical ≡ true) where
    pub read_refuses_logical : s.geometry.logical ≤ logical → reading_page s d n state logical page buffer ≡ read_result (result_with 2 state d 0) buffer
    read_refuses_logical h =
        refuses 2 (refused_logical s.geometry (sized_for s d) state logical page (length buffer) t m h) (λ z. omega (arith, z))

    pub read_refuses_page : logical < s.geometry.logical → s.geometry.pages ≤ page → reading_page s d n state logical page buffer ≡ read_result (result_with 2 state d 0) buffer
    read_refuses_page l h =
        refuses 2 (refused_page s.geometry (sized_for s d) state logical page (length buffer) t m l h) (λ z. omega (arith, z))

    pub read_refuses_length : logical < s.geometry.logical → page < s.geometry.pages → (length buffer ≡ s.geometry.main → ⊥) → reading_page s d n state logical page buffer ≡ read_result (result_with 3 state d 0) buffer
    read_refuses_length l p x =
        refuses 3 (refused_length s.geometry (sized_for s d) state logical page (length buffer) t m l p x) (λ z. omega (arith, z))

  -- an answer from 1 to 9 is a refusal, by its number
  pub read_refused : 0 < (reading_page s d n state logical page buffer).returned.answer → (reading_page s d n state logical page buffer).returned.answer < 10
      → refusal_of s d state logical page buffer ≡ (reading_page s d n state logical page buffer).returned.answer
  unfolding result_of read_request copy_request reading_block
  read_refused h k =
      cases (eqb (refusal_of s d state logical page buffer) 0)
      (λ t. cases (eqb (get_or state.map logical 0) none)
      (λ z. absurd (omega (arith, rw (t, z) at h)))
      (λ z. cases (is_passed (page_progress s d n (get_or state.map logical 0) page).outcome)
      (λ p. absurd (omega (arith, rw (t, z, p) at h)))
      (λ p. absurd (omega (arith, rw (t, z, p) at k, stop_least (page_progress s d n (get_or state.map logical 0) page).outcome)))))
      (λ t. rw t)
