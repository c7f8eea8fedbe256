-- The refusals of a write and of an erase: each is answered exactly under its condition, with nothing sent or changed. Assumes nothing.
use Prim.Native.Nat.{ℕ, ◌≤◌, ◌<◌}
use mathlib.Core.Bool.{true, false}
use mathlib.Core.List.{List}
use mathlib.Core.Logic.{◌⊎◌, ◌↔◌, ⊎_elim}
use mathlib.Core.Path.{◌≡◌, refl, sym, ap, ◌∙◌}
use native.Mathlib.Omega.{arith}
use borrow.Table.Steps.{cases}
use borrow.Author.Tests.{eqb-true, ne_eqb, ltb-true, ltb-false}
use lib.Dec.{eqb, ltb}
use lib.ListN.{length}
use Rattle.chip_array.specs.Device.{Device, Setting}
use Rattle.state.specs.State.{mounted}
use Rattle.state.specs.declared.State.{State}
use Rattle.state.proofs.MountedLaws.{mounted_facts}
use Rattle.request.specs.Call.{Result, result_with, sized_for, result_of}
use Rattle.request_refusals.specs.Refusals.{refusal_of}
use Rattle.request_refusals.proofs.RefusalLaws.{Accepted, accepts, refused_geometry, refused_unmounted, refused_logical, refused_page, refused_length, only_geometry, only_unmounted, only_address, only_length}
use Rattle.write_changes.specs.Changes.{Update, changing, write_update, erase_update, write_request, writing, erase_refusal, erase_request, erasing_logical}
use Rattle.write_laws.proofs.AnswerLaws.{call_late}
use Rattle.write_laws.proofs.ChangingLaws.{sized-valid}

-- a request that is not refused gets none of these answers
accepted_late : (s : Setting) (d : Device) (n : ℕ) (st : State) (u : Update) (logical page long : ℕ) → Accepted s.geometry (sized_for s d) st logical page long
    → ((changing s d n st u).answer ≡ 0) ⊎ (8 ≤ (changing s d n st u).answer)
accepted_late s d n st u logical page long a =
    call_late s d n st u (mounted_facts st s.geometry.blocks s.geometry.logical (sized-valid s d a.sizes_fit).blocks_most a.is_mounted).last_below

module _ (s : Setting) (d : Device) (n : ℕ) (st : State) (logical page : ℕ) (bytes : List ℕ) where
  abbrev written : Result
  written = writing s d n st logical page bytes

  refuses : (k : ℕ) → refusal_of s d st logical page bytes ≡ k → (k ≡ 0 → ⊥) → written ≡ result_with k st d 0
  unfolding result_of write_request
  refuses k e x =
      rw (ne_eqb (refusal_of s d st logical page bytes) 0 (λ z. x (sym e ∙ z))) (ap (λ (y : ℕ). result_with y st d 0) e)

  pub write_refuses_geometry : sized_for s d ≡ false → written ≡ result_with 1 st d 0
  write_refuses_geometry f = refuses 1 (refused_geometry s.geometry (sized_for s d) st logical page (length bytes) f) (λ z. omega (arith, z))

  pub write_refuses_unmounted : sized_for s d ≡ true → mounted st s.geometry.blocks s.geometry.logical ≡ false → written ≡ result_with 7 st d 0
  write_refuses_unmounted t f = refuses 7 (refused_unmounted s.geometry (sized_for s d) st logical page (length bytes) t f) (λ z. omega (arith, z))

  module _ (t : sized_for s d ≡ true) (m : mounted st s.geometry.blocks s.geometry.logical ≡ true) where
    pub write_refuses_logical : s.geometry.logical ≤ logical → written ≡ result_with 2 st d 0
    write_refuses_logical h = refuses 2 (refused_logical s.geometry (sized_for s d) st logical page (length bytes) t m h) (λ z. omega (arith, z))

    pub write_refuses_page : logical < s.geometry.logical → s.geometry.pages ≤ page → written ≡ result_with 2 st d 0
    write_refuses_page l h = refuses 2 (refused_page s.geometry (sized_for s d) st logical page (length bytes) t m l h) (λ z. omega (arith, z))

    pub write_refuses_length : logical < s.geometry.logical → page < s.geometry.pages → (length bytes ≡ s.geometry.main → ⊥) → written ≡ result_with 3 st d 0
    write_refuses_length l p x = refuses 3 (refused_length s.geometry (sized_for s d) st logical page (length bytes) t m l p x) (λ z. omega (arith, z))

  -- an answer from 1 to 7 is a refusal, by its number
  pub write_refused : 0 < written.answer → written.answer < 8 → refusal_of s d st logical page bytes ≡ written.answer
  unfolding result_of write_request
  write_refused h k =
      cases (eqb (refusal_of s d st logical page bytes) 0)
      (λ t.
      let a = accepts s.geometry (sized_for s d) st logical page (length bytes) (eqb-true (refusal_of s d st logical page bytes) 0 t) in
      let late = accepted_late s d n st (write_update st logical page bytes) logical page (length bytes) a in
      absurd (⊎_elim (λ z. omega (arith, z, rw t at h)) (λ z. omega (arith, z, rw t at k)) late))
      (λ t. rw t)

  -- each comes exactly under its condition
  refused_as : (k : ℕ) → 0 < k → k < 8 → written.answer ≡ k → refusal_of s d st logical page bytes ≡ k
  refused_as k l h e = write_refused (omega (arith, e, l)) (omega (arith, e, h)) ∙ e

  answer_of_fact : (k : ℕ) → written ≡ result_with k st d 0 → written.answer ≡ k
  answer_of_fact k e = ap (λ (r : Result). r.answer) e

  pub write_geometry : (written.answer ≡ 1) ↔ (sized_for s d ≡ false)
  write_geometry =
      (λ z. only_geometry s.geometry (sized_for s d) st logical page (length bytes) (refused_as 1 (omega arith) (omega arith) z), λ f. answer_of_fact 1 (write_refuses_geometry f))

  pub write_unmounted : (written.answer ≡ 7) ↔ ((sized_for s d ≡ true) × (mounted st s.geometry.blocks s.geometry.logical ≡ false))
  write_unmounted =
      (λ z. only_unmounted s.geometry (sized_for s d) st logical page (length bytes) (refused_as 7 (omega arith) (omega arith) z), λ x. answer_of_fact 7 (write_refuses_unmounted x.0 x.1))

  pub write_address : (written.answer ≡ 2)
      ↔ ((sized_for s d ≡ true) × (mounted st s.geometry.blocks s.geometry.logical ≡ true) × ((s.geometry.logical ≤ logical) ⊎ (s.geometry.pages ≤ page)))
  write_address = (
    λ z. only_address s.geometry (sized_for s d) st logical page (length bytes) (refused_as 2 (omega arith) (omega arith) z),
    λ x. answer_of_fact 2 (by_logical x.0 x.1 x.2),
  )
    where
      by_logical : sized_for s d ≡ true → mounted st s.geometry.blocks s.geometry.logical ≡ true → (s.geometry.logical ≤ logical) ⊎ (s.geometry.pages ≤ page) → written ≡ result_with 2 st d 0
      by_logical t m x =
          cases (ltb logical s.geometry.logical)
          (λ l.
          let below = ltb-true logical s.geometry.logical l in
          ⊎_elim (λ h. absurd (omega (arith, h, below))) (λ h. write_refuses_page t m below h) x)
          (λ l. write_refuses_logical t m (ltb-false logical s.geometry.logical l))

  pub write_length : (written.answer ≡ 3)
      ↔ ((sized_for s d ≡ true) × (mounted st s.geometry.blocks s.geometry.logical ≡ true) × (logical < s.geometry.logical) × (page < s.geometry.pages) × (length bytes ≡ s.geometry.main → ⊥))
  write_length = (
    λ z. only_length s.geometry (sized_for s d) st logical page (length bytes) (refused_as 3 (omega arith) (omega arith) z),
    λ x. answer_of_fact 3 (write_refuses_length x.0 x.1 x.2 x.3 x.4),
  )

-- an erase has no page and no buffer
module _ (s : Setting) (d : Device) (n : ℕ) (st : State) (logical : ℕ) where
  abbrev erased : Result
  erased = erasing_logical s d n st logical

  refuses_erase : (k : ℕ) → erase_refusal s d st logical ≡ k → (k ≡ 0 → ⊥) → erased ≡ result_with k st d 0
  unfolding result_of erase_request
  refuses_erase k e x =
      rw (ne_eqb (erase_refusal s d st logical) 0 (λ z. x (sym e ∙ z))) (ap (λ (y : ℕ). result_with y st d 0) e)

  pub erase_refuses_geometry : sized_for s d ≡ false → erased ≡ result_with 1 st d 0
  erase_refuses_geometry f = refuses_erase 1 (refused_geometry s.geometry (sized_for s d) st logical 0 s.geometry.main f) (λ z. omega (arith, z))

  pub erase_refuses_unmounted : sized_for s d ≡ true → mounted st s.geometry.blocks s.geometry.logical ≡ false → erased ≡ result_with 7 st d 0
  erase_refuses_unmounted t f = refuses_erase 7 (refused_unmounted s.geometry (sized_for s d) st logical 0 s.geometry.main t f) (λ z. omega (arith, z))

  pub erase_refuses_logical : sized_for s d ≡ true → mounted st s.geometry.blocks s.geometry.logical ≡ true → s.geometry.logical ≤ logical → erased ≡ result_with 2 st d 0
  erase_refuses_logical t m h = refuses_erase 2 (refused_logical s.geometry (sized_for s d) st logical 0 s.geometry.main t m h) (λ z. omega (arith, z))

  pub erase_refused : 0 < erased.answer → erased.answer < 8 → erase_refusal s d st logical ≡ erased.answer
  unfolding result_of erase_request
  erase_refused h k =
      cases (eqb (erase_refusal s d st logical) 0)
      (λ t.
      let a = accepts s.geometry (sized_for s d) st logical 0 s.geometry.main (eqb-true (erase_refusal s d st logical) 0 t) in
      let late = accepted_late s d n st (erase_update logical) logical 0 s.geometry.main a in
      absurd (⊎_elim (λ z. omega (arith, z, rw t at h)) (λ z. omega (arith, z, rw t at k)) late))
      (λ t. rw t)

  erase_refused_as : (k : ℕ) → 0 < k → k < 8 → erased.answer ≡ k → erase_refusal s d st logical ≡ k
  erase_refused_as k l h e = erase_refused (omega (arith, e, l)) (omega (arith, e, h)) ∙ e

  erase_answer_of : (k : ℕ) → erased ≡ result_with k st d 0 → erased.answer ≡ k
  erase_answer_of k e = ap (λ (r : Result). r.answer) e

  pub erase_geometry : (erased.answer ≡ 1) ↔ (sized_for s d ≡ false)
  erase_geometry =
      (λ z. only_geometry s.geometry (sized_for s d) st logical 0 s.geometry.main (erase_refused_as 1 (omega arith) (omega arith) z), λ f. erase_answer_of 1 (erase_refuses_geometry f))

  pub erase_unmounted : (erased.answer ≡ 7) ↔ ((sized_for s d ≡ true) × (mounted st s.geometry.blocks s.geometry.logical ≡ false))
  erase_unmounted =
      (λ z. only_unmounted s.geometry (sized_for s d) st logical 0 s.geometry.main (erase_refused_as 7 (omega arith) (omega arith) z), λ x. erase_answer_of 7 (erase_refuses_unmounted x.0 x.1))

  pub erase_address_fact : (erased.answer ≡ 2) ↔ ((sized_for s d ≡ true) × (mounted st s.geometry.blocks s.geometry.logical ≡ true) × (s.geometry.logical ≤ logical))
  erase_address_fact = (
    λ z.
        let x = only_address s.geometry (sized_for s d) st logical 0 s.geometry.main (erase_refused_as 2 (omega arith) (omega arith) z) in
        (x.0, x.1, ⊎_elim (λ h. h) (λ h. absurd (omega (arith, h, (sized-valid s d x.0).pages_least))) x.2),
    λ x. erase_answer_of 2 (erase_refuses_logical x.0 x.1 x.2),
  )

  -- it is never answered 3
  pub erase_no_length : erased.answer ≡ 3 → ⊥
  erase_no_length z = (only_length s.geometry (sized_for s d) st logical 0 s.geometry.main (erase_refused_as 3 (omega arith) (omega arith) z)).4 refl
