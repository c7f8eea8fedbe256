-- Requests beside an open write, by the tests that a caller makes first: it lies outside the geometry, or one is open. Assumes nothing.
use Prim.Native.Nat.{ℕ}
use mathlib.Core.Bool.{Bool, true, false, cond, true≢false}
use mathlib.Core.List.{List}
use mathlib.Core.Path.{◌≡◌, refl, ap, ◌∙◌}
use native.Mathlib.Omega.{arith}
use borrow.Table.Steps.{cases}
use borrow.Author.Tests.{eq-eqb, ne_eqb}
use lib.Dec.{eqb}
use lib.ListN.{length}
use Rattle.geometry.specs.declared.Geometry.{Geometry}
use Rattle.bools.proofs.BoolLaws.{clash}
use Rattle.chip_array.specs.Device.{Device, Setting}
use Rattle.state.specs.State.{mounted}
use Rattle.request.specs.Call.{Result, result_with, Performed, result_of, unsent, sized_for}
use Rattle.request_refusals.proofs.RefusalLaws.{refused_geometry, refused_unmounted}
use Rattle.read.specs.Reading.{read_request, reading_page}
use Rattle.format.specs.Format.{formatting}
use Rattle.write_changes.specs.Changes.{write_request, writing, erase_request, erasing_logical}
use Rattle.open_write.specs.Open.{OpenState, is_opened, open_fits}
use Rattle.open_write.specs.Requests.{OpenResult, open_result, leaving, stops, beside, format_gives, open_refusal, through, unless, open_read, read_beside, open_read_request, reading_open, open_write_request, writing_open, open_erase_request, erasing_open, open_format_request, formatting_open}

-- a refusal leaves what is open
pub refused-beside : (x : OpenState) (k : ℕ) (d : Device) → stops k ≡ false → beside x (result_with k x.state d 0) ≡ open_result k x d 0
refused-beside x k d f = rw f

one_stays : stops 1 ≡ false
unfolding stops
one_stays = refl

seven_stays : stops 7 ≡ false
unfolding stops
seven_stays = refl

-- the refusals before 15 are those of the base state
module _ (g : Geometry) (fits : Bool) (x : OpenState) (inside : open_fits g x ≡ true) where
  pub by_held : (P : ℕ → Type 0) → (fits ≡ false → P 1) → (fits ≡ true → mounted x.state g.blocks g.logical ≡ false → P 7) → P 0 → P (open_refusal g fits x false)
  unfolding open_refusal
  by_held P one seven none =
      cases fits
      (λ t. cases (mounted x.state g.blocks g.logical) (λ m. rw (t, m, inside) none) (λ m. rw (t, m) (seven t m)))
      (λ f. rw f (one f))

-- all the refusals
by_refusal : (g : Geometry) (fits : Bool) (x : OpenState) (barred : Bool) (P : ℕ → Type 0) → P 1 → P 7 → (open_fits g x ≡ true → barred ≡ true → P 15) → (open_fits g x ≡ true → barred ≡ false → P 0) → P (open_refusal g fits x barred)
unfolding open_refusal
by_refusal g fits x barred P one seven fifteen none =
    cases fits
    (λ t. cases (mounted x.state g.blocks g.logical)
    (λ m. cases (open_fits g x)
    (λ f. cases barred (λ b. rw (t, m, f, b) (fifteen f b)) (λ b. rw (t, m, f, b) (none f b)))
    (λ f. rw (t, m, f) seven))
    (λ m. rw (t, m) seven))
    (λ t. rw t one)

pub held_some : (g : Geometry) (fits : Bool) (x : OpenState) → open_fits g x ≡ false → open_refusal g fits x false ≡ 0 → ⊥
held_some g fits x outside =
    by_refusal g fits x false (λ (k : ℕ). k ≡ 0 → ⊥) (λ z. omega (arith, z)) (λ z. omega (arith, z)) (λ f b z. omega (arith, z)) (λ f b z. clash f outside)

pub barred_some : (g : Geometry) (fits : Bool) (x : OpenState) → open_refusal g fits x true ≡ 0 → ⊥
barred_some g fits x =
    by_refusal g fits x true (λ (k : ℕ). k ≡ 0 → ⊥) (λ z. omega (arith, z)) (λ z. omega (arith, z)) (λ f b z. omega (arith, z)) (λ f b z. absurd (true≢false b))

-- a read
module _ (s : Setting) (d : Device) (n : ℕ) (x : OpenState) (logical page : ℕ) (buffer : List ℕ) where
  pub read_beside_lem : open_fits s.geometry x ≡ true → read_beside x (reading_page s d n x.state logical page buffer) ≡ reading_open s d n x logical page buffer
  unfolding result_of open_read_request read_request
  read_beside_lem inside =
      by_held s.geometry (sized_for s d) x inside
      (λ (k : ℕ). read_beside x (reading_page s d n x.state logical page buffer) ≡ result_of (cond (eqb k 0) (through (read_beside x) (read_request s d n x.state logical page buffer)) (unsent (open_read (open_result k x d 0) buffer))))
      (λ f. rw (refused_geometry s.geometry (sized_for s d) x.state logical page (length buffer) f) (ap (λ r. open_read r buffer) (refused-beside x 1 d one_stays)))
      (λ t m. rw (refused_unmounted s.geometry (sized_for s d) x.state logical page (length buffer) t m) (ap (λ r. open_read r buffer) (refused-beside x 7 d seven_stays)))
      refl

  pub read_held : open_fits s.geometry x ≡ false → (k : ℕ) → k ≡ open_refusal s.geometry (sized_for s d) x false → open_read (open_result k x d 0) buffer ≡ reading_open s d n x logical page buffer
  unfolding result_of open_read_request
  read_held outside k e =
      rw (ne_eqb (open_refusal s.geometry (sized_for s d) x false) 0 (held_some s.geometry (sized_for s d) x outside)) (ap (λ (a : ℕ). open_read (open_result a x d 0) buffer) e)

-- a write and an erase: inner is the request on the base state
module _ (s : Setting) (d : Device) (x : OpenState) (inner : Performed Result) where
  abbrev outer : Performed OpenResult
  outer = unless (open_refusal s.geometry (sized_for s d) x (is_opened x)) x d (through (beside x) inner)

  change_beside : x.write.opened ≡ 0 → open_fits s.geometry x ≡ true → (sized_for s d ≡ false → result_of inner ≡ result_with 1 x.state d 0)
      → (sized_for s d ≡ true → mounted x.state s.geometry.blocks s.geometry.logical ≡ false → result_of inner ≡ result_with 7 x.state d 0) → beside x (result_of inner) ≡ result_of outer
  unfolding result_of
  change_beside none inside one seven =
      rw (eq-eqb x.write.opened 0 none)
      (by_held s.geometry (sized_for s d) x inside (λ (k : ℕ). beside x (result_of inner) ≡ result_of (unless k x d (through (beside x) inner)))
      (λ f. ap (beside x) (one f) ∙ refused-beside x 1 d one_stays)
      (λ t m. ap (beside x) (seven t m) ∙ refused-beside x 7 d seven_stays)
      refl)

  change_held : (x.write.opened ≡ 0 → ⊥) → (k : ℕ) → k ≡ open_refusal s.geometry (sized_for s d) x true → open_result k x d 0 ≡ result_of outer
  unfolding result_of
  change_held some k e =
      rw (ne_eqb x.write.opened 0 some, ne_eqb (open_refusal s.geometry (sized_for s d) x true) 0 (barred_some s.geometry (sized_for s d) x)) (ap (λ (a : ℕ). open_result a x d 0) e)

module _ (s : Setting) (d : Device) (n : ℕ) (x : OpenState) where
  pub write_beside : (logical page : ℕ) (bytes : List ℕ) → x.write.opened ≡ 0 → open_fits s.geometry x ≡ true → beside x (writing s d n x.state logical page bytes) ≡ writing_open s d n x logical page bytes
  unfolding open_write_request write_request result_of
  write_beside logical page bytes none inside =
      change_beside s d x (write_request s d n x.state logical page bytes) none inside
      (λ f. rw (refused_geometry s.geometry (sized_for s d) x.state logical page (length bytes) f))
      (λ t m. rw (refused_unmounted s.geometry (sized_for s d) x.state logical page (length bytes) t m))

  pub write_held : (logical page : ℕ) (bytes : List ℕ) → (x.write.opened ≡ 0 → ⊥) → (k : ℕ) → k ≡ open_refusal s.geometry (sized_for s d) x true → open_result k x d 0 ≡ writing_open s d n x logical page bytes
  unfolding open_write_request
  write_held logical page bytes = change_held s d x (write_request s d n x.state logical page bytes)

  pub erase_beside : (logical : ℕ) → x.write.opened ≡ 0 → open_fits s.geometry x ≡ true → beside x (erasing_logical s d n x.state logical) ≡ erasing_open s d n x logical
  unfolding open_erase_request erase_request result_of
  erase_beside logical none inside =
      change_beside s d x (erase_request s d n x.state logical) none inside
      (λ f. rw (refused_geometry s.geometry (sized_for s d) x.state logical 0 s.geometry.main f))
      (λ t m. rw (refused_unmounted s.geometry (sized_for s d) x.state logical 0 s.geometry.main t m))

  pub erase_held : (logical : ℕ) → (x.write.opened ≡ 0 → ⊥) → (k : ℕ) → k ≡ open_refusal s.geometry (sized_for s d) x true → open_result k x d 0 ≡ erasing_open s d n x logical
  unfolding open_erase_request
  erase_held logical = change_held s d x (erase_request s d n x.state logical)

  -- a formatting
  pub format_held : open_refusal s.geometry (sized_for s d) x (is_opened x) ≡ 15 → open_result 15 x d 0 ≡ formatting_open s d n x
  unfolding open_format_request result_of
  format_held e = rw (eq-eqb (open_refusal s.geometry (sized_for s d) x (is_opened x)) 15 e)

  pub format_beside : (open_refusal s.geometry (sized_for s d) x (is_opened x) ≡ 15 → ⊥) → leaving (format_gives (formatting s d n x.state).answer) x (formatting s d n x.state) ≡ formatting_open s d n x
  unfolding open_format_request result_of
  format_beside other = rw (ne_eqb (open_refusal s.geometry (sized_for s d) x (is_opened x)) 15 other)
