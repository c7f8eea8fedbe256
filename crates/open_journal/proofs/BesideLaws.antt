-- Requests on the journal beside an open write, by the tests that a caller makes first: it lies outside the geometry, or one is open. Assumes
-- nothing.
use Prim.Native.Nat.{ℕ}
use mathlib.Core.Bool.{Bool, true, false}
use mathlib.Core.Path.{◌≡◌, refl, sym, ap, ◌∙◌}
use borrow.Author.Tests.{eq-eqb, ne_eqb}
use Rattle.chip_array.specs.Device.{Device, Setting}
use Rattle.state.specs.State.{mounted}
use Rattle.request.specs.Call.{Performed, result_of, sized_for}
use Rattle.journal.specs.declared.Sale.{Sale}
use Rattle.journal_requests.specs.Requests.{journal_refusal, append_request, appending, takings_request, telling_takings}
use Rattle.open_write.specs.Open.{OpenState, is_opened, open_fits}
use Rattle.open_write.specs.Requests.{OpenResult, open_result, stops, open_refusal, through}
use Rattle.open_write.proofs.BesideLaws.{refused-beside, by_held, held_some, barred_some}
use Rattle.open_journal.specs.Requests.{OpenTold, open_told, append_beside, takings_beside, tells_unless, open_append_request, open_takings_request, appending_open, takings_open}

one_stays : stops 1 ≡ false
unfolding stops
one_stays = refl

seven_stays : stops 7 ≡ false
unfolding stops
seven_stays = refl

told_none : (x : OpenState) (k : ℕ) (d : Device) {r : OpenResult} → r ≡ open_result k x d 0 → open_told r 0 ≡ open_told (open_result k x d 0) 0
told_none x k d e = ap (λ (r : OpenResult). open_told r 0) e

-- a run that is refused 1 and 7 as the base state is, or a refusal
module _ (s : Setting) (d : Device) (x : OpenState) (run : Performed OpenTold) where
  told-beside : open_fits s.geometry x ≡ true → (sized_for s d ≡ false → result_of run ≡ open_told (open_result 1 x d 0) 0)
      → (sized_for s d ≡ true → mounted x.state s.geometry.blocks s.geometry.logical ≡ false → result_of run ≡ open_told (open_result 7 x d 0) 0)
      → result_of run ≡ result_of (tells_unless (open_refusal s.geometry (sized_for s d) x false) x d run)
  unfolding result_of
  told-beside inside one seven = by_held s.geometry (sized_for s d) x inside (λ (k : ℕ). result_of run ≡ result_of (tells_unless k x d run)) one seven refl

  told_refused : (r k : ℕ) → (r ≡ 0 → ⊥) → k ≡ r → open_told (open_result k x d 0) 0 ≡ result_of (tells_unless r x d run)
  unfolding result_of
  told_refused r k some e = rw (ne_eqb r 0 some) (ap (λ (a : ℕ). open_told (open_result a x d 0) 0) e)

module _ (s : Setting) (d : Device) (n : ℕ) (x : OpenState) where
  pub append_beside_fact : (sale : Sale) → x.write.opened ≡ 0 → open_fits s.geometry x ≡ true → append_beside x (appending s d n x.state sale) ≡ appending_open s d n x sale
  unfolding open_append_request append_request journal_refusal result_of
  append_beside_fact sale none inside =
      rw (eq-eqb x.write.opened 0 none)
      (told-beside s d x _ inside
      (λ f. rw f (told_none x 1 d (refused-beside x 1 d one_stays)))
      (λ t m. rw (t, m) (told_none x 7 d (refused-beside x 7 d seven_stays))))

  pub append_held : (sale : Sale) → (x.write.opened ≡ 0 → ⊥) → (k : ℕ) → k ≡ open_refusal s.geometry (sized_for s d) x true → open_told (open_result k x d 0) 0 ≡ appending_open s d n x sale
  unfolding open_append_request
  append_held sale some k e =
      let run = through (append_beside x) (append_request s d n x.state sale) in
      let opened : is_opened x ≡ true = rw (ne_eqb x.write.opened 0 some) refl in
      told_refused s d x run (open_refusal s.geometry (sized_for s d) x true) k (barred_some s.geometry (sized_for s d) x) e
      ∙ ap (λ (barred : Bool). result_of (tells_unless (open_refusal s.geometry (sized_for s d) x barred) x d run)) (sym opened)

  pub takings_beside_fact : open_fits s.geometry x ≡ true → takings_beside x (telling_takings s d n x.state) ≡ takings_open s d n x
  unfolding open_takings_request takings_request journal_refusal result_of
  takings_beside_fact inside =
      told-beside s d x _ inside
      (λ f. rw f (told_none x 1 d (refused-beside x 1 d one_stays)))
      (λ t m. rw (t, m) (told_none x 7 d (refused-beside x 7 d seven_stays)))

  pub takings_held : open_fits s.geometry x ≡ false → (k : ℕ) → k ≡ open_refusal s.geometry (sized_for s d) x false → open_told (open_result k x d 0) 0 ≡ takings_open s d n x
  unfolding open_takings_request
  takings_held outside k e = told_refused s d x _ _ k (held_some s.geometry (sized_for s d) x outside) e
