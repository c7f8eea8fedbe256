-- A write finished in portions, from any place where it stands: it comes to what the plain write comes to. Assumes nothing.
use Prim.Native.Nat.{ℕ, ◌+◌, ◌-◌, ◌≤◌, ◌<◌}
use mathlib.Core.Bool.{Bool, true, false, cond}
use mathlib.Core.List.{List, [], ◌∷◌}
use mathlib.Core.Option.{Option, none, some, some-injective}
use mathlib.Core.Path.{◌≡◌, refl, sym, ap, subst, ◌∙◌}
use native.Mathlib.Omega.{arith}
use borrow.Table.Steps.{cases}
use borrow.Author.Tests.{ltb-true, ltb-false}
use lib.Dec.{eqb, ltb}
use lib.ListN.{length, replicate}
use Rattle.geometry.specs.declared.Geometry.{Geometry}
use Rattle.chip_array.specs.Device.{Device, Setting, setting}
use Rattle.request.specs.Call.{result_of, sized_for}
use Rattle.progress.specs.Progress.{Progress}
use Rattle.fill_cursor.specs.declared.Running.{Running}
use Rattle.fill_driver.specs.Driver.{Ran}
use Rattle.open_write.specs.Open.{OpenState, open_state, is_opened, words_of, no_write, closed}
use Rattle.open_write.specs.Requests.{open_result, open_at, open_refusal, Advanced, advanced, advance_run, advance_end, advance_request, advancing_write, reading_open}
use Rattle.bools.proofs.BoolLaws.{clash}
use Rattle.fill_portions.specs.Portions.{Between, advance, read, after, words_after, portions}
use Rattle.fill_portions.proofs.BesideLaws.{read_beside_lem}
use Rattle.fill_portions.proofs.PositionLaws as position
use Rattle.fill_portions.proofs.PositionLaws.{Standing, standing-moved}

-- some advance ended it, or none
is_some : Option Advanced → Bool
is_some none = false
is_some (some a) = true

pub none_some : {P : Type 0} (a : Advanced) → none ≡ some a → P
unfolding is_some
none_some a e = clash refl (ap is_some (sym e))

-- the same after this many cycles more
pub by_after : (k : ℕ) (o : Option Advanced) (a : Advanced) → after k o ≡ some a → (P : Advanced → Type 0)
    → ((b : Advanced) → o ≡ some b → P (advanced (open_result b.returned.answer b.returned.state b.returned.chip (k + b.returned.sent)) b.finished)) → P a
by_after k none a e P f = none_some a e
by_after k (some b) a e P f = subst P (some-injective _ _ e) (f b refl)

-- how an advance ends
module _ (s : Setting) (d : Device) (n : ℕ) (x : OpenState) (most : ℕ) where
  abbrev pub refused : ℕ
  refused = open_refusal s.geometry (sized_for s d) x (eqb x.write.opened 0)

  abbrev pub t : Ran
  t = advance_run s d n x most

  pub advance-refused : eqb refused 0 ≡ false → advancing_write s d n x most ≡ advanced (open_result refused x d 0) 0
  unfolding result_of advance_request
  advance-refused f = rw f

  pub advance_goes : eqb refused 0 ≡ true → ltb t.running.cursor.phase 2 ≡ true
      → advancing_write s d n x most ≡ advanced (open_at n 0 (open_state t.running.state (words_of t.running.cursor) x.page) t.progress.line) 0
  unfolding result_of advance_request advance_end
  advance_goes ok h = rw (ok, h)

  pub advance_ends : eqb refused 0 ≡ true → ltb t.running.cursor.phase 2 ≡ false
      → advancing_write s d n x most ≡ advanced (open_at n t.running.cursor.answer (closed t.running.state x) t.progress.line) (cond (eqb t.running.cursor.answer 0) 1 0)
  unfolding result_of advance_request advance_end
  advance_ends ok h = rw (ok, h)

  -- an advance that is not refused: the lengths are right
  pub advance_sized : eqb refused 0 ≡ true → sized_for s d ≡ true
  unfolding open_refusal
  advance_sized ok = cases (sized_for s d) (λ y. y) (λ y. clash ok (rw y))

module _ (g : Geometry) (mask fates' : List ℕ) (n most : ℕ) (calls : List Between) (x : OpenState) (d : Device) (r : Advanced) (e : advancing_write (setting g mask fates') d n x most ≡ r) where
  abbrev pub Next : Advanced → Option Advanced
  Next q =
      cond (is_opened q.returned.state) (after q.returned.sent (portions g mask (words_after q fates') calls q.returned.state q.returned.chip)) (some q)

  pub portions_next : portions g mask fates' (advance n most ∷ calls) x d ≡ Next r
  unfolding portions
  portions_next = ap Next e

-- what the advance that ended a write handed back: the end of the plain write, whose cycles from left on it took
pub record Finishes (fin : Ran) (page : List ℕ) (left : ℕ) (a : Advanced) : Type 0 where
  pub answer_is : a.returned.answer ≡ fin.running.cursor.answer
  pub state_is : a.returned.state ≡ open_state fin.running.state no_write (replicate (length page) 0)
  pub array_is : a.returned.chip.array ≡ fin.progress.line.chip.array
  pub history_is : a.returned.chip.history ≡ fin.progress.line.chip.history
  pub sent_is : a.returned.sent + fin.progress.line.left ≡ left
  pub finished_is : a.finished ≡ cond (eqb fin.running.cursor.answer 0) 1 0

module _ (g : Geometry) (mask fates bytes : List ℕ) (fin : Ran) (uncut : fin.running.cursor.answer ≡ 11 → ⊥) where
  abbrev At : List ℕ → OpenState → Device → Running → Progress → Type 0
  At fates' x d r p = Standing g mask fates bytes fin fates' x d r p

  -- the advance that ends it
  module _ (fates' : List ℕ) (x : OpenState) (d : Device) (r : Running) (p : Progress) (w : At fates' x d r p) (n most : ℕ) where
    abbrev s' : Setting
    s' = setting g mask fates'

    abbrev run' : Ran
    run' = advance_run s' d n x most

    last_portion : sized_for s' d ≡ true → 2 ≤ run'.running.cursor.phase → (run'.running.cursor.answer ≡ 11 → ⊥)
        → Finishes fin x.page p.line.left (advanced (open_at n run'.running.cursor.answer (closed run'.running.state x) run'.progress.line) (cond (eqb run'.running.cursor.answer 0) 1 0))
    last_portion fits over f =
        let came = position.portion_came g mask fates bytes fin uncut fates' x d r p w n most fits (λ h. f) in
        let same = came.same_running in
        let ended : position.plain g mask fates bytes fin uncut fates' x d r p w n most ≡ fin =
        position.plain_over g mask fates bytes fin uncut fates' x d r p w n most (subst (λ (y : Running). 2 ≤ y.cursor.phase) same over) in
        let there : run'.running ≡ fin.running = same ∙ ap (λ (y : Ran). y.running) ended in
        let answer = ap (λ (y : Running). y.cursor.answer) there in
        record {
          answer_is = answer;
          state_is = ap (λ (y : Running). closed y.state x) there;
          array_is = came.matched.same_array ∙ ap (λ (y : Ran). y.progress.line.chip.array) ended;
          history_is = came.matched.same_history ∙ ap (λ (y : Ran). y.progress.line.chip.history) ended;
          sent_is = omega (arith, came.matched.as_many, came.matched.within', ap (λ (y : Ran). y.progress.line.left) ended);
          finished_is = ap (λ (k : ℕ). cond (eqb k 0) 1 0) answer;
        }

    -- one that does not, before one that does
    next_portion : sized_for s' d ≡ true → (goes : run'.running.cursor.phase < 2) → (b : Advanced)
        → Finishes fin x.page (position.plain g mask fates bytes fin uncut fates' x d r p w n most).progress.line.left b
        → Finishes fin x.page p.line.left (advanced (open_result b.returned.answer b.returned.state b.returned.chip (n - run'.progress.line.left + b.returned.sent)) b.finished)
    next_portion fits goes b k =
        let came = position.portion_came g mask fates bytes fin uncut fates' x d r p w n most fits (λ h. absurd (omega (arith, h, goes))) in
        record {
          answer_is = k.answer_is;
          state_is = k.state_is;
          array_is = k.array_is;
          history_is = k.history_is;
          sent_is = omega (arith, k.sent_is, came.matched.as_many, came.matched.within');
          finished_is = k.finished_is;
        }

  after_refused : (page : List ℕ) (left : ℕ) (b : Advanced) → Finishes fin page left b → Finishes fin page left (advanced (open_result b.returned.answer b.returned.state b.returned.chip (0 + b.returned.sent)) b.finished)
  after_refused page left b k =
      record { answer_is = k.answer_is; state_is = k.state_is; array_is = k.array_is; history_is = k.history_is; sent_is = omega (arith, k.sent_is); finished_is = k.finished_is }

  -- ANY PORTIONS, with reads in between
  pub portions_from : (calls : List Between) (fates' : List ℕ) (x : OpenState) (d : Device) (r : Running) (p : Progress) → At fates' x d r p
      → (a : Advanced) → portions g mask fates' calls x d ≡ some a → (a.returned.answer ≡ 11 → ⊥) → Finishes fin x.page p.line.left a
  unfolding portions
  portions_from [] fates' x d r p w a e f = none_some a e
  portions_from (advance n most ∷ calls) fates' x d r p w a e f =
      let s' = setting g mask fates' in
      let run' = advance_run s' d n x most in
      cases (eqb (refused s' d n x most) 0)
      (λ ok.
      let fits = advance_sized s' d n x most ok in
      cases (ltb run'.running.cursor.phase 2)
      (λ h.
      let goes = ltb-true run'.running.cursor.phase 2 h in
      let e' = sym (portions_next g mask fates' n most calls x d _ (advance_goes s' d n x most ok h)) ∙ e in
      by_after _ _ a e' (λ b. (b.returned.answer ≡ 11 → ⊥) → Finishes fin x.page p.line.left b)
      (λ b q f'. next_portion fates' x d r p w n most fits goes b (portions_from calls _ _ _ _ _ (position.standing_next g mask fates bytes fin uncut fates' x d r p w n most fits (λ k. absurd (omega (arith, k, goes))) goes) b q f'))
      f)
      (λ h.
      let e' = sym (portions_next g mask fates' n most calls x d _ (advance_ends s' d n x most ok h)) ∙ e in
      let is = some-injective _ _ e' in
      subst (Finishes fin x.page p.line.left) is
      (last_portion fates' x d r p w n most fits (ltb-false run'.running.cursor.phase 2 h) (λ z. f (sym (ap (λ (b : Advanced). b.returned.answer) is) ∙ z)))))
      (λ no.
      let e' = sym (rw (w.opened, no)) ∙ sym (portions_next g mask fates' n most calls x d _ (advance-refused s' d n x most no)) ∙ e in
      by_after 0 (portions g mask fates' calls x d) a e' (λ b. (b.returned.answer ≡ 11 → ⊥) → Finishes fin x.page p.line.left b)
      (λ b q f'. after_refused x.page p.line.left b (portions_from calls fates' x d r p w b q f'))
      f)
  portions_from (read m c n logical page buffer ∷ calls) fates' x d r p w a e f =
      let q = reading_open (setting g m c) d n x logical page buffer in
      cases (is_opened q.returned.state)
      (λ o.
      let k = read_beside_lem (setting g m c) d n x logical page buffer w.ready o in
      portions_from calls fates' x q.returned.chip r p (standing-moved g mask fates bytes fin fates' x d q.returned.chip r p k.1 w) a
      (ap (λ (y : OpenState). portions g mask fates' calls y q.returned.chip) (sym k.0) ∙ sym (rw o) ∙ e) f)
      (λ o. none_some a (sym (rw o) ∙ e))
