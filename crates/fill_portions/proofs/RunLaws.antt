-- A run with so many page programs, in two calls on chips that are alike: it comes to the same. Assumes nothing.
use Prim.Native.Nat.{ℕ, zero, suc, ◌-◌, ◌≤◌, ◌<◌}
use mathlib.Core.Bool.{true, false}
use mathlib.Core.List.{List}
use mathlib.Core.Path.{◌≡◌, refl, sym, ap, subst, ◌∙◌}
use native.Mathlib.Omega.{arith}
use borrow.Table.Steps.{cases}
use borrow.Author.Tests.{eqb-true, eqb-false, ltb-true, ltb-false}
use lib.Dec.{eqb, ltb}
use lib.ListN.{length, get_or}
use Rattle.geometry.specs.declared.Geometry.{Geometry}
use Rattle.chip_array.specs.Device.{Setting, setting}
use Rattle.bus.specs.Line.{Line}
use Rattle.bus_polling.specs.Outcomes.{is_passed, is_failed, is_silent, is_cut_off, answered}
use Rattle.bus_polling.specs.declared.Outcome.{Outcome}
use Rattle.bus_polling.specs.declared.Outcome.TheVariants.{Passed, Failed, Silent, Cut, Illegal, Protected}
use Rattle.bus_polling.proofs.OutcomeLaws.{is_passed_lem, passed_answered}
use Rattle.progress.specs.Progress.{Progress}
use Rattle.state.specs.declared.State.{State}
use Rattle.request.specs.Call.{stop_answer}
use Rattle.fill_cursor.specs.Cursor.{running, prepared, unfilled, after_action, after_due, programs, is_open_now}
use Rattle.fill_cursor.specs.declared.Cursor.{Cursor}
use Rattle.fill_cursor.specs.declared.Running.{Running}
use Rattle.fill_cursor.proofs.FitLaws.{Goes, prepared_goes, after_goes, by_prepared, by_after}
use Rattle.fill_driver.specs.Driver.{form_now, performed, Ran, ran_to, gone, gone_on, acted, ran}
use Rattle.fill_driver.proofs.RunLaws.{gone_on_lem, acted_prepared, acted_performed, ran_acted, ran_over}
use Rattle.fill_laws.proofs.PortionLaws.{over-ended}
use Rattle.fill_laws.proofs.TableLaws.{length_with}
use Rattle.fill_portions.proofs.AlikeLaws.{Alike, Matched, matched_still, matched_on}
use Rattle.fill_portions.proofs.PageLaws.{performed_alike, performed_same}

-- what a write keeps on its way: a bitmap of its length, one page given, no answer yet
pub record Shape (r : Running) : Type 0 where
  pub invalid_long : length r.state.invalid ≡ 512
  pub one_page : r.cursor.count ≡ 1
  pub unanswered : r.cursor.answer ≡ 0

-- a write that goes on: what is due can be performed
pub record Stands (g : Geometry) (long : ℕ) (r : Running) (l : Line) : Type 0 where
  pub goes : Goes g long r
  pub in_order : r.cursor.step ≡ 2 → get_or l.chip.history r.cursor.block 0 ≤ r.cursor.page
  pub shape : Shape r

prepared_shape : (g : Geometry) (c : Cursor) (st : State) → Shape (running c st) → (prepared g c st).cursor.phase < 2 → Shape (prepared g c st)
prepared_shape g c st x =
    by_prepared g c st (λ r. r.cursor.phase < 2 → Shape r) (λ a h. absurd (omega (arith, h)))
    (λ b e n h. record { invalid_long = x.invalid_long; one_page = x.one_page; unanswered = x.unanswered })

after_shape : (pages : ℕ) (c : Cursor) (st : State) (o : Outcome) → Shape (running c st) → (after_due pages (running c st) o).cursor.phase < 2 → Shape (after_due pages (running c st) o)
after_shape pages c st o x =
    by_after pages c st (λ r. r.cursor.phase < 2 → Shape r) (λ a s h. absurd (omega (arith, h))) o
    (λ t e h. record { invalid_long = x.invalid_long; one_page = x.one_page; unanswered = x.unanswered })
    (λ t e h. record { invalid_long = x.invalid_long; one_page = x.one_page; unanswered = x.unanswered })
    (λ t h. record { invalid_long = length_with st.invalid c.block ∙ x.invalid_long; one_page = x.one_page; unanswered = x.unanswered })

-- an operation that was cut ends the request with 11
uncut_so : (pages : ℕ) (r : Running) (o : Outcome) → ((after_due pages r o).cursor.answer ≡ 11 → ⊥) → is_cut_off o ≡ false
unfolding after_action unfilled stop_answer is_passed is_failed is_silent is_cut_off
uncut_so pages r Passed n = refl
uncut_so pages r Failed n = refl
uncut_so pages r Silent n = refl
uncut_so pages r Cut n = absurd (n refl)
uncut_so pages r Illegal n = refl
uncut_so pages r Protected n = refl

gone-answered : (o : Outcome) → answered (gone o) ≡ true → answered o ≡ true
unfolding gone is_failed answered
gone-answered Passed t = refl
gone-answered Failed t = refl
gone-answered Silent t = t
gone-answered Cut t = t
gone-answered Illegal t = t
gone-answered Protected t = refl

-- what two runs came to from p and p'
pub record Came (g : Geometry) (mask fates fates' : List ℕ) (long : ℕ) (p p' : Progress) (x x' : Ran) : Type 0 where
  pub same_running : x'.running ≡ x.running
  pub matched : Matched g mask fates fates' p p' x.progress x'.progress
  pub stands : x.running.cursor.phase < 2 → Stands g long x.running x.progress.line
  pub passed : x.running.cursor.phase < 2 → is_passed x.progress.outcome ≡ true

came_on : (g : Geometry) (mask fates fates' : List ℕ) (long : ℕ) (p p' : Progress) (x x' y y' : Ran) → Came g mask fates fates' long p p' x x' → Came g mask fates fates' long x.progress x'.progress y y' → Came g mask fates fates' long p p' y y'
came_on g mask fates fates' long p p' x x' y y' a b =
    record { same_running = b.same_running; matched = matched_on g mask fates fates' a.matched b.matched; stands = b.stands; passed = b.passed }

came_still : (g : Geometry) (mask fates fates' : List ℕ) (long : ℕ) (r : Running) (p p' : Progress) → p'.outcome ≡ p.outcome → Alike g mask fates fates' p.line p'.line
    → (r.cursor.phase < 2 → Stands g long r p.line) → (r.cursor.phase < 2 → is_passed p.outcome ≡ true) → Came g mask fates fates' long p p' (ran_to p r) (ran_to p' r)
came_still g mask fates fates' long r p p' e a w t =
    record { same_running = refl; matched = matched_still g mask fates fates' p p' e a; stands = w; passed = t }

-- one action
pub acted_shape : (s : Setting) (bytes : List ℕ) (r : Running) (p : Progress) → Shape r → (acted s bytes r p).running.cursor.phase < 2 → Shape (acted s bytes r p).running
acted_shape s bytes r p x =
    cases (eqb r.cursor.step 0)
    (λ t. subst (λ (y : Ran). y.running.cursor.phase < 2 → Shape y.running) (sym (acted_prepared s bytes r p (eqb-true r.cursor.step 0 t))) (prepared_shape s.geometry r.cursor r.state x))
    (λ t. subst (λ (y : Ran). y.running.cursor.phase < 2 → Shape y.running) (sym (acted_performed s bytes r p (eqb-false r.cursor.step 0 t))) (after_shape s.geometry.pages r.cursor r.state _ x))

-- a run that is not cut: nor is its first action
first_uncut : (s : Setting) (bytes : List ℕ) (n left : ℕ) (r : Running) (p : Progress) → is_open_now r.cursor left ≡ true → Shape r → ((ran s bytes (suc n) left r p).running.cursor.answer ≡ 11 → ⊥) → (acted s bytes r p).running.cursor.answer ≡ 11 → ⊥
first_uncut s bytes n left r p o w f z =
    let x = acted s bytes r p in
    let less = left - programs r.cursor in
    cases (ltb x.running.cursor.phase 2)
    (λ h. omega (arith, z, (acted_shape s bytes r p w (ltb-true x.running.cursor.phase 2 h)).unanswered))
    (λ h.
    f
    (ap (λ (y : Ran). y.running.cursor.answer)
    (ran_acted s bytes r p n left o ∙ ran_over s bytes x.running x.progress n less (over-ended x.running.cursor less (ltb-false x.running.cursor.phase 2 h)))
    ∙ z))

matched_gone : (g : Geometry) (mask fates fates' : List ℕ) (p p' q q' : Progress) → Matched g mask fates fates' p p' q q' → Matched g mask fates fates' p p' (gone_on q) (gone_on q')
matched_gone g mask fates fates' p p' q q' m =
    record {
      same_outcome = ap gone m.same_outcome;
      same_array = m.same_array;
      same_history = m.same_history;
      as_many = m.as_many;
      within = m.within;
      within' = m.within';
      goes_on = λ t. m.goes_on (gone-answered q.outcome t);
    }

module _ (g : Geometry) (mask fates fates' bytes : List ℕ) where
  abbrev s : Setting
  s = setting g mask fates

  abbrev s' : Setting
  s' = setting g mask fates'

  abbrev To : Progress → Progress → Ran → Ran → Type 0
  To p p' x x' = Came g mask fates fates' (length bytes) p p' x x'

  module _ (r : Running) (p p' : Progress) (t : is_passed p.outcome ≡ true) (t' : is_passed p'.outcome ≡ true) (a : Alike g mask fates fates' p.line p'.line) (w : Stands g (length bytes) r p.line) where
    abbrev c : Cursor
    c = r.cursor

    same_passed : p'.outcome ≡ p.outcome
    same_passed = is_passed_lem p'.outcome t' ∙ sym (is_passed_lem p.outcome t)

    some_pages : 0 < g.pages
    some_pages = omega (arith, a.called.is_valid.pages_least)

    prepared_alike : To p p' (ran_to p (prepared g c r.state)) (ran_to p' (prepared g c r.state))
    prepared_alike =
        came_still g mask fates fates' (length bytes) (prepared g c r.state) p p' same_passed a
        (λ h.
        let x = prepared_goes g (length bytes) c r.state some_pages w.goes.fits w.goes.last_below h in
        record { goes = x.0; in_order = λ e. absurd (omega (arith, e, x.1)); shape = prepared_shape g c r.state w.shape h })
        (λ h. t)

    module _ (some : c.step ≡ 0 → ⊥) where
      abbrev q : Progress
      q = performed s c (form_now r) r.state.invalid bytes p

      abbrev q' : Progress
      q' = performed s' c (form_now r) r.state.invalid bytes p'

      due_alike : is_cut_off q.outcome ≡ false → is_cut_off q'.outcome ≡ false → To p p' (ran_to (gone_on q) (after_due g.pages r q.outcome)) (ran_to (gone_on q') (after_due g.pages r q'.outcome))
      unfolding is_passed
      due_alike f f' =
          let due : 0 < c.step = omega (arith, some) in
          let d = performed_alike g mask fates fates' p p' t t' a c (form_now r) r.state.invalid bytes w.goes.fits due w.shape.invalid_long w.in_order f f' in
          let after = after_goes g (length bytes) c r.state some_pages w.goes.fits w.goes.last_below due q.outcome in
          record {
            same_running = ap (after_due g.pages r) d.0.same_outcome;
            matched = matched_gone g mask fates fates' p p' q q' d.0;
            stands = λ h.
                let x = after h in
                record {
                  goes = x.0;
                  in_order = λ e.
                      let y = x.2 e in
                      omega (arith, ap (λ (b : ℕ). get_or q.line.chip.history b 0) y.1, y.2, d.1 y.0);
                  shape = after_shape g.pages c r.state q.outcome w.shape h;
                };
            passed = λ h. let x = after h in ap is_passed (gone_on_lem q.outcome x.1 x.3);
          }

    acted_alike : ((acted s bytes r p).running.cursor.answer ≡ 11 → ⊥) → ((acted s' bytes r p').running.cursor.answer ≡ 11 → ⊥) → To p p' (acted s bytes r p) (acted s' bytes r p')
    acted_alike n n' =
        cases (eqb c.step 0)
        (λ z.
        let zero_is = eqb-true c.step 0 z in
        subst (λ (x : Ran). To p p' x (acted s' bytes r p')) (sym (acted_prepared s bytes r p zero_is))
        (subst (To p p' (ran_to p (prepared g c r.state))) (sym (acted_prepared s' bytes r p' zero_is)) prepared_alike))
        (λ z.
        let some = eqb-false c.step 0 z in
        let e = acted_performed s bytes r p some in
        let e' = acted_performed s' bytes r p' some in
        subst (λ (x : Ran). To p p' x (acted s' bytes r p')) (sym e)
        (subst (To p p' (ran_to (gone_on (q some)) (after_due g.pages r (q some).outcome))) (sym e')
        (due_alike some
        (uncut_so g.pages r (q some).outcome (λ x. n (ap (λ (y : Ran). y.running.cursor.answer) e ∙ x)))
        (uncut_so g.pages r (q' some).outcome (λ x. n' (ap (λ (y : Ran). y.running.cursor.answer) e' ∙ x))))))

    -- with as many cycles left, cut or not: the same is due
    acted_same : p'.line.left ≡ p.line.left → (acted s' bytes r p').running ≡ (acted s bytes r p).running
    acted_same same =
        cases (eqb c.step 0)
        (λ z.
        let zero_is = eqb-true c.step 0 z in
        ap (λ (x : Ran). x.running) (acted_prepared s' bytes r p' zero_is) ∙ sym (ap (λ (x : Ran). x.running) (acted_prepared s bytes r p zero_is)))
        (λ z.
        let some = eqb-false c.step 0 z in
        ap (λ (x : Ran). x.running) (acted_performed s' bytes r p' some)
        ∙ ap (after_due g.pages r) (performed_same g mask fates fates' p p' t t' a same c (form_now r) r.state.invalid bytes w.goes.fits (omega (arith, some)) w.shape.invalid_long w.in_order)
        ∙ sym (ap (λ (x : Ran). x.running) (acted_performed s bytes r p some)))

  -- so many actions, with so many page programs
  pub ran_alike : (n left : ℕ) (r : Running) (p p' : Progress) → is_passed p.outcome ≡ true → is_passed p'.outcome ≡ true → Alike g mask fates fates' p.line p'.line → Stands g (length bytes) r p.line
      → ((ran s bytes n left r p).running.cursor.answer ≡ 11 → ⊥) → ((ran s' bytes n left r p').running.cursor.answer ≡ 11 → ⊥) → To p p' (ran s bytes n left r p) (ran s' bytes n left r p')
  unfolding ran
  ran_alike zero left r p p' t t' a w f f' = came_still g mask fates fates' (length bytes) r p p' (same_passed r p p' t t' a w) a (λ h. w) (λ h. t)
  ran_alike (suc n) left r p p' t t' a w f f' =
      cases (is_open_now r.cursor left)
      (λ o.
      let x = acted s bytes r p in
      let x' = acted s' bytes r p' in
      let less = left - programs r.cursor in
      let e = ran_acted s bytes r p n left o in
      let e' = ran_acted s' bytes r p' n left o in
      let on = acted_alike r p p' t t' a w (first_uncut s bytes n left r p o w.shape f) (first_uncut s' bytes n left r p' o w.shape f') in
      subst (λ (y : Ran). To p p' y (ran s' bytes (suc n) left r p')) (sym e)
      (subst (To p p' (ran s bytes n less x.running x.progress)) (sym e')
      (subst (λ (y : Running). To p p' (ran s bytes n less x.running x.progress) (ran s' bytes n less y x'.progress)) (sym on.same_running)
      (cases (ltb x.running.cursor.phase 2)
      (λ h.
      let going = ltb-true x.running.cursor.phase 2 h in
      let ok = on.passed going in
      came_on g mask fates fates' (length bytes) p p' x (ran_to x'.progress x.running) _ _ (record { same_running = refl; matched = on.matched; stands = on.stands; passed = on.passed })
      (ran_alike n less x.running x.progress x'.progress ok (ap is_passed on.matched.same_outcome ∙ ok) (on.matched.goes_on (passed_answered _ ok)) (on.stands going)
      (λ z. f (ap (λ (y : Ran). y.running.cursor.answer) e ∙ z))
      (λ z. f' (ap (λ (y : Ran). y.running.cursor.answer) e' ∙ ap (λ (y : Running). (ran s' bytes n less y x'.progress).running.cursor.answer) on.same_running ∙ z))))
      (λ h.
      let over : is_open_now x.running.cursor less ≡ false = over-ended x.running.cursor less (ltb-false x.running.cursor.phase 2 h) in
      subst (λ (y : Ran). To p p' y (ran s' bytes n less x.running x'.progress)) (sym (ran_over s bytes x.running x.progress n less over))
      (subst (To p p' (ran_to x.progress x.running)) (sym (ran_over s' bytes x.running x'.progress n less over))
      (record { same_running = refl; matched = on.matched; stands = on.stands; passed = on.passed })))))))
      (λ o.
      subst (λ (y : Ran). To p p' y (ran s' bytes (suc n) left r p')) (sym (ran_over s bytes r p (suc n) left o))
      (subst (To p p' (ran_to p r)) (sym (ran_over s' bytes r p' (suc n) left o))
      (came_still g mask fates fates' (length bytes) r p p' (same_passed r p p' t t' a w) a (λ h. w) (λ h. t))))

  -- with as many cycles left: one that is not cut is not cut in the other call either
  pub ran_same : (n left : ℕ) (r : Running) (p p' : Progress) → is_passed p.outcome ≡ true → is_passed p'.outcome ≡ true → Alike g mask fates fates' p.line p'.line → Stands g (length bytes) r p.line
      → p'.line.left ≡ p.line.left → ((ran s bytes n left r p).running.cursor.answer ≡ 11 → ⊥) → (ran s' bytes n left r p').running ≡ (ran s bytes n left r p).running
  unfolding ran
  ran_same zero left r p p' t t' a w same f = refl
  ran_same (suc n) left r p p' t t' a w same f =
      cases (is_open_now r.cursor left)
      (λ o.
      let x = acted s bytes r p in
      let x' = acted s' bytes r p' in
      let less = left - programs r.cursor in
      let e = ran_acted s bytes r p n left o in
      let e' = ran_acted s' bytes r p' n left o in
      let first = first_uncut s bytes n left r p o w.shape f in
      let is = acted_same r p p' t t' a w same in
      let on = acted_alike r p p' t t' a w first (λ z. first (sym (ap (λ (y : Running). y.cursor.answer) is) ∙ z)) in
      ap (λ (y : Ran). y.running) e' ∙ ap (λ (y : Running). (ran s' bytes n less y x'.progress).running) is
      ∙ cases (ltb x.running.cursor.phase 2)
      (λ h.
      let going = ltb-true x.running.cursor.phase 2 h in
      let ok = on.passed going in
      ran_same n less x.running x.progress x'.progress ok (ap is_passed on.matched.same_outcome ∙ ok) (on.matched.goes_on (passed_answered _ ok)) (on.stands going)
      (omega (arith, same, on.matched.as_many)) (λ z. f (ap (λ (y : Ran). y.running.cursor.answer) e ∙ z)))
      (λ h.
      let over : is_open_now x.running.cursor less ≡ false = over-ended x.running.cursor less (ltb-false x.running.cursor.phase 2 h) in
      ap (λ (y : Ran). y.running) (ran_over s' bytes x.running x'.progress n less over)
      ∙ sym (ap (λ (y : Ran). y.running) (ran_over s bytes x.running x.progress n less over)))
      ∙ sym (ap (λ (y : Ran). y.running) e))
      (λ o. ap (λ (y : Ran). y.running) (ran_over s' bytes r p' (suc n) left o) ∙ sym (ap (λ (y : Ran). y.running) (ran_over s bytes r p (suc n) left o)))
