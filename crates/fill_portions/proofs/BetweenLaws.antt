-- The same list of calls without its reads ends the write too. Assumes nothing.
use Prim.Native.Nat.{ℕ, ◌+◌, ◌-◌, ◌≤◌, ◌<◌}
use mathlib.Core.Bool.{Bool, true, false}
use mathlib.Core.List.{List, [], ◌∷◌}
use mathlib.Core.Option.{some, some-injective}
use mathlib.Core.Path.{◌≡◌, refl, sym, ap, ap₂, subst, ◌∙◌}
use native.Mathlib.Omega.{arith}
use borrow.Table.Steps.{cases}
use borrow.Author.Tests.{ltb-true}
use lib.Dec.{eqb, ltb}
use lib.ListN.{length, get_or}
use Rattle.geometry.specs.declared.Geometry.{Geometry}
use Rattle.chip_array.specs.Device.{Device, Setting, setting}
use Rattle.bus_polling.specs.Outcomes.{is_passed}
use Rattle.bus_polling.specs.declared.Outcome.TheVariants.{Passed}
use Rattle.progress.specs.Progress.{Progress, progress}
use Rattle.request.specs.Call.{sized_for, sized, call_line}
use Rattle.fill_cursor.specs.Cursor.{actions_most}
use Rattle.fill_cursor.specs.declared.Running.{Running}
use Rattle.fill_driver.specs.Driver.{Ran}
use Rattle.open_write.specs.Open.{OpenState, open_state, is_opened, words_of}
use Rattle.open_write.specs.Requests.{open_result, open_refusal, Advanced, advanced, advance_run, reading_open}
use Rattle.fill_portions.specs.Portions.{Between, advance, read, after, portions, without_reads}
use Rattle.fill_portions.proofs.AlikeLaws.{Alike}
use Rattle.fill_portions.proofs.RunLaws.{Stands, ran_same}
use Rattle.fill_portions.proofs.BesideLaws.{read_beside_lem, call_called}
use Rattle.fill_portions.proofs.PositionLaws as position
use Rattle.fill_portions.proofs.PositionLaws.{Standing, standing-moved}
use Rattle.fill_portions.proofs.PortionLaws.{none_some, by_after, refused, advance-refused, advance_goes, advance_ends, advance_sized, portions_next}

-- an advance of the list ends the write, uncut
pub record Ends (g : Geometry) (mask fates : List ℕ) (calls : List Between) (x : OpenState) (d : Device) : Type 0 where
  pub last : Advanced
  pub is : portions g mask fates calls x d ≡ some last
  pub uncut : last.returned.answer ≡ 11 → ⊥

module _ (g : Geometry) (mask fates bytes : List ℕ) (fin : Ran) (uncut : fin.running.cursor.answer ≡ 11 → ⊥) where
  abbrev At : List ℕ → OpenState → Device → Running → Progress → Type 0
  At words x d r p = Standing g mask fates bytes fin words x d r p

  -- the write stands at one place on two chips
  module _ (fates' fates'' : List ℕ) (x y : OpenState) (d e : Device) (r : Running) (p : Progress) (w : At fates' x d r p) (v : At fates'' y e r p) (same : y ≡ x) (sizes : length e.register ≡ length d.register) (n most : ℕ) where
    abbrev s : Setting
    s = setting g mask fates'

    abbrev s' : Setting
    s' = setting g mask fates''

    abbrev one : Ran
    one = advance_run s d n x most

    abbrev two : Ran
    two = advance_run s' e n y most

    sized_same : sized_for s' e ≡ sized_for s d
    sized_same =
        ap₂ (λ (a h : List ℕ). sized g (length a) (length e.register) (length h) (length mask)) (v.same_array ∙ sym w.same_array) (v.same_history ∙ sym w.same_history)
        ∙ ap (λ (k : ℕ). sized g (length d.array) k (length d.history) (length mask)) sizes

    refused_same : refused s' e n y most ≡ refused s d n x most
    refused_same = ap₂ (λ (b : Bool) (z : OpenState). open_refusal g b z (eqb z.write.opened 0)) sized_same same

    module _ (fits : sized_for s d ≡ true) where
      start_alike : Alike g mask fates' fates'' (call_line d n) (call_line e n)
      start_alike =
          record {
            called = call_called s d n fits w.ready;
            called' = call_called s' e n (sized_same ∙ fits) v.ready;
            high = w.same_line;
            high' = v.same_line;
            same_array = v.same_array ∙ sym w.same_array;
            same_history = v.same_history ∙ sym w.same_history;
            words = λ k. v.words k ∙ sym (w.words k);
          }

      stands_here : Stands g (length bytes) r (call_line d n)
      stands_here =
          record {
            goes = w.stands.goes;
            in_order = λ z. subst (λ (h : List ℕ). get_or h r.cursor.block 0 ≤ r.cursor.page) (sym w.same_history) (w.stands.in_order z);
            shape = w.stands.shape;
          }

      run_same : (one.running.cursor.answer ≡ 11 → ⊥) → two.running ≡ one.running
      unfolding is_passed
      run_same f =
          let here = position.portion_is g mask fates bytes fin uncut fates' x d r p w n most in
          let there = position.portion_is g mask fates bytes fin uncut fates'' y e r p v n most in
          ap (λ (z : Ran). z.running) there
          ∙ ran_same g mask fates' fates'' bytes (actions_most most r) most r (progress (call_line d n) Passed [] []) (progress (call_line e n) Passed [] []) refl refl start_alike stands_here refl
          (λ z. f (ap (λ (q : Ran). q.running.cursor.answer) here ∙ z))
          ∙ sym (ap (λ (z : Ran). z.running) here)

      -- the write goes on, on both
      module _ (goes : one.running.cursor.phase < 2) where
        abbrev open-still : 2 ≤ one.running.cursor.phase → one.running.cursor.answer ≡ 11 → ⊥
        open-still h = absurd (omega (arith, h, goes))

        going_uncut : one.running.cursor.answer ≡ 11 → ⊥
        going_uncut z =
            let came = position.portion_came g mask fates bytes fin uncut fates' x d r p w n most fits open-still in
            let plain_goes = subst (λ (q : Running). q.cursor.phase < 2) came.same_running goes in
            omega (arith, z, ap (λ (q : Running). q.cursor.answer) came.same_running, (came.stands plain_goes).shape.unanswered)

        going_same : two.running ≡ one.running
        going_same = run_same going_uncut

        two_goes : two.running.cursor.phase < 2
        two_goes = subst (λ (q : Running). q.cursor.phase < 2) (sym going_same) goes

        abbrev two-open : 2 ≤ two.running.cursor.phase → two.running.cursor.answer ≡ 11 → ⊥
        two-open h = absurd (omega (arith, h, two_goes))

        next_state : open_state two.running.state (words_of two.running.cursor) y.page ≡ open_state one.running.state (words_of one.running.cursor) x.page
        next_state = ap₂ (λ (q : Running) (z : OpenState). open_state q.state (words_of q.cursor) z.page) going_same same

        next_sizes : length two.progress.line.chip.register ≡ length one.progress.line.chip.register
        next_sizes =
            (position.again g mask fates bytes fin uncut fates'' y e r p v n most (sized_same ∙ fits) two-open two_goes).called'.register_long
            ∙ sym (position.again g mask fates bytes fin uncut fates' x d r p w n most fits open-still goes).called'.register_long

  -- without its reads the list ends the write too
  pub ends_without : (calls : List Between) (fates' fates'' : List ℕ) (x y : OpenState) (d e : Device) (r : Running) (p : Progress) → At fates' x d r p → At fates'' y e r p → y ≡ x → length e.register ≡ length d.register
      → (a : Advanced) → portions g mask fates' calls x d ≡ some a → (a.returned.answer ≡ 11 → ⊥) → Ends g mask fates'' (without_reads calls) y e
  unfolding portions without_reads
  ends_without [] fates' fates'' x y d e r p w v same sizes a q f = none_some a q
  ends_without (advance n most ∷ calls) fates' fates'' x y d e r p w v same sizes a q f =
      let s = setting g mask fates' in
      let s' = setting g mask fates'' in
      let one = advance_run s d n x most in
      let two = advance_run s' e n y most in
      let told : eqb (refused s' e n y most) 0 ≡ eqb (refused s d n x most) 0 = ap (λ (k : ℕ). eqb k 0) (refused_same fates' fates'' x y d e r p w v same sizes n most) in
      cases (eqb (refused s d n x most) 0)
      (λ ok.
      let fits = advance_sized s d n x most ok in
      cases (ltb one.running.cursor.phase 2)
      (λ h.
      let goes = ltb-true one.running.cursor.phase 2 h in
      let h' : ltb two.running.cursor.phase 2 ≡ true = ap (λ (z : Running). ltb z.cursor.phase 2) (going_same fates' fates'' x y d e r p w v same sizes n most fits goes) ∙ h in
      by_after _ _ a (sym (portions_next g mask fates' n most calls x d _ (advance_goes s d n x most ok h)) ∙ q) (λ b. (b.returned.answer ≡ 11 → ⊥) → Ends g mask fates'' (advance n most ∷ without_reads calls) y e)
      (λ b k f'.
      let rest =
      ends_without calls _ _ _ _ _ _ _ _
      (position.standing_next g mask fates bytes fin uncut fates' x d r p w n most fits (open-still fates' fates'' x y d e r p w v same sizes n most fits goes) goes)
      (position.standing_next g mask fates bytes fin uncut fates'' y e r p v n most (sized_same fates' fates'' x y d e r p w v same sizes n most ∙ fits) (two-open fates' fates'' x y d e r p w v same sizes n most fits goes) (two_goes fates' fates'' x y d e r p w v same sizes n most fits goes))
      (next_state fates' fates'' x y d e r p w v same sizes n most fits goes) (next_sizes fates' fates'' x y d e r p w v same sizes n most fits goes) b k f' in
      record {
        last = advanced (open_result rest.last.returned.answer rest.last.returned.state rest.last.returned.chip (n - two.progress.line.left + rest.last.returned.sent)) rest.last.finished;
        is = portions_next g mask fates'' n most (without_reads calls) y e _ (advance_goes s' e n y most (told ∙ ok) h') ∙ ap (after (n - two.progress.line.left)) rest.is;
        uncut = rest.uncut;
      })
      f)
      (λ h.
      let is = some-injective _ _ (sym (portions_next g mask fates' n most calls x d _ (advance_ends s d n x most ok h)) ∙ q) in
      let uncut' : one.running.cursor.answer ≡ 11 → ⊥ = λ z. f (sym (ap (λ (b : Advanced). b.returned.answer) is) ∙ z) in
      let there = run_same fates' fates'' x y d e r p w v same sizes n most fits uncut' in
      let h' : ltb two.running.cursor.phase 2 ≡ false = ap (λ (z : Running). ltb z.cursor.phase 2) there ∙ h in
      record {
        last = _;
        is = portions_next g mask fates'' n most (without_reads calls) y e _ (advance_ends s' e n y most (told ∙ ok) h');
        uncut = λ z. uncut' (sym (ap (λ (b : Running). b.cursor.answer) there) ∙ z);
      }))
      (λ no.
      let no' = told ∙ no in
      let here = sym (rw (w.opened, no)) ∙ sym (portions_next g mask fates' n most calls x d _ (advance-refused s d n x most no)) ∙ q in
      by_after 0 (portions g mask fates' calls x d) a here (λ b. (b.returned.answer ≡ 11 → ⊥) → Ends g mask fates'' (advance n most ∷ without_reads calls) y e)
      (λ b k f'.
      let rest = ends_without calls fates' fates'' x y d e r p w v same sizes b k f' in
      record {
        last = advanced (open_result rest.last.returned.answer rest.last.returned.state rest.last.returned.chip (0 + rest.last.returned.sent)) rest.last.finished;
        is = portions_next g mask fates'' n most (without_reads calls) y e _ (advance-refused s' e n y most no') ∙ rw (v.opened, no') (ap (after 0) rest.is);
        uncut = rest.uncut;
      })
      f)
  ends_without (read m c n logical page buffer ∷ calls) fates' fates'' x y d e r p w v same sizes a q f =
      let k = reading_open (setting g m c) d n x logical page buffer in
      cases (is_opened k.returned.state)
      (λ o.
      let u = read_beside_lem (setting g m c) d n x logical page buffer w.ready o in
      ends_without calls fates' fates'' x y k.returned.chip e r p (standing-moved g mask fates bytes fin fates' x d k.returned.chip r p u.1 w) v same (sizes ∙ sym u.1.same_size) a
      (ap (λ (z : OpenState). portions g mask fates' calls z k.returned.chip) (sym u.0) ∙ sym (rw o) ∙ q) f)
      (λ o. none_some a (sym (rw o) ∙ q))
