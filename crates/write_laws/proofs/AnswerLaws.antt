-- The answers of a write or an erase that is not refused, on any chip. Assumes nothing.
use Prim.Native.Nat.{ℕ, ◌≤◌, ◌<◌}
use mathlib.Core.Bool.{false}
use mathlib.Core.List.{List}
use mathlib.Core.Logic.{◌⊎◌, inl, inr, ⊎_elim}
use mathlib.Core.Path.{◌≡◌, refl, sym, subst}
use native.Mathlib.Omega.{arith}
use borrow.Table.Steps.{cases}
use borrow.Author.Tests.{eqb-true}
use lib.Dec.{eqb}
use Rattle.chip_array.specs.Device.{Device, Setting}
use Rattle.bus_polling.specs.Outcomes.{is_passed, is_silent, is_cut_off, is_protected}
use Rattle.bus_polling.specs.declared.Outcome.{Outcome}
use Rattle.state.specs.State.{next_number, numbers_left, held_bits}
use Rattle.state.specs.declared.State.{State}
use Rattle.request.specs.Call.{stop_answer, status_answer}
use Rattle.request.proofs.CallLaws.{stop_least}
use Rattle.progress.specs.Progress.{Progress}
use Rattle.fill.specs.Fill.{table_filled}
use Rattle.fill_tables.specs.Tables.{Tabled}
use Rattle.fill_tables.proofs.StatusLaws.{after_passed, after-stopped}
use Rattle.write_changes.specs.Changes.{Update, Copied, copy_filled, copies_filled, then_table, change_run, change_first, change_call}
use Rattle.write_changes.proofs.LoopLaws.{Copying, copies_end, Tabling, tables_end}
use Rattle.write_laws.specs.Changing.{ChangeAnswer, is_done, is_worn, is_spent, is_silent_fact, is_cut, is_protected_fact}

module _ (s : Setting) where
  -- as on a ready chip, or 255
  abbrev Told : ℕ → Type 0
  Told a = ChangeAnswer a ⊎ (a ≡ 255)

  stop_told : (o : Outcome) → Told (stop_answer o)
  unfolding stop_answer
  stop_told o =
      cases (is_silent o) (λ t. rw t (inl is_silent_fact)) (λ t. cases (is_cut_off o) (λ y. rw (t, y) (inl is_cut)) (λ y. rw (t, y) (inr refl)))

  status_told : (o : Outcome) → Told (status_answer o)
  unfolding status_answer
  status_told o = cases (is_protected o) (λ t. rw t (inl is_protected_fact)) (λ t. rw t (stop_told o))

  stop_some : {P : Type 0} (o : Outcome) → stop_answer o ≡ 0 → P
  stop_some o z = absurd (omega (arith, z, stop_least o))

  record Copies (c : Copied) : Type 0 where
    told : Told c.answer
    last_below : c.answer ≡ 0 → c.state.last < s.geometry.blocks

  copying : (held : List ℕ) (u : Update) → Copying s held u (λ st f p. st.last < s.geometry.blocks) Copies
  copying held u =
      record {
        last_below = λ st f p x. x;
        spent = λ st f p x h. record { told = inl is_spent; last_below = λ z. absurd (omega (arith, z)) };
        worn = λ st f p x h none. record { told = inl is_worn; last_below = λ z. absurd (omega (arith, z)) };
        passed = λ st f p x h b below may y. record { told = inl is_done; last_below = λ z. below };
        failed = λ st f p x h b below may w. x;
        stopped = λ st f p x h b below may y w. record { told = stop_told (copy_filled s u st b p).outcome; last_below = stop_some (copy_filled s u st b p).outcome };
      }

  tabling : (held : List ℕ) → Tabling s held (λ st p. st.last < s.geometry.blocks) (λ t. Told t.answer)
  tabling held =
      record {
        last_below = λ st p x. x;
        spent = λ st p x h. inl is_spent;
        worn = λ st p x h none. inl is_worn;
        passed = λ st p x h b below may y. inl is_done;
        failed = λ st p x h b below may w. x;
        stopped = λ st p x h b below may y w. stop_told (table_filled s b (next_number st) st.invalid p).outcome;
      }

  change_told : (st : State) (u : Update) (p : Progress) → st.last < s.geometry.blocks → Told (change_run s st u p).answer
  unfolding then_table
  change_told st u p h =
      let held = held_bits st s.geometry.logical in
      let c = copies_filled s held u (numbers_left st) false st p in
      let x = copies_end s held u (λ st f p. st.last < s.geometry.blocks) Copies (copying held u) (numbers_left st) st false p h refl in
      cases (eqb c.answer 0)
      (λ t.
      let z = eqb-true c.answer 0 t in
      let held₁ = held_bits c.state s.geometry.logical in
      cases c.failed
      (λ f. rw (t, f) (tables_end s held₁ (λ st p. st.last < s.geometry.blocks) (λ t. Told t.answer) (tabling held₁) (numbers_left c.state) c.state c.progress (x.last_below z) refl))
      (λ f. rw (t, f) (inl is_done)))
      (λ t. rw t x.told)

  -- with the status read before it
  pub call_told : (d : Device) (n : ℕ) (st : State) (u : Update) → st.last < s.geometry.blocks → Told (change_call s d n st u).answer
  call_told d n st u h =
      let p = change_first s d n in
      cases (is_passed p.outcome)
      (λ t. subst (λ (x : Tabled). Told x.answer) (sym (after_passed st p (change_run s st u p) t)) (change_told st u p h))
      (λ f. subst (λ (x : Tabled). Told x.answer) (sym (after-stopped st p (change_run s st u p) f)) (status_told p.outcome))

  -- so it is 0, or from 8 on
  answer_late : (k : ℕ) → ChangeAnswer k → (k ≡ 0) ⊎ (8 ≤ k)
  answer_late k is_done = inl refl
  answer_late k is_worn = inr (omega arith)
  answer_late k is_spent = inr (omega arith)
  answer_late k is_silent_fact = inr (omega arith)
  answer_late k is_cut = inr (omega arith)
  answer_late k is_protected_fact = inr (omega arith)

  pub call_late : (d : Device) (n : ℕ) (st : State) (u : Update) → st.last < s.geometry.blocks → ((change_call s d n st u).answer ≡ 0) ⊎ (8 ≤ (change_call s d n st u).answer)
  call_late d n st u h = ⊎_elim (answer_late (change_call s d n st u).answer) (λ e. inr (omega (arith, e))) (call_told d n st u h)
