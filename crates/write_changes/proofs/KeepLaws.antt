-- What every operation keeps, writes and erases keep. Assumes nothing.
use Prim.Native.Nat.{ℕ, zero, suc}
use mathlib.Core.Bool.{Bool, true, false, cond}
use mathlib.Core.List.{List}
use mathlib.Core.Path.{◌≡◌, refl}
use lib.Dec.{eqb}
use Rattle.std.specs.Prelude.{Option, Some, None}
use Rattle.chip_array.specs.Device.{Device, Setting}
use Rattle.bus_polling.specs.Outcomes.{is_passed, is_failed}
use Rattle.pages.specs.Layout.{data_kind}
use Rattle.state_choose.specs.Choose.{chosen}
use Rattle.state.specs.State.{next_number, numbers_left, held_bits}
use Rattle.state.specs.declared.State.{State}
use Rattle.progress.specs.Progress.{Progress}
use Rattle.progress.specs.Kept.{Kept}
use Rattle.fill.specs.Fill.{copy}
use Rattle.fill.proofs.KeepLaws.{filled_keeps}
use Rattle.fill_tables.specs.Tables.{Tabled, after_status}
use Rattle.fill_tables.proofs.KeepLaws.{tables_keep}
use Rattle.write_changes.specs.Changes.{Update, update_source, copy_filled, Copied, after_try, copy_tried, copies_filled, then_table, change_run, change_first, change_call}

module _ (s : Setting) (P : Progress → Type 0) (k : Kept s P) where
  -- both arms of a test
  copied_arms : (b : Bool) (x y : Copied) → (b ≡ true → P x.progress) → P y.progress → P (cond b x y).progress
  copied_arms true x y h i = h refl
  copied_arms false x y h i = i

  tabled_arms : (b : Bool) (x y : Tabled) → P x.progress → P y.progress → P (cond b x y).progress
  tabled_arms true x y h i = h
  tabled_arms false x y h i = i

  try_keeps : (u : Update) (st : State) (failed : Bool) (p : Progress) (more : State → Progress → Copied) (c : Option ℕ) → P p → ((next : State) (q : Progress) → P q → P (more next q).progress)
      → P (copy_tried s u st failed p more c).progress
  unfolding copy_tried after_try
  try_keeps u st failed p more None h m = h
  try_keeps u st failed p more (Some b) h m =
      let q = copy_filled s u st b p in
      let here = filled_keeps s P k b (copy data_kind u.logical (next_number st)) (update_source s.geometry st u) p h in
      copied_arms (is_passed q.outcome) _ _ (λ t. here) (copied_arms (is_failed q.outcome) _ _ (λ f. m _ _ (k.resume q f here)) here)

  copies_keep : (held : List ℕ) (u : Update) (n : ℕ) (failed : Bool) (st : State) (p : Progress) → P p → P (copies_filled s held u n failed st p).progress
  unfolding copies_filled
  copies_keep held u zero failed st p h = h
  copies_keep held u (suc n) failed st p h =
      try_keeps u st failed p (copies_filled s held u n true) (chosen st.marked st.invalid held s.geometry.blocks st.last) h
      (λ next q i. copies_keep held u n true next q i)

  pub change_keeps : (st : State) (u : Update) (p : Progress) → P p → P (change_run s st u p).progress
  unfolding then_table
  change_keeps st u p h =
      let d = copies_filled s (held_bits st s.geometry.logical) u (numbers_left st) false st p in
      let here = copies_keep (held_bits st s.geometry.logical) u (numbers_left st) false st p h in
      tabled_arms (eqb d.answer 0) _ _
      (tabled_arms d.failed _ _ (tables_keep s P k (held_bits d.state s.geometry.logical) (numbers_left d.state) d.state d.progress here) here)
      here

  -- what holds after the status read
  pub call_keeps : (d : Device) (n : ℕ) (st : State) (u : Update) → P (change_first s d n) → P (change_call s d n st u).progress
  unfolding after_status
  call_keeps d n st u h =
      let p = change_first s d n in
      tabled_arms (is_passed p.outcome) _ _ (change_keeps st u p h) h
