-- What every operation keeps, table fills keep. Assumes nothing.
use Prim.Native.Nat.{ℕ, zero, suc}
use mathlib.Core.List.{List}
use borrow.Table.Steps.{cases}
use lib.Dec.{eqb}
use Rattle.std.specs.Prelude.{Option, Some, None}
use Rattle.chip_array.specs.Device.{Setting}
use Rattle.bus_polling.specs.Outcomes.{is_failed}
use Rattle.state_choose.specs.Choose.{chosen}
use Rattle.state.specs.State.{next_number}
use Rattle.state.specs.declared.State.{State}
use Rattle.progress.specs.Progress.{Progress}
use Rattle.progress.specs.Kept.{Kept}
use Rattle.fill.specs.Fill.{table_copy, table_source}
use Rattle.fill.proofs.KeepLaws.{filled_keeps}
use Rattle.fill_tables.specs.Tables.{try_block, try_table, tables_filled}

module _ (s : Setting) (P : Progress → Type 0) (k : Kept s P) where
  block_keeps : (st : State) (p : Progress) (c : Option ℕ) → P p → P (try_block s st p c).progress
  unfolding try_block
  block_keeps st p None h = h
  block_keeps st p (Some b) h =
      filled_keeps s P k b (table_copy (next_number st)) (table_source s.geometry st.invalid) p h

  pub try_keeps : (held : List ℕ) (st : State) (p : Progress) → P p → P (try_table s held st p).progress
  unfolding try_table
  try_keeps held st p h = block_keeps st p (chosen st.marked st.invalid held s.geometry.blocks st.last) h

  pub tables_keep : (held : List ℕ) (n : ℕ) (st : State) (p : Progress) → P p → P (tables_filled s held n st p).progress
  unfolding tables_filled
  tables_keep held zero st p h = h
  tables_keep held (suc n) st p h =
      let t = try_table s held st p in
      let here = try_keeps held st p h in
      cases (eqb t.worn 0)
      (λ w.
      cases (is_failed t.progress.outcome)
      (λ f. rw (w, f) (tables_keep held n t.state _ (k.resume t.progress f here)))
      (λ f. rw (w, f) here))
      (λ w. rw w here)
