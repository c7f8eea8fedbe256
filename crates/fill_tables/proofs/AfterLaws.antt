-- The state after a fill, by how it ended. Assumes nothing.
use Prim.Native.Nat.{ℕ}
use mathlib.Core.Bool.{true}
use mathlib.Core.Path.{◌≡◌}
use Rattle.bus_polling.specs.Outcomes.{is_passed, is_failed}
use Rattle.bus_polling.specs.declared.Outcome.{Outcome}
use Rattle.bus_polling.proofs.OutcomeLaws.{failed_unpassed}
use Rattle.state.specs.declared.State.{State}
use Rattle.state.specs.State.{with_table, with_invalid}
use Rattle.fill_tables.specs.Tables.{after_fill}

module _ (b : ℕ) (st : State) (o : Outcome) where
  pub after_passed : is_passed o ≡ true → after_fill b o st ≡ with_table b st
  unfolding after_fill
  after_passed t = rw t

  pub after_failed : is_failed o ≡ true → after_fill b o st ≡ with_invalid b st
  unfolding after_fill
  after_failed t = rw (failed_unpassed o t, t)
