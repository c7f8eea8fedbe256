-- A write that is not refused, its run and its failed fills; what follows the data fills. Assumes nothing.
use Prim.Native.Nat.{ℕ}
use mathlib.Core.Bool.{true, false}
use mathlib.Core.List.{List}
use mathlib.Core.Path.{◌≡◌}
use borrow.Table.Steps.{cases}
use borrow.Author.Tests.{eqb-true, eq-eqb}
use lib.Dec.{eqb}
use lib.ListN.{length}
use Rattle.geometry.specs.Limits.{Valid}
use Rattle.chip_array.specs.Device.{Device, Setting}
use Rattle.state.specs.State.{numbers_left, held_bits}
use Rattle.state.specs.declared.State.{State}
use Rattle.request.specs.Call.{Result, sized_for, result_of, started_in}
use Rattle.request_refusals.specs.Refusals.{refusal_of}
use Rattle.request_refusals.proofs.RefusalLaws.{Accepted, accepts}
use Rattle.fill_tables.specs.Tables.{Tabled, tabled, end_of_run, tables_filled}
use Rattle.damage.specs.Run.{failed_count}
use Rattle.write_changes.specs.Changes.{Update, Copied, then_table, change_call, write_update, write_request, writing}
use Rattle.write_laws.proofs.ChangingLaws.{sized-valid}
use Rattle.write_dearest.specs.Dearest.{failed_fills}

-- what follows the data fills
module _ (s : Setting) (c : Copied) where
  pub data_done : (then_table s c).answer ≡ 0 → c.answer ≡ 0
  unfolding then_table
  data_done z = cases (eqb c.answer 0) (λ t. eqb-true c.answer 0 t) (λ f. rw f at z)

  pub with_table_fact : c.answer ≡ 0 → c.failed ≡ true → then_table s c ≡ tables_filled s (held_bits c.state s.geometry.logical) (numbers_left c.state) c.state c.progress
  unfolding then_table
  with_table_fact z t = rw (eq-eqb c.answer 0 z, t)

  pub without_table : c.answer ≡ 0 → c.failed ≡ false → then_table s c ≡ tabled c.progress 0 c.state
  unfolding then_table
  without_table z f = rw (eq-eqb c.answer 0 z, f)

module _ (s : Setting) (d : Device) (n : ℕ) (st : State) (logical page : ℕ) (bytes : List ℕ) where
  abbrev written : Result
  written = writing s d n st logical page bytes

  abbrev asked : Update
  asked = write_update st logical page bytes

  abbrev ran : Tabled
  ran = change_call s d n st asked

  -- an acknowledged write was not refused
  pub not_refused : written.answer ≡ 0 → refusal_of s d st logical page bytes ≡ 0
  unfolding result_of write_request
  not_refused z =
      cases (eqb (refusal_of s d st logical page bytes) 0)
      (λ t. eqb-true (refusal_of s d st logical page bytes) 0 t)
      (λ f. rw f at z)

  module _ (taken_on : refusal_of s d st logical page bytes ≡ 0) where
    pub accepted : Accepted s.geometry (sized_for s d) st logical page (length bytes)
    accepted = accepts s.geometry (sized_for s d) st logical page (length bytes) taken_on

    pub valid : Valid s.geometry
    valid = sized-valid s d accepted.sizes_fit

    pub written_is : written ≡ end_of_run n ran
    unfolding result_of write_request
    written_is = rw (eq-eqb (refusal_of s d st logical page bytes) 0 taken_on)

    pub failed_is : failed_fills s d n st logical page bytes ≡ failed_count ran.progress.started s.geometry.blocks
    unfolding started_in write_request
    failed_is = rw (eq-eqb (refusal_of s d st logical page bytes) 0 taken_on)
