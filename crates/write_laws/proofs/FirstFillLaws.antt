-- The first fill of a request that has read the status, where no number or no block is left, and where the chip does not take its
-- first cycle. Assumes nothing.
use Prim.Native.Nat.{ℕ, suc, ◌-◌, ◌≤◌, ◌<◌}
use mathlib.Core.Bool.{true, false, cond}
use mathlib.Core.List.{List, [], ◌∷◌, ◌++◌}
use mathlib.Core.Path.{◌≡◌, sym, ap, ◌∙◌}
use native.Mathlib.Nat.{add-zero}
use native.Mathlib.Omega.{arith}
use borrow.Table.Steps.{cases}
use borrow.Author.Tests.{ne_eqb}
use lib.Dec.{eqb}
use Rattle.std.specs.Prelude.{Option, Some, None}
use Rattle.geometry.specs.Sizes.{row_of}
use Rattle.bools.proofs.BoolLaws.{clash}
use Rattle.chip_interface.specs.Interface.{erase_code}
use Rattle.chip_array.specs.Device.{Setting}
use Rattle.chip.specs.Chip.{Cycle}
use Rattle.chip.specs.Chip.Cycle.{command}
use Rattle.bus.specs.Line.{Line, send_all}
use Rattle.bus_polling.specs.Outcomes.{is_passed, is_failed, is_silent, is_cut_off, answered}
use Rattle.bus_polling.specs.Polling.{outcome_of, answer_of}
use Rattle.bus_polling.proofs.OutcomeLaws.{passed_answered, failed_answered, guarded_same}
use Rattle.bus_polling.proofs.PollLaws.{answer_answered}
use Rattle.bus_sequences.specs.Cycles.{erase_cycles}
use Rattle.operations.specs.Ends.{End, Lent, end_of, unready_line, unready_end}
use Rattle.operations.specs.Trace.{ArrayOperation}
use Rattle.operations.proofs.UnreadyLaws.{unready_ends, unready_unanswered, erase_unready_line, erase_unanswered, erase_unready_sends, erase_unready_starts}
use Rattle.state_choose.specs.Choose.{chosen}
use Rattle.state_choose.proofs.ChooseLaws.{by_choice}
use Rattle.state.specs.State.{blank, next_number, number_end, numbers_left, held_bits}
use Rattle.state.specs.declared.State.{State}
use Rattle.request.specs.Call.{stop_answer}
use Rattle.request.proofs.CallLaws.{stop_least}
use Rattle.progress.specs.Progress.{Progress}
use Rattle.progress.specs.Steps.{erase_on}
use Rattle.fill.specs.Fill.{copy, pages_filled}
use Rattle.fill.proofs.FillLaws.{fill_stopped}
use Rattle.pages.specs.Layout.{data_kind}
use Rattle.fill_tables.specs.Tables.{tabled}
use Rattle.write_changes.specs.Changes.{Update, Copied, copy_filled, stopped_at, after_try, copy_tried, copies_filled, then_table, change_run, update_source}
use Rattle.write_changes.proofs.LoopLaws.{chosen_permitted, none_permitted}
use Rattle.write_laws.specs.Unready.{may_fill, none_left}

-- what was not answered is told by the outcome alone
answer_same : (l : Line) → answered (outcome_of l) ≡ false → answer_of l ≡ outcome_of l
answer_same l f =
    cases (eqb l.chip.interface.protected 0) (λ t. rw t) (λ t. rw t (guarded_same (outcome_of l) f))

stop_is : (l : Line) → stop_answer (outcome_of (unready_line l)) ≡ cond (eqb l.left 0) 11 255
unfolding end_of unready_end stop_answer is_silent is_cut_off
stop_is l =
    ap stop_answer (ap (λ (e : End). e.outcome) (unready_ends l))
    ∙ cases (eqb l.left 0) (λ t. rw t) (λ t. rw t)

pub unready_left : (l : Line) → (unready_line l).left ≡ l.left - 1
unfolding end_of unready_end
unready_left l = ap (λ (e : End). e.left) (unready_ends l)

pub unready_array : (l : Line) → (unready_line l).chip.array ≡ l.chip.array
unfolding end_of unready_end
unready_array l = ap (λ (e : End). e.array) (unready_ends l)

pub unready_history : (l : Line) → (unready_line l).chip.history ≡ l.chip.history
unfolding end_of unready_end
unready_history l = ap (λ (e : End). e.history) (unready_ends l)

-- the fills of a request that has read the status
module _ (s : Setting) (st : State) (u : Update) (last_below : st.last < s.geometry.blocks) (first : Progress) where
  abbrev held : List ℕ
  held = held_bits st s.geometry.logical

  abbrev choice : Option ℕ
  choice = chosen st.marked st.invalid held s.geometry.blocks st.last

  pub spent_run : number_end ≤ next_number st → change_run s st u first ≡ tabled first 9 (blank 2)
  unfolding then_table copies_filled
  spent_run h =
      let none : numbers_left st ≡ 0 = omega (arith, h) in
      ap (λ (k : ℕ). then_table s (copies_filled s held u k false st first)) none

  module _ (fits : next_number st < number_end) where
    some_left : numbers_left st ≡ suc (numbers_left st - 1)
    some_left = omega (arith, fits)

    more : State → Progress → Copied
    more = copies_filled s held u (numbers_left st - 1) true

    tried_is : (c : Option ℕ) → choice ≡ c → copies_filled s held u (numbers_left st) false st first ≡ copy_tried s u st false first more c
    unfolding copies_filled more
    tried_is c e = ap (λ (k : ℕ). copies_filled s held u k false st first) some_left ∙ ap (copy_tried s u st false first more) e

    pub worn_run : none_left s st → change_run s st u first ≡ tabled first 8 (blank 2)
    unfolding then_table copy_tried
    worn_run none =
        by_choice choice
        (λ e. ap (then_table s) (tried_is None e))
        (λ b e.
        let f = chosen_permitted st.marked st.invalid held s.geometry.blocks st.last last_below b e in
        absurd (none b f.0 f.1))

    -- a block is left, and the chip does not take the first cycle of its erase
    module _ (passed : is_passed first.outcome ≡ true) (lent : Lent s first.line) (unready : 2 < first.line.chip.interface.phase) (b : ℕ) (e : choice ≡ Some b) where
      abbrev row : ℕ
      row = row_of s.geometry b 0

      abbrev x : Progress
      x = erase_on s b first

      pub refused_line : x.line ≡ unready_line first.line
      unfolding erase_on
      refused_line = rw passed (erase_unready_line s first.line lent unready row)

      refused_outcome : x.outcome ≡ outcome_of (unready_line first.line)
      unfolding erase_on
      refused_outcome =
          rw passed (ap answer_of (erase_unready_line s first.line lent unready row) ∙ answer_same (unready_line first.line) (unready_unanswered first.line))

      refused_unanswered : answered x.outcome ≡ false
      unfolding erase_on
      refused_unanswered =
          rw passed (answer_answered (send_all s first.line (erase_cycles s first.line row)) ∙ erase_unanswered s first.line lent unready row)

      pub refused_sends : x.cycles ≡ first.cycles ++ cond (eqb first.line.left 0) [] (command erase_code ∷ [])
      unfolding erase_on
      refused_sends = rw passed (ap (λ (cs : List Cycle). first.cycles ++ cs) (erase_unready_sends s first.line lent unready row))

      pub refused_starts : x.started ≡ first.started ++ []
      unfolding erase_on
      refused_starts = rw passed (ap (λ (os : List ArrayOperation). first.started ++ os) (erase_unready_starts s first.line lent unready row))

      unpassed : is_passed x.outcome ≡ false
      unpassed = cases (is_passed x.outcome) (λ t. clash (passed_answered x.outcome t) refused_unanswered) (λ f. f)

      unfailed : is_failed x.outcome ≡ false
      unfailed = cases (is_failed x.outcome) (λ t. clash (failed_answered x.outcome t) refused_unanswered) (λ f. f)

      fill_is : copy_filled s u st b first ≡ x
      unfolding pages_filled
      fill_is =
          ap (λ (k : ℕ). pages_filled s b (copy data_kind u.logical (next_number st)) (update_source s.geometry st u) k x) (sym (add-zero s.geometry.pages))
          ∙ fill_stopped s b (copy data_kind u.logical (next_number st)) (update_source s.geometry st u) 0 x unpassed s.geometry.pages

      stops : copy_tried s u st false first more (Some b) ≡ stopped_at x
      unfolding copy_tried after_try
      stops = rw (fill_is, unpassed, unfailed)

      pub refused_run : change_run s st u first ≡ tabled x (stop_answer x.outcome) (blank 2)
      unfolding then_table
      refused_run =
          ap (then_table s) (tried_is (Some b) e ∙ stops)
          ∙ rw (ne_eqb (stop_answer x.outcome) 0 (λ z. omega (arith, z, stop_least x.outcome)))

      pub refused_told : stop_answer x.outcome ≡ cond (eqb first.line.left 0) 11 255
      refused_told = ap stop_answer refused_outcome ∙ stop_is first.line

  -- where some block may be filled, one is chosen
  pub some_chosen : {P : Type 0} (b : ℕ) → b < s.geometry.blocks → may_fill s st b → ((c : ℕ) → choice ≡ Some c → P) → P
  some_chosen b h t f =
      by_choice choice
      (λ e. clash t (none_permitted st.marked st.invalid held s.geometry.blocks st.last last_below e b h))
      f
