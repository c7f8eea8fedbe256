-- The cycles of the call on every chip: each legal, counted, and leading to the chip that it leaves. Assumes nothing.
use Prim.Native.Nat.{ℕ, ◌-◌}
use mathlib.Core.Bool.{false}
use mathlib.Core.List.{List, []}
use mathlib.Core.Path.{◌≡◌, refl, sym, ap, subst, ◌∙◌}
use native.Mathlib.Omega.{arith}
use borrow.Author.Tests.{eq-eqb, eqb-true}
use borrow.Table.Steps.{cases}
use lib.Dec.{eqb}
use lib.ListN.{length}
use Rattle.bools.proofs.BoolLaws.{clash}
use Rattle.chip_array.specs.Device.{Device, Setting, setting}
use Rattle.bus.specs.Line.{run, sent}
use Rattle.bus.proofs.LineLaws.{run_append}
use Rattle.bus.proofs.LegalLaws.{legal_run}
use Rattle.bus_polling.specs.Outcomes.{is_passed}
use Rattle.bus_polling.specs.Polling.{ended_as}
use Rattle.bus_sequences.specs.Cycles.{reset_cycles}
use Rattle.chip_laws.specs.Lengths.{SameLengths}
use Rattle.chip_laws.proofs.LengthLaws.{run_lengths}
use Rattle.chip_laws.proofs.ReplayLaws.{sent_runs}
use Rattle.progress.specs.Progress.{Progress, reset_on}
use Rattle.parameter_read.specs.Cycles.{parameter_cycles}
use Rattle.state.specs.declared.State.{State}
use Rattle.request.specs.Call.{Performed, result_of, sent_in, started_in, call_line}
use Rattle.request.specs.Start.{start_line}
use Rattle.identify.specs.Identify.{Identified, unknown, parameters_on, identify_run, identify_end, identify_request}
use Rattle.identify.specs.Ends.{SentSo}
use Rattle.identify.proofs.EndLaws.{run_ends, run_counts}

-- run one after the other the cycles of the call lead to the chip of its line
run_leads : (s : Setting) (d : Device) (n : ℕ) (page : List ℕ) → run s (call_line d n).chip (identify_run s d n page).cycles ≡ (identify_run s d n page).line.chip
unfolding parameters_on reset_on is_passed
run_leads s d n page =
    let first = sent_runs s (call_line d n) reset_cycles in
    let cs = parameter_cycles s (start_line s d n) page 768 in
    cases (is_passed (ended_as (start_line s d n)))
    (λ t.
    rw t
    (run_append s (call_line d n).chip (sent s (call_line d n) reset_cycles) (sent s (start_line s d n) cs)
    ∙ ap (λ (x : Device). run s x (sent s (start_line s d n) cs)) (sym first)
    ∙ sym (sent_runs s (start_line s d n) cs)))
    (λ t. rw t (sym first))

-- it starts no operation on the array
run_starts_none : (s : Setting) (d : Device) (n : ℕ) (page : List ℕ) → (identify_run s d n page).started ≡ []
unfolding parameters_on reset_on is_passed
run_starts_none s d n page = cases (is_passed (ended_as (start_line s d n))) (λ t. rw t) (λ t. rw t)

module _ (mask fates : List ℕ) (d : Device) (n : ℕ) (state : State) (page : List ℕ) (logical : ℕ) where
  abbrev s : Setting
  s = setting unknown mask fates

  abbrev r : Performed Identified
  r = identify_request mask fates d n state page logical

  abbrev run_of : Progress
  run_of = identify_run s d n page

  unfit : eqb (length page) 768 ≡ false → SentSo mask fates d n page r
  unfolding result_of sent_in started_in identify_request
  unfit f =
      record {
        each_legal = rw f tt;
        leads = λ h. absurd (clash (eq-eqb (length page) 768 h) f);
        none_sent_fact = λ h. (rw f, rw f);
        sent_is = rw f;
        same_lengths = rw f (record { array = refl; register = refl; history = refl });
      }

  module _ (h : length page ≡ 768) where
    chip_is : (result_of r).returned.chip ≡ run_of.line.chip
    unfolding result_of identify_request identify_end
    chip_is = rw (eq-eqb (length page) 768 h) (cases (is_passed run_of.outcome) (λ t. rw t) (λ t. rw t))

    sent_left : (result_of r).returned.sent ≡ n - run_of.line.left
    unfolding result_of identify_request identify_end
    sent_left = rw (eq-eqb (length page) 768 h) (cases (is_passed run_of.outcome) (λ t. rw t) (λ t. rw t))

    cycles_are : sent_in r ≡ run_of.cycles
    unfolding result_of sent_in started_in identify_request
    cycles_are = rw (eq-eqb (length page) 768 h)

    leads_so : run s (call_line d n).chip (sent_in r) ≡ (result_of r).returned.chip
    leads_so = ap (run s (call_line d n).chip) cycles_are ∙ run_leads s d n page ∙ sym chip_is

    lengths : SameLengths (call_line d n).chip (result_of r).returned.chip
    lengths = subst (SameLengths (call_line d n).chip) leads_so (run_lengths s (call_line d n).chip (sent_in r))

    fit : SentSo mask fates d n page r
    fit =
        record {
          each_legal = legal_run s (call_line d n).chip (sent_in r)
              (ap (λ (x : Device). x.interface.illegal) (leads_so ∙ chip_is) ∙ (run_ends s d n page h).legal);
          leads = λ _. leads_so;
          none_sent_fact = λ x. absurd (x h);
          sent_is = sent_left ∙ omega (arith, run_counts s d n page h) ∙ ap length (sym cycles_are);
          same_lengths = record { array = lengths.array; register = lengths.register; history = lengths.history };
        }

  pub identify_sent : SentSo mask fates d n page r
  identify_sent = cases (eqb (length page) 768) (λ u. fit (eqb-true (length page) 768 u)) unfit

  pub identify_starts : started_in r ≡ []
  unfolding result_of sent_in started_in identify_request
  identify_starts = cases (eqb (length page) 768) (λ u. rw u (run_starts_none s d n page)) (λ u. rw u)
