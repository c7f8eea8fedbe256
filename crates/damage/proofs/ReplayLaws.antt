-- The cycles of a request lead from its first chip to the one that it leaves. Assumes nothing.
use Prim.Native.Nat.{ℕ}
use mathlib.Core.List.{List, [], ◌++◌}
use mathlib.Core.Path.{◌≡◌, refl, sym, ap, subst, ◌∙◌}
use borrow.Table.Steps.{cases}
use lib.ListN.{length}
use Rattle.geometry.specs.Sizes.{row_of}
use Rattle.chip_array.specs.Device.{Device, Setting}
use Rattle.chip.specs.Chip.{Cycle}
use Rattle.bus.specs.Line.{Line, run, send_all, sent}
use Rattle.bus.proofs.LineLaws.{run_append}
use Rattle.bus.proofs.LegalLaws.{legal_run}
use Rattle.chip_laws.specs.Lengths.{SameLengths}
use Rattle.chip_laws.proofs.LengthLaws.{run_lengths}
use Rattle.chip_laws.proofs.ReplayLaws.{sent_runs}
use Rattle.bus_polling.specs.Outcomes.{is_passed}
use Rattle.bus_sequences.specs.Cycles.{reset_cycles, status_cycles, read_cycles, erase_cycles, program_cycles}
use Rattle.request.specs.Call.{sized, sized_for}
use Rattle.bus_polling.specs.declared.Outcome.TheVariants.{Passed}
use Rattle.progress.specs.Progress.{Progress, progress, read_on, reset_on, status_on}
use Rattle.progress.specs.Steps.{erase_on, program_on}
use Rattle.progress.specs.Kept.{Kept}
use Rattle.damage.specs.Replay.{Replayed}

-- the cycles so far lead to the chip that the request has reached
abbrev pub Leads : Setting → Device → Progress → Type 0
Leads s d p = run s d p.cycles ≡ p.line.chip

pub leads_first : (s : Setting) (l : Line) → Leads s l.chip (progress l Passed [] [])
unfolding run
leads_first s l = refl

module _ (s : Setting) (d : Device) where
  sent_leads : (l : Line) (before cs : List Cycle) → run s d before ≡ l.chip → run s d (before ++ sent s l cs) ≡ (send_all s l cs).chip
  sent_leads l before cs e =
      run_append s d before (sent s l cs) ∙ ap (λ (x : Device). run s x (sent s l cs)) e ∙ sym (sent_runs s l cs)

  reset_leads : (p : Progress) → Leads s d p → Leads s d (reset_on s p)
  unfolding reset_on
  reset_leads p e =
      cases (is_passed p.outcome) (λ t. rw t (sent_leads p.line p.cycles reset_cycles e)) (λ t. rw t e)

  read_leads : (row column n : ℕ) (p : Progress) → Leads s d p → Leads s d (read_on s row column n p)
  unfolding read_on
  read_leads row column n p e =
      cases (is_passed p.outcome) (λ t. rw t (sent_leads p.line p.cycles (read_cycles s p.line row column n) e)) (λ t. rw t e)

  erase_leads : (block : ℕ) (p : Progress) → Leads s d p → Leads s d (erase_on s block p)
  unfolding erase_on
  erase_leads block p e =
      cases (is_passed p.outcome) (λ t. rw t (sent_leads p.line p.cycles (erase_cycles s p.line (row_of s.geometry block 0)) e)) (λ t. rw t e)

  program_leads : (block page : ℕ) (bytes : List ℕ) (p : Progress) → Leads s d p → Leads s d (program_on s block page bytes p)
  unfolding program_on
  program_leads block page bytes p e =
      cases (is_passed p.outcome) (λ t. rw t (sent_leads p.line p.cycles (program_cycles s p.line (row_of s.geometry block page) bytes) e)) (λ t. rw t e)

  pub leads_status : (p : Progress) → Leads s d p → Leads s d (status_on s p)
  unfolding status_on
  leads_status p e =
      cases (is_passed p.outcome) (λ t. rw t (sent_leads p.line p.cycles status_cycles e)) (λ t. rw t e)

  pub leads_kept : Kept s (Leads s d)
  leads_kept =
      record { reset = reset_leads; read = read_leads; erase = erase_leads; program = program_leads; resume = λ p f e. e }

  -- all of it, where no cycle was answered illegal
  pub replayed : (p : Progress) → Leads s d p → p.line.chip.interface.illegal ≡ 0 → Replayed s d p.line.chip p.cycles
  replayed p e legal =
      record {
        leads = e;
        each_legal = legal_run s d p.cycles (ap (λ (x : Device). x.interface.illegal) e ∙ legal);
        same_lengths = subst (SameLengths d) e (run_lengths s d p.cycles);
      }

-- sizes that go together still do
pub lengths_sized : (s : Setting) {d e : Device} → SameLengths d e → sized_for s e ≡ sized_for s d
lengths_sized s x = λ i. sized s.geometry (x.array i) (x.register i) (x.history i) (length s.mask)
