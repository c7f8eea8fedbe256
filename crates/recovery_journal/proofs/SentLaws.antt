-- Requests on the journal send legal cycles only, and no more than their bounds. Assumes nothing but the laws named.
use Prim.Native.Nat.{ℕ, suc, ◌-◌, ◌/◌, ◌%◌, ◌≤◌}
use mathlib.Core.Bool.{true}
use mathlib.Core.List.{List, [], ◌∷◌}
use mathlib.Core.Logic.{inl, inr}
use mathlib.Core.Path.{◌≡◌, refl, sym, subst, ◌∙◌}
use native.Mathlib.Omega.{arith}
use borrow.Table.Steps.{cases}
use lib.Dec.{eqb}
use Rattle.geometry.specs.declared.Geometry.{Geometry}
use Rattle.cells.specs.Bytes.{Bytes}
use Rattle.chip_array.specs.Device.{Device, Setting}
use Rattle.bus_polling.specs.Outcomes.{is_passed}
use Rattle.bus_polling.specs.declared.Outcome.TheVariants.{Passed}
use Rattle.bus_polling.proofs.OutcomeLaws.{passed_answered}
use Rattle.state.specs.declared.State.{State}
use Rattle.progress.specs.Progress.{Progress, progress, status_on}
use Rattle.progress.proofs.CountLaws.{allowance, allowance_kept}
use Rattle.progress.proofs.StatusLaws.{status_counts, status_leaves, status_started, shown_high}
use Rattle.damage.specs.Run.{Spent}
use Rattle.damage.proofs.ReplayLaws.{Leads, replayed}
use Rattle.request.specs.Call.{result_of, sent_in, call_line}
use Rattle.fill_tables.specs.Tables.{after_status}
use Rattle.write_changes.proofs.KeepLaws.{change_keeps}
use Rattle.write_laws.specs.Changing.{InRange, change_most}
use Rattle.write_laws.proofs.ChangingLaws.{whole, change_fits}
use Rattle.write_laws.proofs.MeantLaws as meant
use Rattle.open_journal.specs.Requests.{open_append_request, open_takings_request}
use Rattle.journal.specs.Records.{SaleFits, sale_bytes}
use Rattle.journal.specs.declared.Sale.{Sale}
use Rattle.journal_requests.specs.Requests.{records_in, pass_run, takings_run, takings_request, sale_refusal, sale_update, sale_write, append_run, append_request}
use Rattle.recovery.specs.Calls.{Lent, Store, state_of, setting_of, chip_of, begun}
use Rattle.recovery_proof.specs.Invariant.{Inv}
use Rattle.recovery_proof.specs.Sent.{Sends}
use Rattle.recovery_proof.proofs.StartLaws.{start_inv}
use Rattle.recovery_proof.proofs.OpenLaws.{base_mounted}
use Rattle.recovery_proof.proofs.ToldLaws.{sent_bytes, event_bytes, begun_bytes, ranged}
use Rattle.recovery_journal.specs.Journal.{JournalEvent, other, to_append, to_takings, PossibleJournal, AllPossibleJournal, append_run_of, append_on, append_step, takings_run_of, takings_on, takings_step, happens_journal, after_journal, AlwaysJournal}
use Rattle.recovery_journal.specs.Cycles.{TakingsSend, AppendsSend, append_most, AppendsBounded}
use Rattle.recovery_journal.proofs.PassLaws.{Went}
use Rattle.recovery_journal.proofs.JournalSteps as steps
use Rattle.recovery_journal.proofs.JournalLaws.{by_inv, happens_inv, after_inv}
use Rattle.recovery_journal.proofs.CycleLaws.{pass_spends}

-- a run whose cycles lead on from the chip that it began on, none of them illegal
run_sends : (s : Setting) (d : Device) (n : ℕ) (p : Progress) → Leads s (call_line d n).chip p → p.line.chip.interface.illegal ≡ 0 → allowance p ≡ n → Sends s d n p.cycles p.line.chip (n - p.line.left)
run_sends s d n p leads legal counted =
    record { leads = inr (replayed s (call_line d n).chip p leads legal); counted = omega (arith, counted) }

module _ (g : Geometry) (y : Store) (i : Inv g y) (a : Lent) where
  abbrev s : Setting
  s = setting_of g a

  abbrev d : Device
  d = chip_of a y.chip

  abbrev n : ℕ
  n = a.allowed

  abbrev st : State
  st = y.state

  reads_send : (p : Progress) → Went s d n p → Sends s d n p.cycles p.line.chip (n - p.line.left)
  reads_send p w = run_sends s d n p w.leads w.unchanged.sound.legal w.counted

  pub takings_sends : Sends s d n (sent_in (takings_run_of g a y)) (takings_on g a y).returned.chip (takings_on g a y).returned.sent
  unfolding result_of sent_in open_takings_request takings_request
  takings_sends =
      cases (eqb (steps.refused_by g y i a) 0)
      (λ o.
      let fit = (steps.adm g y i a o).sizes_fit in
      let m = (steps.adm g y i a o).is_mounted in
      rw (o, steps.unrefused g y i a fit m) (reads_send (takings_run s d n st) (steps.takings_went g y i a fit m)))
      (λ o. rw o (record { leads = inl (refl, refl); counted = refl }))

  takings_same : (takings_on g a y).returned.chip.array ≡ y.chip.array
  unfolding result_of open_takings_request takings_request
  takings_same =
      cases (eqb (steps.refused_by g y i a) 0)
      (λ o.
      let fit = (steps.adm g y i a o).sizes_fit in
      let m = (steps.adm g y i a o).is_mounted in
      rw (o, steps.unrefused g y i a fit m) (steps.takings_went g y i a fit m).unchanged.same_array)
      (λ o. rw o refl)

  module _ (mask_bytes : Bytes a.mask) (sale : Sale) (f : SaleFits sale) where
    module _ (o : eqb (steps.barred_by g y i a) 0 ≡ true) (q : is_passed (pass_run s d n st).outcome ≡ true) (z : eqb (sale_refusal s d st sale) 0 ≡ true) where
      -- where its reads have come to
      abbrev first : Progress
      first = progress (pass_run s d n st).line Passed (pass_run s d n st).cycles []

      write_counts : allowance (sale_write s d n st sale).progress ≡ n
      unfolding after_status
      write_counts =
          let shown : allowance (status_on s first) ≡ n = status_counts s first ∙ (steps.went g y i a o).counted in
          cases (is_passed (status_on s first).outcome)
          (λ t. rw t (change_keeps s _ (allowance_kept s n) st (sale_update g st (records_in s d st) sale) (status_on s first) shown))
          (λ t. rw t shown)

      write_sends : Sends s d n (sale_write s d n st sale).progress.cycles (sale_write s d n st sale).progress.line.chip (n - (sale_write s d n st sale).progress.line.left)
      write_sends =
          run_sends s d n (sale_write s d n st sale).progress (steps.write_leads g y i a o mask_bytes sale f q z) (steps.sale_changes g y i a o mask_bytes sale f q z).legal write_counts

      -- the write spends no more than any other
      module _ (array_bytes : Bytes y.chip.array) where
        first_range : InRange s (status_on s first).line.chip st
        unfolding is_passed
        first_range =
            let r = ranged g y (steps.up g y i a o) array_bytes a mask_bytes in
            let shown = status_leaves s first refl (steps.ready_line g y i a o mask_bytes sale f q z) in
            record {
              array_bytes = subst Bytes (sym (shown.same_array ∙ (steps.went g y i a o).unchanged.same_array)) r.array_bytes;
              mask_bytes = mask_bytes;
              invalid_long = r.invalid_long;
              invalid_bytes = r.invalid_bytes;
              map_long = r.map_long;
            }

        write_spends : Spent (pass_run s d n st) (sale_write s d n st sale).progress (change_most g)
        unfolding after_status is_passed
        write_spends =
            let ready = steps.ready_line g y i a o mask_bytes sale f q z in
            let left = status_leaves s first refl ready in
            let fits = steps.proper g y i a o mask_bytes sale f q z in
            let e = records_in s d st in
            cases (is_passed (status_on s first).outcome)
            (λ t.
            rw t
            (omega (
              arith,
              left.left_is,
              (whole s (status_on s first) st (sale_update g st e sale) first_range t (status_started s first refl ready) (left.next_called (passed_answered (status_on s first).outcome t)) (base_mounted g (state_of y) (steps.allowed_in g y i a o).is_mounted)
                  (meant.write_proper g (steps.valid g y i a o) st (e / g.pages) fits.0 (e % g.pages) (sale_bytes g.main (suc e) sale) fits.2 fits.3) (shown_high s first refl t)).spent,
            )))
            (λ t. rw t (omega (arith, left.left_is)))

    pub append_sends : Sends s d n (sent_in (append_run_of g a sale y)) (append_on g a sale y).returned.chip (append_on g a sale y).returned.sent
    unfolding result_of sent_in open_append_request append_request append_run
    append_sends =
        cases (eqb (steps.barred_by g y i a) 0)
        (λ o.
        let reads = reads_send (pass_run s d n st) (steps.went g y i a o) in
        cases (is_passed (pass_run s d n st).outcome)
        (λ q.
        cases (eqb (sale_refusal s d st sale) 0)
        (λ z. rw (o, steps.unheld g y i a o, q, z) (write_sends o q z))
        (λ z. rw (o, steps.unheld g y i a o, q, z) reads))
        (λ q. rw (o, steps.unheld g y i a o, q) reads))
        (λ o. rw o (record { leads = inl (refl, refl); counted = refl }))

    append_few : Bytes y.chip.array → (append_on g a sale y).returned.sent ≤ append_most
    unfolding result_of open_append_request append_request append_run
    append_few array_bytes =
        cases (eqb (steps.barred_by g y i a) 0)
        (λ o.
        let fit = (steps.allowed_in g y i a o).sizes_fit in
        let m = (steps.allowed_in g y i a o).is_mounted in
        let pass = pass_spends g y i a fit m in
        cases (is_passed (pass_run s d n st).outcome)
        (λ q.
        cases (eqb (sale_refusal s d st sale) 0)
        (λ z. rw (o, steps.unheld g y i a o, q, z) (omega (arith, pass, write_spends o q z array_bytes, change_fits g (steps.valid g y i a o))))
        (λ z. rw (o, steps.unheld g y i a o, q, z) (omega (arith, pass))))
        (λ q. rw (o, steps.unheld g y i a o, q) (omega (arith, pass))))
        (λ o. rw o (omega arith))

-- the array stays bytes
happens_bytes : (g : Geometry) (e : JournalEvent) (y : Store) → PossibleJournal g e y → Inv g y → Bytes y.chip.array → Bytes (happens_journal g e y).chip.array
unfolding append_step takings_step
happens_bytes g (other e) y t i h = event_bytes g e y t i h
happens_bytes g (to_append a sale) y t i h = sent_bytes (setting_of g a) t.0 _ _ _ _ _ (append_sends g y i a t.0 sale t.1) h
happens_bytes g (to_takings a) y t i h = subst Bytes (sym (takings_same g y i a)) h

after_bytes : (g : Geometry) (es : List JournalEvent) (y : Store) → AllPossibleJournal g es y → Inv g y → Bytes y.chip.array → Bytes (after_journal g es y).chip.array
unfolding after_journal AllPossibleJournal
after_bytes g [] y t i h = h
after_bytes g (e ∷ es) y t i h = after_bytes g es (happens_journal g e y) t.1 (happens_inv g e y t.0 i) (happens_bytes g e y t.0 i h)

pub takings-send : AlwaysJournal TakingsSend
takings-send = by_inv TakingsSend (λ g y i a. takings_sends g y i a)

pub appends_send : AlwaysJournal AppendsSend
appends_send = by_inv AppendsSend (λ g y i a sale mask_bytes f. append_sends g y i a mask_bytes sale f)

pub appends_fit : AlwaysJournal AppendsBounded
appends_fit g b d x mask_bytes array_bytes kept z es t a sale m f =
    let start = start_inv g b d x mask_bytes array_bytes kept z in
    let y = after_journal g es (begun g b d x) in
    append_few g y (after_inv g es (begun g b d x) t start) a m sale f (after_bytes g es (begun g b d x) t start (begun_bytes g b d x mask_bytes array_bytes kept z))
