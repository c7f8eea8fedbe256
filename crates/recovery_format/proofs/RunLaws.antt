-- A formatting by its steps: reads change nothing, and what holds of each way in which it can end holds of it. Assumes nothing.
use Prim.Native.Nat.{ℕ, ◌≤◌, ◌<◌, max}
use mathlib.Core.Bool.{true, false, false≢true}
use mathlib.Core.List.{List, []}
use mathlib.Core.Path.{◌≡◌, sym, ap, subst, ◌∙◌}
use native.Mathlib.Omega.{arith}
use borrow.Table.Steps.{cases}
use borrow.Author.Tests.{eqb-true, eqb-false, ltb-true, ltb-false}
use lib.Dec.{eqb, ltb}
use lib.ListN.{length}
use Rattle.geometry.specs.Limits.{Valid}
use Rattle.chip_array.specs.Device.{Device, Setting}
use Rattle.bus_polling.specs.Outcomes.{is_passed, is_failed, is_silent, is_cut_off, is_illegal, is_protected}
use Rattle.bus_polling.specs.declared.Outcome.TheVariants.{Passed}
use Rattle.bus_polling.proofs.OutcomeLaws.{is_passed_lem, passed_answered}
use Rattle.operations.specs.Ends.{Called}
use Rattle.state.specs.State.{blank, with_invalid}
use Rattle.state.specs.declared.State.{State}
use Rattle.request.specs.Call.{sized_for, call_line}
use Rattle.request.proofs.CallLaws.{sizes}
use Rattle.progress.specs.Progress.{Progress, progress, line_of, reset_on, status_on}
use Rattle.progress.specs.Steps.{erase_on, resumed}
use Rattle.progress.proofs.StatusLaws.{StatusLeft, status_leaves, status_started, shown_high}
use Rattle.scan_summary.specs.declared.Depth.TheVariants.{Full}
use Rattle.scan.specs.Scan.{blocks_read}
use Rattle.scan.proofs.KeepLaws.{blocks_keep, blocks_reads}
use Rattle.fill_tables.specs.Tables.{Tabled, tabled, after_status}
use Rattle.format_erase.specs.Round.{Round, erased_to}
use Rattle.format_scan.specs.Survey.{surveyed, union_to, passed_over}
use Rattle.format_scan.specs.declared.Survey.{Survey}
use Rattle.damage.specs.Run.{failed_in, Sound, Unchanged}
use Rattle.damage.specs.Touched.{Each}
use Rattle.damage.proofs.ReadLaws.{blocks_unchanged, reset_unchanged}
use Rattle.damage.proofs.ReplayLaws.{Leads, leads_first, leads_status, leads_kept}
use Rattle.damage.proofs.TouchLaws.{Reads, read_reads}
use Rattle.format_laws.proofs.FormatLaws.{blocks_calm}
use Rattle.format.specs.Format.{first_state, too_few, stopped, tables_from, after_late, late_run, tables_run, round_run, status_run, reads_run, format_run}

-- a formatting of chip d on its way that has done nothing but read
pub record Idle (s : Setting) (d : Device) (n : ℕ) (p : Progress) : Type 0 where
  pub same_array : p.line.chip.array ≡ d.array
  pub reads : Reads p
  pub leads : Leads s (call_line d n).chip p

-- its status read has passed
pub record Begun (s : Setting) (d : Device) (n : ℕ) (p : Progress) : Type 0 where
  pub idle : Idle s d n p
  pub passed : is_passed p.outcome ≡ true
  pub sound : Sound s p
  pub high : line_of p ≡ 0
  pub none_failed : (b : ℕ) → failed_in b p.started ≡ false

module _ (s : Setting) (d : Device) (n : ℕ) (fits : sized_for s d ≡ true) where
  abbrev start : Progress
  start = progress (call_line d n) Passed [] []

  abbrev begun : Progress
  begun = reset_on s start

  abbrev q : Progress
  q = blocks_read Full s s.geometry.blocks begun

  pub sized-valid : Valid s.geometry
  sized-valid = (sizes s.geometry (length d.array) (length d.register) (length d.history) (length s.mask) fits).chip_fits.is_valid

  reads-left : Unchanged s d.array d.history q
  reads-left = blocks_unchanged s d.array d.history sized-valid Full s.geometry.blocks (omega arith) begun (reset_unchanged s d n fits)

  reads_only : Reads q
  unfolding reset_on is_passed Each
  reads_only = blocks_reads Full s Reads (read_reads s) s.geometry.blocks begun tt

  reads_lead : Leads s (call_line d n).chip q
  reads_lead =
      blocks_keep Full s (Leads s (call_line d n).chip) (leads_kept s (call_line d n).chip) s.geometry.blocks begun
      ((leads_kept s (call_line d n).chip).reset start (leads_first s (call_line d n)))

  reads_none : (b : ℕ) → failed_in b q.started ≡ false
  unfolding reset_on is_passed failed_in
  reads_none b = blocks_calm s d.array d.history sized-valid s.geometry.blocks (omega arith) begun (reset_unchanged s d n fits) b

  idle_reads : Idle s d n q
  idle_reads = record { same_array = reads-left.same_array; reads = reads_only; leads = reads_lead }

  module _ (y : is_passed q.outcome ≡ true) where
    called : Called s q.line
    called = reads-left.sound.called (passed_answered q.outcome y)

    left : StatusLeft s q (status_on s q)
    left = status_leaves s q y called

    started_same : (status_on s q).started ≡ q.started
    started_same = status_started s q y called

    idle_status : Idle s d n (status_on s q)
    idle_status =
        record {
          same_array = left.same_array ∙ reads-left.same_array;
          reads = subst (Each (λ o. o.kind ≡ 1)) (sym started_same) reads_only;
          leads = leads_status s (call_line d n).chip q reads_lead;
        }

    begins : is_passed (status_on s q).outcome ≡ true → Begun s d n (status_on s q)
    unfolding is_illegal is_protected is_cut_off is_silent is_failed
    begins z =
        let e = is_passed_lem (status_on s q).outcome z in
        record {
          idle = idle_status;
          passed = z;
          sound = record {
            legal = left.legal;
            known = ap is_illegal e;
            unprotected = ap is_protected e;
            used_up = λ x. absurd (false≢true (sym (ap is_cut_off e) ∙ x));
            silent_by = λ x. absurd (false≢true (sym (ap is_silent e) ∙ x));
            failed_by_fact = λ x. absurd (false≢true (sym (ap is_failed e) ∙ x));
            called = left.next_called;
          };
          high = shown_high s q y z;
          none_failed = λ b. ap (failed_in b) started_same ∙ reads_none b;
        }

  -- it ends before the first erase, or goes on from there
  pub format_by : (state : State) (Q : Tabled → Type 0) → ((p : Progress) (a : ℕ) (st : State) → Idle s d n p → Q (tabled p a st))
      → ((p : Progress) → Begun s d n p → Q (round_run s (surveyed s.geometry d.array) p)) → Q (format_run s d n state)
  unfolding reads_run status_run after_status
  format_by state Q ends goes =
      cases (is_passed q.outcome)
      (λ y.
      cases (is_passed (status_on s q).outcome)
      (λ z.
      rw (y, z)
      (subst (λ (a : List ℕ). Q (round_run s (surveyed s.geometry a) (status_on s q))) (sym reads-left.same_array) (goes (status_on s q) (begins y z))))
      (λ z. rw (y, z) (ends _ _ _ (idle_status y))))
      (λ f. rw f (ends _ _ _ idle_reads))

-- the ways in which the first round of erases and what follows it can end
module _ (s : Setting) (v : Survey) (p : Progress) where
  abbrev pub round_of : Round
  round_of = erased_to s (passed_over s.geometry v) s.geometry.blocks p

  -- blocks carried over, and those whose erase failed
  abbrev pub invalid_of : List ℕ
  invalid_of = union_to v.carried round_of.invalid s.geometry.blocks

  abbrev pub first_of : State
  first_of = first_state s.geometry v.marked invalid_of (max v.greatest round_of.numbers.greatest) v.old

  -- the first table fills, and the late erase
  abbrev pub tables_of : Tabled
  tables_of = tables_from s first_of round_of.progress

  abbrev pub late_of : Progress
  late_of = erase_on s v.old tables_of.progress

  -- that erase is due
  pub record Late : Type 0 where
    pub round_passed : is_passed round_of.progress.outcome ≡ true
    pub tables_done : tables_of.answer ≡ 0
    pub old_below : v.old < s.geometry.blocks

  pub record Ways (Q : Tabled → Type 0) : Type 0 where
    pub round-stopped : is_passed round_of.progress.outcome ≡ false → Q (stopped round_of.progress)
    pub few_blocks : is_passed round_of.progress.outcome ≡ true → Q (tabled round_of.progress 8 (blank 2))
    pub tables_stopped : is_passed round_of.progress.outcome ≡ true → (tables_of.answer ≡ 0 → ⊥) → Q tables_of
    pub none_carried : is_passed round_of.progress.outcome ≡ true → tables_of.answer ≡ 0 → s.geometry.blocks ≤ v.old → Q tables_of
    pub late_passed : Late → is_passed late_of.outcome ≡ true → Q (tabled late_of 0 tables_of.state)
    pub late_failed : Late → is_failed late_of.outcome ≡ true → Q (tables_from s (with_invalid v.old tables_of.state) (resumed late_of))
    pub late_stopped : Late → is_passed late_of.outcome ≡ false → is_failed late_of.outcome ≡ false → Q (stopped late_of)

  module _ (Q : Tabled → Type 0) (w : Ways Q) where
    late_by : Late → Q (after_late s v.old tables_of.state late_of)
    unfolding after_late
    late_by l =
        cases (is_passed late_of.outcome)
        (λ y. rw y (w.late_passed l y))
        (λ f. cases (is_failed late_of.outcome) (λ z. rw (f, z) (w.late_failed l z)) (λ z. rw (f, z) (w.late_stopped l f z)))

    tables_by : is_passed round_of.progress.outcome ≡ true → Q (late_run s v.old tables_of)
    unfolding late_run
    tables_by y =
        cases (eqb tables_of.answer 0)
        (λ z.
        let done = eqb-true tables_of.answer 0 z in
        cases (ltb v.old s.geometry.blocks)
        (λ l. rw (z, l) (late_by (record { round_passed = y; tables_done = done; old_below = ltb-true v.old s.geometry.blocks l })))
        (λ l. rw (z, l) (w.none_carried y done (ltb-false v.old s.geometry.blocks l))))
        (λ z. rw z (w.tables_stopped y (eqb-false tables_of.answer 0 z)))

    pub round_by : Q (round_run s v p)
    unfolding round_run tables_run
    round_by =
        cases (is_passed round_of.progress.outcome)
        (λ y.
        rw y
        (cases (too_few s.geometry v.marked invalid_of)
        (λ f. rw f (w.few_blocks y))
        (λ f. rw f (tables_by y))))
        (λ f. rw f (w.round-stopped f))
