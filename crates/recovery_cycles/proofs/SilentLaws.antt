-- A request on its way is silent exactly where the operation that it started last has a slow fate word, unless it is cut. Assumes nothing.
use Prim.Native.Nat.{ℕ}
use mathlib.Core.Bool.{true, false, cond}
use mathlib.Core.List.{List, [], ◌∷◌, ◌++◌, append-nil}
use mathlib.Core.Logic.{◌⊎◌, inl, inr, ⊎_elim}
use mathlib.Core.Path.{◌≡◌, refl, sym, ap, subst, ◌∙◌}
use native.Mathlib.Omega.{arith}
use borrow.Author.Tests.{eqb-true, eqb-false}
use borrow.Table.Steps.{cases}
use lib.Dec.{eqb}
use lib.ListN.{replicate}
use Rattle.bools.proofs.BoolLaws.{clash}
use Rattle.geometry.specs.declared.Geometry.{Geometry}
use Rattle.geometry.specs.Sizes.{row_of}
use Rattle.chip_array.specs.Device.{Device, Setting}
use Rattle.chip.specs.Chip.{Cycle, is_confirm}
use Rattle.chip.specs.Chip.Cycle.{command, data_out}
use Rattle.bus.specs.Line.{Line, send, send_all, sent, run, goes_on}
use Rattle.bus.proofs.LineLaws.{send_all_append}
use Rattle.bus.proofs.WordLaws.{all_line}
use Rattle.bus_polling.specs.Outcomes.{is_passed, is_failed, is_silent, guarded}
use Rattle.bus_polling.specs.declared.Outcome.{Outcome}
use Rattle.bus_polling.specs.declared.Outcome.TheVariants.{Passed, Failed, Silent, Cut, Illegal, Protected}
use Rattle.bus_polling.specs.Polling.{outcome_of, answer_of, ended_as}
use Rattle.bus_sequences.specs.Cycles.{reset_cycles, status_cycles, confirmed_cycles, read_address, program_data, erase_address, page_line, read_cycles, read_outcome, erase_cycles, program_cycles}
use Rattle.operations.specs.Ends.{status_end}
use Rattle.operations.specs.Trace.{ArrayOperation, started_by, read_starts, erase_starts, program_starts}
use Rattle.progress.specs.Progress.{Progress, progress, line_of, read_on, reset_on, status_on}
use Rattle.progress.specs.Steps.{erase_on, program_on, resumed}
use Rattle.progress.specs.Kept.{Kept}
use Rattle.progress.proofs.WordLaws.{line_kept}
use Rattle.progress.proofs.StatusLaws.{status_keeps, shown_high}
use Rattle.state.specs.declared.State.{State}
use Rattle.request.specs.Call.{call_line, sized_for}
use Rattle.read_page.specs.Fetching.{page_progress}
use Rattle.scan_summary.specs.declared.Depth.{Depth}
use Rattle.mount.specs.Mount.{mount_run}
use Rattle.mount_laws.proofs.MountingLaws.{mount_keeps}
use Rattle.format.specs.Format.{format_run}
use Rattle.format_laws.specs.Formatting.{reads_done}
use Rattle.format_laws.proofs.FormattingLaws.{format_keeps}
use Rattle.format_laws.proofs.ProtectLaws.{format_low}
use Rattle.fill_tables.specs.Tables.{Tabled}
use Rattle.fill_tables.proofs.StatusLaws.{after_passed, after-stopped}
use Rattle.write_changes.specs.Changes.{Update, change_run, change_first, change_call}
use Rattle.fill_cursor.specs.declared.Running.{Running}
use Rattle.fill_driver.specs.Driver.{ran}
use Rattle.fill_laws.proofs.KeepLaws.{ran_keeps}
use Rattle.write_changes.proofs.KeepLaws.{change_keeps}
use Rattle.damage.specs.Touched.{Each}
use Rattle.damage.proofs.EachLaws.{each_left, each_right}
use Rattle.damage.proofs.ReplayLaws.{Leads, leads_first, leads_status, leads_kept}
use Rattle.damage.proofs.TouchLaws.{Reads, read_reads}
use Rattle.recovery_proof.proofs.ReadOnlyLaws.{mount-reads}
use Rattle.recovery_cycles.specs.Starts.{Start, fails_next, starts_in, Traced}
use Rattle.recovery_cycles.specs.Silent.{SlowLast}
use Rattle.recovery_cycles.proofs.AllLaws.{All}
use Rattle.recovery_cycles.proofs.WaitLaws.{Stopped, stopped_unpassed, stopped-unfailed, Heard, unstarted_heard, operation_heard, operation_quiet}
use Rattle.recovery_cycles.proofs.UnfailedLaws.{reads-unfailed}
use Rattle.recovery_cycles.proofs.StartLaws.{Plain, starts_append}
use Rattle.recovery_cycles.proofs.TraceLaws.{reset_adds, status_adds, status_starts, erase_plain, program_plain, read_plain, output_plain}

-- cycles that ask for no status are not silent
ended_heard : (l : Line) → is_silent (ended_as l) ≡ false
unfolding ended_as is_silent
ended_heard l =
    cases (eqb l.cut 0)
    (λ a. cases (eqb l.chip.interface.illegal 0) (λ b. rw (a, b)) (λ b. rw (a, b)))
    (λ a. rw a)

-- after an operation that passed others may follow, which ask for no status
ready_follows : (fates : List ℕ) (ts : List Start) (o : Outcome) (m : Line) → Heard fates ts o → Heard fates ts (cond (is_passed o) (ended_as m) o)
ready_follows fates ts o m h =
    cases (is_passed o)
    (λ t. rw t (record { by = λ e. clash e (ended_heard m); so = λ x. clash t (stopped_unpassed o (h.so x)) }))
    (λ t. rw t h)

-- the last of two lists of confirm cycles
slow_right : (fates : List ℕ) (ts us : List Start) → SlowLast fates us → SlowLast fates (ts ++ us)
unfolding SlowLast
slow_right fates [] us h = h
slow_right fates (t ∷ []) [] h = absurd h
slow_right fates (t ∷ []) (u ∷ us) h = h
slow_right fates (t ∷ v ∷ ts) us h = slow_right fates (v ∷ ts) us h

slow_split : (fates : List ℕ) (ts us : List Start) → SlowLast fates (ts ++ us) → SlowLast fates ts ⊎ SlowLast fates us
unfolding SlowLast
slow_split fates [] us h = inr h
slow_split fates (t ∷ []) [] h = inl h
slow_split fates (t ∷ []) (u ∷ us) h = inr h
slow_split fates (t ∷ v ∷ ts) us h = slow_split fates (v ∷ ts) us h

-- where the first passed the second decides
heard_append : (fates : List ℕ) (ts us : List Start) (o q : Outcome) → is_passed o ≡ true → Heard fates ts o → Heard fates us q → Heard fates (ts ++ us) q
heard_append fates ts us o q t a b =
    record {
      by = λ e. slow_right fates ts us (b.by e);
      so = λ h. ⊎_elim (λ x. clash t (stopped_unpassed o (a.so x))) b.so (slow_split fates ts us h);
    }

traced_none : (g : Geometry) (ts : List Start) → Traced g ts [] → ts ≡ []
unfolding Traced
traced_none g [] h = refl
traced_none g (t ∷ ts) h = absurd h

-- the cycles of each step from a line on: no E1h before their first confirm cycle, and how they end
abbrev Ends : Setting → Line → List Cycle → Outcome → Type 0
Ends s l cs o =
    (fails_next s l.chip (sent s l cs) ≡ false) × Heard s.fates (starts_in s l.chip (sent s l cs)) o

-- bit 7 of the status read last leaves whether it is silent or cut
guarded_silent : (o : Outcome) → is_silent (guarded o) ≡ is_silent o
unfolding is_silent guarded
guarded_silent Passed = refl
guarded_silent Failed = refl
guarded_silent Silent = refl
guarded_silent Cut = refl
guarded_silent Illegal = refl
guarded_silent Protected = refl

guarded-stopped : (o : Outcome) → Stopped o → Stopped (guarded o)
unfolding guarded
guarded-stopped o h = ⊎_elim (λ e. inl (ap guarded e)) (λ e. inr (ap guarded e)) h

answer_heard : (fates : List ℕ) (ts : List Start) (m : Line) → Heard fates ts (outcome_of m) → Heard fates ts (answer_of m)
answer_heard fates ts m h =
    cases (eqb m.chip.interface.protected 0)
    (λ t. rw t h)
    (λ t. rw t (record { by = λ e. h.by (sym (guarded_silent (outcome_of m)) ∙ e); so = λ x. guarded-stopped (outcome_of m) (h.so x) }))

-- a status read is not silent
status_heard : (l : Line) → is_silent (status_end l) ≡ false
unfolding status_end is_silent
status_heard l =
    cases (is_passed (ended_as l))
    (λ t. cases (eqb l.chip.interface.protected 0) (λ y. rw (t, y)) (λ y. rw (t, y)))
    (λ t. rw t (ended_heard l))

module _ (s : Setting) (l : Line) where
  reset_ends : Ends s l reset_cycles (ended_as (send_all s l reset_cycles))
  reset_ends =
      let a = reset_adds s l in
      let o = ended_as (send_all s l reset_cycles) in
      (a.0, subst (λ (ts : List Start). Heard s.fates ts o) (sym (traced_none s.geometry _ a.1)) (unstarted_heard s.fates o (ended_heard (send_all s l reset_cycles))))

  status_ends : l.chip.interface.failed ≡ 0 → Ends s l status_cycles (status_end (send_all s l status_cycles))
  status_ends z =
      let o = status_end (send_all s l status_cycles) in
      ((status_adds s l z).0, subst (λ (ts : List Start). Heard s.fates ts o) (sym (status_starts s l l.chip)) (unstarted_heard s.fates o (status_heard (send_all s l status_cycles))))

  read_ends : (row column n : ℕ) → Ends s l (read_cycles s l row column n) (read_outcome s l row column n)
  unfolding is_confirm read_cycles read_outcome
  read_ends row column n =
      let first = read_address row column in
      let out = cond (is_passed (outcome_of (page_line s l row column))) (command 0 ∷ replicate n data_out) [] in
      let plain_end = output_plain (is_passed (outcome_of (page_line s l row column))) n in (
        operation_quiet s l first out 48 refl (read_plain row column) plain_end (λ e. inl refl),
        ready_follows s.fates _ _ _ (operation_heard s l first out 48 refl (read_plain row column) plain_end (λ e. inl refl)),
      )

  -- one that ends with its status reads: its confirm cycle is not taken, or the line is high
  confirmed_ends : (before : List Cycle) (code : ℕ) → is_confirm code ≡ true → All Plain before → (goes_on (send_all s l (before ++ (command code ∷ []))) ≡ true → l.chip.interface.protected ≡ 0)
      → Ends s l (confirmed_cycles s l before code) (answer_of (send_all s l (confirmed_cycles s l before code)))
  unfolding send_all
  confirmed_ends before code c plain high =
      let cycles = confirmed_cycles s l before code in
      let how : goes_on (send s (send_all s l before) (command code)) ≡ true → (code ≡ 48) ⊎ (l.chip.interface.protected ≡ 0) = λ e. inr (high (ap goes_on (send_all_append s l before (command code ∷ [])) ∙ e)) in
      let both = subst (λ (cs : List Cycle). Ends s l cs (outcome_of (send_all s l cycles))) (append-nil cycles)
      (operation_quiet s l before [] code c plain tt how, operation_heard s l before [] code c plain tt how) in
      (both.0, answer_heard s.fates _ (send_all s l cycles) both.1)

-- a request that has come from chip d so far
abbrev pub HeardFrom : Setting → Device → Progress → Type 0
HeardFrom s d p = Heard s.fates (starts_in s d p.cycles) p.outcome

-- its line is high, or it has started nothing but reads
abbrev OnlyRead : List ArrayOperation → Type 0
OnlyRead os = Each (λ o. o.kind ≡ 1) os

abbrev Fitting : Progress → Type 0
Fitting p = (line_of p ≡ 0) ⊎ Reads p

-- an operation that is no read is among those started where its confirm cycle is taken
started_none : (s : Setting) (l : Line) (first : List Cycle) (code kind row : ℕ) (bytes : List ℕ) → (kind ≡ 1 → ⊥) → OnlyRead (started_by s l first code kind row bytes) → goes_on (send_all s l (first ++ (command code ∷ []))) ≡ true → ⊥
unfolding started_by Each
started_none s l first code kind row bytes other h t = other (rw t at h).0

module _ (s : Setting) (d : Device) where
  abbrev Both : Progress → Type 0
  Both p = Leads s d p × (Fitting p → HeardFrom s d p)

  sent_heard : (p : Progress) → Leads s d p → HeardFrom s d p → is_passed p.outcome ≡ true → (cs : List Cycle) (o : Outcome) → Ends s p.line cs o → Heard s.fates (starts_in s d (p.cycles ++ sent s p.line cs)) o
  sent_heard p leads heard t cs o k =
      let passes : fails_next s (run s d p.cycles) (sent s p.line cs) ≡ false = ap (λ (x : Device). fails_next s x (sent s p.line cs)) leads ∙ k.0 in
      rw (starts_append s d p.cycles (sent s p.line cs) passes, leads)
      (heard_append s.fates (starts_in s d p.cycles) (starts_in s p.line.chip (sent s p.line cs)) p.outcome o t heard k.1)

  -- what fits after a step that adds these operations fitted before it
  fitted : (p : Progress) (word : ℕ) (os : List ArrayOperation) → word ≡ line_of p → (word ≡ 0) ⊎ OnlyRead (p.started ++ os) → Fitting p
  fitted p word os e h = ⊎_elim (λ z. inl (sym e ∙ z)) (λ r. inr (each_left (λ o. o.kind ≡ 1) p.started os r)) h

  reset_heard : (p : Progress) → Both p → Fitting (reset_on s p) → HeardFrom s d (reset_on s p)
  unfolding reset_on
  reset_heard p b =
      cases (is_passed p.outcome)
      (λ t. rw t (λ f. sent_heard p b.0 (b.1 (⊎_elim (λ z. inl (sym (all_line s p.line reset_cycles) ∙ z)) inr f)) t reset_cycles _ (reset_ends s p.line)))
      (λ t. rw t b.1)

  -- a status read after an operation that left no failure
  pub status_both : (p : Progress) → (is_passed p.outcome ≡ true → p.line.chip.interface.failed ≡ 0) → Both p → Both (status_on s p)
  unfolding status_on
  status_both p unfailed b = (
    leads_status s d p b.0,
    cases (is_passed p.outcome)
        (λ t. rw t (λ f. sent_heard p b.0 (b.1 (⊎_elim (λ z. inl (sym (all_line s p.line status_cycles) ∙ z)) inr f)) t status_cycles _ (status_ends s p.line (unfailed t))))
        (λ t. rw t b.1),
  )

  read_heard : (row column n : ℕ) (p : Progress) → Both p → Fitting (read_on s row column n p) → HeardFrom s d (read_on s row column n p)
  unfolding read_on
  read_heard row column n p b =
      cases (is_passed p.outcome)
      (λ t. rw t (λ f. sent_heard p b.0 (b.1 (fitted p _ (read_starts s p.line row column) (all_line s p.line (read_cycles s p.line row column n)) f)) t _ _ (read_ends s p.line row column n)))
      (λ t. rw t b.1)

  erase_heard : (block : ℕ) (p : Progress) → Both p → Fitting (erase_on s block p) → HeardFrom s d (erase_on s block p)
  unfolding erase_on is_confirm
  erase_heard block p b =
      let row = row_of s.geometry block 0 in
      let l = p.line in
      let same = all_line s l (erase_cycles s l row) in
      cases (is_passed p.outcome)
      (λ t.
      rw t
      (λ f.
      sent_heard p b.0 (b.1 (fitted p _ (erase_starts s l row) same f)) t _ _
      (confirmed_ends s l (erase_address row) 208 refl (erase_plain row)
      (λ g. ⊎_elim (λ z. sym same ∙ z) (λ r. absurd (started_none s l (erase_address row) 208 3 row [] (λ e. omega (arith, e)) (each_right (λ o. o.kind ≡ 1) p.started (erase_starts s l row) r) g)) f))))
      (λ t. rw t b.1)

  program_heard : (block page : ℕ) (bytes : List ℕ) (p : Progress) → Both p → Fitting (program_on s block page bytes p) → HeardFrom s d (program_on s block page bytes p)
  unfolding program_on is_confirm
  program_heard block page bytes p b =
      let row = row_of s.geometry block page in
      let l = p.line in
      let same = all_line s l (program_cycles s l row bytes) in
      cases (is_passed p.outcome)
      (λ t.
      rw t
      (λ f.
      sent_heard p b.0 (b.1 (fitted p _ (program_starts s l row bytes) same f)) t _ _
      (confirmed_ends s l (program_data row bytes) 16 refl (program_plain row bytes)
      (λ g. ⊎_elim (λ z. sym same ∙ z) (λ r. absurd (started_none s l (program_data row bytes) 16 2 row bytes (λ e. omega (arith, e)) (each_right (λ o. o.kind ≡ 1) p.started (program_starts s l row bytes) r) g)) f))))
      (λ t. rw t b.1)

  -- one that failed was not silent, so the request may go on
  resume_heard : (p : Progress) → is_failed p.outcome ≡ true → HeardFrom s d p → HeardFrom s d (resumed p)
  unfolding is_silent
  resume_heard p f h =
      record { by = λ e. clash e refl; so = λ x. clash f (stopped-unfailed p.outcome (h.so x)) }

  -- every operation keeps it
  pub heard_kept : Kept s Both
  heard_kept =
      let k = leads_kept s d in
      record {
        reset = λ p b. (k.reset p b.0, reset_heard p b);
        read = λ row column n p b. (k.read row column n p b.0, read_heard row column n p b);
        erase = λ block p b. (k.erase block p b.0, erase_heard block p b);
        program = λ block page bytes p b. (k.program block page bytes p b.0, program_heard block page bytes p b);
        resume = λ p f b. (b.0, λ h. resume_heard p f (b.1 h));
      }

-- so every request has it, on any chip, with either line, however it ends
module _ (s : Setting) (d : Device) (n : ℕ) where
  abbrev from : Device
  from = (call_line d n).chip

  abbrev first : Progress
  first = progress (call_line d n) Passed [] []

  passes_first : is_passed first.outcome ≡ true
  unfolding is_passed
  passes_first = refl

  first_both : Both s from first
  unfolding starts_in is_silent
  first_both = (leads_first s (call_line d n), λ h. unstarted_heard s.fates Passed refl)

  -- the status read that a write or an erase begins with
  pub shown_heard : HeardFrom s from (change_first s d n)
  unfolding status_on is_passed
  shown_heard =
      subst (λ (ts : List Start). Heard s.fates ts (status_end (send_all s (call_line d n) status_cycles))) (sym (status_starts s (call_line d n) from))
      (unstarted_heard s.fates _ (status_heard (send_all s (call_line d n) status_cycles)))

  pub change_heard : (st : State) (u : Update) → HeardFrom s from (change_call s d n st u).progress
  change_heard st u =
      let p = change_first s d n in
      cases (is_passed p.outcome)
      (λ t.
      let run = change_run s st u p in
      let high : line_of run.progress ≡ 0 = change_keeps s _ (line_kept s 0) st u p (shown_high s first passes_first t) in
      let here = (change_keeps s _ (heard_kept s from) st u p (leads_status s from first first_both.0, λ h. shown_heard)).1 (inl high) in
      subst (λ (x : Tabled). HeardFrom s from x.progress) (sym (after_passed st p run t)) here)
      (λ f. subst (λ (x : Tabled). HeardFrom s from x.progress) (sym (after-stopped st p (change_run s st u p) f)) shown_heard)

  -- a run of the open write, with the line high
  pub advance_heard : d.interface.protected ≡ 0 → (bytes : List ℕ) (k left : ℕ) (r : Running) → HeardFrom s from (ran s bytes k left r first).progress
  advance_heard high bytes k left r =
      (ran_keeps s _ (heard_kept s from) bytes k left r first first_both).1 (inl (ran_keeps s _ (line_kept s 0) bytes k left r first high))

  -- a formatting whose sizes go together: with the line low it starts nothing but reads
  pub format_heard : sized_for s d ≡ true → (state : State) → HeardFrom s from (format_run s d n state).progress
  format_heard t state =
      (format_keeps s _ (heard_kept s from) d n state first_both (status_both s from (reads_done s d n) (reads-unfailed s d n))).1
      (cases (eqb d.interface.protected 0)
      (λ z. inl (format_keeps s _ (line_kept s 0) d n state (eqb-true _ _ z) (λ h. status_keeps s (reads_done s d n) ∙ h)))
      (λ z. inr (format_low s d n state t (eqb-false _ _ z)).all_reads))

  pub mount_heard : (depth : Depth) → HeardFrom s from (mount_run depth s (call_line d n))
  mount_heard depth = (mount_keeps depth s _ (heard_kept s from) (call_line d n) first_both).1 (inr (mount-reads depth s (call_line d n)))

  pub page_heard : (block page : ℕ) → HeardFrom s from (page_progress s d n block page)
  unfolding Each
  page_heard block page =
      let row = row_of s.geometry block page in
      ((heard_kept s from).read row 0 s.geometry.main first first_both).1 (inr (read_reads s row 0 s.geometry.main first tt))
