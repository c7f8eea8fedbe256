-- The open write advanced after a list: it stands open again with the operations of all its calls noted, or it is finished and entered, or it has
-- stopped. Assumes nothing but the laws named.
use Prim.Native.Nat.{ℕ, ◌-◌, ◌≤◌, ◌<◌}
use mathlib.Core.Bool.{Bool, true, false, cond}
use mathlib.Core.List.{List, [], ◌++◌}
use mathlib.Core.Logic.{◌⊎◌, inl, inr, ⊎_elim}
use mathlib.Core.Option.{Option, none, some}
use mathlib.Core.Path.{◌≡◌, refl, sym, ap, subst, fun_ext, ◌∙◌}
use native.Mathlib.Omega.{arith}
use borrow.Table.Steps.{cases}
use borrow.Author.Tests.{ne_eqb, eqb-true, eqb-false, lt-ltb, le-ltb, ltb-true, ltb-false}
use lib.Dec.{eqb, ltb}
use lib.ListN.{length, take, length-replicate}
use Rattle.geometry.specs.declared.Geometry.{Geometry}
use Rattle.cells.specs.Bytes.{Bytes}
use Rattle.chip_array.specs.Device.{Device, Setting, lengths_fit}
use Rattle.chip_laws.specs.Lengths.{SameLengths}
use Rattle.chip_laws.proofs.LengthLaws.{run_lengths, lengths_fit_lem}
use Rattle.bus_polling.specs.declared.Outcome.TheVariants.{Passed}
use Rattle.operations.specs.Ends.{Called}
use Rattle.operations.specs.Trace.{ArrayOperation}
use Rattle.progress.specs.Progress.{progress}
use Rattle.progress.proofs.CountLaws.{allowance_kept}
use Rattle.request.specs.Call.{Performed, unsent, performed, sized_for, call_line, result_of, sent_in, started_in}
use Rattle.request.proofs.CallLaws.{sizes}
use Rattle.fill_cursor.specs.Cursor.{running, actions_most}
use Rattle.fill_cursor.specs.declared.Cursor.{Cursor}
use Rattle.fill_cursor.specs.declared.Running.{Running}
use Rattle.fill_driver.specs.Driver.{Ran, ran}
use Rattle.fill_laws.proofs.KeepLaws.{ran_keeps}
use Rattle.fill_tables.specs.Tables.{Tabled, tabled}
use Rattle.damage.specs.Run.{Slow}
use Rattle.damage.specs.Replay.{Replayed}
use Rattle.damage.proofs.ReplayLaws.{Leads, leads_first, leads_kept, replayed}
use Rattle.open_write.specs.Open.{open_state, kept_bytes, cursor_of, words_of, closed, mounted_open}
use Rattle.open_write.specs.Requests.{open_result, open_at, Advanced, advanced, open_refusal, advance_run, advance_end, advance_request}
use Rattle.open_write.proofs.WordLaws.{words_tell}
use Rattle.recovery_write.specs.Changed.{Agrees, Changed, update_of}
use Rattle.recovery_write.proofs.ShownLaws.{Shown}
use Rattle.recovery_write.proofs.SplitLaws.{spared_split}
use Rattle.recovery_write.proofs.TraceLaws.{after}
use Rattle.recovery_write.proofs.StandsLaws as standing
use Rattle.recovery_write.proofs.StandsLaws.{Stands}
use Rattle.recovery.specs.Book as book
use Rattle.recovery.specs.Book.{Book, Change, write, entered, Note, note, Account, account, is_under_way, is_begun, settled, gone_on, fed}
use Rattle.recovery.specs.Copy.{has_copy}
use Rattle.recovery.specs.Recovery.{Spared}
use Rattle.recovery.proofs.SparedLaws.{failed_after-append}
use Rattle.recovery.specs.Calls.{Lent, to_advance, LineKept, Store, store, state_of, setting_of, run_of, answer_of, trace_of, copy_of_note, failed_after, failed_next, step, chip_of}
use Rattle.recovery_proof.specs.Answers as answers
use Rattle.recovery_proof.specs.Answers.{ChangeAnswered}
use Rattle.recovery_proof.specs.Sent.{Sends, CallSends}
use Rattle.recovery_proof.specs.Invariant.{due_of, Up, Open, Inv}
use Rattle.recovery_proof.proofs.InvariantLaws.{up_inv, up_mounted, found_by, found_inv, stopped_unmounted, is_mounted, failed_none}
use Rattle.recovery_proof.proofs.OpenLaws.{Admitted, admits}
use Rattle.recovery_proof.proofs.ChangeSteps.{Turned, turned_so, any_answer, not_done}
use Rattle.recovery_proof.proofs.OpenSteps.{open_mounted}

-- the book after an advance, where this is noted
module _ (g : Geometry) (c : Change) (os : List ArrayOperation) (b : Book) (more : List ArrayOperation) where
  abbrev before : Account
  before = account b (some (note c os))

  fed_goes : (answer : ℕ) → is_begun answer ≡ true → fed g (book.advanced answer 0 more) before ≡ account b (some (note c (os ++ more)))
  unfolding fed gone_on
  fed_goes answer t = rw t

  fed_finished : fed g (book.advanced 0 1 more) before ≡ account (entered g c b) none
  unfolding fed gone_on
  fed_finished = refl

gone_turned : (g : Geometry) (answer : ℕ) (o : Option Note) (y : Account) → is_begun answer ≡ false → gone_on g answer 0 [] o y ≡ y
unfolding gone_on
gone_turned g answer none y f = refl
gone_turned g answer (some t) y f = rw f

fed_turned : (g : Geometry) (answer : ℕ) (y : Account) → (answer ≡ 0 → ⊥) → is_under_way answer ≡ false → fed g (book.advanced answer 0 []) y ≡ y
unfolding fed
fed_turned g answer y x f = gone_turned g answer y.noted y (rw (ne_eqb answer 0 x, f))

due_noted : (g : Geometry) (array : List ℕ) (c : Change) (os : List ArrayOperation) (b : Book) → due_of g array (account b (some (note c os))) ≡ cond (has_copy g array os) (entered g c b) b
unfolding settled copy_of_note
due_noted g array c os b = refl

module _ (g : Geometry) (y : Store) (i : Inv g y) (a : Lent) (mask_bytes : Bytes a.mask) (most : ℕ) (Line-kept : LineKept (to_advance a most) y) where
  abbrev s : Setting
  s = setting_of g a

  abbrev d : Device
  d = chip_of a y.chip

  abbrev refused_by : ℕ
  refused_by = open_refusal g (sized_for s d) (state_of y) (eqb y.write.opened 0)

  abbrev t : Ran
  t = advance_run s d a.allowed (state_of y) most

  abbrev ended : Advanced
  ended = advance_end a.allowed (state_of y) t

  abbrev request : Performed Advanced
  request = cond (eqb refused_by 0) (performed ended t.progress) (unsent (advanced (open_result refused_by (state_of y) d 0) 0))

  abbrev given : Advanced
  given = result_of request

  abbrev trace : List ArrayOperation
  trace = started_in request

  -- the store that a result leaves
  abbrev left_by_here : Advanced → List ArrayOperation → Store
  left_by_here r os =
      store r.returned.state r.returned.chip (fed g (book.advanced r.returned.answer r.finished os) y.account) y.marked (failed_after y.failed os)

  abbrev after_call : Store
  after_call = left_by_here given trace

  module _ (f : eqb refused_by 0 ≡ false) where
    turned : Turned refused_by
    turned = turned_so g y (sized_for s d) (eqb y.write.opened 0) (eqb-false refused_by 0 f)

    barred : after_call ≡ found_by a y
    unfolding result_of started_in
    barred =
        rw f (λ j. store (state_of y) d (fed_turned g refused_by y.account turned.some turned.idle j) y.marked (failed_none y.failed j))

  module _ (o : eqb refused_by 0 ≡ true) where
    adm : Admitted g (sized_for s d) (state_of y) (eqb y.write.opened 0)
    adm = admits g (sized_for s d) (state_of y) (eqb y.write.opened 0) (eqb-true refused_by 0 o)

    goes : after_call ≡ left_by_here ended t.progress.started
    unfolding result_of started_in
    goes = rw o refl

    is_open : Open g y
    is_open = ⊎_elim (λ u. absurd (eqb-false y.write.opened 0 adm.unbarred u.shut)) (λ w. w) (is_mounted g y i adm.is_mounted)

    abbrev c : Change
    c = write is_open.logical is_open.first is_open.bytes

    abbrev os : List ArrayOperation
    os = is_open.started

    abbrev more : List ArrayOperation
    more = t.progress.started

    high : d.interface.protected ≡ 0
    high = Line-kept (let e = is_open.opened_is in rw (ne_eqb y.write.opened 0 (λ z. omega (arith, z, e))))

    called : Called s (call_line d a.allowed)
    called =
        let z = sizes g (length d.array) (length d.register) (length d.history) (length a.mask) adm.sizes_fit in
        record {
          is_valid = z.chip_fits.is_valid;
          array_long = z.chip_fits.array_long;
          register_long = z.chip_fits.register_long;
          history_long = z.chip_fits.history_long;
          mask_long = z.mask_long;
          ready = is_open.ready;
          legal = refl;
          uncut = refl;
        }

    abbrev from : Running
    from = running (cursor_of y.write) y.state

    -- the run with the bytes kept is that of the request noted
    taken_up : Stands g is_open.array₀ is_open.long₀ is_open.st₀ c y.account.book y.marked is_open.failed₀ is_open.marks₀ is_open.agrees is_open.proper from (call_line d a.allowed).chip os
    taken_up =
        standing.stands_still g is_open.array₀ is_open.long₀ is_open.st₀ c y.account.book y.marked is_open.failed₀ is_open.marks₀ is_open.agrees is_open.proper (call_line d a.allowed).chip refl refl is_open.stands

    abbrev own : Ran
    own = ran s is_open.bytes (actions_most most from) most from (progress (call_line d a.allowed) Passed [] [])

    run_is : t ≡ own
    run_is = ap (λ (x : List ℕ). ran s x (actions_most most from) most from (progress (call_line d a.allowed) Passed [] [])) is_open.page_is

    -- lengths, cycles and counts, however it ends
    leads : Leads s (call_line d a.allowed).chip t.progress
    leads = ran_keeps s (Leads s (call_line d a.allowed).chip) (leads_kept s (call_line d a.allowed).chip) (take g.main y.page) (actions_most most from) most from (progress (call_line d a.allowed) Passed [] []) (leads_first s (call_line d a.allowed))

    counts : a.allowed - t.progress.line.left ≡ length t.progress.cycles
    counts = omega (arith, ran_keeps s _ (allowance_kept s _) (take g.main y.page) (actions_most most from) most from (progress (call_line d a.allowed) Passed [] []) refl)

    still_fits : lengths_fit g t.progress.line.chip ≡ true
    still_fits =
        lengths_fit_lem g (subst (SameLengths (call_line d a.allowed).chip) leads (run_lengths s (call_line d a.allowed).chip t.progress.cycles)) ∙ i.fits

    -- the blocks that have failed
    failed_is : failed_after y.failed more ≡ failed_after is_open.failed₀ (os ++ more)
    failed_is = ap (λ (f : ℕ → Bool). failed_after f more) is_open.failed_is ∙ sym (fun_ext (failed_after-append is_open.failed₀ os more))

    account_is : y.account ≡ account y.account.book (some (note c os))
    account_is = ap (account y.account.book) is_open.noted_is

    spared_so : Spared g y.marked is_open.failed₀ (os ++ more) → Spared g y.marked y.failed more
    spared_so x = subst (λ (f : ℕ → Bool). Spared g y.marked f more) (sym is_open.failed_is) (spared_split g y.marked is_open.failed₀ os more x)

    -- it is open still
    module _ (h : t.running.cursor.phase < 2) where
      abbrev next : Account
      next = account y.account.book (some (note c (os ++ more)))

      abbrev standing_on : Store
      standing_on = store (open_state t.running.state (words_of t.running.cursor) y.page) t.progress.line.chip next y.marked (failed_after y.failed more)

      open_left : left_by_here ended more ≡ standing_on
      unfolding advance_end
      open_left =
          rw (lt-ltb t.running.cursor.phase 2 h)
          (λ j. store (open_state t.running.state (words_of t.running.cursor) y.page) t.progress.line.chip ((ap (fed g (book.advanced 0 0 more)) account_is ∙ fed_goes g c os y.account.book more 0 refl) j) y.marked (failed_after y.failed more))

      stands : Stands g is_open.array₀ is_open.long₀ is_open.st₀ c y.account.book y.marked is_open.failed₀ is_open.marks₀ is_open.agrees is_open.proper t.running t.progress.line.chip (os ++ more)
      unfolding update_of
      stands =
          subst (λ (x : Ran). Stands g is_open.array₀ is_open.long₀ is_open.st₀ c y.account.book y.marked is_open.failed₀ is_open.marks₀ is_open.agrees is_open.proper x.running x.progress.line.chip (os ++ x.progress.started)) (sym run_is)
          (standing.advance_stands g is_open.array₀ is_open.long₀ is_open.st₀ c y.account.book y.marked is_open.failed₀ is_open.marks₀ is_open.agrees is_open.proper a.mask a.fates mask_bytes (call_line d a.allowed) called high [] from os taken_up most
          (subst (λ (x : Ran). x.running.cursor.phase < 2) run_is h))

      next_called : Called s t.progress.line
      unfolding update_of
      next_called =
          subst (λ (x : Ran). Called s x.progress.line) (sym run_is)
          (standing.advance_called g is_open.array₀ is_open.long₀ is_open.st₀ c y.account.book y.marked is_open.failed₀ is_open.marks₀ is_open.agrees is_open.proper a.mask a.fates mask_bytes (call_line d a.allowed) called high [] from os taken_up most
          (subst (λ (x : Ran). x.running.cursor.phase < 2) run_is h))

      told : cursor_of (words_of t.running.cursor) ≡ t.running.cursor
      unfolding update_of
      told =
          let w = standing.stands_words g is_open.array₀ is_open.long₀ is_open.st₀ c y.account.book y.marked is_open.failed₀ is_open.marks₀ is_open.agrees is_open.proper stands in
          words_tell t.running.cursor
          (record { goes_on = h; step_most = stands.rests.step_most; no_erase = stands.rests.no_erase h; one_page = w.count_is; unanswered = w.unanswered })

      open_next : Open g standing_on
      open_next =
          record {
            array₀ = is_open.array₀;
            long₀ = is_open.long₀;
            st₀ = is_open.st₀;
            failed₀ = is_open.failed₀;
            logical = is_open.logical;
            first = is_open.first;
            bytes = is_open.bytes;
            marks₀ = is_open.marks₀;
            agrees = is_open.agrees;
            proper = is_open.proper;
            started = os ++ more;
            noted_is = refl;
            failed_is = failed_is;
            opened_is = refl;
            page_is = is_open.page_is;
            ready = next_called.ready;
            stands = subst (λ (k : Cursor). Stands g is_open.array₀ is_open.long₀ is_open.st₀ c y.account.book y.marked is_open.failed₀ is_open.marks₀ is_open.agrees is_open.proper (running k t.running.state) t.progress.line.chip (os ++ more)) (sym told) stands;
          }

      shows : Shown g c y.account.book y.marked is_open.failed₀ t.progress.line.chip.array (os ++ more)
      shows = standing.stands_shown g is_open.array₀ is_open.long₀ is_open.st₀ c y.account.book y.marked is_open.failed₀ is_open.marks₀ is_open.agrees is_open.proper stands

      open_inv : Inv g standing_on
      open_inv =
          record {
            fits = still_fits;
            kept = i.kept;
            marks = shows.marks;
            stored = shows.stored;
            table = shows.table;
            table_is = shows.table_is;
            reads = λ l p j k. shows.reads l p j k ∙ sym (ap (λ (b : Book). b l p) (due_noted g t.progress.line.chip.array c (os ++ more) y.account.book));
            is = inr (inl open_next);
          }

    -- it has ended
    module _ (h : 2 ≤ t.running.cursor.phase) where
      abbrev answer : ℕ
      answer = t.running.cursor.answer

      abbrev run : Tabled
      run = tabled (after os t.progress) answer t.running.state

      ends : Changed s c y.account.book y.marked is_open.failed₀ run
      unfolding update_of
      ends =
          subst (λ (x : Ran). Changed s c y.account.book y.marked is_open.failed₀ (tabled (after os x.progress) x.running.cursor.answer x.running.state)) (sym run_is)
          (standing.advance_ends g is_open.array₀ is_open.long₀ is_open.st₀ c y.account.book y.marked is_open.failed₀ is_open.marks₀ is_open.agrees is_open.proper a.mask a.fates mask_bytes (call_line d a.allowed) called high [] from os taken_up most
          (subst (λ (x : Ran). 2 ≤ x.running.cursor.phase) run_is h))

      unprotected : answer ≡ 13 → ⊥
      unfolding update_of
      unprotected =
          subst (λ (x : Ran). x.running.cursor.answer ≡ 13 → ⊥) (sym run_is)
          (standing.advance_unprotected g is_open.array₀ is_open.long₀ is_open.st₀ c y.account.book y.marked is_open.failed₀ is_open.marks₀ is_open.agrees is_open.proper a.mask a.fates mask_bytes (call_line d a.allowed) called high [] from os taken_up most
          (subst (λ (x : Ran). 2 ≤ x.running.cursor.phase) run_is h))

      ended_is : ended ≡ advanced (open_at a.allowed answer (closed t.running.state (state_of y)) t.progress.line) (cond (eqb answer 0) 1 0)
      unfolding advance_end
      ended_is = rw (le-ltb t.running.cursor.phase 2 h) refl

      page-long : length (closed t.running.state (state_of y)).page ≡ kept_bytes
      page-long = length-replicate {A = ℕ} (length y.page) 0 ∙ i.kept

      -- finished
      module _ (z : answer ≡ 0) where
        abbrev finished : Store
        finished = store (closed t.running.state (state_of y)) t.progress.line.chip (account (entered g c y.account.book) none) y.marked (failed_after y.failed more)

        finished_is : left_by_here ended more ≡ finished
        finished_is =
            ap (λ (x : Advanced). left_by_here x more) ended_is
            ∙ ap (λ (k : ℕ). left_by_here (advanced (open_at a.allowed k (closed t.running.state (state_of y)) t.progress.line) (cond (eqb k 0) 1 0)) more) z
            ∙ (λ j. store (closed t.running.state (state_of y)) t.progress.line.chip ((ap (fed g (book.advanced 0 1 more)) account_is ∙ fed_finished g c os y.account.book more) j) y.marked (failed_after y.failed more))

        finished_up : Up g finished
        finished_up =
            record {
              agrees = subst (λ (f : ℕ → Bool). Agrees g t.progress.line.chip.array t.running.state (entered g c y.account.book) f) (sym failed_is) (ends.done z);
              ready = ends.ready z;
              quiet = refl;
              shut = refl;
            }

        finished_inv : Inv g finished
        finished_inv = up_inv g finished still_fits page-long ends.marks finished_up

      -- stopped
      module _ (x : answer ≡ 0 → ⊥) where
        begun : is_begun answer ≡ true
        begun = rw (ne_eqb answer 0 x) (not_done answer ends.answers x unprotected)

        abbrev stopped : Store
        stopped = store (closed t.running.state (state_of y)) t.progress.line.chip (account y.account.book (some (note c (os ++ more)))) y.marked (failed_after y.failed more)

        stopped_is : left_by_here ended more ≡ stopped
        stopped_is =
            ap (λ (k : Advanced). left_by_here k more) ended_is
            ∙ ap (λ (b : Bool). left_by_here (advanced (open_at a.allowed answer (closed t.running.state (state_of y)) t.progress.line) (cond b 1 0)) more) (ne_eqb answer 0 x)
            ∙ (λ j. store (closed t.running.state (state_of y)) t.progress.line.chip ((ap (fed g (book.advanced answer 0 more)) account_is ∙ fed_goes g c os y.account.book more answer begun) j) y.marked (failed_after y.failed more))

        stopped_inv : Inv g stopped
        stopped_inv =
            record {
              fits = still_fits;
              kept = page-long;
              marks = ends.marks;
              stored = ends.stored;
              table = ends.table;
              table_is = ends.table_is;
              reads = λ l p j k. ends.reads x l p j k ∙ sym (ap (λ (b : Book). b l p) (due_noted g t.progress.line.chip.array c (os ++ more) y.account.book));
              is = inr (inr (stopped_unmounted g (state_of stopped) (ends.stopped x unprotected)));
            }

    by_phase : {P : Type 0} → (t.running.cursor.phase < 2 → P) → (2 ≤ t.running.cursor.phase → t.running.cursor.answer ≡ 0 → P) → (2 ≤ t.running.cursor.phase → (t.running.cursor.answer ≡ 0 → ⊥) → P) → P
    by_phase goes_on done stop =
        cases (ltb t.running.cursor.phase 2)
        (λ h. goes_on (ltb-true t.running.cursor.phase 2 h))
        (λ h.
        let k = ltb-false t.running.cursor.phase 2 h in
        cases (eqb t.running.cursor.answer 0) (λ z. done k (eqb-true _ 0 z)) (λ z. stop k (eqb-false _ 0 z)))

    accepted : Inv g (left_by_here ended more)
    accepted =
        by_phase
        (λ h. subst (Inv g) (sym (open_left h)) (open_inv h))
        (λ h z. subst (Inv g) (sym (finished_is h z)) (finished_inv h z))
        (λ h x. subst (Inv g) (sym (stopped_is h x)) (stopped_inv h x))

    spares : Spared g y.marked y.failed more
    spares = by_phase (λ h. spared_so (shows h).spared) (λ h z. spared_so (ends h).spared) (λ h x. spared_so (ends h).spared)

    legal : t.progress.line.chip.interface.illegal ≡ 0
    legal = by_phase (λ h. (next_called h).legal) (λ h z. (ends h).legal) (λ h x. (ends h).legal)

    chip_is : ended.returned.chip ≡ t.progress.line.chip
    unfolding advance_end
    chip_is = cases (ltb t.running.cursor.phase 2) (λ h. rw h refl) (λ h. rw h refl)

    sent_is : ended.returned.sent ≡ a.allowed - t.progress.line.left
    unfolding advance_end
    sent_is = cases (ltb t.running.cursor.phase 2) (λ h. rw h refl) (λ h. rw h refl)

    sends : Sends s d a.allowed t.progress.cycles ended.returned.chip ended.returned.sent
    sends =
        record {
          leads = inr (subst (λ (x : Device). Replayed s (call_line d a.allowed).chip x t.progress.cycles) (sym chip_is) (replayed s (call_line d a.allowed).chip t.progress leads legal));
          counted = sent_is ∙ counts;
        }

    open_answer : t.running.cursor.phase < 2 → ended.returned.answer ≡ 0
    unfolding advance_end
    open_answer h = rw (lt-ltb t.running.cursor.phase 2 h) refl

    ended_answer : 2 ≤ t.running.cursor.phase → ended.returned.answer ≡ t.running.cursor.answer
    ended_answer h = ap (λ (x : Advanced). x.returned.answer) (ended_is h)

    told_as : {k : ℕ} → ended.returned.answer ≡ k → answers.AnyChangeAnswer k → (k ≡ 10 → Slow a.fates) → (k ≡ 11 → t.progress.line.left ≡ 0) → ChangeAnswered a ended.returned
    told_as e w silent cut =
        record {
          answers = subst answers.AnyChangeAnswer (sym e) w;
          silent_by = λ z. silent (sym e ∙ z);
          cut_at = λ z. sent_is ∙ omega (arith, cut (sym e ∙ z));
        }

    answer_told : ChangeAnswered a ended.returned
    answer_told =
        by_phase
        (λ h. told_as (open_answer h) answers.is_done (λ z. absurd (omega (arith, z))) (λ z. absurd (omega (arith, z))))
        (λ h z. told_as (ended_answer h) (any_answer (ends h).answers) (ends h).silent_by (ends h).used_up)
        (λ h x. told_as (ended_answer h) (any_answer (ends h).answers) (ends h).silent_by (ends h).used_up)

    counts_mounted : ended.returned.answer ≡ 0 → mounted_open g (state_of (left_by_here ended more)) ≡ true
    counts_mounted z =
        by_phase
        (λ h. ap (λ (x : Store). mounted_open g (state_of x)) (open_left h) ∙ open_mounted g (standing_on h) i.kept (open_next h))
        (λ h w. ap (λ (x : Store). mounted_open g (state_of x)) (finished_is h w) ∙ up_mounted g (finished h w) (page-long h) (finished_up h w))
        (λ h x. absurd (x (sym (ended_answer h) ∙ z)))

  call_step : Inv g after_call
  call_step =
      cases (eqb refused_by 0) (λ o. subst (Inv g) (sym (goes o)) (accepted o)) (λ f. subst (Inv g) (sym (barred f)) (found_inv g a y i))

  pub advance_step : Inv g (step g (to_advance a most) y)
  unfolding result_of sent_in started_in step failed_next advance_request
  advance_step = call_step

  call_spared : Spared g y.marked y.failed trace
  unfolding started_in Spared
  call_spared = cases (eqb refused_by 0) (λ o. rw o (spares o)) (λ f. rw f tt)

  pub advance_spared : Spared g y.marked y.failed (trace_of g (to_advance a most) y)
  unfolding started_in advance_request
  advance_spared = call_spared

  given_told : ChangeAnswered a given.returned
  unfolding result_of
  given_told =
      cases (eqb refused_by 0) (λ o. rw o (answer_told o))
      (λ f. rw f (record { answers = (turned f).told; silent_by = λ z. absurd ((turned f).heard z); cut_at = λ z. absurd ((turned f).uncut z) }))

  pub advance_answers : ChangeAnswered a (result_of (run_of g (to_advance a most) y))
  unfolding result_of advance_request
  advance_answers = given_told

  given_sends : Sends s d a.allowed (sent_in request) given.returned.chip given.returned.sent
  unfolding result_of sent_in
  given_sends =
      cases (eqb refused_by 0) (λ o. rw o (sends o)) (λ f. rw f (record { leads = inl (refl, refl); counted = refl }))

  pub advance_sent : CallSends g y (to_advance a most)
  unfolding result_of sent_in advance_request
  advance_sent = given_sends

  given_went : eqb refused_by 0 ≡ true → given.returned.answer ≡ ended.returned.answer
  unfolding result_of
  given_went o = rw o refl

  given_barred : eqb refused_by 0 ≡ false → given.returned.answer ≡ refused_by
  unfolding result_of
  given_barred f = rw f refl

  given_mounted : given.returned.answer ≡ 0 → mounted_open g (state_of after_call) ≡ true
  given_mounted z =
      cases (eqb refused_by 0)
      (λ o. ap (λ (x : Store). mounted_open g (state_of x)) (goes o) ∙ counts_mounted o (sym (given_went o) ∙ z))
      (λ f. absurd (eqb-false refused_by 0 f (sym (given_barred f) ∙ z)))

  -- answered 0 it leaves a state that counts as mounted
  pub advance_mounted : answer_of g (to_advance a most) y ≡ 0 → mounted_open g (state_of (step g (to_advance a most) y)) ≡ true
  unfolding result_of sent_in started_in step failed_next advance_request
  advance_mounted = given_mounted
