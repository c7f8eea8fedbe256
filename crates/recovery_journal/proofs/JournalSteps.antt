-- Appends and requests for the takings after a list: the invariant is kept, however they end. Assumes nothing but the laws named.
use Prim.Native.Nat.{ℕ, suc, ◌*◌, ◌≤◌, ◌<◌}
use mathlib.Core.Bool.{Bool, true, false, cond}
use mathlib.Core.List.{List, []}
use mathlib.Core.Logic.{◌⊎◌, inr, ⊎_elim}
use mathlib.Core.Option.{Option, none, some}
use mathlib.Core.Path.{◌≡◌, refl, sym, ap, subst, fun_ext, ◌∙◌}
use native.Mathlib.Nat.{div-lt_iff_lt-mul}
use native.Mathlib.Omega.{arith}
use borrow.Table.Steps.{cases}
use borrow.Author.Tests.{eq-eqb, ne_eqb, eqb-true, eqb-false, ltb-true}
use lib.Dec.{eqb, ltb}
use lib.ListN.{length, get_or}
use Rattle.geometry.specs.declared.Geometry.{Geometry}
use Rattle.geometry.specs.Limits.{Valid}
use Rattle.geometry.proofs.SizeLaws.{row_page_below}
use Rattle.cells.specs.Bytes.{Bytes}
use Rattle.bools.proofs.BoolLaws.{or_none}
use Rattle.chip_array.specs.Device.{Device, Setting, lengths_fit}
use Rattle.chip_laws.specs.Lengths.{SameLengths}
use Rattle.chip_laws.proofs.LengthLaws.{run_lengths, lengths_fit_lem}
use Rattle.bus.specs.Line.{Line}
use Rattle.bus_polling.specs.Outcomes.{is_passed}
use Rattle.bus_polling.specs.declared.Outcome.TheVariants.{Passed}
use Rattle.bus_polling.proofs.OutcomeLaws.{passed_answered}
use Rattle.operations.specs.Ends.{Called}
use Rattle.operations.specs.Trace.{ArrayOperation}
use Rattle.copies.specs.Blocks.{block_in, is_marked}
use Rattle.copies.specs.Current.{reading}
use Rattle.state.specs.State as state
use Rattle.state.specs.State.{blank}
use Rattle.state.specs.declared.State.{State}
use Rattle.progress.specs.Progress.{Progress, progress, status_on}
use Rattle.request.specs.Call.{sized_for, call_line, result_of, started_in, stop_answer, answer_for, state_for}
use Rattle.request.proofs.CallLaws.{sizes}
use Rattle.fill_tables.specs.Tables.{Tabled, after_status}
use Rattle.write_changes.proofs.KeepLaws.{change_keeps}
use Rattle.damage.specs.Run.{failed_in}
use Rattle.damage.proofs.ReplayLaws.{Leads, leads_status, leads_kept}
use Rattle.open_write.specs.Open.{kept_bytes, is_opened, mounted_open}
use Rattle.open_write.specs.Requests.{stops, open_refusal}
use Rattle.open_journal.specs.Requests.{open_append_request, open_takings_request}
use Rattle.journal.specs.Records.{SaleFits, Pages, room, records}
use Rattle.journal.specs.declared.Sale.{Sale}
use Rattle.journal.proofs.BytesLaws.{sale_long, sale_bytes_fact}
use Rattle.journal.proofs.EndLaws.{room_most, room_within, records_end}
use Rattle.journal_read.specs.Reads.{reads_for}
use Rattle.journal_requests.specs.Requests.{journal_refusal_of, journal_first, journal_pages, records_in, pass_run, takings_run, takings_request, may_replace, append_refusal, sale_refusal, sale_update, sale_write, comes_to_write, append_run, append_request}
use Rattle.journal_requests.proofs.EndLaws.{not_refused, has_room}
use Rattle.recovery.specs.Book.{Book, Same, Change, write, entered, Note, note, Account, account, changed, settled, fed}
use Rattle.recovery.specs.Calls.{Lent, Store, store, state_of, under_way, setting_of, chip_of, copy_of_note, failed_after}
use Rattle.recovery.specs.Recovery.{shown_with, shown, Spared}
use Rattle.recovery.proofs.SparedLaws.{failed_after-append, spared_append, spared_reads}
use Rattle.recovery_write.specs.Changed.{Agrees, Proper, update_of, array_of, Changed}
use Rattle.recovery_write.proofs.ChangeLaws.{change_from_fact}
use Rattle.recovery_write.proofs.EntryLaws.{EntryReads, entry_reads}
use Rattle.recovery_write.proofs.StandsLaws.{stands_reads}
use Rattle.recovery_stored.proofs.KnowsLaws.{knows_entry, knows_kind}
use Rattle.recovery_proof.specs.Invariant.{due_of, Up, Open, Inv}
use Rattle.recovery_proof.proofs.InvariantLaws.{agrees-moved, up_inv, stopped_inv, stopped_unmounted, is_mounted, is_up, failed_none, found_by, found_inv, left_with, left_state, left_kept, left_shut}
use Rattle.recovery_proof.proofs.OpenLaws.{Admitted, admits, base_mounted, kept_inv}
use Rattle.recovery_proof.proofs.ChangeSteps.{shut_so, not_done}
use Rattle.recovery_journal.specs.Journal.{sale_change, append_run_of, takings_run_of, append_step, takings_step}
use Rattle.recovery_journal.proofs.PassLaws.{Went, went_first, pages_go, amounts_go}
use Rattle.recovery_journal.proofs.BookLaws.{map_below}

-- reads that did not fail
pub calm_failed : (s : Setting) (d : Device) (n : ℕ) (p : Progress) → Went s d n p → (f : ℕ → Bool) → failed_after f p.started ≡ f
unfolding failed_in
calm_failed s d n p w f = fun_ext (λ b. ap (cond (f b) true) (w.calm b) ∙ or_none (f b))

went_fits : (s : Setting) (d : Device) (n : ℕ) (p : Progress) → Went s d n p → lengths_fit s.geometry p.line.chip ≡ lengths_fit s.geometry d
went_fits s d n p w =
    let l = subst (SameLengths (call_line d n).chip) w.leads (run_lengths s (call_line d n).chip p.cycles) in
    lengths_fit_lem s.geometry {d = d} {e = p.line.chip} (record { array = l.array; register = l.register; history = l.history })

-- no more pages are read than there are
pub reads-within : (e most all : ℕ) → e ≤ most → most ≤ all → reads_for e most ≤ all
reads-within e most all h k = cases (ltb e most) (λ t. rw t (omega (arith, ltb-true e most t, k))) (λ t. rw t k)

-- an entry of the map reads what is shown
up_entry : (g : Geometry) (y : Store) → Up g y → (l : ℕ) → l < g.logical → EntryReads g y.chip.array (get_or y.state.map l 0) (get_or y.state.kinds l 0) (shown g y l)
unfolding shown_with
up_entry g y u l h =
    subst (λ (o : Option Note). EntryReads g y.chip.array (get_or y.state.map l 0) (get_or y.state.kinds l 0) (shown_with g o y.account.book l)) (sym u.quiet)
    (entry_reads g u.agrees.stored.is_valid y.chip.array y.state.table l (get_or y.state.map l 0) (get_or y.state.kinds l 0) (y.account.book l)
    (knows_entry g y.chip.array y.state u.agrees.stored u.agrees.knows l h) (knows_kind g y.chip.array y.state u.agrees.stored u.agrees.knows l h) (λ i k. u.agrees.reads l i h k))

open_entry : (g : Geometry) (y : Store) → Open g y → (l : ℕ) → l < g.logical → EntryReads g y.chip.array (get_or y.state.map l 0) (get_or y.state.kinds l 0) (shown g y l)
unfolding shown_with
open_entry g y o l h =
    subst (λ (n : Option Note). EntryReads g y.chip.array (get_or y.state.map l 0) (get_or y.state.kinds l 0) (shown_with g n y.account.book l)) (sym o.noted_is)
    (stands_reads g o.array₀ o.long₀ o.st₀ (write o.logical o.first o.bytes) y.account.book y.marked o.failed₀ o.marks₀ o.agrees o.proper o.stands l h)

-- where nothing is under way the book is shown
pub shown_quiet : (g : Geometry) (y : Store) → under_way y ≡ none → shown g y ≡ y.account.book
unfolding shown_with
shown_quiet g y e = ap (λ (o : Option Note). shown_with g o y.account.book) e

-- 16 and 2 stop nothing
late_stays : (pages : Pages) (most e t : ℕ) → stops (append_refusal pages most e t) ≡ false
unfolding append_refusal stops
late_stays pages most e t = cases (may_replace pages e t) (λ m. cases (ltb e most) (λ l. rw (m, l)) (λ l. rw (m, l))) (λ m. rw m)

module _ (g : Geometry) (y : Store) (i : Inv g y) (a : Lent) where
  abbrev s : Setting
  s = setting_of g a

  abbrev d : Device
  d = chip_of a y.chip

  abbrev n : ℕ
  n = a.allowed

  abbrev st : State
  st = y.state

  -- a write that ended as run, entered or noted
  module _ (u : Up g y) (c : Change) (run : Tabled) (is : Changed s c y.account.book y.marked y.failed run) (fits : lengths_fit g run.progress.line.chip ≡ true) (b : Bool) where
    abbrev os : List ArrayOperation
    os = run.progress.started

    abbrev acc : Account
    acc = fed g (changed c run.answer os) y.account

    abbrev next : Store
    next = left_with b y run.state run.progress.line.chip acc (failed_after y.failed os)

    still_kept : length next.page ≡ kept_bytes
    still_kept = left_kept y run.state run.progress.line.chip acc (failed_after y.failed os) b ∙ i.kept

    state_left : next.state ≡ run.state
    state_left = left_state y run.state run.progress.line.chip acc (failed_after y.failed os) b

    mounted_with_fact : {book : Book} → acc.book ≡ book → acc.noted ≡ y.account.noted → Agrees g (array_of run) run.state book (failed_after y.failed os) → run.progress.line.chip.interface.phase ≤ 2 → Inv g next
    mounted_with_fact e q x r =
        up_inv g next fits still_kept is.marks
        (record {
          agrees = subst (λ (z : State). Agrees g (array_of run) z acc.book (failed_after y.failed os)) (sym state_left) (subst (λ (k : Book). Agrees g (array_of run) run.state k (failed_after y.failed os)) (sym e) x);
          ready = r;
          quiet = q ∙ u.quiet;
          shut = left_shut y run.state run.progress.line.chip acc (failed_after y.failed os) b u.shut;
        })

    acknowledged : run.answer ≡ 0 → Inv g next
    unfolding fed
    acknowledged z =
        let e : acc ≡ account (entered g c y.account.book) y.account.noted = rw (eq-eqb run.answer 0 z) in
        mounted_with_fact (ap (λ (x : Account). x.book) e) (ap (λ (x : Account). x.noted) e) (is.done z) (is.ready z)

    untaken : run.answer ≡ 13 → Inv g next
    unfolding fed
    untaken z =
        let e : acc ≡ y.account = ap (λ (k : ℕ). fed g (changed c k os) y.account) z in
        mounted_with_fact (ap (λ (x : Account). x.book) e) (ap (λ (x : Account). x.noted) e) (is.kept z) (is.kept_ready z)

    noted : (run.answer ≡ 0 → ⊥) → (run.answer ≡ 13 → ⊥) → Inv g next
    unfolding fed settled copy_of_note
    noted x z =
        let e : acc ≡ account y.account.book (some (note c os)) = rw (ne_eqb run.answer 0 x, not_done run.answer is.answers x z) in
        record {
          fits = fits;
          kept = still_kept;
          marks = is.marks;
          stored = is.stored;
          table = is.table;
          table_is = is.table_is;
          reads = subst (λ (k : Account). Same g (reading g (array_of run) is.table) (due_of g (array_of run) k)) (sym e) (is.reads x);
          is = inr (inr (stopped_unmounted g (state_of next) (state_left ∙ is.stopped x z)));
        }

    write_inv : Inv g next
    write_inv =
        cases (eqb run.answer 0)
        (λ z. acknowledged (eqb-true run.answer 0 z))
        (λ z.
        cases (eqb run.answer 13)
        (λ w. untaken (eqb-true run.answer 13 w))
        (λ w. noted (eqb-false run.answer 0 z) (eqb-false run.answer 13 w)))

  -- a request on a state that counts as mounted
  module _ (fit : sized_for s d ≡ true) (m : mounted_open g (state_of y) ≡ true) where
    which : Up g y ⊎ Open g y
    which = is_mounted g y i m

    pub unrefused : eqb (journal_refusal_of s d st) 0 ≡ true
    unrefused = eq-eqb (journal_refusal_of s d st) 0 (sym (not_refused g (sized_for s d) st fit (base_mounted g (state_of y) m)))

    pub entries : (l : ℕ) → l < g.logical → EntryReads g y.chip.array (get_or st.map l 0) (get_or st.kinds l 0) (shown g y l)
    entries l h = ⊎_elim (λ u. up_entry g y u l h) (λ o. open_entry g y o l h) which

    pub called : Called s (call_line d n)
    called =
        let z = sizes g (length y.chip.array) (length y.chip.register) (length y.chip.history) (length a.mask) fit in
        record {
          is_valid = z.chip_fits.is_valid;
          array_long = z.chip_fits.array_long;
          register_long = z.chip_fits.register_long;
          history_long = z.chip_fits.history_long;
          mask_long = z.mask_long;
          ready = ⊎_elim (λ u. u.ready) (λ o. o.ready) which;
          legal = refl;
          uncut = refl;
        }

    pub valid_geometry : Valid g
    valid_geometry = called.is_valid

    pub below : (l : ℕ) → l < g.logical → (get_or st.map l 0 ≡ state.none → ⊥) → get_or st.map l 0 < g.blocks
    below = map_below g valid_geometry y.chip.array st.map st.kinds (shown g y) entries

    pub pass_went : Went s d n (pass_run s d n st)
    pass_went =
        pages_go s d n valid_geometry st.map below _
        (reads-within (records (journal_pages s d st) (room g)) (room g) (g.logical * g.pages) (records_end (journal_pages s d st) (room g)).within (room_within g))
        (journal_first d n) (went_first s d n called)

    pub takings_went : Went s d n (takings_run s d n st)
    unfolding takings_run
    takings_went =
        amounts_go s d n valid_geometry st.map below (journal_pages s d st) (records_in s d st) (records_in s d st)
        (omega (arith, (records_end (journal_pages s d st) (room g)).within, room_within g)) (pass_run s d n st) pass_went

    -- reads alone: all passed and the state is as it was, or it is stopped
    module _ (p : Progress) (w : Went s d n p) where
      abbrev left : Bool → State → Store
      left b z = left_with b y z p.line.chip y.account (failed_after y.failed p.started)

      fits_still : lengths_fit g p.line.chip ≡ true
      fits_still = went_fits s d n p w ∙ i.fits

      passed_inv : is_passed p.outcome ≡ true → Inv g (left false st)
      passed_inv q =
          subst (λ (f : ℕ → Bool). Inv g (store (state_of y) p.line.chip y.account y.marked f)) (sym (calm_failed s d n p w y.failed))
          (kept_inv g y i p.line.chip fits_still w.unchanged.same_array w.unchanged.same_history (w.unchanged.sound.called (passed_answered p.outcome q)).ready)

      stopped_by : (b : Bool) → Inv g (left b (blank 2))
      stopped_by b =
          stopped_inv g y i (left b (blank 2)) fits_still (left_kept y (blank 2) p.line.chip y.account (failed_after y.failed p.started) b ∙ i.kept) w.unchanged.same_array refl refl
          (left_state y (blank 2) p.line.chip y.account (failed_after y.failed p.started) b)

      read_inv : Inv g (left (stops (answer_for p.outcome)) (state_for p.outcome st))
      unfolding stops
      read_inv = cases (is_passed p.outcome) (λ q. rw q (passed_inv q)) (λ q. rw q (stopped_by (stops (stop_answer p.outcome))))

  -- takings that are not refused
  abbrev pub refused_by : ℕ
  refused_by = open_refusal g (sized_for s d) (state_of y) false

  module _ (o : eqb refused_by 0 ≡ true) where
    pub adm : Admitted g (sized_for s d) (state_of y) false
    adm = admits g (sized_for s d) (state_of y) false (eqb-true refused_by 0 o)

    takings_accepted : Inv g (takings_step g a y)
    unfolding takings_step result_of started_in open_takings_request takings_request
    takings_accepted = rw (o, unrefused adm.sizes_fit adm.is_mounted) (read_inv adm.sizes_fit adm.is_mounted (takings_run s d n st) (takings_went adm.sizes_fit adm.is_mounted))

    takings_reads : Spared g y.marked y.failed (started_in (takings_run_of g a y))
    unfolding started_in open_takings_request takings_request
    takings_reads = rw (o, unrefused adm.sizes_fit adm.is_mounted) (spared_reads g y.marked y.failed (takings_run s d n st).started (takings_went adm.sizes_fit adm.is_mounted).reads)

  -- an append that is not refused before its reads
  abbrev pub barred_by : ℕ
  barred_by = open_refusal g (sized_for s d) (state_of y) (is_opened (state_of y))

  module _ (o : eqb barred_by 0 ≡ true) where
    pub allowed_in : Admitted g (sized_for s d) (state_of y) (is_opened (state_of y))
    allowed_in = admits g (sized_for s d) (state_of y) (is_opened (state_of y)) (eqb-true barred_by 0 o)

    pub up : Up g y
    up = is_up g y i allowed_in.is_mounted (shut_so y allowed_in.unbarred)

    pub unheld : eqb (journal_refusal_of s d st) 0 ≡ true
    unheld = unrefused allowed_in.sizes_fit allowed_in.is_mounted

    pub valid : Valid g
    valid = valid_geometry allowed_in.sizes_fit allowed_in.is_mounted

    pub went : Went s d n (pass_run s d n st)
    went = pass_went allowed_in.sizes_fit allowed_in.is_mounted

    -- it comes to its write
    module _ (mask_bytes : Bytes a.mask) (sale : Sale) (f : SaleFits sale) (q : is_passed (pass_run s d n st).outcome ≡ true) (z : eqb (sale_refusal s d st sale) 0 ≡ true) where
      abbrev e : ℕ
      e = records_in s d st

      pub room_left : e < room g
      room_left = has_room (journal_pages s d st) (room g) e sale.replaces (eqb-true (sale_refusal s d st sale) 0 z)

      abbrev line : Line
      line = (pass_run s d n st).line

      abbrev change : Change
      change = sale_change g e sale

      pub ready_line : Called s line
      ready_line = went.unchanged.sound.called (passed_answered (pass_run s d n st).outcome q)

      pub proper : Proper g change
      proper =
          let small : suc e < 65536 = omega (arith, room_left, room_most g) in (
            (div-lt_iff_lt-mul {k = g.pages} {x = e} {y = g.logical} (omega (arith, valid.pages_least))).1 (omega (arith, room_left, room_within g)),
            row_page_below g valid e,
            sale_long g.main (suc e) sale small f (omega (arith, valid.main_least)),
            sale_bytes_fact g.main (suc e) sale small f,
          )

      pub sale_changes : Changed s change y.account.book y.marked y.failed (sale_write s d n st sale)
      unfolding update_of
      sale_changes =
          change_from_fact s line (pass_run s d n st).cycles st change y.account.book y.marked y.failed mask_bytes ready_line
          (λ k h. ap (λ (b : List ℕ). is_marked g (block_in g b k)) went.unchanged.same_array ∙ i.marks k h)
          (agrees-moved went.unchanged.same_array refl refl up.agrees) proper

      -- its cycles lead to the chip that is left
      pub write_leads : Leads s (call_line d n).chip (sale_write s d n st sale).progress
      unfolding after_status
      write_leads =
          let first = progress line Passed (pass_run s d n st).cycles [] in
          let shown = leads_status s (call_line d n).chip first went.leads in
          cases (is_passed (status_on s first).outcome)
          (λ o. rw o (change_keeps s (Leads s (call_line d n).chip) (leads_kept s (call_line d n).chip) st (sale_update g st e sale) (status_on s first) shown))
          (λ o. rw o shown)

      write_fits : lengths_fit g (sale_write s d n st sale).progress.line.chip ≡ true
      write_fits =
          let l = subst (SameLengths (call_line d n).chip) write_leads (run_lengths s (call_line d n).chip (sale_write s d n st sale).progress.cycles) in
          lengths_fit_lem g {d = d} {e = (sale_write s d n st sale).progress.line.chip} (record { array = l.array; register = l.register; history = l.history }) ∙ i.fits

      written_inv : Inv g (append_step g a sale y)
      unfolding append_step result_of started_in open_append_request append_request append_run comes_to_write
      written_inv =
          rw (o, unheld, q, z)
          (subst (λ (h : ℕ → Bool). Inv g (left_with (stops (sale_write s d n st sale).answer) y (sale_write s d n st sale).state (sale_write s d n st sale).progress.line.chip (fed g (changed change (sale_write s d n st sale).answer (sale_write s d n st sale).progress.started) y.account) h))
          (sym (fun_ext (λ b. failed_after-append y.failed (pass_run s d n st).started (sale_write s d n st sale).progress.started b ∙ ap (λ (h : ℕ → Bool). failed_after h (sale_write s d n st sale).progress.started b) (calm_failed s d n (pass_run s d n st) went y.failed))))
          (write_inv up change (sale_write s d n st sale) sale_changes write_fits (stops (sale_write s d n st sale).answer)))

    append_accepted : Bytes a.mask → (sale : Sale) → SaleFits sale → Inv g (append_step g a sale y)
    unfolding append_step result_of started_in open_append_request append_request append_run comes_to_write fed
    append_accepted mask_bytes sale f =
        cases (is_passed (pass_run s d n st).outcome)
        (λ q.
        cases (eqb (sale_refusal s d st sale) 0)
        (λ z. written_inv mask_bytes sale f q z)
        (λ z. rw (o, unheld, q, z, late_stays (journal_pages s d st) (room g) (records_in s d st) sale.replaces) (passed_inv allowed_in.sizes_fit allowed_in.is_mounted (pass_run s d n st) went q)))
        (λ q. rw (o, unheld, q) (stopped_by allowed_in.sizes_fit allowed_in.is_mounted (pass_run s d n st) went (stops (stop_answer (pass_run s d n st).outcome))))

    -- bad blocks are spared
    append_writes : Bytes a.mask → (sale : Sale) → SaleFits sale → Spared g y.marked y.failed (started_in (append_run_of g a sale y))
    unfolding started_in open_append_request append_request append_run
    append_writes mask_bytes sale f =
        let before = spared_reads g y.marked y.failed (pass_run s d n st).started went.reads in
        cases (is_passed (pass_run s d n st).outcome)
        (λ q.
        cases (eqb (sale_refusal s d st sale) 0)
        (λ z.
        rw (o, unheld, q, z)
        (spared_append g y.marked y.failed (pass_run s d n st).started (sale_write s d n st sale).progress.started before
        (subst (λ (h : ℕ → Bool). Spared g y.marked h (sale_write s d n st sale).progress.started) (sym (calm_failed s d n (pass_run s d n st) went y.failed)) (sale_changes mask_bytes sale f q z).spared)))
        (λ z. rw (o, unheld, q, z) before))
        (λ q. rw (o, unheld, q) before)

  -- refused before its reads a request leaves the store as it found it
  takings_refused : eqb refused_by 0 ≡ false → takings_step g a y ≡ found_by a y
  unfolding takings_step result_of started_in open_takings_request
  takings_refused f = rw f (ap (store (state_of y) (chip_of a y.chip) y.account y.marked) (failed_none y.failed))

  append_refused : (sale : Sale) → eqb barred_by 0 ≡ false → append_step g a sale y ≡ found_by a y
  unfolding append_step result_of started_in open_append_request fed
  append_refused sale f = rw f (ap (store (state_of y) (chip_of a y.chip) y.account y.marked) (failed_none y.failed))

  pub takings_step_fact : Inv g (takings_step g a y)
  takings_step_fact = cases (eqb refused_by 0) takings_accepted (λ f. subst (Inv g) (sym (takings_refused f)) (found_inv g a y i))

  pub append_step_fact : Bytes a.mask → (sale : Sale) → SaleFits sale → Inv g (append_step g a sale y)
  append_step_fact mask_bytes sale fits =
      cases (eqb barred_by 0) (λ t. append_accepted t mask_bytes sale fits) (λ f. subst (Inv g) (sym (append_refused sale f)) (found_inv g a y i))

  pub takings_spared : Spared g y.marked y.failed (started_in (takings_run_of g a y))
  unfolding started_in open_takings_request Spared
  takings_spared = cases (eqb refused_by 0) takings_reads (λ f. rw f tt)

  pub append_spared : Bytes a.mask → (sale : Sale) → SaleFits sale → Spared g y.marked y.failed (started_in (append_run_of g a sale y))
  unfolding started_in open_append_request Spared
  append_spared mask_bytes sale fits = cases (eqb barred_by 0) (λ t. append_writes t mask_bytes sale fits) (λ f. rw f tt)
