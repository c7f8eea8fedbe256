-- Every formatting ends as Formatting tells, and sends fewer cycles than the allowance that cuts nothing. Assumes nothing.
use Prim.Native.Nat.{ℕ, ◌+◌, ◌≤◌, ◌<◌, max}
use mathlib.Core.Bool.{true, false}
use mathlib.Core.List.{List, []}
use mathlib.Core.Logic.{◌⊎◌, ◌↔◌, inl, inr, ⊎_elim}
use mathlib.Core.Path.{◌≡◌, refl, sym, ap, subst, ◌∙◌}
use native.Mathlib.Nat.{mul-le-mul}
use native.Mathlib.Omega.{arith}
use borrow.Table.Steps.{cases}
use lib.Dec.{eqb, ltb}
use lib.ListN.{length}
use Rattle.geometry.specs.declared.Geometry.{Geometry}
use Rattle.geometry.specs.Limits.{Valid}
use Rattle.geometry.specs.Sizes.{page_size}
use Rattle.geometry.proofs.SizeLaws.{page_size_most}
use Rattle.cells.specs.Bytes.{Bytes}
use Rattle.chip_array.specs.Device.{Device, Setting}
use Rattle.bus_polling.specs.Outcomes.{is_passed, is_failed}
use Rattle.operations.specs.Trace.{ArrayOperation}
use Rattle.bus_polling.specs.declared.Outcome.TheVariants.{Passed}
use Rattle.copies.specs.Carried.{carried_table}
use Rattle.copies.specs.Current.{greatest_below}
use Rattle.copies.specs.Pick.{Pick, nothing, at}
use Rattle.state.specs.State.{mounted, number_end, with_invalid}
use Rattle.state.specs.declared.State.{State}
use Rattle.request.specs.Call.{sized_for, call_line, result_of}
use Rattle.request.proofs.CallLaws.{sizes, called_sized}
use Rattle.progress.specs.Progress.{Progress, progress, reset_on, status_on}
use Rattle.progress.specs.Kept.{Kept}
use Rattle.progress.specs.Steps.{erase_on, resumed}
use Rattle.progress.proofs.CountLaws.{allowance_kept}
use Rattle.progress.proofs.StatusLaws.{status_counts}
use Rattle.scan.specs.Scan.{blocks_read}
use Rattle.scan_summary.specs.declared.Depth.TheVariants.{Full}
use Rattle.format_scan.specs.Survey.{surveyed, union_to, passed_over}
use Rattle.format_scan.specs.declared.Survey.{Survey}
use Rattle.format_erase.specs.Round.{erased_to}
use Rattle.fill_tables.proofs.KeepLaws.{tables_keep}
use Rattle.fill_tables.specs.Tables.{Tabled, end_of_run, after_status}
use Rattle.format.specs.Format.{first_state, too_few, tables_from, after_late, late_run, tables_run, round_run, status_run, reads_run, format_run, format_request, formatting}
use Rattle.scan.proofs.KeepLaws.{blocks_keep}
use Rattle.format_erase.proofs.KeepLaws.{round_keeps}
use Rattle.damage.specs.Replay.{Replayed}
use Rattle.damage.proofs.ReplayLaws.{leads_first, leads_kept, leads_status, replayed, lengths_sized}
use Rattle.damage.specs.Run.{read_most, Slow, Failing, failed_in, program_most, table_fill_most}
use Rattle.format_laws.specs.Formatting.{block_most, format_most, Acknowledged, Formatting, unfailed, count_of, reads_done, round_done, FormatAnswer, is_done, is_worn, is_spent, is_silent_fact, is_cut, is_protected_fact}
use Rattle.format_laws.proofs.FormatLaws.{format_leaves, FormatLeft}
use Rattle.mount_laws.proofs.StateLaws.{full_mounted}
use Rattle.format_laws.proofs.CountLaws.{all_unfailed}

-- what every operation keeps, a formatting keeps
module _ (s : Setting) (P : Progress → Type 0) (k : Kept s P) where
  late_keeps : (old : ℕ) (st : State) (e : Progress) → P e → P (after_late s old st e).progress
  unfolding after_late
  late_keeps old st e h =
      cases (is_passed e.outcome) (λ y. rw y h)
      (λ y.
      cases (is_failed e.outcome)
      (λ w. rw (y, w) (tables_keep s P k _ _ (with_invalid old st) (resumed e) (k.resume e w h)))
      (λ w. rw (y, w) h))

  late_run_keeps : (old : ℕ) (t : Tabled) → P t.progress → P (late_run s old t).progress
  unfolding late_run
  late_run_keeps old t h =
      cases (eqb t.answer 0)
      (λ z.
      cases (ltb old s.geometry.blocks)
      (λ b. rw (z, b) (late_keeps old t.state (erase_on s old t.progress) (k.erase old t.progress h)))
      (λ b. rw (z, b) h))
      (λ z. rw z h)

  tables_run_keeps : (marked invalid : List ℕ) (greatest old : ℕ) (p : Progress) → P p → P (tables_run s marked invalid greatest old p).progress
  unfolding tables_run
  tables_run_keeps marked invalid greatest old p h =
      cases (too_few s.geometry marked invalid) (λ t. rw t h)
      (λ t. rw t (late_run_keeps old (tables_from s (first_state s.geometry marked invalid greatest old) p) (tables_keep s P k _ _ _ p h)))

  round_run_keeps : (v : Survey) (p : Progress) → P p → P (round_run s v p).progress
  unfolding round_run
  round_run_keeps v p h =
      let r = erased_to s (passed_over s.geometry v) s.geometry.blocks p in
      let here = round_keeps s P k (passed_over s.geometry v) s.geometry.blocks p h in
      cases (is_passed r.progress.outcome)
      (λ t. rw t (tables_run_keeps v.marked (union_to v.carried r.invalid s.geometry.blocks) (max v.greatest r.numbers.greatest) v.old r.progress here))
      (λ t. rw t here)

  status_run_keeps : (state : State) (v : Survey) (p : Progress) → P (status_on s p) → P (status_run s state v p).progress
  unfolding status_run after_status
  status_run_keeps state v p h =
      cases (is_passed (status_on s p).outcome) (λ t. rw t (round_run_keeps v (status_on s p) h)) (λ t. rw t h)

  reads_run_keeps : (state : State) (p : Progress) → P p → (P (blocks_read Full s s.geometry.blocks p) → P (status_on s (blocks_read Full s s.geometry.blocks p)))
      → P (reads_run s state p).progress
  unfolding reads_run
  reads_run_keeps state p h shown =
      let q = blocks_read Full s s.geometry.blocks p in
      let here = blocks_keep Full s P k s.geometry.blocks p h in
      cases (is_passed q.outcome)
      (λ t. rw t (status_run_keeps state (surveyed s.geometry q.line.chip.array) q (shown here)))
      (λ t. rw t here)

  -- all of it, where its status read keeps it
  pub format_keeps : (d : Device) (n : ℕ) (state : State) → P (progress (call_line d n) Passed [] []) → (P (reads_done s d n) → P (status_on s (reads_done s d n)))
      → P (format_run s d n state).progress
  format_keeps d n state h shown =
      reads_run_keeps state (reset_on s (progress (call_line d n) Passed [] [])) (k.reset (progress (call_line d n) Passed [] []) h) shown

module _ (s : Setting) (d : Device) (n : ℕ) (mask_bytes : Bytes s.mask) (array_bytes : Bytes d.array) (t : sized_for s d ≡ true) (state : State) where
  counted : length (format_run s d n state).progress.cycles + (format_run s d n state).progress.line.left ≡ n
  counted = format_keeps s _ (allowance_kept s n) d n state (omega arith) (λ e. status_counts s (reads_done s d n) ∙ e)

  abbrev left : FormatLeft s d n state (format_run s d n state)
  left = format_leaves s d n t state mask_bytes array_bytes

  acknowledged : (format_run s d n state).answer ≡ 0 → Acknowledged s (end_of_run n (format_run s d n state))
  acknowledged z =
      let c = left.called z in
      let f = left.formatted z in
      record {
        formatted = f;
        counts_mounted = ap (λ (st : State). mounted st s.geometry.blocks s.geometry.logical) f.state_is
            ∙ full_mounted s.geometry c.is_valid (format_run s d n state).progress.line.chip.array c.array_long f.mounts;
        still_sized = called_sized s (format_run s d n state).progress.line c;
        still_ready = c.ready;
      }

  played : Replayed s (call_line d n).chip (format_run s d n state).progress.line.chip (format_run s d n state).progress.cycles
  played = replayed s (call_line d n).chip (format_run s d n state).progress (format_keeps s _ (leads_kept s (call_line d n).chip) d n state (leads_first s (call_line d n)) (leads_status s (call_line d n).chip (reads_done s d n))) left.legal

  run_ends : Formatting s d n state (end_of_run n (format_run s d n state))
  run_ends =
      record {
        legal = left.legal;
        replayed = played;
        sizes_kept = lengths_sized s played.same_lengths ∙ t;
        answers = left.answers;
        worn_by = left.worn_by;
        worn_so = left.worn_so;
        worn_out = left.worn_out;
        spent_exactly = left.spent_exactly;
        spent_by = left.spent_by;
        silent_by = left.silent_by;
        marked_kept = left.marked_kept;
        marks_same = left.marks;
        acknowledged = acknowledged;
        lists_are = λ z b h. (left.formatted z).lists_are b h ∙ sym (left.failures z b h);
        carried_kept = left.carried_kept;
        sent_is = omega (arith, counted);
        sent-most = omega (arith, left.spent);
        cut_at = λ z. omega (arith, left.used_up z);
        stopped_so = left.stopped_so;
        protected_exactly = left.protected_exactly;
        unwritten = left.unwritten;
      }

  pub format_ends : Formatting s d n state (formatting s d n state)
  unfolding result_of format_request
  format_ends = subst (Formatting s d n state) {x = end_of_run n (format_run s d n state)} (rw t) run_ends

-- sizes that do not go together
pub format_refused : (s : Setting) (d : Device) (n : ℕ) (state : State) → sized_for s d ≡ false → (formatting s d n state).answer ≡ 1
unfolding result_of format_request
format_refused s d n state f = rw f

-- of any chip, from any state, with any fates, mask and allowance
pub format_acknowledged : (s : Setting) (d : Device) (n : ℕ) (state : State) → Bytes s.mask → Bytes d.array → (formatting s d n state).answer ≡ 0 → Acknowledged s (formatting s d n state)
format_acknowledged s d n state mask_bytes array_bytes z =
    cases (sized_for s d)
    (λ t. (format_ends s d n mask_bytes array_bytes t state).acknowledged z)
    (λ f. absurd (omega (arith, z, format_refused s d n state f)))

-- the largest geometry, every operation with 256 status reads
pub format_fits : (g : Geometry) → Valid g → format_most g ≤ 3632840971
format_fits g v =
    let size = page_size_most g v in
    let read : read_most (page_size g) ≤ 4617 = omega (arith, size) in
    let reads = mul-le-mul v.pages_most read in
    let block : block_most g ≤ 295750 = omega (arith, reads) in
    let blocks = mul-le-mul v.blocks_most block in
    let scan = mul-le-mul v.blocks_most reads in
    let page : program_most g ≤ 4616 = omega (arith, size) in
    let pages = mul-le-mul v.pages_most page in
    let fill : table_fill_most g ≤ 295686 = omega (arith, pages) in
    let fills = mul-le-mul v.blocks_most fill in
    omega (arith, scan, blocks, fills)

-- the largest allowance cuts nothing
pub format_uncut : (s : Setting) (d : Device) (state : State) → Bytes s.mask → Bytes d.array → (formatting s d 4294967295 state).answer ≡ 11 → ⊥
format_uncut s d state mask_bytes array_bytes z =
    cases (sized_for s d)
    (λ t.
    let f = format_ends s d 4294967295 mask_bytes array_bytes t state in
    let fits = format_fits s.geometry (sizes s.geometry (length d.array) (length d.register) (length d.history) (length s.mask) t).chip_fits.is_valid in
    omega (arith, f.cut_at z, f.sent-most, fits))
    (λ f. absurd (omega (arith, z, format_refused s d 4294967295 state f)))

-- every answer there is: 1 where the sizes do not go together, and else those of FormatAnswer
pub format_answers : (s : Setting) (d : Device) (n : ℕ) (state : State) → Bytes s.mask → Bytes d.array → ((formatting s d n state).answer ≡ 1) ⊎ FormatAnswer (formatting s d n state).answer
format_answers s d n state mask_bytes array_bytes =
    cases (sized_for s d) (λ t. inr (format_ends s d n mask_bytes array_bytes t state).answers) (λ f. inl (format_refused s d n state f))

not_one : {a : ℕ} → FormatAnswer a → a ≡ 1 → ⊥
not_one is_done z = omega (arith, z)
not_one is_worn z = omega (arith, z)
not_one is_spent z = omega (arith, z)
not_one is_silent_fact z = omega (arith, z)
not_one is_cut z = omega (arith, z)
not_one is_protected_fact z = omega (arith, z)

-- 1 comes exactly where they do not
pub format_unsized : (s : Setting) (d : Device) (n : ℕ) (state : State) → Bytes s.mask → Bytes d.array → ((formatting s d n state).answer ≡ 1) ↔ (sized_for s d ≡ false)
format_unsized s d n state mask_bytes array_bytes =
    (λ z. cases (sized_for s d) (λ t. absurd (not_one (format_ends s d n mask_bytes array_bytes t state).answers z)) (λ f. f), format_refused s d n state)

-- 10 comes only where some fate word of the call has 256 or more busy reads
pub format_silent : (s : Setting) (d : Device) (n : ℕ) (state : State) → Bytes s.mask → Bytes d.array → (formatting s d n state).answer ≡ 10 → Slow s.fates
format_silent s d n state mask_bytes array_bytes z =
    cases (sized_for s d)
    (λ t. (format_ends s d n mask_bytes array_bytes t state).silent_by z)
    (λ f. absurd (omega (arith, z, format_refused s d n state f)))

by_answer : {a : ℕ} → FormatAnswer a → (a ≡ 8 → ⊥) → (a ≡ 9 → ⊥) → (a ≡ 10 → ⊥) → (a ≡ 11 → ⊥) → (a ≡ 13 → ⊥) → a ≡ 0
by_answer is_done x y z w u = refl
by_answer is_worn x y z w u = absurd (x refl)
by_answer is_spent x y z w u = absurd (y refl)
by_answer is_silent_fact x y z w u = absurd (z refl)
by_answer is_cut x y z w u = absurd (w refl)
by_answer is_protected_fact x y z w u = absurd (u refl)

held_most : (o : Pick) → count_of o ≤ 1
unfolding count_of
held_most nothing = omega arith
held_most (at t) = omega arith

module _ (s : Setting) (d : Device) (n : ℕ) (mask_bytes : Bytes s.mask) (array_bytes : Bytes d.array) (t : sized_for s d ≡ true) (state : State) (passing : Failing s.fates → ⊥)
    (enough : s.geometry.logical + 2 ≤ unfailed s.geometry d.array [] s.geometry.blocks) where
  -- where no fate word fails, all unmarked blocks are left
  all_left : (trace : List ArrayOperation) → ((b : ℕ) → b < s.geometry.blocks → failed_in b trace ≡ true → Failing s.fates)
      → s.geometry.logical + 2 ≤ unfailed s.geometry d.array trace s.geometry.blocks
  all_left trace by =
      let none : (b : ℕ) → b < s.geometry.blocks → failed_in b trace ≡ false = λ b h. cases (failed_in b trace) (λ y. absurd (passing (by b h y))) (λ f. f) in
      omega (arith, enough, all_unfailed s.geometry d.array trace s.geometry.blocks none)

  not_worn : (format_run s d n state).answer ≡ 8 → ⊥
  not_worn z =
      let l = left s d n mask_bytes array_bytes t state in
      ⊎_elim
      (λ less. omega (arith, less, all_left (round_done s d n).started l.round_failed))
      (λ none. omega (arith, none, all_left (format_run s d n state).progress.started l.failed_by_fact, held_most (carried_table s.geometry d.array)))
      (l.worn_by z)

-- with the line high, N + 2 unmarked blocks that are not carried over, a number left above those on the chip, no fate word that fails or is slow, and an allowance above
-- the most that a formatting sends, it is acknowledged
pub format_done : (s : Setting) (d : Device) (n : ℕ) (state : State) → Bytes s.mask → Bytes d.array → sized_for s d ≡ true → d.interface.protected ≡ 0 → (Slow s.fates → ⊥) → (Failing s.fates → ⊥)
    → s.geometry.logical + 2 ≤ unfailed s.geometry d.array [] s.geometry.blocks → greatest_below s.geometry d.array s.geometry.blocks + 1 < number_end → format_most s.geometry < n
    → (formatting s d n state).answer ≡ 0
unfolding result_of format_request
format_done s d n state mask_bytes array_bytes t high fast passing enough numbered h =
    let f = run_ends s d n mask_bytes array_bytes t state in
    rw t
    (by_answer f.answers (not_worn s d n mask_bytes array_bytes t state passing enough) (λ z. ⊎_elim (λ e. omega (arith, e, numbered)) passing (f.spent_by z)) (λ z. fast (f.silent_by z))
    (λ z. omega (arith, f.cut_at z, f.sent-most, h)) (λ z. (f.unwritten z).low high))
