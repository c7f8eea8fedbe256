-- A request is answered 10 exactly where its last array operation has a slow fate word and it is not cut. Assumes nothing.
use Prim.Native.Nat.{ℕ, zero, suc, ◌-◌, ◌≤◌, ◌<◌, max}
use mathlib.Core.Bool.{Bool, true, false, cond}
use mathlib.Core.List.{List, []}
use mathlib.Core.Logic.{◌⊎◌, inl, inr, ⊎_elim}
use mathlib.Core.Path.{◌≡◌, refl, ap, ◌∙◌}
use native.Mathlib.Omega.{arith}
use borrow.Author.Tests.{eqb-true, ltb-true, ltb-false}
use borrow.Table.Steps.{cases}
use lib.Dec.{eqb, ltb}
use lib.ListN.{get_or}
use Rattle.std.specs.Prelude.{Option, Some, None}
use Rattle.bools.proofs.BoolLaws.{clash}
use Rattle.bools.proofs.BoolLaws as bools
use Rattle.geometry.specs.declared.Geometry.{Geometry}
use Rattle.chip_array.specs.Device.{Device, Setting}
use Rattle.bus_polling.specs.Outcomes.{is_passed, is_failed, is_silent, is_cut_off, is_protected}
use Rattle.bus_polling.specs.declared.Outcome.{Outcome}
use Rattle.bus_polling.specs.declared.Outcome.TheVariants.{Passed, Failed, Silent, Cut, Illegal, Protected}
use Rattle.state_choose.specs.Choose.{chosen}
use Rattle.state.specs.State.{none, next_number, numbers_left, spent, held_bits, with_invalid}
use Rattle.state.specs.declared.State.{State}
use Rattle.progress.specs.Progress.{Progress, status_on}
use Rattle.progress.specs.Steps.{erase_on, resumed}
use Rattle.request.specs.Call.{Performed, result_with, result_of, sent_in, unsent, sized_for, call_line, stop_answer, answer_for, status_answer}
use Rattle.request.proofs.CallLaws.{stop_silent, stop_least}
use Rattle.request_refusals.specs.Refusals.{refusal, refusal_of}
use Rattle.request_refusals.proofs.RefusalLaws.{by_refusal}
use Rattle.scan.specs.Scan.{blocks_read}
use Rattle.format_scan.specs.Survey.{surveyed, union_to, passed_over}
use Rattle.format_scan.specs.declared.Survey.{Survey}
use Rattle.fill_tables.specs.Tables.{try_block, try_table, tables_filled, Tabled, after_status}
use Rattle.write_changes.specs.Changes.{Update, write_update, erase_update, copy_filled, Copied, after_try, copy_tried, copies_filled, then_table, change_run, change_call, change_request, write_request, erase_request, change_first}
use Rattle.format_erase.specs.Round.{erased_to}
use Rattle.format.specs.Format.{first_state, too_few, tables_from, after_late, late_run, tables_run, round_run, reads_run, format_run, format_request, status_run}
use Rattle.scan_summary.specs.declared.Depth.{Depth}
use Rattle.scan_summary.specs.declared.Depth.TheVariants.{Full}
use Rattle.mount.specs.Mount.{mount_run, mount_end, mount_request}
use Rattle.mount_laws.proofs.MountingLaws.{answer_judged}
use Rattle.read_page.specs.Fetching.{page_progress, reading_block}
use Rattle.read.specs.Reading.{copy_request, read_request}
use Rattle.fill_cursor.specs.Cursor.{ended, filling, on_block, choice_of, prepared, page_after, filled_whole, unfilled, after_action, programs, is_open_now}
use Rattle.fill_cursor.specs.declared.Cursor.{Cursor}
use Rattle.fill_cursor.specs.declared.Running.{Running}
use Rattle.fill_driver.specs.Driver.{form_now, Ran, performed, gone, acted, ran}
use Rattle.open_write.specs.Open.{OpenState, cursor_of, is_opened}
use Rattle.open_write.specs.Requests.{OpenResult, beside, open_refusal, through, unless, open_read_request, open_write_request, open_erase_request, open_mount_request, open_end, open_request, advance_run, advance_end, advance_request}
use Rattle.recovery.specs.Calls.{Lent, to_mount, to_read, to_write, to_erase, to_identify, to_open, to_advance, LineKept, Store, state_of, setting_of, run_of, chip_of}
use Rattle.recovery_proof.proofs.OpenLaws.{by_open, admits}
use Rattle.recovery_cycles.specs.Starts.{starts_in}
use Rattle.recovery_cycles.specs.Silent.{SlowLast, SilentExactly, SilentCalls}
use Rattle.recovery_cycles.proofs.WaitLaws.{Stopped, stopped_unpassed}
use Rattle.recovery_cycles.proofs.SilentLaws.{HeardFrom, shown_heard, change_heard, advance_heard, format_heard, mount_heard, page_heard}

-- an answer by how the last operation ended
record Told (answer : ℕ) (o : Outcome) : Type 0 where
  by : answer ≡ 10 → is_silent o ≡ true
  so : Stopped o → (answer ≡ 10) ⊎ (answer ≡ 11)

told_stop : (o : Outcome) → Told (stop_answer o) o
unfolding stop_answer is_silent is_cut_off
told_stop o =
    record { by = stop_silent o; so = λ h. ⊎_elim (λ e. inl (ap stop_answer e)) (λ e. inr (ap stop_answer e)) h }

told_passed : (answer : ℕ) (o : Outcome) → is_passed o ≡ true → (answer ≡ 10 → ⊥) → Told answer o
told_passed answer o t x = record { by = λ e. absurd (x e); so = λ h. clash t (stopped_unpassed o h) }

told_for : (o : Outcome) → Told (answer_for o) o
told_for o = cases (is_passed o) (λ t. rw t (told_passed 0 o t (λ e. omega (arith, e)))) (λ t. rw t (told_stop o))

-- a request that has read the status, by what follows
status_stop : (o : Outcome) → is_passed o ≡ false → Told (status_answer o) o
unfolding status_answer is_protected is_passed
status_stop Passed f = clash refl f
status_stop Failed f = told_stop Failed
status_stop Silent f = told_stop Silent
status_stop Cut f = told_stop Cut
status_stop Illegal f = told_stop Illegal
status_stop Protected f = record { by = λ e. absurd (omega (arith, e)); so = λ h. ⊎_elim (λ e. clash refl (ap is_protected e)) (λ e. clash refl (ap is_protected e)) h }

status_told : (state : State) (p : Progress) (rest : Tabled) → (is_passed p.outcome ≡ true → Told rest.answer rest.progress.outcome)
    → Told (after_status state p rest).answer (after_status state p rest).progress.outcome
unfolding after_status
status_told state p rest h =
    cases (is_passed p.outcome) (λ t. rw t (h t)) (λ f. rw f (status_stop p.outcome f))

-- table fills
worn_same : (s : Setting) (st : State) (p : Progress) (c : Option ℕ) → eqb (try_block s st p c).worn 0 ≡ false → (try_block s st p c).progress ≡ p
unfolding try_block
worn_same s st p None h = refl
worn_same s st p (Some b) h = clash refl h

module _ (s : Setting) where
  tables_told : (held : List ℕ) (n : ℕ) (st : State) (p : Progress) → is_passed p.outcome ≡ true → Told (tables_filled s held n st p).answer (tables_filled s held n st p).progress.outcome
  unfolding tables_filled try_table is_passed
  tables_told held zero st p t = told_passed 9 p.outcome t (λ e. omega (arith, e))
  tables_told held (suc n) st p t =
      let r = try_table s held st p in
      cases (eqb r.worn 0)
      (λ w. cases (is_failed r.progress.outcome)
      (λ f. rw (w, f) (tables_told held n r.state (resumed r.progress) refl))
      (λ f. rw (w, f) (told_for r.progress.outcome)))
      (λ w.
      let same = worn_same s st p (chosen st.marked st.invalid held s.geometry.blocks st.last) w in
      rw w (told_passed 8 r.progress.outcome (ap (λ (q : Progress). is_passed q.outcome) same ∙ t) (λ e. omega (arith, e))))

  -- data fills, answered 0 where the last of them passed
  abbrev CopiedTold : Copied → Type 0
  CopiedTold c = Told c.answer c.progress.outcome × (c.answer ≡ 0 → is_passed c.progress.outcome ≡ true)

  try_told : (u : Update) (st : State) (failed : Bool) (p : Progress) (more : State → Progress → Copied) (c : Option ℕ) → is_passed p.outcome ≡ true → ((next : State) (q : Progress) → is_passed q.outcome ≡ true → CopiedTold (more next q))
      → CopiedTold (copy_tried s u st failed p more c)
  unfolding copy_tried after_try is_passed
  try_told u st failed p more None t m = (told_passed 8 p.outcome t (λ e. omega (arith, e)), λ e. absurd (omega (arith, e)))
  try_told u st failed p more (Some b) t m =
      let q = copy_filled s u st b p in
      cases (is_passed q.outcome)
      (λ y. rw y (told_passed 0 q.outcome y (λ e. omega (arith, e)), λ e. y))
      (λ y. cases (is_failed q.outcome)
      (λ f. rw (y, f) (m _ (resumed q) refl))
      (λ f. rw (y, f) (told_stop q.outcome, λ e. absurd (omega (arith, e, stop_least q.outcome)))))

  copies_told : (held : List ℕ) (u : Update) (n : ℕ) (failed : Bool) (st : State) (p : Progress) → is_passed p.outcome ≡ true → CopiedTold (copies_filled s held u n failed st p)
  unfolding copies_filled
  copies_told held u zero failed st p t = (told_passed 9 p.outcome t (λ e. omega (arith, e)), λ e. absurd (omega (arith, e)))
  copies_told held u (suc n) failed st p t =
      try_told u st failed p (copies_filled s held u n true) (chosen st.marked st.invalid held s.geometry.blocks st.last) t
      (λ next q y. copies_told held u n true next q y)

  change_told : (st : State) (u : Update) (p : Progress) → is_passed p.outcome ≡ true → Told (change_run s st u p).answer (change_run s st u p).progress.outcome
  unfolding then_table
  change_told st u p t =
      let c = copies_filled s (held_bits st s.geometry.logical) u (numbers_left st) false st p in
      let here = copies_told (held_bits st s.geometry.logical) u (numbers_left st) false st p t in
      cases (eqb c.answer 0)
      (λ z.
      let passed = here.1 (eqb-true c.answer 0 z) in
      cases c.failed
      (λ f. rw (z, f) (tables_told (held_bits c.state s.geometry.logical) (numbers_left c.state) c.state c.progress passed))
      (λ f. rw (z, f) (told_passed 0 c.progress.outcome passed (λ e. omega (arith, e)))))
      (λ z. rw z here.0)

  -- with the status read before it
  call_told : (d : Device) (n : ℕ) (st : State) (u : Update) → Told (change_call s d n st u).answer (change_call s d n st u).progress.outcome
  call_told d n st u =
      let p = change_first s d n in
      status_told st p (change_run s st u p) (change_told st u p)

  -- a formatting
  late_told : (old : ℕ) (st : State) (e : Progress) → Told (after_late s old st e).answer (after_late s old st e).progress.outcome
  unfolding after_late is_passed
  late_told old st e =
      cases (is_passed e.outcome)
      (λ t. rw t (told_passed 0 e.outcome t (λ x. omega (arith, x))))
      (λ t.
      cases (is_failed e.outcome)
      (λ f. rw (t, f) (tables_told (held_bits (with_invalid old st) s.geometry.logical) (numbers_left (with_invalid old st)) (with_invalid old st) (resumed e) refl))
      (λ f. rw (t, f) (told_stop e.outcome)))

  late_run_told : (old : ℕ) (t : Tabled) → Told t.answer t.progress.outcome → Told (late_run s old t).answer (late_run s old t).progress.outcome
  unfolding late_run
  late_run_told old t h =
      cases (eqb t.answer 0)
      (λ z. cases (ltb old s.geometry.blocks) (λ k. rw (z, k) (late_told old t.state (erase_on s old t.progress))) (λ k. rw (z, k) h))
      (λ z. rw z h)

  tables_run_told : (marked invalid : List ℕ) (greatest old : ℕ) (p : Progress) → is_passed p.outcome ≡ true → Told (tables_run s marked invalid greatest old p).answer (tables_run s marked invalid greatest old p).progress.outcome
  unfolding tables_run
  tables_run_told marked invalid greatest old p t =
      let st = first_state s.geometry marked invalid greatest old in
      cases (too_few s.geometry marked invalid)
      (λ f. rw f (told_passed 8 p.outcome t (λ e. omega (arith, e))))
      (λ f. rw f (late_run_told old (tables_from s st p) (tables_told (held_bits st s.geometry.logical) (numbers_left st) st p t)))

  round_run_told : (v : Survey) (p : Progress) → Told (round_run s v p).answer (round_run s v p).progress.outcome
  unfolding round_run
  round_run_told v p =
      let r = erased_to s (passed_over s.geometry v) s.geometry.blocks p in
      cases (is_passed r.progress.outcome)
      (λ t. rw t (tables_run_told v.marked (union_to v.carried r.invalid s.geometry.blocks) (max v.greatest r.numbers.greatest) v.old r.progress t))
      (λ t. rw t (told_stop r.progress.outcome))

  status_run_told : (state : State) (v : Survey) (p : Progress) → Told (status_run s state v p).answer (status_run s state v p).progress.outcome
  unfolding status_run
  status_run_told state v p = status_told state (status_on s p) (round_run s v (status_on s p)) (λ t. round_run_told v (status_on s p))

  reads_run_told : (state : State) (p : Progress) → Told (reads_run s state p).answer (reads_run s state p).progress.outcome
  unfolding reads_run
  reads_run_told state p =
      let q = blocks_read Full s s.geometry.blocks p in
      cases (is_passed q.outcome)
      (λ t. rw t (status_run_told state (surveyed s.geometry q.line.chip.array) q))
      (λ t. rw t (told_stop q.outcome))

  -- a mount
  mount_told : (depth : Depth) (n : ℕ) (p : Progress) → Told (mount_end depth s n p).answer p.outcome
  unfolding mount_end
  mount_told depth n p =
      cases (is_passed p.outcome)
      (λ t. rw t (told_passed _ p.outcome t (λ e. omega (arith, e, (answer_judged s.geometry p.line.chip.array).1))))
      (λ t. rw t (told_stop p.outcome))

-- a run of the open write: while it goes on all before passed, and it ends with the answer of what it did last
record RunTold (c : Cursor) (o : Outcome) : Type 0 where
  passes : c.phase < 2 → is_passed o ≡ true
  ends : 2 ≤ c.phase → Told c.answer o

ended-told : (answer : ℕ) (o : Outcome) → Told answer o → RunTold (ended answer) o
ended-told answer o t = record { passes = λ h. absurd (omega (arith, h)); ends = λ h. t }

going_told : (c : Cursor) (o : Outcome) → c.phase < 2 → is_passed o ≡ true → RunTold c o
going_told c o h t = record { passes = λ k. t; ends = λ k. absurd (omega (arith, h, k)) }

prepared-told : (g : Geometry) (c : Cursor) (st : State) (o : Outcome) → c.phase < 2 → is_passed o ≡ true → RunTold (prepared g c st).cursor o
unfolding prepared on_block
prepared-told g c st o h t =
    cases (spent st)
    (λ y. rw y (ended-told 9 o (told_passed 9 o t (λ e. omega (arith, e)))))
    (λ y. rw y (on (choice_of g st)))
  where
    on : (x : Option ℕ) → RunTold (on_block c st x).cursor o
    on None = ended-told 8 o (told_passed 8 o t (λ e. omega (arith, e)))
    on (Some b) = going_told (filling b (next_number st) c) o h t

after-told : (pages : ℕ) (c : Cursor) (o : Outcome) → c.phase < 2 → RunTold (after_action pages c o) (gone o)
unfolding after_action filled_whole unfilled gone is_passed is_failed
after-told pages c Passed h =
    cases (ltb (page_after c) pages)
    (λ t. rw t (going_told _ Passed h refl))
    (λ t.
    cases (eqb c.phase 0)
    (λ z. cases (eqb c.failed 0) (λ f. rw (t, z, f) (ended-told 0 Passed (told_passed 0 Passed refl (λ e. omega (arith, e))))) (λ f. rw (t, z, f) (going_told _ Passed (omega arith) refl)))
    (λ z. rw (t, z) (ended-told 0 Passed (told_passed 0 Passed refl (λ e. omega (arith, e))))))
after-told pages c Failed h = going_told _ Passed h refl
after-told pages c Silent h = ended-told _ Silent (told_stop Silent)
after-told pages c Cut h = ended-told _ Cut (told_stop Cut)
after-told pages c Illegal h = ended-told _ Illegal (told_stop Illegal)
after-told pages c Protected h = ended-told _ Protected (told_stop Protected)

run-told : (s : Setting) (bytes : List ℕ) (n left : ℕ) (r : Running) (p : Progress) → RunTold r.cursor p.outcome → let t = ran s bytes n left r p in RunTold t.running.cursor t.progress.outcome
unfolding ran is_open_now acted
run-told s bytes zero left r p w = w
run-told s bytes (suc n) left r p w =
    cases (is_open_now r.cursor left)
    (λ t.
    let h = ltb-true r.cursor.phase 2 (bools.unless (eqb left 0) _ t).1 in
    let next : RunTold (acted s bytes r p).running.cursor (acted s bytes r p).progress.outcome =
    cases (eqb r.cursor.step 0)
    (λ z. rw z (prepared-told s.geometry r.cursor r.state p.outcome h (w.passes h)))
    (λ z. rw z (after-told s.geometry.pages r.cursor (performed s r.cursor (form_now r) r.state.invalid bytes p).outcome h)) in
    rw t (run-told s bytes n (left - programs r.cursor) (acted s bytes r p).running (acted s bytes r p).progress next))
    (λ t. rw t w)

-- a request that has come to p, and one that starts nothing
module _ (s : Setting) (d : Device) where
  exactly : (answer : ℕ) (p : Progress) → HeardFrom s d p → Told answer p.outcome → SilentExactly s d answer p.cycles
  exactly answer p h t =
      (λ z. (h.by (t.by z), λ e. omega (arith, e, z)), λ x. ⊎_elim (λ e. e) (λ e. absurd (x.1 e)) (t.so (h.so x.0)))

  unstarted_exactly : (answer : ℕ) → (answer ≡ 10 → ⊥) → SilentExactly s d answer []
  unfolding starts_in SlowLast
  unstarted_exactly answer x = (λ z. absurd (x z), λ h. absurd h.0)

-- no refusal is 10
refusal_other : (g : Geometry) (fits : Bool) (st : State) (logical page long : ℕ) → refusal g fits st logical page long ≡ 10 → ⊥
refusal_other g fits st logical page long =
    by_refusal g fits st logical page long (λ (k : ℕ). k ≡ 10 → ⊥) (λ a z. omega (arith, z)) (λ a b z. omega (arith, z)) (λ a b c z. omega (arith, z))
    (λ a b c d z. omega (arith, z))
    (λ a b c d e z. omega (arith, z))
    (λ a z. omega (arith, z))

open_other : (g : Geometry) (fits : Bool) (x : OpenState) (barred : Bool) → open_refusal g fits x barred ≡ 10 → ⊥
open_other g fits x barred =
    by_open g fits x barred (λ (k : ℕ). k ≡ 10 → ⊥) (λ a z. omega (arith, z)) (λ a b z. omega (arith, z)) (λ a b c z. omega (arith, z)) (λ a b c z. omega (arith, z))

-- every call of any store
module _ (g : Geometry) (y : Store) (a : Lent) where
  abbrev s : Setting
  s = setting_of g a

  abbrev d : Device
  d = chip_of a y.chip

  abbrev from : Device
  from = (call_line d a.allowed).chip

  abbrev Exactly : Performed OpenResult → Type 0
  Exactly r = SilentExactly s from (result_of r).answer (sent_in r)

  mount_exactly : (depth : Depth) → Exactly (run_of g (to_mount depth a) y)
  unfolding result_of sent_in open_mount_request mount_request
  mount_exactly depth =
      let p = mount_run depth s (call_line d a.allowed) in
      cases (sized_for s d)
      (λ t. rw t (exactly s from (mount_end depth s a.allowed p).answer p (mount_heard s d a.allowed depth) (mount_told s depth a.allowed p)))
      (λ f. rw f (unstarted_exactly s from 1 (λ e. omega (arith, e))))

  read_exactly : (logical page : ℕ) (buffer : List ℕ) → Exactly (run_of g (to_read a logical page buffer) y)
  unfolding open_read_request read_request copy_request reading_block result_of sent_in
  read_exactly logical page buffer =
      let block = get_or y.state.map logical 0 in
      let refused = refusal_of s d y.state logical page buffer in
      let barred = open_refusal g (sized_for s d) (state_of y) false in
      cases (eqb barred 0)
      (λ o.
      cases (eqb refused 0)
      (λ t. cases (eqb block none) (λ u. rw (o, t, u) (unstarted_exactly s from 0 (λ e. omega (arith, e))))
      (λ u. rw (o, t, u) (exactly s from _ (page_progress s d a.allowed block page) (page_heard s d a.allowed block page) (told_for _))))
      (λ f. rw (o, f) (unstarted_exactly s from refused (refusal_other g _ y.state logical page _))))
      (λ o. rw o (unstarted_exactly s from barred (open_other g (sized_for s d) (state_of y) false)))

  change_exactly : (refused : ℕ) (u : Update) → (refused ≡ 10 → ⊥)
      → Exactly (unless (open_refusal g (sized_for s d) (state_of y) (is_opened (state_of y))) (state_of y) d (through (beside (state_of y)) (cond (eqb refused 0) (change_request s d a.allowed y.state u) (unsent (result_with refused y.state d 0)))))
  unfolding result_of sent_in
  change_exactly refused u x =
      let barred = open_refusal g (sized_for s d) (state_of y) (is_opened (state_of y)) in
      cases (eqb barred 0)
      (λ o.
      cases (eqb refused 0)
      (λ t. rw (o, t) (exactly s from _ (change_call s d a.allowed y.state u).progress (change_heard s d a.allowed y.state u) (call_told s d a.allowed y.state u)))
      (λ f. rw (o, f) (unstarted_exactly s from refused x)))
      (λ o. rw o (unstarted_exactly s from barred (open_other g (sized_for s d) (state_of y) (is_opened (state_of y)))))

  -- an opening ends with its status read
  opened_told : (logical page : ℕ) (bytes : List ℕ) (p : Progress) → Told (open_end a.allowed (state_of y) logical page bytes p).answer p.outcome
  opened_told logical page bytes p =
      cases (is_passed p.outcome) (λ t. rw t (told_passed 0 p.outcome t (λ e. omega (arith, e)))) (λ t. rw t (status_stop p.outcome t))

  open_exactly : (logical page : ℕ) (bytes : List ℕ) → Exactly (run_of g (to_open a logical page bytes) y)
  unfolding result_of sent_in open_request
  open_exactly logical page bytes =
      let barred = open_refusal g (sized_for s d) (state_of y) (is_opened (state_of y)) in
      let refused = refusal_of s d y.state logical page bytes in
      cases (eqb barred 0)
      (λ o.
      cases (eqb refused 0)
      (λ t. rw (o, t) (exactly s from _ (change_first s d a.allowed) (shown_heard s d a.allowed) (opened_told logical page bytes (change_first s d a.allowed))))
      (λ f. rw (o, f) (unstarted_exactly s from refused (refusal_other g _ y.state logical page _))))
      (λ o. rw o (unstarted_exactly s from barred (open_other g (sized_for s d) (state_of y) (is_opened (state_of y)))))

  -- an advance by its run
  advanced_told : (t : Ran) → RunTold t.running.cursor t.progress.outcome → Told (advance_end a.allowed (state_of y) t).returned.answer t.progress.outcome
  unfolding advance_end
  advanced_told t w =
      cases (ltb t.running.cursor.phase 2)
      (λ h. rw h (told_passed 0 t.progress.outcome (w.passes (ltb-true t.running.cursor.phase 2 h)) (λ e. omega (arith, e))))
      (λ h. rw h (w.ends (ltb-false t.running.cursor.phase 2 h)))

  first_phase : (cursor_of y.write).phase < 2
  first_phase = cases (eqb y.write.phase 0) (λ z. rw z (omega arith)) (λ z. rw z (omega arith))

  advance_exactly : (most : ℕ) → LineKept (to_advance a most) y → Exactly (run_of g (to_advance a most) y)
  unfolding result_of sent_in advance_request is_passed
  advance_exactly most kept =
      let barred = open_refusal g (sized_for s d) (state_of y) (eqb y.write.opened 0) in
      cases (eqb barred 0)
      (λ o.
      let shut = (admits g (sized_for s d) (state_of y) (eqb y.write.opened 0) (eqb-true barred 0 o)).unbarred in
      let high : a.protected ≡ 0 = kept (rw shut) in
      let t = advance_run s d a.allowed (state_of y) most in
      rw o (exactly s from _ t.progress (advance_heard s d a.allowed high _ _ most _) (advanced_told t (run-told s _ _ most _ _ (going_told (cursor_of y.write) Passed first_phase refl)))))
      (λ o. rw o (unstarted_exactly s from barred (open_other g (sized_for s d) (state_of y) (eqb y.write.opened 0))))

pub silent_exactly : (g : Geometry) (y : Store) → SilentCalls g y
unfolding open_write_request open_erase_request write_request erase_request
silent_exactly g y (to_mount depth a) h kept = mount_exactly g y a depth
silent_exactly g y (to_read a logical page buffer) h kept = read_exactly g y a logical page buffer
silent_exactly g y (to_write a logical page bytes) h kept =
    change_exactly g y a _ (write_update y.state logical page bytes) (refusal_other g _ y.state logical page _)
silent_exactly g y (to_erase a logical) h kept =
    change_exactly g y a _ (erase_update logical) (refusal_other g _ y.state logical 0 _)
silent_exactly g y (to_identify a parameters logical) h kept = absurd h
silent_exactly g y (to_open a logical page bytes) h kept = open_exactly g y a logical page bytes
silent_exactly g y (to_advance a most) h kept = advance_exactly g y a most kept

-- and every formatting
pub format_exactly : (s : Setting) (d : Device) (n : ℕ) (st : State) → SilentExactly s (call_line d n).chip (result_of (format_request s d n st)).answer (sent_in (format_request s d n st))
unfolding result_of sent_in format_request
format_exactly s d n st =
    cases (sized_for s d)
    (λ t. rw t (exactly s _ _ (format_run s d n st).progress (format_heard s d n t st) (reads_run_told s st _)))
    (λ f. rw f (unstarted_exactly s _ _ (λ e. omega (arith, e))))
