-- Every mount ends as Mounting tells, and sends fewer cycles than the allowance that cuts nothing. Assumes nothing.
use Prim.Native.Nat.{ℕ, ◌+◌, ◌*◌, ◌≤◌, ◌<◌}
use mathlib.Core.Bool.{Bool, true, false, cond}
use mathlib.Core.List.{List, []}
use mathlib.Core.Logic.{⊎_elim}
use mathlib.Core.Path.{◌≡◌, refl, ap, subst}
use mathlib.Core.Logic.{◌⊎◌, ◌↔◌, inl, inr, ⊎_elim}
use mathlib.Core.Path.{◌≡◌, refl, sym, ap, subst, ◌∙◌}
use native.Mathlib.Nat.{mul-le-mul}
use native.Mathlib.Omega.{arith}
use borrow.Table.Steps.{cases}
use borrow.Author.Tests.{eq-eqb}
use lib.ListN.{length}
use Rattle.geometry.specs.declared.Geometry.{Geometry}
use Rattle.geometry.specs.Limits.{Valid}
use Rattle.geometry.specs.Sizes.{page_size, chip_size}
use Rattle.geometry.proofs.SizeLaws.{page_size_most}
use Rattle.chip_array.specs.Device.{Device, Setting, Fitting}
use Rattle.bus_polling.specs.Outcomes.{is_passed}
use Rattle.bus_polling.specs.declared.Outcome.TheVariants.{Passed}
use Rattle.copies.specs.Blocks.{block_in, is_marked}
use Rattle.copies.specs.Current.{current_table, judge_table, mount_answer, clashes}
use Rattle.copies.specs.Pick.{Pick, nothing, at}
use Rattle.copies.specs.Table.{lists, right_table}
use Rattle.scan_summary.specs.declared.Depth.{Depth}
use Rattle.scan_summary.specs.declared.Depth.TheVariants.{Full, Quick}
use Rattle.state.specs.State.{blank, mounted}
use Rattle.state.specs.declared.State.{State}
use Rattle.request.specs.Call.{sized_for, call_line, stop_answer, end_at, result_of}
use Rattle.request.proofs.CallLaws.{sizes, stop_answer_lem, stop_cut, stop_silent}
use Rattle.progress.specs.Progress.{Progress, progress, reset_on}
use Rattle.bus.specs.Line.{Line}
use Rattle.progress.specs.Kept.{Kept}
use Rattle.progress.proofs.CountLaws.{allowance_kept}
use Rattle.scan.proofs.KeepLaws.{blocks_keep}
use Rattle.bus_polling.proofs.OutcomeLaws.{passed_answered}
use Rattle.mount.specs.Mount.{state_after, mount_run, mount_end, mount_request, mounting}
use Rattle.damage.specs.Replay.{Replayed}
use Rattle.damage.proofs.ReplayLaws.{leads_first, leads_kept, replayed, lengths_sized}
use Rattle.damage.specs.Run.{Unchanged, read_most, scan_most, Slow}
use Rattle.damage.proofs.ReadLaws.{blocks_unchanged, blocks_spend, reset_unchanged, reset_spends}
use Rattle.mount_laws.proofs.StateLaws.{mounted-state}
use Rattle.mount_laws.specs.Mounting.{mount_most, MountAnswer, is_done, is_missing, is_wrong, is_clash, is_silent_fact, is_cut, Mounting}

-- 0, 4, 5 or 6
abbrev pub Judged : ℕ → Type 0
Judged a = MountAnswer a × (a ≤ 6)

three_tests : (a b c : Bool) → Judged (cond a (cond b 5 (cond c 6 0)) 5)
three_tests true true c = (is_wrong, omega arith)
three_tests true false true = (is_clash, omega arith)
three_tests true false false = (is_done, omega arith)
three_tests false b c = (is_wrong, omega arith)

judged : (g : Geometry) (array : List ℕ) (o : Pick) → Judged (judge_table g array o)
unfolding judge_table
judged g array nothing = (is_missing, omega arith)
judged g array (at t) =
    three_tests (right_table g (λ b. is_marked g (block_in g array b)) (block_in g array t)) (lists g (block_in g array t) t) (clashes g array t g.blocks)

pub answer_judged : (g : Geometry) (array : List ℕ) → Judged (mount_answer g array)
unfolding mount_answer
answer_judged g array = judged g array (current_table g array)

-- what every operation keeps, a mount keeps
pub mount_keeps : (depth : Depth) (s : Setting) (P : Progress → Type 0) → Kept s P → (l : Line) → P (progress l Passed [] []) → P (mount_run depth s l)
mount_keeps depth s P k l h = blocks_keep depth s P k s.geometry.blocks (reset_on s (progress l Passed [] [])) (k.reset (progress l Passed [] []) h)

module _ (depth : Depth) (s : Setting) (d : Device) (n : ℕ) (t : sized_for s d ≡ true) where
  abbrev g : Geometry
  g = s.geometry

  abbrev run : Progress
  run = mount_run depth s (call_line d n)

  fitted : Fitting g (length d.array) (length d.register) (length d.history)
  fitted = (sizes g (length d.array) (length d.register) (length d.history) (length s.mask) t).chip_fits

  v : Valid g
  v = fitted.is_valid

  same : Unchanged s d.array d.history run
  same = blocks_unchanged s d.array d.history v depth g.blocks (omega arith) _ (reset_unchanged s d n t)

  few : n ≤ run.line.left + mount_most depth g
  few = omega (arith, reset_spends s d n t, blocks_spend s d.array d.history v depth g.blocks (omega arith) _ (reset_unchanged s d n t))

  counted : length run.cycles + run.line.left ≡ n
  counted = mount_keeps depth s _ (allowance_kept s n) (call_line d n) (omega arith)

  played : Replayed s (call_line d n).chip run.line.chip run.cycles
  played = replayed s (call_line d n).chip run (mount_keeps depth s _ (leads_kept s (call_line d n).chip) (call_line d n) (leads_first s (call_line d n))) same.sound.legal

  run_sized : sized_for s run.line.chip ≡ true
  run_sized = lengths_sized s played.same_lengths ∙ t

  run_long : length run.line.chip.array ≡ chip_size g
  run_long = ap length same.same_array ∙ fitted.array_long

  -- the state after the answer 0 counts as mounted
  run_mounted : mount_answer g run.line.chip.array ≡ 0
      → mounted (state_after depth g run.line.chip.array (mount_answer g run.line.chip.array)) g.blocks g.logical ≡ true
  unfolding state_after
  run_mounted z = rw (eq-eqb (mount_answer g run.line.chip.array) 0 z) (mounted-state depth g v run.line.chip.array run_long z)

  abbrev given : ℕ
  given = mount_answer g d.array

  array_is : mount_answer g run.line.chip.array ≡ given
  array_is = ap (mount_answer g) same.same_array

  -- the scan passed
  scanned : is_passed run.outcome ≡ true → Mounting depth s d n (end_at n (mount_answer g run.line.chip.array) (state_after depth g run.line.chip.array (mount_answer g run.line.chip.array)) run.line)
  scanned y =
      let given-answer = answer_judged g run.line.chip.array in
      let small = given-answer.1 in
      record {
        legal = same.sound.legal;
        replayed = played;
        sizes_kept = run_sized;
        same_array = same.same_array;
        same_history = same.same_history;
        stops = λ x. absurd (⊎_elim (λ e. omega (arith, e, small)) (λ e. omega (arith, e, small)) x);
        answer_is = λ a b. array_is;
        state_is = λ a b. ap (λ (x : List ℕ). state_after depth g x (mount_answer g x)) same.same_array;
        answers = given-answer.0;
        counts_mounted = run_mounted;
        still_ready = λ z. (same.sound.called (passed_answered run.outcome y)).ready;
        sent_is = omega (arith, counted);
        sent-most = omega (arith, few);
        silent_by = λ z. absurd (omega (arith, z, small));
        cut_at = λ z. absurd (omega (arith, z, small));
      }

  -- it did not
  cut_off : is_passed run.outcome ≡ false → Mounting depth s d n (end_at n (stop_answer run.outcome) (blank 2) run.line)
  cut_off f =
      let which = stop_answer_lem run.outcome same.ends f in
      let not_zero : stop_answer run.outcome ≡ 0 → ⊥ = λ z. ⊎_elim (λ e. omega (arith, e, z)) (λ e. omega (arith, e, z)) which in
      record {
        legal = same.sound.legal;
        replayed = played;
        sizes_kept = run_sized;
        same_array = same.same_array;
        same_history = same.same_history;
        stops = λ x. refl;
        answer_is = λ a b. absurd (⊎_elim a b which);
        state_is = λ a b. absurd (⊎_elim a b which);
        answers = ⊎_elim (λ e. subst MountAnswer (sym e) is_silent_fact) (λ e. subst MountAnswer (sym e) is_cut) which;
        counts_mounted = λ z. absurd (not_zero z);
        still_ready = λ z. absurd (not_zero z);
        sent_is = omega (arith, counted);
        sent-most = omega (arith, few);
        silent_by = λ z. same.sound.silent_by (stop_silent run.outcome z);
        cut_at = λ z. omega (arith, same.sound.used_up (stop_cut run.outcome z));
      }

  pub mount_ends : (state : State) → Mounting depth s d n (mounting depth s d n state)
  unfolding result_of mount_request mount_end
  mount_ends state =
      cases (is_passed run.outcome)
      (λ y. subst (Mounting depth s d n) (rw (t, y)) (scanned y))
      (λ f. subst (Mounting depth s d n) (rw (t, f)) (cut_off f))

-- the largest geometry, every operation with 256 status reads
pub mount_fits : (g : Geometry) → Valid g → mount_most Full g ≤ 1210318851
unfolding scan_most
mount_fits g v =
    let page : read_most (page_size g) ≤ 4617 = omega (arith, page_size_most g v) in
    let block = mul-le-mul v.pages_most page in
    let all = mul-le-mul v.blocks_most block in
    omega (arith, all)

pub quick_mount_fits : (g : Geometry) → Valid g → mount_most Quick g ≤ 1211408387
unfolding scan_most
quick_mount_fits g v =
    let page : read_most (page_size g) ≤ 4617 = omega (arith, page_size_most g v) in
    let block : g.pages * read_most (page_size g) + read_most 1 ≤ 295754 = omega (arith, mul-le-mul v.pages_most page) in
    let all = mul-le-mul v.blocks_most block in
    omega (arith, all)

any_fits : (depth : Depth) (g : Geometry) → Valid g → mount_most depth g < 4294967295
any_fits Full g v = omega (arith, mount_fits g v)
any_fits Quick g v = omega (arith, quick_mount_fits g v)

-- sizes that do not go together
pub mount-refused : (depth : Depth) (s : Setting) (d : Device) (n : ℕ) (state : State) → sized_for s d ≡ false → (mounting depth s d n state).answer ≡ 1
unfolding result_of mount_request
mount-refused depth s d n state f = rw f

-- the largest allowance cuts nothing
pub mount_uncut : (depth : Depth) (s : Setting) (d : Device) (state : State) → (mounting depth s d 4294967295 state).answer ≡ 11 → ⊥
mount_uncut depth s d state z =
    cases (sized_for s d)
    (λ t.
    let m = mount_ends depth s d 4294967295 t state in
    let fits = any_fits depth s.geometry (v depth s d 4294967295 t) in
    omega (arith, m.cut_at z, m.sent-most, fits))
    (λ f. absurd (omega (arith, z, mount-refused depth s d 4294967295 state f)))

-- every answer there is: 1 where the sizes do not go together, and else those of MountAnswer
pub mount_answers : (depth : Depth) (s : Setting) (d : Device) (n : ℕ) (state : State) → ((mounting depth s d n state).answer ≡ 1) ⊎ MountAnswer (mounting depth s d n state).answer
mount_answers depth s d n state =
    cases (sized_for s d) (λ t. inr (mount_ends depth s d n t state).answers) (λ f. inl (mount-refused depth s d n state f))

not_one : {a : ℕ} → MountAnswer a → a ≡ 1 → ⊥
not_one is_done z = omega (arith, z)
not_one is_missing z = omega (arith, z)
not_one is_wrong z = omega (arith, z)
not_one is_clash z = omega (arith, z)
not_one is_silent_fact z = omega (arith, z)
not_one is_cut z = omega (arith, z)

-- 1 comes exactly where they do not
pub mount_unsized : (depth : Depth) (s : Setting) (d : Device) (n : ℕ) (state : State) → ((mounting depth s d n state).answer ≡ 1) ↔ (sized_for s d ≡ false)
mount_unsized depth s d n state =
    (λ z. cases (sized_for s d) (λ t. absurd (not_one (mount_ends depth s d n t state).answers z)) (λ f. f), mount-refused depth s d n state)

-- 10 comes only where some fate word of the call has 256 or more busy reads
pub mount_silent : (depth : Depth) (s : Setting) (d : Device) (n : ℕ) (state : State) → (mounting depth s d n state).answer ≡ 10 → Slow s.fates
mount_silent depth s d n state z =
    cases (sized_for s d)
    (λ t. (mount_ends depth s d n t state).silent_by z)
    (λ f. absurd (omega (arith, z, mount-refused depth s d n state f)))

-- with no such word and an allowance above the most that a mount sends, the definitions on the array give the answer
pub mount_heard : (depth : Depth) (s : Setting) (d : Device) (n : ℕ) (state : State) → sized_for s d ≡ true → (Slow s.fates → ⊥) → mount_most depth s.geometry < n
    → (mounting depth s d n state).answer ≡ mount_answer s.geometry d.array
mount_heard depth s d n state t fast h =
    let m = mount_ends depth s d n t state in m.answer_is (λ z. fast (m.silent_by z)) (λ z. omega (arith, m.cut_at z, m.sent-most, h))
