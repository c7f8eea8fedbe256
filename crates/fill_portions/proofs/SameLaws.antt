-- A write finished in any portions is the plain write. Assumes nothing.
use Prim.Native.Nat.{ℕ, ◌+◌, ◌-◌, ◌≤◌}
use mathlib.Core.Bool.{Bool, true, false, cond}
use mathlib.Core.List.{List, []}
use mathlib.Core.Option.{some}
use mathlib.Core.Path.{◌≡◌, refl, sym, ap, subst, ◌∙◌}
use native.Mathlib.Omega.{arith}
use borrow.Table.Steps.{cases}
use borrow.Author.Tests.{eq-eqb, eqb-true, eqb-false, le-ltb, ltb-false}
use lib.Dec.{eqb, ltb}
use lib.ListN.{length, replicate, length-append, length-replicate}
use lib.Seq.{take_at}
use Rattle.geometry.specs.declared.Geometry.{Geometry}
use Rattle.chip_interface.specs.Interface.{output_phase, fate_word}
use Rattle.chip_array.specs.Device.{Device, Setting, setting}
use Rattle.bus_polling.specs.Outcomes.{is_passed, is_silent, is_cut_off, is_protected, answered}
use Rattle.bus_polling.specs.declared.Outcome.{Outcome}
use Rattle.bus_polling.specs.declared.Outcome.TheVariants.{Passed, Cut, Protected}
use Rattle.bus_polling.proofs.OutcomeLaws.{passed_answered}
use Rattle.operations.specs.Ends.{Called}
use Rattle.progress.specs.Progress.{Progress, progress}
use Rattle.progress.proofs.StatusLaws.{StatusLeft, status_leaves, status_keeps}
use Rattle.state.specs.State.{mounted}
use Rattle.state.specs.declared.State.{State}
use Rattle.state.proofs.MountedLaws.{mounted_facts}
use Rattle.request.specs.Call.{Result, result_of, sized_for, call_line, stop_answer, status_answer}
use Rattle.request.proofs.CallLaws.{stop_least}
use Rattle.request_refusals.specs.Refusals.{refusal_of}
use Rattle.request_refusals.proofs.RefusalLaws.{Accepted, accepts}
use Rattle.write_changes.specs.Changes.{Update, write_update, change_run, change_first, write_request, writing}
use Rattle.fill_tables.specs.Tables.{Tabled, end_of_run, after_status}
use Rattle.fill_tables.proofs.StatusLaws.{after_passed, after-stopped}
use Rattle.fill_cursor.specs.Cursor.{running}
use Rattle.fill_driver.specs.Driver.{Ran, ran_to}
use Rattle.fill_laws.proofs.ChangeLaws.{update_cursor, change_ran}
use Rattle.fill_laws.proofs.TableLaws.{end_of}
use Rattle.open_write.specs.Open.{OpenState, open_state, no_write, open_fits, is_opened, opened_with, closed}
use Rattle.open_write.specs.Requests.{OpenResult, open_result, open_at, open_refusal, open_request, opening_write, stops, open_write_request, writing_open, Advanced}
use Rattle.bools.proofs.BoolLaws.{clash}
use Rattle.fill_portions.specs.Portions.{Between, portions, without_reads}
use Rattle.fill_portions.specs.Same.{AsPlain, SameAs, unopened, PortionsSame, PortionsPlain, WaysAgree, ReadsBetween}
use Rattle.fill_portions.proofs.BesideLaws.{call_called}
use Rattle.fill_portions.proofs.PositionLaws.{Standing, programs_most}
use Rattle.fill_portions.proofs.PortionLaws.{Finishes, portions_from}
use Rattle.fill_portions.proofs.BetweenLaws.{Ends, ends_without}

status_some : (o : Outcome) → status_answer o ≡ 0 → ⊥
unfolding status_answer
status_some o z = cases (is_protected o) (λ t. omega (arith, rw t at z)) (λ t. omega (arith, stop_least o, rw t at z))

-- an opening that is answered 0
module _ (s : Setting) (d : Device) (n : ℕ) (x : OpenState) (logical page : ℕ) (bytes : List ℕ) (zero_is : (opening_write s d n x logical page bytes).answer ≡ 0) where
  abbrev barred : ℕ
  barred = open_refusal s.geometry (sized_for s d) x (is_opened x)

  abbrev refused : ℕ
  refused = refusal_of s d x.state logical page bytes

  abbrev first : Progress
  first = change_first s d n

  record Opens : Type 0 where
    unbarred : barred ≡ 0
    unrefused : refused ≡ 0
    passed : is_passed first.outcome ≡ true
    is : opening_write s d n x logical page bytes ≡ open_at n 0 (opened_with logical page bytes x) first.line

  opens : Opens
  unfolding result_of open_request
  opens =
      cases (eqb barred 0)
      (λ b.
      cases (eqb refused 0)
      (λ r.
      cases (is_passed first.outcome)
      (λ t. record { unbarred = eqb-true barred 0 b; unrefused = eqb-true refused 0 r; passed = t; is = rw (b, r, t) })
      (λ t. absurd (status_some first.outcome (rw (b, r, t) at zero_is))))
      (λ r. absurd (eqb-false refused 0 r (rw (b, r) at zero_is))))
      (λ b. absurd (eqb-false barred 0 b (rw b at zero_is)))

-- a status read that passed: two cycles were allowed, and the line is high
status_high : (k line : ℕ) (o : Outcome) → o ≡ cond (ltb k 2) Cut (cond (eqb line 0) Passed Protected) → is_passed o ≡ true → (2 ≤ k) × (line ≡ 0)
unfolding is_passed
status_high k line o e t =
    cases (ltb k 2)
    (λ u. clash t (ap is_passed e ∙ rw u))
    (λ u. cases (eqb line 0) (λ v. (ltb-false k 2 u, eqb-true line 0 v)) (λ v. clash t (ap is_passed e ∙ rw (u, v))))

module _ (g : Geometry) (mask fates : List ℕ) (d : Device) (x : OpenState) (logical page : ℕ) (bytes : List ℕ) (n allowed : ℕ) (ready : d.interface.phase ≤ output_phase) (size : length x.state.invalid ≡ 512)
    (zero_is : (opening_write (setting g mask fates) d allowed x logical page bytes).answer ≡ 0) where
  abbrev s : Setting
  s = setting g mask fates

  abbrev st : State
  st = x.state

  abbrev u : Update
  u = write_update st logical page bytes

  abbrev start : ℕ → Progress
  start k = progress (call_line d k) Passed [] []

  opening : Opens s d allowed x logical page bytes zero_is
  opening = opens s d allowed x logical page bytes zero_is

  accepted : Accepted g (sized_for s d) st logical page (length bytes)
  accepted = accepts g (sized_for s d) st logical page (length bytes) opening.unrefused

  called : (k : ℕ) → Called s (call_line d k)
  called k = call_called s d k accepted.sizes_fit ready

  status : (k : ℕ) → StatusLeft s (start k) (change_first s d k)
  unfolding is_passed
  status k = status_leaves s (start k) refl (called k)

  high : d.interface.protected ≡ 0
  high = (status_high allowed d.interface.protected (change_first s d allowed).outcome (status allowed).outcome_is opening.passed).1

  two_allowed : 2 ≤ allowed
  two_allowed = (status_high allowed d.interface.protected (change_first s d allowed).outcome (status allowed).outcome_is opening.passed).0

  page-long : length x.page ≡ 4096
  unfolding open_refusal open_fits
  page-long =
      cases (eqb (length x.page) 4096)
      (λ t. eqb-true (length x.page) 4096 t)
      (λ t. absurd (wrong (mounted st g.blocks g.logical) (rw (accepted.sizes_fit, t) at opening.unbarred)))
    where
      wrong : (b : Bool) → ◌≡◌ {A = ℕ} (cond (cond b false false) (cond (is_opened x) 15 0) 7) 0 → ⊥
      wrong true z = omega (arith, z)
      wrong false z = omega (arith, z)

  -- the plain write, past its status read
  module _ (uncut : (writing s d n st logical page bytes).answer ≡ 11 → ⊥) where
    abbrev begun : Progress
    begun = change_first s d n

    abbrev w : Tabled
    w = change_run s st u begun

    abbrev fin : Ran
    fin = ran_to w.progress (end_of w)

    plain_is : writing s d n st logical page bytes ≡ end_of_run n (after_status st begun w)
    unfolding result_of write_request
    plain_is = rw (eq-eqb (refusal_of s d st logical page bytes) 0 opening.unrefused)

    two : 2 ≤ n
    unfolding status_answer stop_answer is_passed is_protected is_silent is_cut_off
    two =
        cases (ltb n 2)
        (λ t.
        let cut : begun.outcome ≡ Cut = (status n).outcome_is ∙ rw t in
        let stop = after-stopped st begun w (ap is_passed cut) in
        absurd (uncut (ap (λ (r : Result). r.answer) (plain_is ∙ ap (end_of_run n) stop) ∙ ap status_answer cut)))
        (λ t. ltb-false n 2 t)

    passed : begun.outcome ≡ Passed
    passed = (status n).outcome_is ∙ rw (le-ltb n 2 two, high)

    plain_ends : writing s d n st logical page bytes ≡ end_of_run n w
    unfolding is_passed
    plain_ends = plain_is ∙ ap (end_of_run n) (after_passed st begun w (ap is_passed passed))

    -- where the write is opened, the plain one takes its first number
    stands_first : Standing g mask fates bytes fin fates (opened_with logical page bytes x) (change_first s d allowed).line.chip (running (update_cursor u) st) begun
    unfolding is_passed answered
    stands_first =
        let v = (called n).is_valid in
        let m = mounted_facts st g.blocks g.logical v.blocks_most accepted.is_mounted in
        let first_called : Called s begun.line = (status n).next_called (ap answered passed) in
        let open-called : Called s (change_first s d allowed).line = (status allowed).next_called (passed_answered (change_first s d allowed).outcome opening.passed) in
        record {
          going = omega arith;
          no_erase = λ e. omega (arith, e);
          stands = record {
            goes = record {
              fits = record { step_most = omega arith; logical_below = accepted.logical_below; bytes_long = omega (arith, accepted.buffer_long); page_below = omega (arith, v.pages_least); block_below = λ z. absurd (omega (arith, z)) };
              last_below = m.last_below;
            };
            in_order = λ e. absurd (omega (arith, e));
            shape = record { invalid_long = size; one_page = refl; unanswered = refl };
          };
          passed = ap is_passed passed;
          called = first_called;
          high = status_keeps s (start n) ∙ high;
          rest = λ k. change_ran s v u st begun (k + programs_most g) size m.last_below (omega arith);
          opened = refl;
          same_state = refl;
          same_cursor = refl;
          page_is = take_at bytes (replicate (length x.page - length bytes) 0) g.main accepted.buffer_long;
          same_array = (status allowed).same_array ∙ sym (status n).same_array;
          same_history = (status allowed).same_history ∙ sym (status n).same_history;
          same_line = status_keeps s (start allowed) ∙ high;
          ready = open-called.ready;
          words = λ k. ap (λ (i : ℕ). fate_word fates (i + k)) (sym (status n).same_fate);
        }

    same_length : length (opened_with logical page bytes x).page ≡ length x.page
    same_length =
        let v = (called n).is_valid in
        length-append bytes (replicate (length x.page - length bytes) 0)
        ∙ ap (λ (k : ℕ). length bytes + k) (length-replicate {A = ℕ} (length x.page - length bytes) 0)
        ∙ omega (arith, page-long, accepted.buffer_long, v.main_most)

    module _ (calls : List Between) (a : Advanced)
        (e : portions g mask fates calls (opening_write s d allowed x logical page bytes).state (opening_write s d allowed x logical page bytes).chip ≡ some a) (uncut' : a.returned.answer ≡ 11 → ⊥) where
      finishes : (fin.running.cursor.answer ≡ 11 → ⊥) → Finishes fin (opened_with logical page bytes x).page begun.line.left a
      finishes f =
          portions_from g mask fates bytes fin f calls fates _ _ _ _ stands_first a
          (sym (ap (λ (o : OpenResult). portions g mask fates calls o.state o.chip) opening.is) ∙ e) uncut'

      same : AsPlain (writing s d n st logical page bytes) x (opening_write s d allowed x logical page bytes).sent a
      same =
          let k = finishes (λ z. uncut (ap (λ (r : Result). r.answer) plain_ends ∙ z)) in
          let answer = ap (λ (r : Result). r.answer) plain_ends in
          record {
            same_answer = k.answer_is ∙ sym answer;
            same_state = k.state_is ∙ ap (λ (i : ℕ). open_state w.state no_write (replicate i 0)) same_length ∙ sym (ap (λ (r : Result). closed r.state x) plain_ends);
            same_array = k.array_is ∙ sym (ap (λ (r : Result). r.chip.array) plain_ends);
            same_history = k.history_is ∙ sym (ap (λ (r : Result). r.chip.history) plain_ends);
            same_cycles = omega (
              arith,
              k.sent_is,
              ap (λ (o : OpenResult). o.sent) opening.is,
              ap (λ (r : Result). r.sent) plain_ends,
              (status n).left_is,
              (status allowed).left_is,
              two,
              two_allowed,
            );
            finished_is = k.finished_is ∙ sym (ap (λ (i : ℕ). cond (eqb i 0) 1 0) answer);
          }

      -- without its reads
      without : Ends g mask fates (without_reads calls) (opening_write s d allowed x logical page bytes).state (opening_write s d allowed x logical page bytes).chip
      without =
          let there : portions g mask fates calls (opened_with logical page bytes x) (change_first s d allowed).line.chip ≡ some a = sym (ap (λ (o : OpenResult). portions g mask fates calls o.state o.chip) opening.is) ∙ e in
          subst (λ (o : OpenResult). Ends g mask fates (without_reads calls) o.state o.chip) (sym opening.is)
          (ends_without g mask fates bytes fin (λ z. uncut (ap (λ (r : Result). r.answer) plain_ends ∙ z)) calls fates fates _ _ _ _ _ _ stands_first stands_first refl refl a there uncut')

-- FINISHING IN ANY PORTIONS, with reads in between
pub portions_same : PortionsSame
portions_same g mask fates d x logical page bytes n allowed calls a ready size zero_is e uncut' uncut =
    same g mask fates d x logical page bytes n allowed ready size zero_is uncut calls a e uncut'

-- any two ways to end it
pub ways_agree : WaysAgree
ways_agree g mask fates d x logical page bytes n allowed calls others a b ready size zero_is e e' f f' uncut =
    let one = portions_same g mask fates d x logical page bytes n allowed calls a ready size zero_is e f uncut in
    let two = portions_same g mask fates d x logical page bytes n allowed others b ready size zero_is e' f' uncut in
    record {
      same_answer = one.same_answer ∙ sym two.same_answer;
      same_state = one.same_state ∙ sym two.same_state;
      same_array = one.same_array ∙ sym two.same_array;
      same_history = one.same_history ∙ sym two.same_history;
      same_cycles = omega (arith, one.same_cycles, two.same_cycles);
    }

-- READS IN BETWEEN CHANGE NOTHING
pub reads_between : ReadsBetween
reads_between g mask fates d x logical page bytes n allowed calls a ready size zero_is e f uncut =
    let w = without g mask fates d x logical page bytes n allowed ready size zero_is uncut calls a e f in
    record { last = w.last; is = w.is; same = ways_agree g mask fates d x logical page bytes n allowed calls (without_reads calls) a w.last ready size zero_is e w.is f w.uncut uncut }

-- the plain write on a state with no write open
module _ (s : Setting) (d : Device) (n allowed : ℕ) (st : State) (logical page : ℕ) (bytes : List ℕ) (zero_is : (opening_write s d allowed (unopened st) logical page bytes).answer ≡ 0) where
  abbrev plain : Result
  plain = writing s d n st logical page bytes

  plain_open : writing_open s d n (unopened st) logical page bytes ≡ open_result plain.answer (unopened plain.state) plain.chip plain.sent
  unfolding result_of open_write_request
  plain_open =
      let o = opens s d allowed (unopened st) logical page bytes zero_is in
      rw (eq-eqb (open_refusal s.geometry (sized_for s d) (unopened st) false) 0 o.unbarred)
      (cases (stops plain.answer) (λ t. rw t) (λ t. rw t))

pub portions-plain : PortionsPlain
portions-plain g mask fates d st logical page bytes n allowed calls a ready size zero_is e f uncut =
    let w = plain_open (setting g mask fates) d n allowed st logical page bytes zero_is in
    let k = portions_same g mask fates d (unopened st) logical page bytes n allowed calls a ready size zero_is e f (λ z. uncut (ap (λ (r : OpenResult). r.answer) w ∙ z)) in
    subst (λ (r : OpenResult). SameAs r (opening_write (setting g mask fates) d allowed (unopened st) logical page bytes).sent a.returned) (sym w)
    (record { same_answer = k.same_answer; same_state = k.same_state; same_array = k.same_array; same_history = k.same_history; same_cycles = k.same_cycles })
