-- A program or an erase on a chip whose write-protect line is low: the confirm cycle starts nothing, one status read follows, and it is answered protected.
use Prim.Native.Nat.{ℕ, suc, ◌+◌, ◌-◌, ◌≤◌, ◌<◌}
use mathlib.Core.Bool.{true, false, false≢true}
use mathlib.Core.List.{List, [], ◌∷◌, ◌++◌}
use mathlib.Core.Path.{◌≡◌, refl, sym, ap, ap₂, subst, ◌∙◌}
use native.Mathlib.Omega.{arith}
use borrow.Author.Tests.{eq-eqb, ne_eqb, eqb-true, eqb-false, leb-true, leb-false, ltb-true, ltb-false}
use borrow.Table.Steps.{cases}
use lib.Dec.{eqb, leb, ltb}
use lib.ListN.{length, take, replicate, length-append}
use lib.Seq.{take-append-le, take-append-add}
use Rattle.geometry.specs.Limits.{Valid}
use Rattle.geometry.specs.Sizes.{page_size, block_size, chip_size}
use Rattle.chip_interface.specs.Interface.{in_phase}
use Rattle.chip_array.specs.Device.{Device, Setting, with_interface}
use Rattle.chip.specs.Chip.{Cycle, exec, status_read}
use Rattle.chip.specs.Chip.Cycle.{command, status}
use Rattle.bus.specs.Line.{Line, run, send_all, Legal, Quiet, uncut_line, cut_line}
use Rattle.bus.proofs.LineLaws.{send_all_append, run_append, run_uncut, run_cut, cut_stays}
use Rattle.bus.proofs.LegalLaws.{legal_run, legal_start, legal_take}
use Rattle.bus.proofs.StepLaws.{status_ready}
use Rattle.bus_polling.specs.Outcomes.{answered, guarded}
use Rattle.bus_polling.specs.Polling.{waiting, polls, status_reads, outcome_of, answer_of}
use Rattle.bus_sequences.specs.Cycles.{started_cycles}
use Rattle.operations.specs.Ends.{Called, End, answer_end, protected_end}
use Rattle.operations.proofs.EndLaws.{same_end}

-- what the confirm cycle of a program or an erase leaves where it starts nothing
pub record Unstarted (s : Setting) (d : Device) (first : List Cycle) (start : Cycle) (d₂ : Device) : Type 0 where
  pub confirm : exec s (run s d first) start ≡ d₂
  pub ready : d₂.interface.phase ≤ 2
  pub legal : d₂.interface.illegal ≡ 0
  pub failed : d₂.interface.failed ≡ 1
  pub low : d₂.interface.protected ≡ 0 → ⊥
  pub quiet : (n : ℕ) → Quiet d (run s d (take n first))
  pub same : Quiet d d₂

module _ (s : Setting) (d : Device) (first : List Cycle) (start : Cycle) (d₂ : Device) (u : Unstarted s d first start d₂) where
  -- the chip that shows its status
  shown : Device
  shown = with_interface (in_phase 1 d₂.interface) d₂

  prefix : List Cycle
  prefix = first ++ (start ∷ command 112 ∷ [])

  whole : ℕ → Line
  whole n = send_all s (uncut_line d n) (started_cycles s (uncut_line d n) first start)

  run_prefix : run s d prefix ≡ shown
  unfolding prefix shown run
  run_prefix =
      run_append s d first (start ∷ command 112 ∷ [])
      ∙ ap (λ (x : Device). exec s x (command 112)) u.confirm
      ∙ status_ready s d₂ u.ready

  length_prefix : length prefix ≡ length first + 2
  unfolding prefix
  length_prefix = length-append first (start ∷ command 112 ∷ [])

  shown_legal : shown.interface.illegal ≡ 0
  unfolding shown
  shown_legal = u.legal

  prefix_legal : Legal s d prefix
  prefix_legal = legal_run s d prefix (rw run_prefix shown_legal)

  start_legal : d.interface.illegal ≡ 0
  start_legal = legal_start s d prefix (rw run_prefix shown_legal)

  shown_again : exec s shown status ≡ shown
  unfolding shown exec status_read
  shown_again = refl

  unwaiting : waiting shown ≡ false
  unfolding shown waiting
  unwaiting = refl

  polls_one : (n : ℕ) → polls s (suc n) shown ≡ 1
  unfolding polls
  polls_one n = rw (shown_again, unwaiting)

  read_legal : Legal s shown (status ∷ [])
  read_legal = (rw shown_again shown_legal, tt)

  -- the cycles up to 70h, then one status read
  late : (n : ℕ) → length first + 2 ≤ n → whole n ≡ send_all s (uncut_line shown (n - (length first + 2))) (status ∷ [])
  unfolding whole prefix
  late n h =
      let e = run_uncut s d n prefix start_legal prefix_legal (rw length_prefix h)
      ∙ ap₂ (λ (x : Device) (k : ℕ). uncut_line x (n - k)) run_prefix length_prefix in
      send_all_append s (uncut_line d n) prefix (status_reads s (send_all s (uncut_line d n) prefix).chip)
      ∙ ap (λ (x : Line). send_all s x (status_reads s x.chip)) e
      ∙ ap (λ (k : ℕ). send_all s (uncut_line shown (n - (length first + 2))) (replicate k status)) (polls_one 255)

  early : (n : ℕ) → n < length first + 2 → whole n ≡ cut_line (run s d (take n prefix))
  unfolding whole prefix
  early n h =
      let e = run_cut s d n prefix start_legal prefix_legal (rw length_prefix h) in
      send_all_append s (uncut_line d n) prefix (status_reads s (send_all s (uncut_line d n) prefix).chip)
      ∙ ap (λ (x : Line). send_all s x (status_reads s x.chip)) e
      ∙ cut_stays s (run s d (take n prefix)) (status_reads s (run s d (take n prefix)))

  done : (n : ℕ) → length first + 3 ≤ n → whole n ≡ uncut_line shown (n - (length first + 3))
  unfolding run
  done n h =
      late n (omega arith)
      ∙ run_uncut s shown (n - (length first + 2)) (status ∷ []) shown_legal read_legal (omega arith)
      ∙ ap₂ (λ (x : Device) (k : ℕ). uncut_line x k) shown_again (omega arith)

  same_shown : Quiet d shown
  unfolding shown
  same_shown = record { array = u.same.array; history = u.same.history; fate = u.same.fate }

  -- where it is cut nothing has changed
  cut_quiet : (n : ℕ) → n < length first + 3 → (x : Device) × (x.interface.illegal ≡ 0) × Quiet d x × (whole n ≡ cut_line x)
  unfolding run prefix
  cut_quiet n h =
      cases (leb n (length first))
      (λ t.
      let k = leb-true n (length first) t in (
        run s d (take n prefix),
        legal_take s d n prefix start_legal prefix_legal,
        subst (λ (cs : List Cycle). Quiet d (run s d cs)) (sym (take-append-le n first (start ∷ command 112 ∷ []) k)) (u.quiet n),
        early n (omega arith),
      ))
      (λ t.
      cases (eqb n (length first + 1))
      (λ e. (
        d₂,
        u.legal,
        u.same,
        early n (omega (arith, eqb-true n (length first + 1) e))
            ∙ ap (λ (j : ℕ). cut_line (run s d (take j prefix))) (eqb-true n (length first + 1) e)
            ∙ ap (λ (cs : List Cycle). cut_line (run s d cs)) (take-append-add first (start ∷ command 112 ∷ []) 1)
            ∙ ap cut_line (run_append s d first (start ∷ []) ∙ u.confirm),
      ))
      (λ e.
      let k : n - (length first + 2) ≡ 0 = omega (arith, leb-false n (length first) t, eqb-false n (length first + 1) e) in (
        shown,
        shown_legal,
        same_shown,
        late n (omega (arith, leb-false n (length first) t, eqb-false n (length first + 1) e))
            ∙ ap (λ (j : ℕ). send_all s (uncut_line shown j) (status ∷ [])) k
            ∙ run_cut s shown 0 (status ∷ []) shown_legal read_legal (omega arith),
      )))

  -- no cycle is answered illegal, wherever it is cut
  pub unstarted_legal : (n : ℕ) → (send_all s (uncut_line d n) (started_cycles s (uncut_line d n) first start)).chip.interface.illegal ≡ 0
  unfolding whole
  unstarted_legal n =
      cases (ltb n (length first + 3))
      (λ t.
      let c = cut_quiet n (ltb-true n (length first + 3) t) in
      ap (λ (x : Line). x.chip.interface.illegal) c.3 ∙ c.1)
      (λ t. ap (λ (x : Line). x.chip.interface.illegal) (done n (ltb-false n (length first + 3) t)) ∙ shown_legal)

  -- it is answered protected unless it is cut, and nothing has changed
  pub unstarted_ends : (n : ℕ) → answer_end (send_all s (uncut_line d n) (started_cycles s (uncut_line d n) first start)) ≡ protected_end (uncut_line d n) (length first)
  unfolding whole answer_end protected_end outcome_of guarded shown
  unstarted_ends n =
      cases (ltb n (length first + 3))
      (λ t.
      let c = cut_quiet n (ltb-true n (length first + 3) t) in
      let z : 0 ≡ n - (length first + 3) = omega (arith, ltb-true n (length first + 3) t) in
      ap answer_end c.3
      ∙ same_end (cases (eqb c.0.interface.protected 0) (λ w. rw (w, t)) (λ w. rw (w, t))) c.2.array c.2.history z c.2.fate)
      (λ t.
      ap answer_end (done n (ltb-false n (length first + 3) t))
      ∙ same_end (rw (ne_eqb _ _ u.low, eq-eqb _ _ u.legal, ne_eqb d₂.interface.failed 0 (λ e. omega (arith, e, u.failed)), t)) u.same.array u.same.history refl u.same.fate)

  -- once it was answered the chip takes the next command
  pub unstarted_next : (n : ℕ) → Valid s.geometry → length s.mask ≡ block_size s.geometry → length d₂.array ≡ chip_size s.geometry → length d₂.register ≡ page_size s.geometry → length d₂.history ≡ s.geometry.blocks → answered (answer_of (send_all s (uncut_line d n) (started_cycles s (uncut_line d n) first start))) ≡ true → Called s (send_all s (uncut_line d n) (started_cycles s (uncut_line d n) first start))
  unfolding whole answered shown answer_end protected_end
  unstarted_next n v m al rl hl a =
      cases (ltb n (length first + 3))
      (λ t. absurd (false≢true (sym (ap (λ (x : End). answered x.outcome) (unstarted_ends n) ∙ rw t) ∙ a)))
      (λ t.
      subst (λ (x : Line). Called s x) (sym (done n (ltb-false n (length first + 3) t)))
      (record {
        is_valid = v;
        array_long = al;
        register_long = rl;
        history_long = hl;
        mask_long = m;
        ready = omega arith;
        legal = u.legal;
        uncut = refl;
      }))
