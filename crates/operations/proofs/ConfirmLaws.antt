-- An operation from its first cycle, by way of the one that starts it, to the last status read, wherever it is cut.
use Prim.Native.Nat.{ℕ, zero, suc, ◌+◌, ◌-◌, ◌≤◌, ◌<◌}
use mathlib.Core.Bool.{true, false, cond}
use mathlib.Core.List.{List, [], ◌∷◌, ◌++◌}
use mathlib.Core.Path.{◌≡◌, refl, sym, ap, ap₂, ◌∙◌}
use native.Mathlib.Nat.{le_refl, sub_self}
use native.Mathlib.Omega.{arith}
use borrow.Author.Tests.{eq-eqb, ne_eqb, lt-ltb, le-ltb, eqb-true, eqb-false, ltb-true, ltb-false, leb-true, leb-false}
use borrow.Table.Steps.{cases}
use lib.Dec.{eqb, leb, ltb}
use lib.ListN.{length, take, replicate, length-append, length-replicate, replicate-append-replicate}
use lib.Seq.{take-append-le, take-append-add}
use Rattle.geometry.specs.Sizes.{row_count}
use Rattle.chip_interface.specs.declared.Interface.{Interface}
use Rattle.chip_interface.specs.Interface.{in_phase}
use Rattle.chip_array.specs.Device.{Device, Setting, device, with_interface, lengths_fit, row_at, completed}
use Rattle.chip.specs.Chip.{Cycle, exec, less_busy}
use Rattle.chip.specs.Chip.Cycle.{command, status}
use Rattle.bus.specs.Line.{Line, send_all, run, Legal, uncut_line, cut_line}
use Rattle.bus.proofs.LineLaws.{send_all_append, run_append, run_uncut, run_cut, cut_stays}
use Rattle.bus.proofs.LegalLaws.{legal_run, legal_start, legal_take, legal_first}
use Rattle.bus.proofs.StepLaws.{busy_with, one_busy, busy_reads_fact, ready_read, status_busy}
use Rattle.bus_polling.specs.Polling.{waiting, polls, status_reads}
use Rattle.bus_sequences.specs.Cycles.{started_cycles}
use Rattle.operations.specs.Ends.{polls_for}

eqb_at : {p : ℕ} → p ≡ 1 → eqb p 8 ≡ false
eqb_at {p} h = ne_eqb p 8 (λ e. omega (arith, e))

polls-ready : (k : ℕ) → k < 256 → polls_for k ≡ k + 1
polls-ready k h = rw (lt-ltb k 256 h)

polls_silent : (k : ℕ) → 256 ≤ k → polls_for k ≡ 256
polls_silent k h = rw (le-ltb k 256 h)

polls-most : (k : ℕ) → polls_for k ≤ k + 1
polls-most k =
    cases (ltb k 256) (λ t. rw t (le_refl (k + 1))) (λ t. rw t (omega (arith, ltb-false k 256 t)))

take-replicate : (j p : ℕ) (c : Cycle) → j ≤ p → take j (replicate p c) ≡ replicate j c
take-replicate zero p c h = refl
take-replicate (suc j) zero c h = absurd (omega arith)
take-replicate (suc j) (suc p) c h = ap (λ (cs : List Cycle). c ∷ cs) (take-replicate j p c (omega arith))

-- one status read more
count_one : (b n : ℕ) → 0 < b → suc (cond (ltb (b - 1) n) (b - 1 + 1) n) ≡ cond (ltb b (suc n)) (b + 1) (suc n)
count_one b n p =
    cases (ltb b (suc n))
    (λ h. rw (h, lt-ltb (b - 1) n (omega (arith, ltb-true b (suc n) h))) (omega arith))
    (λ h. rw (h, le-ltb (b - 1) n (omega (arith, ltb-false b (suc n) h))))

waiting_on : (d : Device) → d.interface.phase ≡ 8 → d.interface.illegal ≡ 0 → waiting d ≡ true
unfolding waiting
waiting_on d p e = rw (eq-eqb _ _ p, eq-eqb _ _ e)

module _ (s : Setting) where
  ready_at : (i : Interface) (a r h : List ℕ) → i.busy ≡ 0 → exec s (device i a r h) status ≡ exec s (device (busy_with 0 i) a r h) status
  ready_at i a r h z = ap (λ (k : ℕ). exec s (device (busy_with k i) a r h) status) z

  -- the number of status reads
  polls_are : (n : ℕ) (i : Interface) (a r h : List ℕ) → i.phase ≡ 8 → i.illegal ≡ 0 → waiting (exec s (device (busy_with 0 i) a r h) status) ≡ false → polls s n (device i a r h) ≡ cond (ltb i.busy n) (i.busy + 1) n
  unfolding polls
  polls_are zero i a r h p e q = rw (le-ltb i.busy 0 (omega arith))
  polls_are (suc n) i a r h p e q =
      cases (eqb i.busy 0)
      (λ t.
      let z = eqb-true i.busy 0 t in
      rw (ready_at i a r h z, q, lt-ltb i.busy (suc n) (omega arith)) (omega (arith, z)))
      (λ t.
      let b : 0 < i.busy = omega (arith, eqb-false i.busy 0 t) in
      rw (one_busy s i a r h p b, waiting_on (device (less_busy i) a r h) p e, polls_are n (less_busy i) a r h p e q)
      (count_one i.busy n b))

  -- the status reads of an operation that ends in time
  reads_ready : (i : Interface) (a r h : List ℕ) → i.phase ≡ 8 → run s (device i a r h) (replicate (i.busy + 1) status) ≡ exec s (device (busy_with 0 i) a r h) status
  unfolding run
  reads_ready i a r h p =
      ap (run s (device i a r h)) (sym (replicate-append-replicate i.busy 1 status))
      ∙ run_append s (device i a r h) (replicate i.busy status) (replicate 1 status)
      ∙ ap (λ (x : Device). exec s x status)
      (busy_reads_fact s i.busy i a r h p (le_refl i.busy) ∙ ap (λ (k : ℕ). device (busy_with k i) a r h) (sub_self i.busy))

  -- the one that reports a read, a program or an erase ready
  pub settles : (d : Device) → eqb d.interface.operation 4 ≡ false → lengths_fit s.geometry d ≡ true → row_at d.interface < row_count s.geometry → exec s (with_interface (busy_with 0 (in_phase 8 d.interface)) d) status ≡ completed s.geometry (with_interface (busy_with 0 (in_phase 8 d.interface)) d)
  settles d o f w = ready_read s (with_interface (busy_with 0 (in_phase 8 d.interface)) d) refl refl o f w

-- what an operation's first cycles and the cycle that starts it leave: d₂ after that one, d₄ once ready is reported
pub record Confirmed (s : Setting) (d : Device) (first : List Cycle) (start : Cycle) (d₂ d₄ : Device) : Type 0 where
  pub confirm : exec s (run s d first) start ≡ d₂
  pub busy : d₂.interface.phase ≡ 7
  pub legal : d₂.interface.illegal ≡ 0
  pub settle : exec s (with_interface (busy_with 0 (in_phase 8 d₂.interface)) d₂) status ≡ d₄
  pub settled : d₄.interface.phase ≡ 1
  pub still_legal : d₄.interface.illegal ≡ 0

module _ (s : Setting) (d : Device) (first : List Cycle) (start : Cycle) (d₂ d₄ : Device) (c : Confirmed s d first start d₂ d₄) where
  -- the chip while it is asked for its status
  asked : Device
  asked = with_interface (in_phase 8 d₂.interface) d₂

  prefix : List Cycle
  prefix = first ++ (start ∷ command 112 ∷ [])

  pub run_confirm : run s d (first ++ (start ∷ [])) ≡ d₂
  unfolding run
  run_confirm = run_append s d first (start ∷ []) ∙ c.confirm

  run_prefix : run s d prefix ≡ asked
  unfolding prefix asked run
  run_prefix =
      run_append s d first (start ∷ command 112 ∷ [])
      ∙ ap (λ (x : Device). exec s x (command 112)) c.confirm
      ∙ status_busy s d₂ c.busy

  length_prefix : length prefix ≡ length first + 2
  unfolding prefix
  length_prefix = length-append first (start ∷ command 112 ∷ [])

  prefix_legal : Legal s d (first ++ (start ∷ command 112 ∷ []))
  unfolding asked prefix
  prefix_legal = legal_run s d prefix (rw run_prefix c.legal)

  start_legal : d.interface.illegal ≡ 0
  unfolding asked
  start_legal = legal_start s d prefix (rw run_prefix c.legal)

  polls_asked : polls s 256 asked ≡ polls_for d₂.interface.busy
  unfolding asked waiting
  polls_asked =
      polls_are s 256 (in_phase 8 d₂.interface) d₂.array d₂.register d₂.history refl c.legal
      (rw (c.settle, eqb_at c.settled))

  -- where it does not cover the prefix, nothing follows
  cut_prefix : (n : ℕ) → n < length first + 2 → send_all s (uncut_line d n) (started_cycles s (uncut_line d n) first start) ≡ cut_line (run s d (take n prefix))
  unfolding prefix
  cut_prefix n h =
      let e = run_cut s d n prefix start_legal prefix_legal (rw length_prefix h) in
      send_all_append s (uncut_line d n) prefix (status_reads s (send_all s (uncut_line d n) prefix).chip)
      ∙ ap (λ (x : Line). send_all s x (status_reads s x.chip)) e
      ∙ cut_stays s (run s d (take n prefix)) (status_reads s (run s d (take n prefix)))

  -- where the allowance covers the prefix, the status reads follow on it
  late : (n : ℕ) → length first + 2 ≤ n → send_all s (uncut_line d n) (started_cycles s (uncut_line d n) first start) ≡ send_all s (uncut_line asked (n - (length first + 2))) (replicate (polls_for d₂.interface.busy) status)
  unfolding prefix
  late n h =
      let e = run_uncut s d n prefix start_legal prefix_legal (rw length_prefix h)
      ∙ ap₂ (λ (x : Device) (k : ℕ). uncut_line x (n - k)) run_prefix length_prefix in
      send_all_append s (uncut_line d n) prefix (status_reads s (send_all s (uncut_line d n) prefix).chip)
      ∙ ap (λ (x : Line). send_all s x (status_reads s x.chip)) e
      ∙ ap (λ (k : ℕ). send_all s (uncut_line asked (n - (length first + 2))) (replicate k status)) polls_asked

  -- the status reads, with nothing cut
  ready_asked : run s asked (replicate (d₂.interface.busy + 1) status) ≡ d₄
  unfolding asked
  ready_asked =
      reads_ready s (in_phase 8 d₂.interface) d₂.array d₂.register d₂.history refl ∙ c.settle

  busy_asked : (n : ℕ) → n ≤ d₂.interface.busy → run s asked (replicate n status) ≡ with_interface (busy_with (d₂.interface.busy - n) (in_phase 8 d₂.interface)) d₂
  unfolding asked
  busy_asked n h = busy_reads_fact s n (in_phase 8 d₂.interface) d₂.array d₂.register d₂.history refl h

  asked_legal : asked.interface.illegal ≡ 0
  unfolding asked
  asked_legal = c.legal

  reads_legal : Legal s asked (replicate (d₂.interface.busy + 1) status)
  reads_legal = legal_run s asked (replicate (d₂.interface.busy + 1) status) (rw ready_asked c.still_legal)

  busy_legal : (n : ℕ) → n ≤ d₂.interface.busy → Legal s asked (replicate n status)
  busy_legal n h = legal_run s asked (replicate n status) (rw (busy_asked n h) c.legal)

  polls_legal : Legal s asked (replicate (polls_for d₂.interface.busy) status)
  polls_legal =
      cases (ltb d₂.interface.busy 256)
      (λ t. rw (polls-ready d₂.interface.busy (ltb-true d₂.interface.busy 256 t)) reads_legal)
      (λ t.
      let k = ltb-false d₂.interface.busy 256 t in
      rw (polls_silent d₂.interface.busy k) (busy_legal 256 k))

  -- it is reported ready in time
  pub through : (n : ℕ) → d₂.interface.busy < 256 → length first + 2 + (d₂.interface.busy + 1) ≤ n → send_all s (uncut_line d n) (started_cycles s (uncut_line d n) first start) ≡ uncut_line d₄ (n - (length first + 2 + (d₂.interface.busy + 1)))
  through n k h =
      late n (omega arith)
      ∙ ap (λ (j : ℕ). send_all s (uncut_line asked (n - (length first + 2))) (replicate j status)) (polls-ready d₂.interface.busy k)
      ∙ run_uncut s asked (n - (length first + 2)) (replicate (d₂.interface.busy + 1) status) asked_legal reads_legal (rw length-replicate (omega arith))
      ∙ ap₂ (λ (x : Device) (j : ℕ). uncut_line x (n - (length first + 2) - j)) ready_asked (length-replicate (d₂.interface.busy + 1) status)
      ∙ ap (uncut_line d₄) (omega arith)

  -- it stays silent
  pub silent : (n : ℕ) → 256 ≤ d₂.interface.busy → length first + 2 + 256 ≤ n → send_all s (uncut_line d n) (started_cycles s (uncut_line d n) first start) ≡ uncut_line (with_interface (busy_with (d₂.interface.busy - 256) (in_phase 8 d₂.interface)) d₂) (n - (length first + 2 + 256))
  silent n k h =
      late n (omega arith)
      ∙ ap (λ (j : ℕ). send_all s (uncut_line asked (n - (length first + 2))) (replicate j status)) (polls_silent d₂.interface.busy k)
      ∙ run_uncut s asked (n - (length first + 2)) (replicate 256 status) asked_legal (busy_legal 256 k) (rw length-replicate (omega arith))
      ∙ ap₂ (λ (x : Device) (j : ℕ). uncut_line x (n - (length first + 2) - j)) (busy_asked 256 k) (length-replicate 256 status)
      ∙ ap (uncut_line (with_interface (busy_with (d₂.interface.busy - 256) (in_phase 8 d₂.interface)) d₂)) (omega arith)

  -- it is cut before the cycle that starts it
  pub early_cut : (n : ℕ) → n ≤ length first → send_all s (uncut_line d n) (started_cycles s (uncut_line d n) first start) ≡ cut_line (run s d (take n first))
  unfolding prefix
  early_cut n h =
      cut_prefix n (omega arith)
      ∙ ap (λ (cs : List Cycle). cut_line (run s d cs)) (take-append-le n first (start ∷ command 112 ∷ []) h)

  -- it is cut after it: array, register and history are as that cycle left them
  pub late_cut : (n : ℕ) → length first < n → n < length first + 2 + polls_for d₂.interface.busy → (i : Interface) × (i.fate ≡ d₂.interface.fate) × (i.illegal ≡ 0) × (send_all s (uncut_line d n) (started_cycles s (uncut_line d n) first start) ≡ cut_line (with_interface i d₂))
  unfolding prefix
  late_cut n h k =
      cases (eqb n (length first + 1))
      (λ t. (
        d₂.interface,
        refl,
        c.legal,
        cut_prefix n (omega (arith, eqb-true n (length first + 1) t))
            ∙ ap (λ (j : ℕ). cut_line (run s d (take j prefix))) (eqb-true n (length first + 1) t)
            ∙ ap (λ (cs : List Cycle). cut_line (run s d cs)) (take-append-add first (start ∷ command 112 ∷ []) 1)
            ∙ ap cut_line run_confirm,
      ))
      (λ t.
      let g : length first + 2 ≤ n = omega (arith, eqb-false n (length first + 1) t) in
      let j = n - (length first + 2) in
      let b : j ≤ d₂.interface.busy = omega (arith, polls-most d₂.interface.busy) in (
        busy_with (d₂.interface.busy - j) (in_phase 8 d₂.interface),
        refl,
        c.legal,
        late n g
            ∙ run_cut s asked j (replicate (polls_for d₂.interface.busy) status) asked_legal polls_legal (rw length-replicate (omega arith))
            ∙ ap (λ (cs : List Cycle). cut_line (run s asked cs)) (take-replicate j (polls_for d₂.interface.busy) status (omega arith))
            ∙ ap cut_line (busy_asked j b),
      ))

  -- no cycle is answered illegal, wherever the operation is cut
  pub confirmed_legal : (n : ℕ) → (send_all s (uncut_line d n) (started_cycles s (uncut_line d n) first start)).chip.interface.illegal ≡ 0
  confirmed_legal n =
      cases (leb n (length first))
      (λ t.
      ap (λ (x : Line). x.chip.interface.illegal) (early_cut n (leb-true n (length first) t))
      ∙ legal_take s d n first start_legal (legal_first s d first (start ∷ command 112 ∷ []) prefix_legal))
      (λ t. cases (ltb n (length first + 2 + polls_for d₂.interface.busy))
      (λ u.
      let k = late_cut n (leb-false n (length first) t) (ltb-true n (length first + 2 + polls_for d₂.interface.busy) u) in
      ap (λ (x : Line). x.chip.interface.illegal) k.3 ∙ k.2)
      (λ u. cases (ltb d₂.interface.busy 256)
      (λ v.
      let b = ltb-true d₂.interface.busy 256 v in
      let h : length first + 2 + (d₂.interface.busy + 1) ≤ n = rw (polls-ready d₂.interface.busy b) at (ltb-false n (length first + 2 + polls_for d₂.interface.busy) u) in
      ap (λ (x : Line). x.chip.interface.illegal) (through n b h) ∙ c.still_legal)
      (λ v.
      let b = ltb-false d₂.interface.busy 256 v in
      let h : length first + 2 + 256 ≤ n = rw (polls_silent d₂.interface.busy b) at (ltb-false n (length first + 2 + polls_for d₂.interface.busy) u) in
      ap (λ (x : Line). x.chip.interface.illegal) (silent n b h) ∙ c.legal)))
