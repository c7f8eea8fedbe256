-- A reset, from any phase of the interface.
use Prim.Native.Nat.{ℕ, zero, suc, ◌-◌, ◌<◌, ◌≤◌}
use mathlib.Core.Bool.{cond}
use mathlib.Core.List.{[], ◌∷◌}
use mathlib.Core.Path.{◌≡◌, refl, sym, ap, subst, ◌∙◌}
use native.Mathlib.Omega.{arith}
use borrow.Author.Tests.{eq-eqb, lt-ltb, le-ltb, ltb-true, ltb-false}
use borrow.Table.Steps.{cases}
use lib.Dec.{ltb}
use lib.ListN.{length, take}
use Rattle.geometry.specs.Limits.{Valid}
use Rattle.geometry.specs.Sizes.{page_size, block_size, chip_size}
use Rattle.chip_interface.specs.Interface.{after_reset, in_phase, status_byte}
use Rattle.chip_array.specs.Device.{Device, Setting, with_interface}
use Rattle.chip.specs.Chip.{exec, status_read, status_shown, is_confirm}
use Rattle.chip.specs.Chip.Cycle.{command, status}
use Rattle.bus.specs.Line.{Line, may_go, goes_on, status_out, run, send, send_all, uncut_line, cut_line, Legal, Quiet, still}
use Rattle.bus.proofs.LineLaws.{run_uncut, run_cut, send_one, send_none, send_stopped, send_all_stopped, going}
use Rattle.bus.proofs.LegalLaws.{legal_run, legal_take, legal_first}
use Rattle.bus.proofs.QuietLaws.{quiet_run}
use Rattle.bus.proofs.StepLaws.{reset_command, status_ready}
use Rattle.bus_polling.specs.Polling.{ended_as}
use Rattle.bus_sequences.specs.Cycles.{reset_cycles, confirm_cycles}
use Rattle.operations.specs.Ends.{Called, reset_end, end_of_reset, reset_status}
use Rattle.operations.proofs.CallLaws.{uncut_is}
use Rattle.operations.proofs.EndLaws.{same_end}

module _ (s : Setting) (d : Device) (n : ℕ) (g : d.interface.illegal ≡ 0) where
  done : Device
  done = with_interface (in_phase 1 (after_reset d.interface)) d

  reset_is : run s d reset_cycles ≡ done
  unfolding run done exec status_read
  reset_is =
      ap (λ (x : Device). exec s (exec s x (command 112)) status) (reset_command s d)
      ∙ ap (λ (x : Device). exec s x status) (status_ready s (with_interface (after_reset d.interface) d) (omega arith))

  legal : Legal s d reset_cycles
  unfolding done
  legal = legal_run s d reset_cycles (ap (λ (x : Device). x.interface.illegal) reset_is ∙ g)

  quiet : (k : ℕ) → k < 3 → Quiet d (run s d (take k reset_cycles))
  unfolding still is_confirm
  quiet zero h = quiet_run s d [] tt
  quiet (suc zero) h = quiet_run s d (command 255 ∷ []) (refl, tt)
  quiet (suc (suc zero)) h = quiet_run s d (command 255 ∷ command 112 ∷ []) (refl, (refl, tt))
  quiet (suc (suc (suc k))) h = absurd (omega arith)

  whole : 3 ≤ n → send_all s (uncut_line d n) reset_cycles ≡ uncut_line done (n - 3)
  whole h = run_uncut s d n reset_cycles g legal h ∙ ap (λ (x : Device). uncut_line x (n - 3)) reset_is

  broken : n < 3 → send_all s (uncut_line d n) reset_cycles ≡ cut_line (run s d (take n reset_cycles))
  broken h = run_cut s d n reset_cycles g legal h

  ends : end_of_reset s (uncut_line d n) ≡ reset_end (uncut_line d n)
  unfolding end_of_reset reset_end ended_as done
  ends =
      cases (ltb n 3)
      (λ t.
      let h = ltb-true n 3 t in
      let e = broken h in
      let q = quiet n h in
      same_end (ap ended_as e ∙ rw t)
      (ap (λ (x : Line). x.chip.array) e ∙ q.array)
      (ap (λ (x : Line). x.chip.history) e ∙ q.history)
      (ap (λ (x : Line). x.left) e ∙ omega arith)
      (ap (λ (x : Line). x.chip.interface.fate) e ∙ q.fate))
      (λ t.
      let e = whole (ltb-false n 3 t) in
      same_end (ap ended_as e ∙ rw (eq-eqb _ _ g, t))
      (ap (λ (x : Line). x.chip.array) e)
      (ap (λ (x : Line). x.chip.history) e)
      (ap (λ (x : Line). x.left) e)
      (ap (λ (x : Line). x.chip.interface.fate) e))

  allowed : (send_all s (uncut_line d n) reset_cycles).chip.interface.illegal ≡ 0
  unfolding done
  allowed =
      cases (ltb n 3)
      (λ t. ap (λ (x : Line). x.chip.interface.illegal) (broken (ltb-true n 3 t)) ∙ legal_take s d n reset_cycles g legal)
      (λ t. ap (λ (x : Line). x.chip.interface.illegal) (whole (ltb-false n 3 t)) ∙ g)

  -- before its status read
  asked : run s d (confirm_cycles 255) ≡ done
  unfolding run done
  asked =
      ap (λ (x : Device). exec s x (command 112)) (reset_command s d)
      ∙ status_ready s (with_interface (after_reset d.interface) d) (omega arith)

  legal_asked : Legal s d (confirm_cycles 255)
  legal_asked = legal_first s d (confirm_cycles 255) (status ∷ []) legal

  answers : reset_status s (uncut_line d n) ≡ cond (ltb n 3) 0 (status_byte d.interface.protected 1 0)
  unfolding reset_status status_out may_go status_shown done
  answers =
      cases (ltb n 2)
      (λ t.
      let h = ltb-true n 2 t in
      rw (run_cut s d n (confirm_cycles 255) g legal_asked h, lt-ltb n 3 (omega arith)))
      (λ t.
      let h = ltb-false n 2 t in
      rw (run_uncut s d n (confirm_cycles 255) g legal_asked h, asked, eq-eqb _ _ g)
      (cases (ltb n 3)
      (λ u. rw (u, le-ltb 0 (n - 2) (omega (arith, ltb-true n 3 u))))
      (λ u. rw (u, lt-ltb 0 (n - 2) (omega (arith, ltb-false n 3 u))))))

  shown : exec s done status ≡ done
  unfolding done exec status_read
  shown = refl

  again_on : (k : ℕ) → send s (uncut_line done k) (command 112) ≡ send s (uncut_line done k) status
  unfolding done
  again_on zero = send_none s done (command 112) g ∙ sym (send_none s done status g)
  again_on (suc k) =
      send_one s done k (command 112) g
      ∙ ap (λ (x : Device). uncut_line x k) (status_ready s done (omega arith) ∙ sym shown)
      ∙ sym (send_one s done k status g)

  -- another 70h in the place of the status read
  again : send s (send_all s (uncut_line d n) (confirm_cycles 255)) (command 112) ≡ send s (send_all s (uncut_line d n) (confirm_cycles 255)) status
  unfolding done exec status_read goes_on
  again =
      cases (ltb n 2)
      (λ t.
      let k = cut_line (run s d (take n (confirm_cycles 255))) in
      rw (run_cut s d n (confirm_cycles 255) g legal_asked (ltb-true n 2 t))
      (send_stopped s k (command 112) refl ∙ sym (send_stopped s k status refl)))
      (λ t.
      rw (run_uncut s d n (confirm_cycles 255) g legal_asked (ltb-false n 2 t), asked)
      (again_on (n - 2)))

-- how a reset ends
pub reset_ends : (s : Setting) (l : Line) → l.cut ≡ 0 → l.chip.interface.illegal ≡ 0 → end_of_reset s l ≡ reset_end l
reset_ends s l u g =
    subst (λ (x : Line). end_of_reset s x ≡ reset_end x) (sym (uncut_is l u)) (ends s l.chip l.left g)

-- no cycle of it is answered illegal
pub reset_legal : (s : Setting) (l : Line) → l.cut ≡ 0 → l.chip.interface.illegal ≡ 0 → (send_all s l reset_cycles).chip.interface.illegal ≡ 0
reset_legal s l u g =
    subst (λ (x : Line). (send_all s x reset_cycles).chip.interface.illegal ≡ 0) (sym (uncut_is l u)) (allowed s l.chip l.left g)

-- its status read shows ready and passed, E0h where the write-protect line is high, unless the allowance does not reach it
pub reset_shows : (s : Setting) (l : Line) → l.cut ≡ 0 → l.chip.interface.illegal ≡ 0 → reset_status s l ≡ cond (ltb l.left 3) 0 (status_byte l.chip.interface.protected 1 0)
reset_shows s l u g =
    subst (λ (x : Line). reset_status s x ≡ cond (ltb x.left 3) 0 (status_byte x.chip.interface.protected 1 0)) (sym (uncut_is l u)) (answers s l.chip l.left g)

-- another 70h in the place of the status read would leave the same line: only the byte read tells the two apart
pub reset_unread : (s : Setting) {m k : Line} (l : Line) → m ≡ send_all s l (confirm_cycles 255) → k ≡ send s m (command 112) → k ≡ send_all s l reset_cycles
unfolding send_all
reset_unread s l e f =
    f
    ∙ ap (λ (x : Line). send s x (command 112)) e
    ∙ cases (goes_on l)
    (λ t. subst (λ (x : Line). send s (send_all s x (confirm_cycles 255)) (command 112) ≡ send s (send_all s x (confirm_cycles 255)) status) (sym (uncut_is l (going l t).uncut)) (again s l.chip l.left (going l t).legal))
    (λ t.
    ap (λ (x : Line). send s x (command 112)) (send_all_stopped s l (confirm_cycles 255) t)
    ∙ send_stopped s l (command 112) t
    ∙ sym (send_all_stopped s l reset_cycles t))

-- what a reset leaves does not depend on the phase that it began in, but for the fate words used
pub reset_leaves : (s : Setting) (l : Line) → l.cut ≡ 0 → l.chip.interface.illegal ≡ 0 → 3 ≤ l.left → send_all s l reset_cycles ≡ uncut_line (with_interface (in_phase 1 (after_reset l.chip.interface)) l.chip) (l.left - 3)
unfolding done
reset_leaves s l u g h =
    subst (λ (x : Line). send_all s x reset_cycles ≡ uncut_line (with_interface (in_phase 1 (after_reset x.chip.interface)) x.chip) (x.left - 3)) (sym (uncut_is l u))
    (whole s l.chip l.left g h)

-- once it passed the chip takes the next operation
pub reset_next : (s : Setting) (l : Line) → l.cut ≡ 0 → l.chip.interface.illegal ≡ 0 → 3 ≤ l.left → Valid s.geometry → length l.chip.array ≡ chip_size s.geometry → length l.chip.register ≡ page_size s.geometry → length l.chip.history ≡ s.geometry.blocks → length s.mask ≡ block_size s.geometry → Called s (send_all s l reset_cycles)
reset_next s l u g h v a r k m =
    subst (λ (x : Line). Called s x) (sym (reset_leaves s l u g h))
    (record {
      is_valid = v;
      array_long = a;
      register_long = r;
      history_long = k;
      mask_long = m;
      ready = omega arith;
      legal = g;
      uncut = refl;
    })
