-- A status read in a request: what it adds to the trace, and what it leaves on a chip that takes the next command. Assumes nothing.
use Prim.Native.Nat.{ℕ, ◌-◌, ◌≤◌, ◌<◌}
use mathlib.Core.Bool.{true, cond, false≢true}
use mathlib.Core.Path.{◌≡◌, refl, sym, ap, subst, ◌∙◌}
use native.Mathlib.Omega.{arith}
use borrow.Table.Steps.{cases}
use borrow.Author.Tests.{eq-eqb, eqb-true, eqb-false, lt-ltb, le-ltb, ltb-true, ltb-false}
use lib.Dec.{eqb, ltb}
use lib.ListN.{length-append}
use Rattle.chip_interface.specs.Interface.{in_phase}
use Rattle.chip_array.specs.Device.{Device, Setting, with_interface}
use Rattle.chip.specs.Chip.{exec, status_read}
use Rattle.chip.specs.Chip.Cycle.{status}
use Rattle.bus.specs.Line.{Line, run, send_all, sent, uncut_line, cut_line, Legal}
use Rattle.bus.proofs.LineLaws.{sent_counts, run_uncut, run_cut}
use Rattle.bus.proofs.LegalLaws.{legal_run}
use Rattle.bus.proofs.StepLaws.{status_ready}
use Rattle.bus.proofs.WordLaws.{all_line}
use Rattle.bus_polling.specs.Outcomes.{is_passed, answered}
use Rattle.bus_polling.specs.Polling.{ended_as}
use Rattle.bus_polling.specs.declared.Outcome.TheVariants.{Passed, Cut, Protected}
use Rattle.bus_sequences.specs.Cycles.{status_cycles}
use Rattle.operations.specs.Ends.{Called, status_end}
use Rattle.operations.proofs.CallLaws.{uncut_is}
use Rattle.progress.specs.Progress.{Progress, line_of, status_on}
use Rattle.progress.proofs.CountLaws.{allowance}

module _ (s : Setting) where
  pub status_counts : (p : Progress) → allowance (status_on s p) ≡ allowance p
  unfolding status_on
  status_counts p =
      cases (is_passed p.outcome)
      (λ t. rw t (omega (arith, length-append p.cycles (sent s p.line status_cycles), sent_counts s p.line status_cycles)))
      (λ t. rw t)

  pub status_keeps : (p : Progress) → line_of (status_on s p) ≡ line_of p
  unfolding status_on
  status_keeps p = cases (is_passed p.outcome) (λ t. rw t (all_line s p.line status_cycles)) (λ t. rw t)

  -- a chip that takes the next command: it shows its status, and nothing else changes
  module _ (d : Device) (ready : d.interface.phase ≤ 2) (legal : d.interface.illegal ≡ 0) where
    abbrev shown : Device
    shown = with_interface (in_phase 1 d.interface) d

    shown_is : run s d status_cycles ≡ shown
    unfolding run exec status_read
    shown_is = ap (λ (x : Device). exec s x status) (status_ready s d ready)

    shown_legal : Legal s d status_cycles
    shown_legal = legal_run s d status_cycles (ap (λ (x : Device). x.interface.illegal) shown_is ∙ legal)

    -- two cycles are left
    pub status_line : (n : ℕ) → 2 ≤ n → send_all s (uncut_line d n) status_cycles ≡ uncut_line shown (n - 2)
    status_line n h = run_uncut s d n status_cycles legal shown_legal h ∙ ap (λ (x : Device). uncut_line x (n - 2)) shown_is

    pub status_end_fact : (n : ℕ) → 2 ≤ n → status_end (send_all s (uncut_line d n) status_cycles) ≡ cond (eqb d.interface.protected 0) Passed Protected
    unfolding status_end ended_as is_passed
    status_end_fact n h = ap status_end (status_line n h) ∙ rw (eq-eqb _ _ legal)

    -- one, or none
    pub status_one : send_all s (uncut_line d 1) status_cycles ≡ cut_line shown
    unfolding run
    status_one = run_cut s d 1 status_cycles legal shown_legal (omega arith) ∙ ap cut_line (status_ready s d ready)

    pub status_none : send_all s (uncut_line d 0) status_cycles ≡ cut_line d
    unfolding run
    status_none = run_cut s d 0 status_cycles legal shown_legal (omega arith)

-- what a status read leaves on a chip that takes the next command: the array, the register, the history and the fate words as they were
pub record StatusLeft (s : Setting) (p q : Progress) : Type 0 where
  pub same_array : q.line.chip.array ≡ p.line.chip.array
  pub same_register : q.line.chip.register ≡ p.line.chip.register
  pub same_history : q.line.chip.history ≡ p.line.chip.history
  pub same_fate : q.line.chip.interface.fate ≡ p.line.chip.interface.fate
  pub legal : q.line.chip.interface.illegal ≡ 0
  pub outcome_is : q.outcome ≡ cond (ltb p.line.left 2) Cut (cond (eqb (line_of p) 0) Passed Protected)
  pub left_is : q.line.left ≡ p.line.left - 2
  pub next_called : answered q.outcome ≡ true → Called s q.line

module _ (s : Setting) (p : Progress) (passed : is_passed p.outcome ≡ true) (c : Called s p.line) where
  abbrev chip : Device
  chip = p.line.chip

  on_line : (status_on s p).line ≡ send_all s (uncut_line chip p.line.left) status_cycles
  unfolding status_on
  on_line = rw passed (ap (λ (l : Line). send_all s l status_cycles) (uncut_is p.line c.uncut))

  on_end : (status_on s p).outcome ≡ status_end (status_on s p).line
  unfolding status_on
  on_end = rw passed

  read_whole : 2 ≤ p.line.left → StatusLeft s p (status_on s p)
  unfolding answered
  read_whole h =
      let line_is = on_line ∙ status_line s chip c.ready c.legal p.line.left h in
      let end_is = on_end ∙ ap status_end on_line ∙ status_end_fact s chip c.ready c.legal p.line.left h in
      record {
        same_array = ap (λ (l : Line). l.chip.array) line_is;
        same_register = ap (λ (l : Line). l.chip.register) line_is;
        same_history = ap (λ (l : Line). l.chip.history) line_is;
        same_fate = ap (λ (l : Line). l.chip.interface.fate) line_is;
        legal = ap (λ (l : Line). l.chip.interface.illegal) line_is ∙ c.legal;
        outcome_is = end_is ∙ rw (le-ltb p.line.left 2 h);
        left_is = ap (λ (l : Line). l.left) line_is;
        next_called = λ t.
            subst (Called s) (sym line_is)
            (record {
              is_valid = c.is_valid;
              array_long = c.array_long;
              register_long = c.register_long;
              history_long = c.history_long;
              mask_long = c.mask_long;
              ready = omega arith;
              legal = c.legal;
              uncut = refl;
            });
      }

  read_cut : p.line.left < 2 → (e : Device) → (status_on s p).line ≡ cut_line e → e.array ≡ chip.array → e.register ≡ chip.register → e.history ≡ chip.history
      → e.interface.fate ≡ chip.interface.fate → e.interface.illegal ≡ chip.interface.illegal → StatusLeft s p (status_on s p)
  unfolding status_end ended_as answered is_passed
  read_cut h e line_is arrays registers histories fates illegals =
      let end_is : (status_on s p).outcome ≡ Cut = on_end ∙ ap status_end line_is in
      record {
        same_array = ap (λ (l : Line). l.chip.array) line_is ∙ arrays;
        same_register = ap (λ (l : Line). l.chip.register) line_is ∙ registers;
        same_history = ap (λ (l : Line). l.chip.history) line_is ∙ histories;
        same_fate = ap (λ (l : Line). l.chip.interface.fate) line_is ∙ fates;
        legal = ap (λ (l : Line). l.chip.interface.illegal) line_is ∙ illegals ∙ c.legal;
        outcome_is = end_is ∙ rw (lt-ltb p.line.left 2 h);
        left_is = ap (λ (l : Line). l.left) line_is ∙ omega (arith, h);
        next_called = λ t. absurd (false≢true (sym (ap answered end_is) ∙ t));
      }

  pub status_leaves : StatusLeft s p (status_on s p)
  status_leaves =
      cases (ltb p.line.left 2)
      (λ t.
      let h = ltb-true p.line.left 2 t in
      cases (eqb p.line.left 0)
      (λ z.
      read_cut h chip
      (on_line ∙ ap (λ (k : ℕ). send_all s (uncut_line chip k) status_cycles) (eqb-true p.line.left 0 z) ∙ status_none s chip c.ready c.legal)
      refl refl refl refl refl)
      (λ z.
      read_cut h (shown s chip c.ready c.legal)
      (on_line ∙ ap (λ (k : ℕ). send_all s (uncut_line chip k) status_cycles) (omega (arith, h, eqb-false p.line.left 0 z)) ∙ status_one s chip c.ready c.legal)
      refl refl refl refl refl))
      (λ t. read_whole (ltb-false p.line.left 2 t))

  -- it starts no array operation
  pub status_started : (status_on s p).started ≡ p.started
  unfolding status_on
  status_started = rw passed

-- it passes only where the line is high, on any chip
pub shown_high : (s : Setting) (p : Progress) → is_passed p.outcome ≡ true → is_passed (status_on s p).outcome ≡ true → line_of (status_on s p) ≡ 0
unfolding status_on status_end is_passed
shown_high s p t y =
    let l = send_all s p.line status_cycles in
    rw t
    (cases (eqb l.chip.interface.protected 0)
    (λ z. eqb-true _ _ z)
    (λ z. absurd (cases (is_passed (ended_as l)) (λ e. false≢true (rw (t, e, z) at y)) (λ e. false≢true (sym e ∙ (rw (t, e) at y))))))
