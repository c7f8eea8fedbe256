-- Erases on a chip that is not ready for a command: the first cycle is refused, or cut off where none is left. Assumes nothing.
use Prim.Native.Nat.{ℕ, ◌-◌, ◌≤◌, ◌<◌}
use mathlib.Core.Bool.{false, cond}
use mathlib.Core.List.{List, [], ◌∷◌, ◌++◌}
use mathlib.Core.Path.{◌≡◌, refl, ap, ◌∙◌}
use native.Mathlib.Omega.{arith}
use borrow.Table.Steps.{cases}
use borrow.Author.Tests.{eq-eqb, lt-leb, eqb-true, eqb-false}
use lib.Dec.{eqb}
use Rattle.chip_interface.specs.Interface.{output_phase, erase_code, erase_confirm, plain_command, begun}
use Rattle.chip_array.specs.Device.{Device, Setting, illegal_cycle}
use Rattle.chip.specs.Chip.{Cycle, exec, commanded, is_confirm}
use Rattle.chip.specs.Chip.Cycle.{command}
use Rattle.bus.specs.Line.{Line, Going, cut_after, send, send_all, sent, goes_on, uncut_line, cut_line}
use Rattle.bus.proofs.LineLaws.{admits_more, admits-none, admits-stopped, send_on, send_off, send_all_stopped}
use Rattle.bus_polling.specs.Outcomes.{answered}
use Rattle.bus_polling.specs.Polling.{outcome_of}
use Rattle.bus_polling.specs.declared.Outcome.TheVariants.{Cut}
use Rattle.bus_sequences.specs.Cycles.{erase_cycles, row_cycles}
use Rattle.operations.specs.Ends.{Called, Lent, end_of, unready_line, unready_end}
use Rattle.operations.specs.Trace.{started_by, erase_sends, erase_starts}

-- a line that is called is lent, and one that is lent is called where the chip is ready
pub called_lent : {s : Setting} {l : Line} → Called s l → Lent s l
called_lent c =
    record {
      is_valid = c.is_valid;
      array_long = c.array_long;
      register_long = c.register_long;
      history_long = c.history_long;
      mask_long = c.mask_long;
      legal = c.legal;
      uncut = c.uncut;
    }

pub lent_called : {s : Setting} {l : Line} → Lent s l → l.chip.interface.phase ≤ output_phase → Called s l
lent_called c h =
    record {
      is_valid = c.is_valid;
      array_long = c.array_long;
      register_long = c.register_long;
      history_long = c.history_long;
      mask_long = c.mask_long;
      ready = h;
      legal = c.legal;
      uncut = c.uncut;
    }

-- 60h on a chip that is not ready
erase_refused : (s : Setting) (d : Device) → output_phase < d.interface.phase → exec s d (command erase_code) ≡ illegal_cycle d
unfolding exec commanded is_confirm plain_command begun
erase_refused s d h = rw (lt-leb d.interface.phase 2 h)

-- the line that is left: it goes no further, was not answered, and its chip holds what it held
module _ (l : Line) where
  pub unready_stops : goes_on (unready_line l) ≡ false
  unfolding unready_line goes_on
  unready_stops = cases (eqb l.left 0) (λ t. rw t) (λ f. rw f)

  pub unready_ends : end_of (unready_line l) ≡ unready_end l
  unfolding unready_line end_of unready_end outcome_of
  unready_ends =
      cases (eqb l.left 0)
      (λ t.
      let e : 0 ≡ l.left - 1 = omega (arith, eqb-true l.left 0 t) in
      rw t (λ i. record { outcome = Cut; array = l.chip.array; history = l.chip.history; left = e i; fate = l.chip.interface.fate }))
      (λ f. rw f)

  pub unready_register : (unready_line l).chip.register ≡ l.chip.register
  unfolding unready_line
  unready_register = cases (eqb l.left 0) (λ t. rw t) (λ f. rw f)

  pub unready_unanswered : answered (outcome_of (unready_line l)) ≡ false
  unfolding unready_line outcome_of answered
  unready_unanswered = cases (eqb l.left 0) (λ t. rw t) (λ f. rw f)

-- a bus that stopped sends none of a list
pub sent-stopped : (s : Setting) (l : Line) (cs : List Cycle) → goes_on l ≡ false → sent s l cs ≡ []
unfolding sent
sent-stopped s l [] g = refl
sent-stopped s l (c ∷ cs) g = rw (admits-stopped l g)

-- a list of cycles whose first is refused
module _ (s : Setting) (l : Line) (lent : Lent s l) (c : Cycle) (refuses : exec s l.chip c ≡ illegal_cycle l.chip) where
  going : Going l
  going = record { uncut = lent.uncut; legal = lent.legal }

  first_cut : l.left ≡ 0 → send s l c ≡ cut_line l.chip
  unfolding cut_after
  first_cut z =
      let cut : cut_after l.cut l.chip.interface.illegal ≡ 1 = rw (eq-eqb l.cut 0 lent.uncut, eq-eqb l.chip.interface.illegal 0 lent.legal) in
      send_off s l c (admits-none l going z)
      ∙ (λ i. record { chip = l.chip; left = z i; cut = cut i })

  first_refused : 0 < l.left → send s l c ≡ uncut_line (illegal_cycle l.chip) (l.left - 1)
  first_refused h =
      send_on s l c (admits_more l going h)
      ∙ (λ i. record { chip = refuses i; left = l.left - 1; cut = lent.uncut i })

  first_stops : send s l c ≡ unready_line l
  unfolding unready_line
  first_stops =
      cases (eqb l.left 0)
      (λ t. rw t (first_cut (eqb-true l.left 0 t)))
      (λ f. rw f (first_refused (omega (arith, eqb-false l.left 0 f))))

  pub all_stops : (cs : List Cycle) → send_all s l (c ∷ cs) ≡ unready_line l
  unfolding send_all
  all_stops cs = rw first_stops (send_all_stopped s (unready_line l) cs (unready_stops l))

  pub first_sent : (cs : List Cycle) → sent s l (c ∷ cs) ≡ cond (eqb l.left 0) [] (c ∷ [])
  unfolding sent
  first_sent cs =
      cases (eqb l.left 0)
      (λ t. rw (t, admits-none l going (eqb-true l.left 0 t)))
      (λ f.
      let more = admits_more l going (omega (arith, eqb-false l.left 0 f)) in
      let rest = ap (λ (x : Line). sent s x cs) first_stops ∙ sent-stopped s (unready_line l) cs (unready_stops l) in
      rw (f, more) (ap (λ (xs : List Cycle). c ∷ xs) rest))

-- an erase on a line with a chip that is not ready
module _ (s : Setting) (l : Line) (lent : Lent s l) (h : output_phase < l.chip.interface.phase) (row : ℕ) where
  pub erase_unready_line : send_all s l (erase_cycles s l row) ≡ unready_line l
  erase_unready_line = all_stops s l lent (command erase_code) (erase_refused s l.chip h) _

  -- one cycle at the most, refused or cut off; array and history are as they were
  pub erase_unready : end_of (send_all s l (erase_cycles s l row)) ≡ unready_end l
  erase_unready = ap end_of erase_unready_line ∙ unready_ends l

  pub erase_unready_register : (send_all s l (erase_cycles s l row)).chip.register ≡ l.chip.register
  erase_unready_register = ap (λ (x : Line). x.chip.register) erase_unready_line ∙ unready_register l

  pub erase_unanswered : answered (outcome_of (send_all s l (erase_cycles s l row))) ≡ false
  erase_unanswered = ap (λ (x : Line). answered (outcome_of x)) erase_unready_line ∙ unready_unanswered l

  -- 60h alone is sent, and no array operation is started
  pub erase_unready_sends : erase_sends s l row ≡ cond (eqb l.left 0) [] (command erase_code ∷ [])
  erase_unready_sends = first_sent s l lent (command erase_code) (erase_refused s l.chip h) _

  pub erase_unready_starts : erase_starts s l row ≡ []
  unfolding started_by
  erase_unready_starts =
      let stops = ap goes_on (all_stops s l lent (command erase_code) (erase_refused s l.chip h) (row_cycles row ++ (command erase_confirm ∷ []))) ∙ unready_stops l in
      rw stops
