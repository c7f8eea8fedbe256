-- A request that resets the chip does not depend on the interface that the chip was left with, but for the write-protect line. Assumes nothing.
use Prim.Native.Nat.{ℕ, zero, suc}
use mathlib.Core.Bool.{true, false}
use mathlib.Core.List.{List, [], ◌∷◌}
use mathlib.Core.Path.{◌≡◌, refl, sym, ap, subst, ◌∙◌}
use native.Mathlib.Omega.{arith}
use borrow.Table.Steps.{cases}
use lib.ListN.{length}
use Rattle.chip_interface.specs.Interface.{plain_command}
use Rattle.chip_array.specs.Device.{Device, Setting, device, with_interface}
use Rattle.chip.specs.Chip.{Cycle, exec, commanded, is_confirm}
use Rattle.chip.specs.Chip.Cycle.{command, status}
use Rattle.bus.specs.Line.{Line, admits, send, send_all, sent, uncut_line, cut_line}
use Rattle.bus.proofs.LineLaws.{admits_more, send_one, send_none, cut_stays}
use Rattle.bus_polling.specs.Outcomes.{is_passed, is_silent, is_cut_off}
use Rattle.bus_polling.specs.Polling.{ended_as}
use Rattle.bus_polling.specs.declared.Outcome.TheVariants.{Cut}
use Rattle.bus_sequences.specs.Cycles.{reset_cycles}
use Rattle.progress.specs.Progress.{Progress, progress, reset_on}
use Rattle.scan.specs.Scan.{blocks_read}
use Rattle.state.specs.State.{blank}
use Rattle.state.specs.declared.State.{State}
use Rattle.request.specs.Call.{Result, sized, sized_for, call_line, stop_answer, end_at}
use Rattle.request.specs.Start.{start_line, start_run, started}
use Rattle.request.proofs.StartLaws.{Stops}
use Rattle.scan_summary.specs.declared.Depth.{Depth}
use Rattle.mount.specs.Mount.{mount_end, mounting}
use Rattle.mount.proofs.EndLaws.{mount-stops, mount-started}
use Rattle.fill_tables.specs.Tables.{end_of_run}
use Rattle.format.specs.Format.{reads_run, formatting}
use Rattle.format.proofs.WholeLaws.{format_stops, format_started}
use Rattle.request_laws.specs.Independent.{powered_at, SameMemory, SameOutcome}

module _ (s : Setting) where
  -- what follows FFh
  abbrev others : List Cycle
  others = command 112 ∷ status ∷ []

  -- FFh leaves the interface that the chip has from power on, and the write-protect line
  reset_interface : (d : Device) → exec s (call_line d 0).chip (command 255) ≡ with_interface (powered_at d.interface.protected) d
  unfolding exec commanded is_confirm plain_command
  reset_interface d = refl

  first_sent : (d : Device) (m : ℕ) → send s (call_line d (suc m)) (command 255) ≡ uncut_line (with_interface (powered_at d.interface.protected) d) m
  first_sent d m = send_one s (call_line d (suc m)).chip m (command 255) refl ∙ ap (λ (x : Device). uncut_line x m) (reset_interface d)

  -- the request after its reset, of which FFh has led to line l
  abbrev reset_from : Line → Progress
  reset_from l = progress (send_all s l others) (ended_as (send_all s l others)) (command 255 ∷ sent s l others) []

  line_from : (l : Line) → send_all s l reset_cycles ≡ send_all s (send s l (command 255)) others
  unfolding send_all
  line_from l = refl

  sent_from : (l : Line) → admits l ≡ true → sent s l reset_cycles ≡ command 255 ∷ sent s (send s l (command 255)) others
  unfolding sent
  sent_from l t = rw t

  run_from : (d : Device) (m : ℕ) → start_run s d (suc m) ≡ reset_from (uncut_line (with_interface (powered_at d.interface.protected) d) m)
  unfolding reset_on is_passed
  run_from d m =
      let l = call_line d (suc m) in
      let goes : admits l ≡ true = admits_more l (record { uncut = refl; legal = refl }) (omega arith) in
      (λ i. progress (line_from l i) (ended_as (line_from l i)) (sent_from l goes i) []) ∙ ap reset_from (first_sent d m)

  -- no cycle allowed: the reset is cut before FFh
  line_none : (d : Device) → start_line s d 0 ≡ cut_line (call_line d 0).chip
  line_none d =
      line_from (call_line d 0)
      ∙ ap (λ (x : Line). send_all s x others) (send_none s (call_line d 0).chip (command 255) refl)
      ∙ cut_stays s (call_line d 0).chip others

  cut_none : (d : Device) → (start_run s d 0).outcome ≡ Cut
  unfolding reset_on is_passed ended_as
  cut_none d = ap ended_as (line_none d)

  rest_none : (d : Device) (rest : Progress → Result) → Stops 0 rest → rest (start_run s d 0) ≡ end_at 0 11 (blank 2) (cut_line (call_line d 0).chip)
  unfolding reset_on is_passed is_silent is_cut_off stop_answer
  rest_none d rest stops =
      stops (start_run s d 0) (ap is_passed (cut_none d))
      ∙ (λ i. end_at 0 (stop_answer (cut_none d i)) (blank 2) (line_none d i))

along : {r r' q q' : Result} → r ≡ r' → q ≡ q' → SameOutcome r' q' → SameOutcome r q
along {r = r} {q' = q'} e f x = subst (SameOutcome r) (sym f) (subst (λ (y : Result). SameOutcome y q') (sym e) x)

equal : {r q : Result} → q ≡ r → SameOutcome r q
equal e =
    record {
      answer = ap (λ (x : Result). x.answer) e;
      state = ap (λ (x : Result). x.state) e;
      sent = ap (λ (x : Result). x.sent) e;
      array = ap (λ (x : Result). x.chip.array) e;
      register = ap (λ (x : Result). x.chip.register) e;
      history = ap (λ (x : Result). x.chip.history) e;
    }

module _ (s : Setting) (d e : Device) (same : SameMemory d e) where
  sized_same : sized_for s e ≡ sized_for s d
  sized_same i =
      sized s.geometry (length (same.array i)) (length (same.register i)) (length (same.history i)) (length s.mask)

  -- after FFh nothing tells the two apart
  run_same : (m : ℕ) → start_run s e (suc m) ≡ start_run s d (suc m)
  run_same m =
      run_from s e m
      ∙ (λ i. reset_from s (uncut_line (device (powered_at (same.line i)) (same.array i) (same.register i) (same.history i)) m))
      ∙ sym (run_from s d m)

  rest_same : (n : ℕ) (rest : Progress → Result) → Stops n rest → SameOutcome (rest (start_run s d n)) (rest (start_run s e n))
  rest_same zero rest stops =
      along (rest_none s d rest stops) (rest_none s e rest stops)
      (record { answer = refl; state = refl; sent = refl; array = same.array; register = same.register; history = same.history })
  rest_same (suc m) rest stops = equal (ap rest (run_same m))

  -- a request that resets, and ends where an operation does not pass
  pub start_same : (n : ℕ) (state : State) (rest : Progress → Result) → Stops n rest → SameOutcome (started s d n state rest) (started s e n state rest)
  start_same n state rest stops =
      cases (sized_for s d)
      (λ t.
      let u : sized_for s e ≡ true = sized_same ∙ t in
      rw (t, u) (rest_same n rest stops))
      (λ f.
      let u : sized_for s e ≡ false = sized_same ∙ f in
      rw (f, u) (record { answer = refl; state = refl; sent = refl; array = same.array; register = same.register; history = same.history }))

  pub mount_independent : (depth : Depth) (n : ℕ) (state : State) → SameOutcome (mounting depth s d n state) (mounting depth s e n state)
  mount_independent depth n state =
      along (sym (mount-started depth s d n state)) (sym (mount-started depth s e n state))
      (start_same n state (λ p. mount_end depth s n (blocks_read depth s s.geometry.blocks p)) (mount-stops depth s n))

  pub format_independent : (n : ℕ) (state : State) → SameOutcome (formatting s d n state) (formatting s e n state)
  format_independent n state =
      along (sym (format_started s d n state)) (sym (format_started s e n state))
      (start_same n state (λ p. end_of_run n (reads_run s state p)) (format_stops s n state))

-- so a chip that was switched on again, its write-protect line as it was, mounts and formats as the one that was left
module _ (s : Setting) (d : Device) (n : ℕ) (state : State) where
  pub mount_powered_on : (depth : Depth) → SameOutcome (mounting depth s d n state) (mounting depth s (with_interface (powered_at d.interface.protected) d) n state)
  mount_powered_on depth =
      mount_independent s d (with_interface (powered_at d.interface.protected) d) (record { line = refl; array = refl; register = refl; history = refl }) depth n state

  pub format_powered_on : SameOutcome (formatting s d n state) (formatting s (with_interface (powered_at d.interface.protected) d) n state)
  format_powered_on =
      format_independent s d (with_interface (powered_at d.interface.protected) d) (record { line = refl; array = refl; register = refl; history = refl }) n state
