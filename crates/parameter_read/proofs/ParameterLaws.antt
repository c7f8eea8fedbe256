-- The reading of the parameter page, from ECh to its last byte, wherever it is cut, on a chip of any size. Assumes nothing.
use Prim.Native.Nat.{ℕ, suc, ◌+◌, ◌-◌, ◌≤◌}
use mathlib.Core.Bool.{true}
use mathlib.Core.List.{List, [], ◌∷◌}
use mathlib.Core.Path.{◌≡◌, refl, sym, ap, subst, ◌∙◌}
use native.Mathlib.Nat.{zero-add}
use native.Mathlib.Omega.{arith}
use borrow.Author.Tests.{eq-eqb}
use lib.ListN.{length, take, replicate, length-replicate}
use Rattle.chip_interface.specs.declared.Interface.{Interface}
use Rattle.chip_interface.specs.Interface.{beginning, in_phase, output_resumed, output_phase, parameters_started}
use Rattle.chip_array.specs.Device.{Device, Setting, device, with_interface, page_loaded}
use Rattle.chip.specs.Chip.{Cycle, exec, is_confirm, parameter_byte}
use Rattle.chip.specs.Chip.Cycle.{command, parameter_address, parameter_out}
use Rattle.bus.specs.Line.{Line, run, send, send_all, uncut_line, still, parameter_byte_out}
use Rattle.bus.proofs.LineLaws.{send_on, admits_more}
use Rattle.bus.proofs.QuietLaws.{quiet_run, still-take, still_repeated}
use Rattle.bus.proofs.StepLaws.{at_column, busy_with, resume_output, one_parameter, parameters_given, begin_parameters, start_parameters, parameters_ready}
use Rattle.bus_polling.specs.Outcomes.{is_passed}
use Rattle.bus_polling.specs.Polling.{outcome_of}
use Rattle.operations.specs.Ends.{End, ready_end, end_of_ready, total_for}
use Rattle.operations.proofs.CallLaws.{uncut_is}
use Rattle.operations.proofs.EndLaws.{Effect}
use Rattle.operations.proofs.OutputLaws.{Puts, put_out_are}
use Rattle.operations.proofs.ReadyLaws.{Followed, Passing, passing, passing_load, passing_final, ready_ends, ready_legal, load_outcome, is_passed_lem}
use Rattle.parameter_read.specs.Cycles.{parameter_load, parameter_output, page_outputs, parameter_cycles, parameter_outcome, parameter_outputs}
use Rattle.parameter_read.specs.Ends.{CanTell, parameter_end}

-- the parameter page is put out byte by byte
page_puts : (s : Setting) (page a r h : List ℕ) → Puts s (parameter_out page) (parameter_byte_out page) true page a r h
unfolding parameter_byte_out parameter_byte
page_puts s page a r h =
    record {
      steps = λ i p o q. one_parameter s page i a r h p o q;
      gives = λ i k p o e. rw (admits_more (uncut_line (device i a r h) (suc k)) (record { uncut = refl; legal = e }) (omega arith), eq-eqb i.phase 2 p, o);
    }

module _ (s : Setting) (d : Device) (left : ℕ) (page : List ℕ) (n : ℕ) (p : CanTell (uncut_line d left) page n) where
  -- after ECh, after its address byte, once ready is reported, and after the last byte
  abbrev begun : Device
  begun = with_interface (beginning 9 0 d.interface) d

  abbrev fetching : Device
  fetching = with_interface (parameters_started s.fates (beginning 9 0 d.interface)) d

  abbrev interface_ready : Interface
  interface_ready = page_loaded (busy_with 0 (in_phase 8 fetching.interface))

  abbrev loaded : Device
  loaded = with_interface interface_ready d

  abbrev last : Device
  last = with_interface (at_column n (output_resumed interface_ready)) d

  abbrev first : List Cycle
  first = command 236 ∷ []

  abbrev tail : List Cycle
  tail = parameter_output page n

  length_tail : length tail ≡ 1 + n
  length_tail = ap suc (length-replicate n (parameter_out page)) ∙ omega arith

  started_is : exec s (run s d first) (parameter_address 0) ≡ fetching
  unfolding run
  started_is =
      ap (λ (x : Device). exec s x (parameter_address 0)) (begin_parameters s d p.ready) ∙ start_parameters s begun refl

  effect : Effect s d first (parameter_address 0) 1 fetching loaded d.array d.history
  unfolding still is_confirm
  effect =
      record {
        confirmed = record {
          confirm = started_is;
          busy = refl;
          legal = p.legal;
          settle = parameters_ready s (with_interface (busy_with 0 (in_phase 8 fetching.interface)) d) refl refl refl;
          settled = refl;
          still_legal = p.legal;
        };
        quiet = λ k. quiet_run s d (take k first) (still-take k first (refl, tt));
        busy_is = refl;
        failed_is = refl;
        fate_is = refl;
        then_failed = refl;
        then_fate = refl;
        then_array = refl;
        then_history = refl;
      }

  tail_is : run s loaded tail ≡ last
  unfolding run
  tail_is =
      ap (λ (x : Device). run s x (replicate n (parameter_out page))) (resume_output s loaded (omega arith) refl)
      ∙ parameters_given s page n (output_resumed interface_ready) d.array d.register d.history refl refl (omega (arith, p.within))
      ∙ ap (λ (k : ℕ). with_interface (at_column k (output_resumed interface_ready)) d) (zero-add n)

  followed : Followed s d first (parameter_address 0) fetching loaded last tail
  unfolding still is_confirm
  followed =
      record {
        effect = effect;
        same_array = refl;
        same_history = refl;
        rest_is = tail_is;
        rest_still = (refl, still_repeated (parameter_out page) refl n);
        last_legal = p.legal;
      }

  ends : end_of_ready s (uncut_line d left) (parameter_load s (uncut_line d left)) tail ≡ parameter_end s (uncut_line d left) n
  ends =
      ready_ends s d left first (parameter_address 0) fetching loaded last tail followed
      ∙ ap (ready_end s (uncut_line d left) 1) length_tail

  allowed : (send_all s (uncut_line d left) (parameter_cycles s (uncut_line d left) page n)).chip.interface.illegal ≡ 0
  unfolding parameter_cycles
  allowed = ready_legal s d left first (parameter_address 0) fetching loaded last tail followed

  abbrev Passes : Type 0
  Passes = Passing s d left first (parameter_address 0) fetching loaded last tail followed

  passes : is_passed (parameter_end s (uncut_line d left) n).outcome ≡ true → Passes
  passes h =
      passing s d left first (parameter_address 0) fetching loaded last tail followed
      (ap (λ (k : ℕ). is_passed (ready_end s (uncut_line d left) 1 k).outcome) length_tail ∙ h)

  -- cycles left once ready is reported
  abbrev more : ℕ
  more = left - total_for s d 1

  more_is : Passes → 1 + n ≤ more
  more_is q = omega (arith, q.covered, length_tail)

  load_passed : Passes → is_passed (outcome_of (send_all s (uncut_line d left) (parameter_load s (uncut_line d left)))) ≡ true
  load_passed q =
      ap is_passed (load_outcome s d left first (parameter_address 0) fetching loaded last tail followed)
      ∙ is_passed_lem s d left first (parameter_address 0) fetching loaded last tail followed (omega (arith, q.covered)) q.in_time

  bytes : Passes → parameter_outputs s (uncut_line d left) page n ≡ take n page
  unfolding parameter_outputs
  bytes q =
      let output : send s (uncut_line loaded more) (command 0) ≡ uncut_line (with_interface (output_resumed interface_ready) loaded) (more - 1) =
      send_on s (uncut_line loaded more) (command 0) (admits_more (uncut_line loaded more) (record { uncut = refl; legal = p.legal }) (omega (arith, more_is q)))
      ∙ ap (λ (x : Device). uncut_line x (more - 1)) (resume_output s loaded (omega arith) refl) in
      rw (load_passed q)
      (ap (λ (x : Line). page_outputs s page n (send s x (command 0))) (passing_load s d left first (parameter_address 0) fetching loaded last tail followed q)
      ∙ ap (page_outputs s page n) output
      ∙ put_out_are s (parameter_out page) (parameter_byte_out page) true page d.array d.register d.history (page_puts s page d.array d.register d.history) n (more - 1) (output_resumed interface_ready) refl refl p.legal (omega (arith, p.within)) (omega (arith, more_is q)))

  final : Passes → send_all s (uncut_line d left) (parameter_cycles s (uncut_line d left) page n) ≡ uncut_line last (left - total_for s d 1 - (1 + n))
  unfolding parameter_cycles
  final q =
      passing_final s d left first (parameter_address 0) fetching loaded last tail followed q
      ∙ ap (λ (k : ℕ). uncut_line last (left - total_for s d 1 - k)) length_tail

-- the same of any line from which the page can be read
module _ (s : Setting) (l : Line) (page : List ℕ) (n : ℕ) (p : CanTell l page n) where
  abbrev uncut : l ≡ uncut_line l.chip l.left
  uncut = uncut_is l p.uncut

  abbrev can : CanTell (uncut_line l.chip l.left) page n
  can = subst (λ (x : Line). CanTell x page n) uncut p

  -- how it ends
  pub parameters_end : end_of_ready s l (parameter_load s l) (parameter_output page n) ≡ parameter_end s l n
  parameters_end =
      subst (λ (x : Line). end_of_ready s x (parameter_load s x) (parameter_output page n) ≡ parameter_end s x n) (sym uncut)
      (ends s l.chip l.left page n can)

  pub parameters_outcome : parameter_outcome s l page n ≡ (parameter_end s l n).outcome
  unfolding parameter_outcome
  parameters_outcome = ap (λ (x : End). x.outcome) parameters_end

  -- no cycle of it is answered illegal
  pub parameters_legal : (send_all s l (parameter_cycles s l page n)).chip.interface.illegal ≡ 0
  parameters_legal =
      subst (λ (x : Line). (send_all s x (parameter_cycles s x page n)).chip.interface.illegal ≡ 0) (sym uncut)
      (allowed s l.chip l.left page n can)

  module _ (t : is_passed (parameter_outcome s l page n) ≡ true) where
    passes_so : Passes s l.chip l.left page n can
    passes_so =
        passes s l.chip l.left page n can
        (ap (λ (x : Line). is_passed (parameter_end s x n).outcome) (sym uncut) ∙ ap is_passed (sym parameters_outcome) ∙ t)

    -- where it passed it gives the first n bytes of the page, and the chip takes the next command
    pub parameters_bytes : parameter_outputs s l page n ≡ take n page
    parameters_bytes =
        subst (λ (x : Line). parameter_outputs s x page n ≡ take n page) (sym uncut) (bytes s l.chip l.left page n can passes_so)

    pub parameters_next : (send_all s l (parameter_cycles s l page n)).chip.interface.phase ≡ output_phase
    parameters_next =
        subst (λ (x : Line). (send_all s x (parameter_cycles s x page n)).chip.interface.phase ≡ output_phase) (sym uncut)
        (ap (λ (x : Line). x.chip.interface.phase) (final s l.chip l.left page n can passes_so))
