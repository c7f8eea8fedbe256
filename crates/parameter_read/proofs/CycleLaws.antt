-- A parameter page that is not ready stops there, and one that is goes on with 00h and its bytes. Assumes nothing.
use Prim.Native.Nat.{ℕ}
use mathlib.Core.Bool.{true, false}
use mathlib.Core.List.{List}
use mathlib.Core.Path.{◌≡◌, ap, ◌∙◌}
use lib.ListN.{replicate}
use Rattle.cells.specs.Cells.{over}
use Rattle.chip_array.specs.Device.{Setting}
use Rattle.chip.specs.Chip.Cycle.{command, parameter_out}
use Rattle.bus.specs.Line.{Line, send, send_all}
use Rattle.bus_polling.specs.Outcomes.{is_passed}
use Rattle.bus_polling.specs.Polling.{outcome_of, ended_as}
use Rattle.bus_sequences.proofs.DataLaws.{onward, ready_stops, ready_goes}
use Rattle.parameter_read.specs.Cycles.{parameter_load, parameter_output, page_outputs, parameter_cycles, parameter_outcome, parameter_outputs}

module _ (s : Setting) {k : Line} (l : Line) (page : List ℕ) (n : ℕ) (e : k ≡ send_all s l (parameter_load s l)) where
  pub parameters_stop : is_passed (outcome_of k) ≡ false → (k ≡ send_all s l (parameter_cycles s l page n)) × (outcome_of k ≡ parameter_outcome s l page n) × ((xs : List ℕ) → xs ≡ over (parameter_outputs s l page n) xs)
  unfolding parameter_cycles parameter_outcome parameter_outputs
  parameters_stop h =
      let t = rw e at h in
      let r = ready_stops s l (parameter_load s l) (parameter_output page n) e h in
      (r.0, r.1, λ xs. rw t)

  pub parameters_go : {f d : Line} → is_passed (outcome_of k) ≡ true → f ≡ send s k (command 0) → d ≡ send_all s f (replicate n (parameter_out page)) → (d ≡ send_all s l (parameter_cycles s l page n)) × (ended_as d ≡ parameter_outcome s l page n) × (page_outputs s page n f ≡ parameter_outputs s l page n)
  unfolding parameter_cycles parameter_outcome parameter_outputs
  parameters_go h f g =
      let t = rw e at h in
      let r = ready_goes s l (parameter_load s l) (parameter_output page n) e h (onward s k (command 0) (replicate n (parameter_out page)) f g) in
      (r.0, r.1, ap (page_outputs s page n) (f ∙ ap (λ (x : Line). send s x (command 0)) e) ∙ rw t)
