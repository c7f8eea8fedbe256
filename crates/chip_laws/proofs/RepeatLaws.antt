-- Commands that may be given again: FFh after FFh, and 70h where status is shown, change nothing. Assumes nothing.
use Prim.Native.Nat.{ℕ}
use mathlib.Core.Path.{◌≡◌, refl, sym, ap, ◌∙◌}
use native.Mathlib.Omega.{arith}
use borrow.Author.Tests.{eq-eqb, ne_eqb, lt-leb}
use Rattle.chip_interface.specs.Interface.{in_phase, plain_command, status_mode}
use Rattle.chip_array.specs.Device.{Device, Setting, with_interface}
use Rattle.chip.specs.Chip.{exec, commanded, is_confirm}
use Rattle.chip.specs.Chip.Cycle.{command}
use Rattle.bus.proofs.StepLaws.{status_ready}

module _ (s : Setting) (d : Device) where
  pub reset_repeats : exec s (exec s d (command 255)) (command 255) ≡ exec s d (command 255)
  unfolding exec commanded is_confirm plain_command
  reset_repeats = refl

  pub status_repeats : d.interface.phase ≡ 1 → exec s d (command 112) ≡ d
  status_repeats p = status_ready s d (omega arith) ∙ ap (λ (n : ℕ). with_interface (in_phase n d.interface) d) (sym p)

  pub busy_status_repeats : d.interface.phase ≡ 8 → exec s d (command 112) ≡ d
  unfolding exec commanded is_confirm plain_command status_mode
  busy_status_repeats p =
      rw (lt-leb d.interface.phase 2 (omega arith), ne_eqb d.interface.phase 7 (λ e. omega (arith, e)), eq-eqb d.interface.phase 8 p)
