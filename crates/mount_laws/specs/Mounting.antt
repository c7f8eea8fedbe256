-- How a mount ends, whatever is silent or cut.
use Rattle.std.specs.Prelude.{ℕ, ◌+◌, ◌*◌, ◌≤◌, true, ◌⊎◌, ◌≡◌, length}
use Rattle.geometry.specs.declared.Geometry.{Geometry}
use Rattle.chip_array.specs.Device.{Device, Setting}
use Rattle.copies.specs.Current.{mount_answer}
use Rattle.scan_summary.specs.declared.Depth.{Depth}
use Rattle.state.specs.State.{blank, mounted}
use Rattle.request.specs.Call.{Result, sized_for, call_line}
use Rattle.mount.specs.Mount.{state_after, mount_run}
use Rattle.damage.specs.Replay.{Replayed}
use Rattle.damage.specs.Run.{Slow, scan_most}

-- the most cycles that a mount sends
abbrev pub mount_most : Depth → Geometry → ℕ
mount_most depth g = 3 + g.blocks * scan_most depth g

-- the answers of a mount of a chip whose sizes go together
pub data MountAnswer : ℕ → Type 0 where
  is_done : MountAnswer 0
  is_missing : MountAnswer 4
  is_wrong : MountAnswer 5
  is_clash : MountAnswer 6
  is_silent_fact : MountAnswer 10
  is_cut : MountAnswer 11

-- a mount of chip d at this depth that may send n cycles: every cycle legal where it is sent, nothing changed, also not the sizes; silent (10) or cut (11) it leaves a
-- stopped state, and otherwise the definitions on the array give answer and state; where it is 0, the state counts as
-- mounted and the chip is ready; it is silent only where a fate word is slow, and cut only where all n cycles were sent
pub record Mounting (depth : Depth) (s : Setting) (d : Device) (n : ℕ) (r : Result) : Type 0 where
  pub legal : r.chip.interface.illegal ≡ 0
  pub replayed : Replayed s (call_line d n).chip r.chip (mount_run depth s (call_line d n)).cycles
  pub sizes_kept : sized_for s r.chip ≡ true
  pub same_array : r.chip.array ≡ d.array
  pub same_history : r.chip.history ≡ d.history
  pub stops : (r.answer ≡ 10) ⊎ (r.answer ≡ 11) → r.state ≡ blank 2
  pub answer_is : (r.answer ≡ 10 → ⊥) → (r.answer ≡ 11 → ⊥) → r.answer ≡ mount_answer s.geometry d.array
  pub state_is : (r.answer ≡ 10 → ⊥) → (r.answer ≡ 11 → ⊥) → r.state ≡ state_after depth s.geometry d.array (mount_answer s.geometry d.array)
  pub answers : MountAnswer r.answer
  pub counts_mounted : r.answer ≡ 0 → mounted r.state s.geometry.blocks s.geometry.logical ≡ true
  pub still_ready : r.answer ≡ 0 → r.chip.interface.phase ≤ 2
  pub sent_is : r.sent ≡ length (mount_run depth s (call_line d n)).cycles
  pub sent-most : r.sent ≤ mount_most depth s.geometry
  pub silent_by : r.answer ≡ 10 → Slow s.fates
  pub cut_at : r.answer ≡ 11 → r.sent ≡ n
