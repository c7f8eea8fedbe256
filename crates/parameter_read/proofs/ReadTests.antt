-- The reading of a page of four bytes, computed on a chip without an array. Assumes nothing.
use Prim.Native.Nat.{ℕ}
use mathlib.Core.List.{List, [], ◌∷◌}
use mathlib.Core.Path.{◌≡◌, refl}
use Rattle.geometry.specs.declared.Geometry.{Geometry}
use Rattle.chip_interface.specs.Interface.{powered_on, begun, status_mode, read_mode, plain_command, fate_word, next_fate, parameter_addressed}
use Rattle.chip_array.specs.Device.{Setting, device, setting}
use Rattle.chip.specs.Chip.{is_confirm, commanded, parameter_given, parameter_byte, finished, status_read, exec}
use Rattle.chip.specs.Chip.Cycle.{command, status, parameter_address, parameter_out}
use Rattle.bus.specs.Line.{Line, may_go, cut_after, send, send_all, sent, goes_on, parameter_byte_out, uncut_line}
use Rattle.bus_polling.specs.Polling.{waiting, polls, outcome_of, ended_as}
use Rattle.bus_polling.specs.Outcomes.{is_passed}
use Rattle.bus_polling.specs.declared.Outcome.TheVariants.{Passed, Cut}
use Rattle.bus_sequences.specs.Cycles.{put_out}
use Rattle.parameter_read.specs.Cycles.{parameter_cycles, parameter_outcome, parameter_outputs}

abbrev nowhere : Geometry
nowhere = record { main = 0; spare = 0; pages = 0; blocks = 0; logical = 0 }

-- one status read is answered busy
abbrev call : Setting
call = setting nowhere [] (1 ∷ [])

abbrev bare : ℕ → Line
bare allowed = uncut_line (device powered_on [] [] []) allowed

abbrev page : List ℕ
page = 79 ∷ 78 ∷ 70 ∷ 73 ∷ []

-- ECh, 00h, 70h, two status reads, 00h and four bytes out
cycles_are : sent call (bare 100) (parameter_cycles call (bare 100) page 4) ≡ command 236 ∷ parameter_address 0 ∷ command 112 ∷ status ∷ status ∷ command 0 ∷ parameter_out page ∷ parameter_out page ∷ parameter_out page ∷ parameter_out page ∷ []
unfolding sent send_all send may_go exec commanded is_confirm plain_command begun status_mode read_mode parameter_addressed fate_word next_fate status_read finished polls waiting outcome_of is_passed parameter_cycles parameter_given
cycles_are = refl

bytes_are : parameter_outputs call (bare 100) page 4 ≡ page
unfolding send_all send may_go exec commanded is_confirm plain_command begun status_mode read_mode parameter_addressed fate_word next_fate status_read finished polls waiting outcome_of is_passed parameter_outputs put_out goes_on parameter_byte_out parameter_byte parameter_given
bytes_are = refl

-- ten cycles are enough, nine are not
allowed_10 : parameter_outcome call (bare 10) page 4 ≡ Passed
unfolding send_all send may_go cut_after exec commanded is_confirm plain_command begun status_mode read_mode parameter_addressed fate_word next_fate status_read finished polls waiting outcome_of is_passed ended_as parameter_outcome parameter_given
allowed_10 = refl

allowed_9 : parameter_outcome call (bare 9) page 4 ≡ Cut
unfolding send_all send may_go cut_after exec commanded is_confirm plain_command begun status_mode read_mode parameter_addressed fate_word next_fate status_read finished polls waiting outcome_of is_passed ended_as parameter_outcome parameter_given
allowed_9 = refl
