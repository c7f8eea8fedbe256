-- The call computed: its cycles in all, a page that is too short, and a call that is cut. Assumes nothing.
use Prim.Native.Nat.{ℕ}
use mathlib.Core.List.{[], ◌∷◌}
use mathlib.Core.Path.{◌≡◌, refl}
use lib.ListN.{replicate}
use Rattle.chip_interface.specs.Interface.{powered_on, begun, status_mode, plain_command, fate_word, parameter_addressed}
use Rattle.chip_array.specs.Device.{device}
use Rattle.chip.specs.Chip.{is_confirm, commanded, finished, status_read, exec}
use Rattle.bus.specs.Line.{may_go, cut_after, send, send_all}
use Rattle.bus_polling.specs.Polling.{waiting, polls, outcome_of, ended_as}
use Rattle.bus_polling.specs.Outcomes.{is_passed, is_silent, is_cut_off}
use Rattle.parameter_read.specs.Cycles.{parameter_cycles, parameter_outcome}
use Rattle.progress.specs.Progress.{reset_on}
use Rattle.state.specs.State.{blank}
use Rattle.request.specs.Call.{stop_answer, result_of}
use Rattle.identify.specs.Identify.{Identified, parameters_on, identify_end, identify_request, identifying}
use Rattle.identify.specs.Ends.{identify_total}

-- never busy; busy for as long as it is waited for; longer
totals : (identify_total [] ≡ 776) × (identify_total (255 ∷ []) ≡ 1031) × (identify_total (256 ∷ []) ≡ 262)
unfolding fate_word
totals = (refl, refl, refl)

-- of a chip that has never been mounted, with a page of so many bytes, none of them right
abbrev asked : ℕ → ℕ → Identified
asked long allowed = identifying [] [] (device powered_on [] [] []) allowed (blank 0) (replicate long 0) 2

-- a page that is one byte too short: 1, no cycle, and the state as it was
short : ((asked 767 1000).returned.answer ≡ 1) × ((asked 767 1000).returned.sent ≡ 0) × ((asked 767 1000).returned.state ≡ blank 0)
unfolding result_of identify_request
short = (refl, refl, refl)

-- cut within the reset, and after ECh: 11, all cycles allowed sent, and the state stopped
cut_early : ((asked 768 2).returned.answer ≡ 11) × ((asked 768 2).returned.sent ≡ 2) × ((asked 768 2).returned.state ≡ blank 2)
unfolding result_of identify_request identify_end parameters_on reset_on ended_as is_passed is_silent is_cut_off stop_answer send_all send may_go cut_after exec commanded is_confirm plain_command status_mode
cut_early = (refl, refl, refl)

cut_later : ((asked 768 4).returned.answer ≡ 11) × ((asked 768 4).returned.sent ≡ 4) × ((asked 768 4).returned.state ≡ blank 2)
unfolding result_of identify_request identify_end parameters_on reset_on ended_as outcome_of is_passed is_silent is_cut_off stop_answer send_all send may_go cut_after exec commanded is_confirm plain_command begun status_mode parameter_addressed status_read finished polls waiting parameter_cycles parameter_outcome
cut_later = (refl, refl, refl)
