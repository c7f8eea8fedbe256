-- The definition computed on the small chip: 32 main and 16 spare bytes, 4 pages, 4 blocks.
use Prim.Native.Nat.{ℕ}
use mathlib.Core.List.{List, [], ◌∷◌}
use mathlib.Core.Path.{◌≡◌, refl}
use lib.ListN.{replicate}
use Rattle.geometry.specs.declared.Geometry.{Geometry}
use Rattle.chip_interface.specs.Interface.{powered_on, begun, status_mode, read_mode, plain_command, address_fits, latched, addressed, fate_word, next_fate, started}
use Rattle.chip_array.specs.Device.{Device, device, setting, fitting, read_started, completed}
use Rattle.chip.specs.Chip.{is_confirm, confirmed, confirmable, commanded, data_given, data_byte, finished, status_read, exec}
use Rattle.bus.specs.Line.{may_go, cut_after, send, send_all, goes_on, byte_out}
use Rattle.bus_polling.specs.Polling.{waiting, polls, outcome_of, ended_as}
use Rattle.bus_polling.specs.Outcomes.{is_passed, is_silent, is_cut_off}
use Rattle.bus_sequences.specs.Cycles.{read_cycles, read_outcome, read_outputs, put_out}
use Rattle.whitening.specs.Whitened.{whitened}
use Rattle.pages.specs.Layout.{is_white_kind}
use Rattle.copies.specs.Blocks.{formed}
use Rattle.progress.specs.Progress.{read_on}
use Rattle.state.specs.State.{blank}
use Rattle.request.specs.Call.{stop_answer}
use Rattle.read_page.specs.Fetching.{ReadResult, fetched, reading_block}

abbrev small : Geometry
small = record { main = 32; spare = 16; pages = 4; blocks = 4; logical = 2 }

-- 165 in every byte of the array
abbrev chip : Device
chip = device powered_on (replicate 768 165) (replicate 48 255) (replicate 4 0)

-- page 3 of block 1, of a copy of this kind, with these fates and an allowance
abbrev read_as : ℕ → List ℕ → ℕ → ReadResult
read_as form fates n = reading_block (setting small (replicate 192 0) fates) chip n (blank 1) 1 form 3 (replicate 32 0)

abbrev page_read_lem : List ℕ → ℕ → ReadResult
page_read_lem = read_as 100

-- 42 cycles, and the buffer has the bytes of the page
done_answer : (page_read_lem [] 42).returned.answer ≡ 0
unfolding send_all send may_go cut_after exec commanded is_confirm plain_command read_mode begun status_mode addressed latched address_fits confirmable fitting confirmed read_started started fate_word next_fate status_read finished completed polls waiting read_cycles read_outcome is_passed outcome_of ended_as data_given read_on reading_block stop_answer is_silent is_cut_off
done_answer = refl

done_sent : (page_read_lem [] 1000).returned.sent ≡ 42
unfolding send_all send may_go cut_after exec commanded is_confirm plain_command read_mode begun status_mode addressed latched address_fits confirmable fitting confirmed read_started started fate_word next_fate status_read finished completed polls waiting read_cycles read_outcome is_passed outcome_of ended_as data_given read_on reading_block stop_answer is_silent is_cut_off
done_sent = refl

done_bytes : (page_read_lem [] 42).buffer ≡ replicate 32 165
unfolding send_all send may_go cut_after exec commanded is_confirm plain_command read_mode begun status_mode addressed latched address_fits confirmable fitting confirmed read_started started fate_word next_fate status_read finished completed polls waiting read_cycles read_outcome is_passed outcome_of ended_as data_given data_byte read_outputs put_out byte_out goes_on fetched reading_block formed is_white_kind
done_bytes = refl

-- a copy whose kind stores its bytes whitened is undone
white_bytes : (read_as 108 [] 42).buffer ≡ whitened 3 (replicate 32 165)
unfolding send_all send may_go cut_after exec commanded is_confirm plain_command read_mode begun status_mode addressed latched address_fits confirmable fitting confirmed read_started started fate_word next_fate status_read finished completed polls waiting read_cycles read_outcome is_passed outcome_of ended_as data_given data_byte read_outputs put_out byte_out goes_on fetched reading_block formed is_white_kind
white_bytes = refl

-- one cycle fewer: cut, and the buffer is as it was
cut_answer : (page_read_lem [] 41).returned.answer ≡ 11
unfolding send_all send may_go cut_after exec commanded is_confirm plain_command read_mode begun status_mode addressed latched address_fits confirmable fitting confirmed read_started started fate_word next_fate status_read finished completed polls waiting read_cycles read_outcome is_passed outcome_of ended_as data_given read_on reading_block stop_answer is_silent is_cut_off
cut_answer = refl

cut_bytes : (page_read_lem [] 41).buffer ≡ replicate 32 0
unfolding send_all send may_go cut_after exec commanded is_confirm plain_command read_mode begun status_mode addressed latched address_fits confirmable fitting confirmed read_started started fate_word next_fate status_read finished completed polls waiting read_cycles read_outcome is_passed outcome_of ended_as data_given data_byte read_outputs put_out byte_out goes_on fetched reading_block
cut_bytes = refl

-- 256 busy reads: silent, after 6 + 2 + 256 cycles
silent_answer : (page_read_lem (256 ∷ []) 264).returned.answer ≡ 10
unfolding send_all send may_go cut_after exec commanded is_confirm plain_command read_mode begun status_mode addressed latched address_fits confirmable fitting confirmed read_started started fate_word next_fate status_read finished completed polls waiting read_cycles read_outcome is_passed outcome_of ended_as data_given read_on reading_block stop_answer is_silent is_cut_off
silent_answer = refl
