-- Fills computed on the small chip: 32 main and 16 spare bytes, 4 pages, 4 blocks, erased, nothing busy.
use Prim.Native.Nat.{ℕ, ◌-◌}
use mathlib.Core.List.{[]}
use mathlib.Core.Path.{◌≡◌, refl}
use lib.ListN.{replicate}
use Rattle.geometry.specs.declared.Geometry.{Geometry}
use Rattle.cells.specs.Cells.{programmed, weakened, raised}
use Rattle.cells.specs.Part.{put}
use Rattle.chip_interface.specs.Interface.{powered_on, begun, status_mode, read_mode, plain_command, address_fits, latched, addressed, fate_word, next_fate, started}
use Rattle.chip_array.specs.Device.{Setting, device, setting, fitting, read_started, program_started, erase_started, completed}
use Rattle.chip.specs.Chip.{is_confirm, confirmed, confirmable, commanded, data_taken, data_given, finished, status_read, exec}
use Rattle.bus.specs.Line.{may_go, cut_after, send, send_all, uncut_line}
use Rattle.bus_polling.specs.Polling.{waiting, polls, outcome_of, ended_as}
use Rattle.bus_polling.specs.Outcomes.{is_passed}
use Rattle.bus_polling.specs.declared.Outcome.TheVariants.{Passed}
use Rattle.bus_sequences.specs.Cycles.{read_cycles, read_outcome}
use Rattle.whitening.specs.Stream.{shifted, stepped, bits_given, bytes_given}
use Rattle.whitening.specs.Whitened.{xored}
use Rattle.pages.specs.Check.{zero_bits}
use Rattle.pages.specs.Layout.{number_width, bytes_of, label_bytes, encoded, data_kind, is_data_kind, is_table_kind, is_white_kind}
use Rattle.progress.specs.Progress.{Progress, progress, read_on}
use Rattle.copies.specs.Blocks.{formed}
use Rattle.fill.specs.Fill.{copy, main_of, main_read, page_filled, pages_filled, filled, data_source, is_given}
use Rattle.progress.specs.Steps.{erase_on, program_on}

abbrev small : Geometry
small = record { main = 32; spare = 16; pages = 4; blocks = 4; logical = 2 }

abbrev call : Setting
call = setting small (replicate 192 0) []

-- block 1 is filled with a copy of logical block 0 whose page 0 is given; the old copy is in block old
abbrev write : ℕ → Progress
write old =
    filled call 1 (copy data_kind 0 2) (data_source small old 0 0 1 (replicate 32 165)) (progress (uncut_line (device powered_on (replicate 768 255) (replicate 48 255) (replicate 4 0)) 400) Passed [] [])

-- without an old copy: 235 cycles
first-write_sends : 400 - (write 65535).line.left ≡ 235
unfolding send_all send may_go cut_after exec commanded is_confirm plain_command read_mode begun status_mode addressed latched address_fits confirmable fitting confirmed read_started program_started erase_started started fate_word next_fate data_taken data_given programmed weakened raised put status_read finished completed polls waiting read_cycles read_outcome is_passed outcome_of ended_as read_on erase_on program_on main_of formed is_white_kind main_read page_filled pages_filled is_given data_source encoded label_bytes bytes_of number_width is_data_kind is_table_kind zero_bits xored bytes_given bits_given stepped shifted
first-write_sends = refl

-- with one, three pages are read: 361 cycles
write_sends : 400 - (write 0).line.left ≡ 361
unfolding send_all send may_go cut_after exec commanded is_confirm plain_command read_mode begun status_mode addressed latched address_fits confirmable fitting confirmed read_started program_started erase_started started fate_word next_fate data_taken data_given programmed weakened raised put status_read finished completed polls waiting read_cycles read_outcome is_passed outcome_of ended_as read_on erase_on program_on main_of formed is_white_kind main_read page_filled pages_filled is_given data_source encoded label_bytes bytes_of number_width is_data_kind is_table_kind zero_bits xored bytes_given bits_given stepped shifted
write_sends = refl
