-- `read_page::read_block` meets its contract. Assumes nothing.
use mathlib.Core.Path.{ap}
use Rattle.chip_array.specs.Device.{device, setting}
use Rattle.bus.specs.Line.{line}
use Rattle.bus.specs.declared.Bus.{Bus}
use Rattle.bus_polling.proofs.OutcomeLaws.{passed_by_is, other_by_not}
use Rattle.read_page.proofs.PageLaws.{left_most, ends_passed, ends-stopped}
use borrow.Author.Rules.{rules}
use Rattle.read_page.proofs.read_block.Goals as goal

pub fetch-done-requires : goal.fetch-done-requires
fetch-done-requires c = record { valid = c.requires.valid; page_lt_pages = c.requires.page_lt_pages; bytes_len = search rules; buffer_len = c.requires.buffer_len }

pub end-requires : goal.end-requires
end-requires c =
    let set = setting c.args.g c.args.mask.now c.args.fates.now in
    let d = device c.args.interface c.args.array.now c.args.register.now c.args.history.now in
    left_most set d c.args.allowed c.args.state c.args.block c.args.form c.args.page c.args.buffer.now _ _ c.fetch-done.result.outcome c.row_of-row.result _ (ap (λ (x : Bus). line x c.args.array.now c.args.register.now c.args.history.now) c.begin-from.ensures) c.row_of-row.ensures c.fetch-done.ensures.history_after c.fetch-done.ensures.outcome_value c.fetch-done.ensures.buffer_after

pub shape_of-array-in_default : goal.shape_of-array-in_default
shape_of-array-in_default c =
    c.array-1.given

pub shape_of-register-in_default : goal.shape_of-register-in_default
shape_of-register-in_default c =
    c.register-1.given

pub shape_of-history-in_default : goal.shape_of-history-in_default
shape_of-history-in_default c = c.history-1.given

pub shape_of-buffer-in_default : goal.shape_of-buffer-in_default
shape_of-buffer-in_default c = c.buffer-1.given

pub returns-in_default : goal.returns-in_default
returns-in_default c =
    let set = setting c.args.g c.args.mask.now c.args.fates.now in
    let d = device c.args.interface c.args.array.now c.args.register.now c.args.history.now in
    let t = other_by_not c.fetch-done.result.outcome c.in_default.not-Passed in
    ends-stopped set d c.args.allowed c.args.state c.args.block c.args.form c.args.page c.args.buffer.now _ _ c.fetch-done.result.outcome c.row_of-row.result _ (ap (λ (x : Bus). line x c.args.array.now c.args.register.now c.args.history.now) c.begin-from.ensures) c.row_of-row.ensures c.fetch-done.ensures.history_after c.fetch-done.ensures.outcome_value c.fetch-done.ensures.buffer_after c.stop_answer.result c.blank.result t c.stop_answer.ensures c.blank.ensures (c.end.ensures _ _ _)

pub end-requires-2 : goal.end-requires-2
end-requires-2 c =
    let set = setting c.args.g c.args.mask.now c.args.fates.now in
    let d = device c.args.interface c.args.array.now c.args.register.now c.args.history.now in
    left_most set d c.args.allowed c.args.state c.args.block c.args.form c.args.page c.args.buffer.now _ _ c.fetch-done.result.outcome c.row_of-row.result _ (ap (λ (x : Bus). line x c.args.array.now c.args.register.now c.args.history.now) c.begin-from.ensures) c.row_of-row.ensures c.fetch-done.ensures.history_after c.fetch-done.ensures.outcome_value c.fetch-done.ensures.buffer_after

pub shape_of-array : goal.shape_of-array
shape_of-array c =
    c.array-1.given

pub shape_of-register : goal.shape_of-register
shape_of-register c =
    c.register-1.given

pub shape_of-history : goal.shape_of-history
shape_of-history c = c.history-1.given

pub shape_of-buffer : goal.shape_of-buffer
shape_of-buffer c = c.buffer-1.given

pub returns : goal.returns
returns c =
    let set = setting c.args.g c.args.mask.now c.args.fates.now in
    let d = device c.args.interface c.args.array.now c.args.register.now c.args.history.now in
    let t = passed_by_is c.fetch-done.result.outcome c.in-Passed.is in
    ends_passed set d c.args.allowed c.args.state c.args.block c.args.form c.args.page c.args.buffer.now _ _ c.fetch-done.result.outcome c.row_of-row.result _ (ap (λ (x : Bus). line x c.args.array.now c.args.register.now c.args.history.now) c.begin-from.ensures) c.row_of-row.ensures c.fetch-done.ensures.history_after c.fetch-done.ensures.outcome_value c.fetch-done.ensures.buffer_after t (c.end-2.ensures _ _ _)
