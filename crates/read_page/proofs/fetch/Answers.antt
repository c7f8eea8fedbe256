-- `read_page::fetch` meets its contract. Assumes nothing.
use native.Mathlib.Omega.{arith}
use Rattle.chip_array.specs.Device.{setting}
use Rattle.bus.specs.Line.{line}
use Rattle.bus_polling.proofs.OutcomeLaws.{passed_by_is, other_by_not}
use Rattle.read_page.proofs.FetchLaws.{fetch_line, fetch_outcome, fetch_stopped, fetch_passed}
use Rattle.read_page.proofs.fetch.Goals as goal

pub returns-in_default : goal.returns-in_default
returns-in_default c =
    let set = setting c.args.g c.args.mask.now c.args.fates.now in
    let l = line c.args.from c.args.array.now c.args.register.now c.args.history.now in
    let t = other_by_not c.read-done.result.outcome c.in_default.not-Passed in record { history_after = fetch_line set l c.args.row c.args.form c.args.page c.args.buffer.now c.args.bytes.now _ c.read-done.result.outcome c.requires.bytes_len c.read-done.ensures.history_after c.read-done.ensures.outcome_value; outcome_value = fetch_outcome set l c.args.row c.args.form c.args.page c.args.buffer.now c.args.bytes.now _ c.read-done.result.outcome c.requires.bytes_len c.read-done.ensures.history_after c.read-done.ensures.outcome_value; buffer_after = fetch_stopped set l c.args.row c.args.form c.args.page c.args.buffer.now c.args.bytes.now _ c.read-done.result.outcome c.requires.bytes_len c.read-done.ensures.history_after c.read-done.ensures.outcome_value t }

pub copy-requires : goal.copy-requires
copy-requires c =
    omega (arith, c.bytes-1.given, c.requires.bytes_len, c.requires.buffer_len)

pub undo-requires : goal.undo-requires
undo-requires c = record { page_bound = omega (arith, c.requires.page_lt_pages, c.requires.valid.pages_most); buffer_len_bound = omega (arith, c.buffer-1.given, c.requires.buffer_len, c.requires.valid.main_most) }

pub returns : goal.returns
returns c =
    let set = setting c.args.g c.args.mask.now c.args.fates.now in
    let l = line c.args.from c.args.array.now c.args.register.now c.args.history.now in
    let t = passed_by_is c.read-done.result.outcome c.in-Passed.is in record { history_after = fetch_line set l c.args.row c.args.form c.args.page c.args.buffer.now c.args.bytes.now _ c.read-done.result.outcome c.requires.bytes_len c.read-done.ensures.history_after c.read-done.ensures.outcome_value; outcome_value = fetch_outcome set l c.args.row c.args.form c.args.page c.args.buffer.now c.args.bytes.now _ c.read-done.result.outcome c.requires.bytes_len c.read-done.ensures.history_after c.read-done.ensures.outcome_value; buffer_after = fetch_passed set l c.args.row c.args.form c.args.page c.args.buffer.now c.args.bytes.now _ c.read-done.result.outcome c.requires.bytes_len c.read-done.ensures.history_after c.read-done.ensures.outcome_value t c.requires.buffer_len _ _ _ c.read-done.ensures.buffer_after c.copy.ensures c.undo.ensures }
