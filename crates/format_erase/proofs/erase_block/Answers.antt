-- `format_erase::erase_block` meets its contract. Assumes nothing.
use mathlib.Core.Path.{sym, ◌∙◌}
use Rattle.chip_array.specs.Device.{setting}
use Rattle.bus.specs.Line.{line}
use Rattle.bus_polling.proofs.OutcomeLaws.{passed_by_is, passed_unfailed}
use Rattle.format_erase.proofs.RoundLaws.{block_marked, answered_called, block_done, after-unfailed}
use Rattle.format_erase.proofs.erase_block.Goals as goal

pub returns-then-is_set : goal.returns-then-is_set
returns-then-is_set c =
    block_marked (setting c.args.g c.args.mask.now c.args.fates.now) c.args.marked.now c.args.from c.args.array.now c.args.register.now c.args.history.now c.args.block (sym c.is_set.ensures ∙ c.if-is_set.true) c.requires.called c.not_failed.ensures

pub after_erase-requires : goal.after_erase-requires
after_erase-requires c =
    let l = line c.args.from c.args.array.now c.args.register.now c.args.history.now in record { called = answered_called (setting c.args.g c.args.mask.now c.args.fates.now) c.args.marked.now l c.args.block (sym c.is_set.ensures ∙ c.if-is_set.false) (record { called = c.requires.called; block_below = c.requires.block_lt_blocks }) _ c.erase-erased.result.outcome c.row_of-row.result c.row_of-row.ensures c.erase-erased.ensures.history_after c.erase-erased.ensures.outcome_value; block_lt_blocks = c.requires.block_lt_blocks; page_len = c.requires.page_len }

pub shape_of-array-in_default : goal.shape_of-array-in_default
shape_of-array-in_default c =
    c.array-in_default-1.given ∙ c.array-1.given

pub shape_of-register-in_default : goal.shape_of-register-in_default
shape_of-register-in_default c =
    c.register-in_default-1.given ∙ c.register-1.given

pub shape_of-history-in_default : goal.shape_of-history-in_default
shape_of-history-in_default c =
    c.history-in_default-1.given ∙ c.history-1.given

pub returns-in_default : goal.returns-in_default
returns-in_default c =
    let l = line c.args.from c.args.array.now c.args.register.now c.args.history.now in
    block_done (setting c.args.g c.args.mask.now c.args.fates.now) c.args.marked.now l c.args.block (sym c.is_set.ensures ∙ c.if-is_set.false) (record { called = c.requires.called; block_below = c.requires.block_lt_blocks }) _ c.erase-erased.result.outcome c.row_of-row.result c.row_of-row.ensures c.erase-erased.ensures.history_after c.erase-erased.ensures.outcome_value c.after_erase.ensures

pub returns : goal.returns
returns c =
    let set = setting c.args.g c.args.mask.now c.args.fates.now in
    let l = line c.args.from c.args.array.now c.args.register.now c.args.history.now in
    block_done set c.args.marked.now l c.args.block (sym c.is_set.ensures ∙ c.if-is_set.false) (record { called = c.requires.called; block_below = c.requires.block_lt_blocks }) _ c.erase-erased.result.outcome c.row_of-row.result c.row_of-row.ensures c.erase-erased.ensures.history_after c.erase-erased.ensures.outcome_value
    (after-unfailed set c.erase-erased.result.bus _ _ _ c.args.block c.erase-erased.result.outcome (passed_unfailed _ (passed_by_is _ c.in-Passed.is)) (answered_called set c.args.marked.now l c.args.block (sym c.is_set.ensures ∙ c.if-is_set.false) (record { called = c.requires.called; block_below = c.requires.block_lt_blocks }) _ c.erase-erased.result.outcome c.row_of-row.result c.row_of-row.ensures c.erase-erased.ensures.history_after c.erase-erased.ensures.outcome_value) c.not_failed-2.ensures)
