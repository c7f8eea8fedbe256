-- `chip_array::complete` meets its contract: the row and its block lie on the chip. Assumes nothing.
use Rattle.chip_array.specs.Device.{device}
use Rattle.chip_array.proofs.DeviceLaws.{block_below, read_completed, failure_completed, program_completed, erase_completed, none_completed}
use Rattle.chip_array.proofs.complete.Goals as goal

pub returns-then-operation-eq-READ : goal.returns-then-operation-eq-READ
returns-then-operation-eq-READ c =
    read_completed c.args.g (device c.args.i c.args.array.now c.args.register.now c.args.history.now) c.if-operation-eq-READ.true c.page_loaded.ensures

pub returns-then-failed-ne0 : goal.returns-then-failed-ne0
returns-then-failed-ne0 c =
    failure_completed c.args.g (device c.args.i c.args.array.now c.args.register.now c.args.history.now) c.if-operation-eq-READ.false c.if-failed-ne0.true c.shows_status.ensures

pub program_rest-requires : goal.program_rest-requires
program_rest-requires c = record { valid = c.requires.fitting.is_valid; array_len = c.requires.fitting.array_long; data_len = c.requires.fitting.register_long; row_bound = rw c.row_of_address-row.ensures c.requires.i_bound }

pub returns-then-operation-eq-PROGRAM : goal.returns-then-operation-eq-PROGRAM
returns-then-operation-eq-PROGRAM c =
    program_completed c.args.g (device c.args.i c.args.array.now c.args.register.now c.args.history.now) c.row_of_address-row.ensures c.if-operation-eq-PROGRAM.true c.if-failed-ne0.false c.shows_status-then-operation-eq-PROGRAM.ensures c.program_rest.ensures

pub erase_rest-requires : goal.erase_rest-requires
erase_rest-requires c = record { valid = c.requires.fitting.is_valid; array_len = c.requires.fitting.array_long; block_lt_blocks = block_below c.args.g c.requires.fitting.is_valid _ _ c.row_of_address-row.ensures c.block_of_row-block.ensures c.requires.i_bound }

pub bounds-history-block : goal.bounds-history-block
bounds-history-block c =
    rw c.requires.fitting.history_long (block_below c.args.g c.requires.fitting.is_valid _ _ c.row_of_address-row.ensures c.block_of_row-block.ensures c.requires.i_bound)

pub returns-then-operation-eq-ERASE : goal.returns-then-operation-eq-ERASE
returns-then-operation-eq-ERASE c =
    erase_completed c.args.g (device c.args.i c.args.array.now c.args.register.now c.args.history.now) c.block_of_row-block.result c.row_of_address-row.ensures c.block_of_row-block.ensures c.if-operation-eq-ERASE.true c.if-failed-ne0.false c.shows_status-then-operation-eq-ERASE.ensures c.erase_rest.ensures

pub returns : goal.returns
returns c =
    none_completed c.args.g (device c.args.i c.args.array.now c.args.register.now c.args.history.now) c.if-operation-eq-READ.false c.if-failed-ne0.false c.if-operation-eq-PROGRAM.false c.if-operation-eq-ERASE.false c.refuse.ensures
