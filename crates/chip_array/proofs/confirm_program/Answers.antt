-- `chip_array::confirm_program` meets its contract: the row and its block lie on the chip, and the page's number fits a byte of the history.
-- Assumes nothing.
use native.Mathlib.Omega.{arith}
use borrow.Author.Tests.{eq-eqb, ne_eqb, lt-leb}
use Rattle.geometry.proofs.SizeLaws.{row_page_below}
use Rattle.chip_array.specs.Device.{device, setting, program_started}
use Rattle.chip_array.proofs.DeviceLaws.{block_below, program_confirmed, program_unstarted}
use Rattle.chip_array.proofs.confirm_program.Goals as goal

pub returns-then-phase-ne-PROGRAM_DATA : goal.returns-then-phase-ne-PROGRAM_DATA
unfolding program_started
returns-then-phase-ne-PROGRAM_DATA c = rw c.refuse.ensures (search ne_eqb)

pub returns-then-first-ne0 : goal.returns-then-first-ne0
unfolding program_started
returns-then-first-ne0 c = rw c.refuse-then-first-ne0.ensures (search (eq-eqb, ne_eqb))

pub returns-then-column-page_size : goal.returns-then-column-page_size
unfolding program_started
returns-then-column-page_size c = rw (c.refuse-then-column-page_size.ensures, ← c.page_size.ensures) (search (eq-eqb, ne_eqb))

pub bounds-history-block : goal.bounds-history-block
bounds-history-block c =
    rw c.requires.fitting.history_long (block_below c.args.g c.requires.fitting.is_valid _ _ c.row_of_address-row.ensures c.block_of_row-block.ensures c.requires.i_bound)

pub returns-then-page-wide : goal.returns-then-page-wide
unfolding program_started
returns-then-page-wide c = rw (c.refuse-then-page-wide.ensures, ← c.row_of_address-row.ensures, ← c.block_of_row-block.ensures, ← c.page_of_row-page.ensures, ← c.wide.ensures, ← c.page_size.ensures) (search (eq-eqb, lt-leb))

pub returns-then-protected-ne0 : goal.returns-then-protected-ne0
returns-then-protected-ne0 c =
    program_unstarted (setting c.args.g c.args.mask.now c.args.fates.now) (device c.args.i c.args.array.now c.args.register.now c.args.history.now) c.row_of_address-row.ensures c.block_of_row-block.result c.page_of_row-page.result c.block_of_row-block.ensures c.page_of_row-page.ensures c.if-phase-ne-PROGRAM_DATA.false c.if-first-ne0.false c.page_size.ensures c.if-column-page_size.false c.wide.ensures c.if-page-wide.false c.if-protected-ne0.true c.stay.ensures

pub program_part-requires : goal.program_part-requires
program_part-requires c = record { valid = c.requires.fitting.is_valid; array_len = c.requires.fitting.array_long; data_len = c.requires.fitting.register_long; mask_len = c.requires.mask_len; row_bound = rw c.row_of_address-row.ensures c.requires.i_bound }

pub overflow_add-history : goal.overflow_add-history
overflow_add-history c =
    rw c.page_of_row-page.ensures (omega (arith, c.requires.fitting.is_valid, row_page_below c.args.g c.requires.fitting.is_valid c.row_of_address-row.result))

pub overflow_cast-history : goal.overflow_cast-history
overflow_cast-history c =
    rw c.page_of_row-page.ensures (omega (arith, c.requires.fitting.is_valid, row_page_below c.args.g c.requires.fitting.is_valid c.row_of_address-row.result))

pub bounds-history-block-2 : goal.bounds-history-block-2
bounds-history-block-2 c =
    rw c.requires.fitting.history_long (block_below c.args.g c.requires.fitting.is_valid _ _ c.row_of_address-row.ensures c.block_of_row-block.ensures c.requires.i_bound)

pub returns : goal.returns
returns c =
    program_confirmed (setting c.args.g c.args.mask.now c.args.fates.now) (device c.args.i c.args.array.now c.args.register.now c.args.history.now) c.row_of_address-row.ensures c.block_of_row-block.result c.page_of_row-page.result c.block_of_row-block.ensures c.page_of_row-page.ensures c.if-phase-ne-PROGRAM_DATA.false c.if-first-ne0.false c.page_size.ensures c.if-column-page_size.false c.wide.ensures c.if-page-wide.false c.if-protected-ne0.false c.start.ensures c.program_part.ensures
