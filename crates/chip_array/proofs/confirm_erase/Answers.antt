-- `chip_array::confirm_erase` meets its contract: the row's block lies on the chip. Assumes nothing.
use borrow.Author.Tests.{eq-eqb, ne_eqb}
use Rattle.chip_array.specs.Device.{device, setting, erase_started}
use Rattle.chip_array.proofs.DeviceLaws.{block_below, erase_confirmed}
use Rattle.chip_array.proofs.confirm_erase.Goals as goal

pub returns-then-phase-ne-ERASE_ADDRESS : goal.returns-then-phase-ne-ERASE_ADDRESS
unfolding erase_started
returns-then-phase-ne-ERASE_ADDRESS c = λ p. rw c.refuse.ensures (search ne_eqb)

pub returns-then-count-ne5 : goal.returns-then-count-ne5
unfolding erase_started
returns-then-count-ne5 c = λ p. rw c.refuse-then-count-ne5.ensures (search (eq-eqb, ne_eqb))

pub returns-then-protected-ne0 : goal.returns-then-protected-ne0
unfolding erase_started
returns-then-protected-ne0 c = λ p. rw c.stay.ensures (search (eq-eqb, ne_eqb))

pub erase_part-requires : goal.erase_part-requires
erase_part-requires c = record { valid = c.requires.valid; array_len = c.requires.array_len; mask_len = c.requires.mask_len; block_lt_blocks = block_below c.args.g c.requires.valid _ _ c.row_of_address-row.ensures c.block_of_row-block.ensures c.requires.i_bound }

pub bounds-history-block : goal.bounds-history-block
bounds-history-block c =
    rw c.requires.history_len (block_below c.args.g c.requires.valid _ _ c.row_of_address-row.ensures c.block_of_row-block.ensures c.requires.i_bound)

pub returns : goal.returns
returns c =
    λ p.
    let start = c.args in
    erase_confirmed (setting start.g start.mask.now start.fates.now) (device start.i start.array.now p start.history.now) c.row_of_address-row.ensures c.block_of_row-block.result c.block_of_row-block.ensures c.if-phase-ne-ERASE_ADDRESS.false c.if-count-ne5.false c.if-protected-ne0.false c.start.ensures c.erase_part.ensures
