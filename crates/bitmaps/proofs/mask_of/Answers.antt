-- `bitmaps::mask_of` meets its contract: the place is the block's remainder by 8. Assumes nothing.
use borrow.Author.Rules.{rules}
use Rattle.bitmaps.proofs.BitLaws.{masked_below, place_is, shifted_to_place}
use Rattle.bitmaps.proofs.mask_of.Goals as goal

pub overflow_cast-result : goal.overflow_cast-result
overflow_cast-result c = record { fits = search (rules, masked_below) }

pub overflow_shl-result : goal.overflow_shl-result
overflow_shl-result c = search (rules, masked_below)

pub returns : goal.returns
returns c = shifted_to_place c.args.block _ (place_is c.args.block)
