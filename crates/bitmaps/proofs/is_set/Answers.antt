-- `bitmaps::is_set` meets its contract. Assumes nothing.
use lib.ListN.{get_or}
use Rattle.bitmaps.specs.Bitmap.{bit_at, byte_of, place_of}
use Rattle.bitmaps.proofs.BitLaws.{bit_tested}
use Rattle.bitmaps.proofs.is_set.Goals as goal

pub returns : goal.returns
unfolding bit_at
returns c = rw (c.byte_of.ensures, c.mask_of.ensures) (bit_tested (get_or c.args.bits.now (byte_of c.args.block) 0) (place_of c.args.block))
