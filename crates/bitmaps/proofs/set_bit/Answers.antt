-- `bitmaps::set_bit` meets its contract. Assumes nothing.
use Rattle.bitmaps.specs.Bitmap.{with_bit}
use Rattle.bitmaps.proofs.set_bit.Goals as goal

pub returns : goal.returns
unfolding with_bit
returns c = rw (c.byte_of.ensures, c.mask_of.ensures)
