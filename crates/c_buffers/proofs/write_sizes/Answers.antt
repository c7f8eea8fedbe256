-- `c_buffers::write_sizes` meets its contract. Assumes nothing.
use Rattle.c_buffers.proofs.SizeLaws.{sizes_stored}
use Rattle.c_buffers.proofs.write_sizes.Goals as goal

pub returns : goal.returns
returns c = sizes_stored c.args.sizes.now c.args.told c.requires
