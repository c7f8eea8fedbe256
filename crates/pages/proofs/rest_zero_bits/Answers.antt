-- `pages::rest_zero_bits` meets its contract. Assumes nothing.
use Rattle.std.proofs.Common.{rules}
use Rattle.pages.proofs.CountLaws.{zero_bits_is}
use Rattle.pages.proofs.rest_zero_bits.Goals as goal

pub returns : goal.returns
returns c = rw zero_bits_is (search rules)
