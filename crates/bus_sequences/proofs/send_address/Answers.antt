-- `bus_sequences::send_address` meets its contract: two address cycles, and the three of the row. Assumes nothing.
use Rattle.bus_sequences.proofs.DataLaws.{onward}
use Rattle.bus_sequences.proofs.send_address.Goals as goal

pub returns : goal.returns
returns c = λ m f a p h. rw (← c.high_part-high.ensures, ← c.low_byte.ensures, ← c.low_byte-2.ensures) (onward _ _ _ _ (c.address-b.ensures m f a p h) (onward _ _ _ _ (c.address-c.ensures m f a p h) (c.send_row.ensures m f a p h)))
