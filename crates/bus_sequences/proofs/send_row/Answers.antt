-- `bus_sequences::send_row` meets its contract: three address cycles, one after the other, with the row's bytes. Assumes nothing.
use Prim.Native.Nat.{◌/◌, ◌%◌}
use mathlib.Core.Path.{◌≡◌}
use Rattle.bus_sequences.proofs.DataLaws.{lone, onward}
use Rattle.bus_sequences.proofs.send_row.Goals as goal

pub returns : goal.returns
returns c = λ m f a p h.
    let row = c.args.row in
    let middle = c.high_part-middle.ensures in
    let high = c.high_part-high.ensures in
    let second : c.low_byte-2.result ≡ row / 256 % 256 = rw (← middle) c.low_byte-2.ensures in
    let third : c.low_byte-3.result ≡ row / 256 / 256 % 256 = rw (← middle, ← high) c.low_byte-3.ensures in
    rw (← c.low_byte.ensures, ← second, ← third) (onward _ _ _ _ (c.address-b.ensures m f a p h) (onward _ _ _ _ (c.address-c.ensures m f a p h) (lone _ _ _ (c.address.ensures m f a p h))))
