-- `pages::write_pair` meets its contract. Assumes nothing.
use Prim.Native.Nat.{◌+◌, ◌-◌}
use mathlib.Core.Path.{◌≡◌, ap, ◌∙◌}
use native.Mathlib.Omega.{arith}
use lib.ListN.{take}
use Rattle.cells.proofs.PartLaws.{put-lent}
use Rattle.pages.specs.Layout.{bytes_of}
use Rattle.pages.proofs.LayoutLaws.{length-bytes_of}
use Rattle.pages.proofs.write_pair.Goals as goal

pub returns : goal.returns
unfolding bytes_of
returns c =
    let k : c.args.at + 2 - c.args.at ≡ 2 = omega arith in
    let e : c.copy_from_slice.new.self ≡ bytes_of 2 c.args.number = c.copy_from_slice.ensures.after ∙ ap (take 2) c.to_le_bytes.ensures in
    rw (k, e) (put-lent c.args.at 2 (bytes_of 2 c.args.number) c.args.bytes.now (length-bytes_of 2 c.args.number))
