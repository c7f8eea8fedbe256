-- `pages::write_number` meets its contract. Assumes nothing.
use Prim.Native.Nat.{◌+◌, ◌-◌}
use mathlib.Core.Path.{◌≡◌, ◌∙◌}
use native.Mathlib.Omega.{arith}
use Rattle.cells.proofs.PartLaws.{put-lent}
use Rattle.pages.specs.Layout.{bytes_of}
use Rattle.pages.proofs.LayoutLaws.{length-bytes_of}
use Rattle.pages.proofs.ByteLaws.{bytes_is}
use Rattle.pages.proofs.write_number.Goals as goal

pub returns : goal.returns
returns c =
    let k : c.args.at + 8 - c.args.at ≡ 8 = omega arith in
    let e : c.copy_from_slice.new.self ≡ bytes_of 8 c.args.number = c.copy_from_slice.ensures.after ∙ c.to_le_bytes.ensures ∙ bytes_is c.args.number in
    rw (k, e) (put-lent c.args.at 8 (bytes_of 8 c.args.number) c.args.bytes.now (length-bytes_of 8 c.args.number))
