-- `table::build_first` meets its contract. Assumes nothing.
use borrow.Author.Rules.{rules}
use native.Mathlib.Omega.{arith}
use Prim.Native.Nat.{◌+◌, ◌-◌, ◌≤◌}
use lib.ListN.{length, take, drop, length-take}
use lib.Seq.{length-take-le}
use mathlib.Core.List.{◌++◌}
use mathlib.Core.Path.{◌≡◌, sym, ◌∙◌}
use Rattle.table.proofs.TableLaws.{built, over_all}
use Rattle.cells.specs.Part.{put}
use Rattle.cells.proofs.PartLaws.{put-lent}
use Rattle.table.proofs.build_first.Goals as goal

pub returns : goal.returns
returns c =
    let size = c.bitmap_bytes-size.result in
    let bits = take size c.args.invalid.now in
    let room : size ≤ length c.args.invalid.now = rw c.bitmap_bytes-size.ensures (omega (arith, c.requires.blocks_bound)) in
    let before = c.write_pair-4.new.bytes in
    let long : length bits ≡ size = length-take-le size c.args.invalid.now room in
    let whole : c.copy.new.into ≡ bits = c.copy.ensures ∙ over_all bits (take (8 + size - 8) (drop 8 before)) (rw long (simp (length-take) (omega arith))) in
    let over-bits : take 8 before ++ (c.copy.new.into ++ drop (8 + size - 8) (drop 8 before)) ≡ put 8 bits before =
    rw whole (put-lent 8 (8 + size - 8) bits before (long ∙ omega arith)) in
    let kept = sym c.fill_ones.auto.bytes ∙ (search rules) in
    built c.args.main.now c.write_pair.new.bytes c.write_pair-2.new.bytes c.write_pair-3.new.bytes before _ c.fill_ones.new.bytes
    c.args.invalid.now c.args.blocks c.args.logical c.count_set.result size
    room c.bitmap_bytes-size.ensures c.count_set.ensures
    c.write_pair.ensures c.write_pair-2.ensures c.write_pair-3.ensures c.write_pair-4.ensures
    over-bits kept c.fill_ones.ensures
