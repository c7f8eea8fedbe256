-- `scan_found::contents::Copies::is_shared` meets its contract. Assumes nothing.
use native.Mathlib.Omega.{arith}
use Rattle.copies.proofs.PickLaws.{search_begins, search_hit, search_miss, search_none}
use Rattle.scan_found.specs.Contents.{bears}
use Rattle.scan_found.specs.Told.{told}
use Rattle.scan_found.proofs.contents.Copies.is_shared.Goals as goal

pub loop-b-init : goal.loop-b-init
loop-b-init c = search_begins _ _

pub returns-then-does_bear : goal.returns-then-does_bear
returns-then-does_bear c =
    search_hit (bears (told c.args.self.now) c.args.bits.now c.args.number) c.args.below c.loop-b.b c.loop-b.invariant (omega arith) _ c.does_bear.ensures c.if-does_bear.true

pub loop-b-preserved : goal.loop-b-preserved
loop-b-preserved c =
    search_miss (bears (told c.args.self.now) c.args.bits.now c.args.number) c.args.below c.loop-b.b c.loop-b.invariant (omega arith) _ c.does_bear.ensures c.if-does_bear.false

pub returns : goal.returns
returns c =
    search_none (bears (told c.args.self.now) c.args.bits.now c.args.number) c.args.below c.loop-b.b c.loop-b.invariant (omega arith)
