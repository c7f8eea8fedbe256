-- `scan_found::contents::Copies::is_clash` meets its contract. Assumes nothing.
use native.Mathlib.Omega.{arith}
use Rattle.copies.proofs.PickLaws.{search_begins, search_hit, search_miss, search_none}
use Rattle.scan_found.specs.Contents.{clashing}
use Rattle.scan_found.specs.Told.{told}
use Rattle.scan_found.proofs.contents.Copies.is_clash.Goals as goal

pub loop-b-init : goal.loop-b-init
loop-b-init c = search_begins _ _

pub returns-then-is_clashing : goal.returns-then-is_clashing
returns-then-is_clashing c =
    search_hit (clashing (told c.args.self.now) c.args.bits.now c.args.logical) c.args.blocks c.loop-b.b c.loop-b.invariant (omega arith) _ c.is_clashing.ensures c.if-is_clashing.true

pub loop-b-preserved : goal.loop-b-preserved
loop-b-preserved c =
    search_miss (clashing (told c.args.self.now) c.args.bits.now c.args.logical) c.args.blocks c.loop-b.b c.loop-b.invariant (omega arith) _ c.is_clashing.ensures c.if-is_clashing.false

pub returns : goal.returns
returns c =
    search_none (clashing (told c.args.self.now) c.args.bits.now c.args.logical) c.args.blocks c.loop-b.b c.loop-b.invariant (omega arith)
