-- `flash_store::costs::flash_store_dearest_write` meets its contract. Assumes nothing.
use Rattle.c_buffers.specs.Buffers.{geometry_of}
use Rattle.flash_store.proofs.DearestLaws.{cycles_wrongly, dearest_handed_fact}
use Rattle.flash_store.proofs.costs.flash_store_dearest_write.Goals as goal

pub returns-then-cycles-ne1 : goal.returns-then-cycles-ne1
returns-then-cycles-ne1 c =
    cycles_wrongly (geometry_of c.args.main c.args.spare c.args.pages c.args.blocks c.args.logical) c.args.failed c.args.words.now c.args.cycles.now c.if-cycles-ne1.true

pub returns-in-Ok : goal.returns-in-Ok
returns-in-Ok c =
    dearest_handed_fact (geometry_of c.args.main c.args.spare c.args.pages c.args.blocks c.args.logical) c.args.failed c.args.words.now c.args.cycles.now _ _ _ c.if-cycles-ne1.false
    c.in-Ok.ensures

pub returns-in-Err : goal.returns-in-Err
returns-in-Err c =
    rw c.number.ensures
    (dearest_handed_fact (geometry_of c.args.main c.args.spare c.args.pages c.args.blocks c.args.logical) c.args.failed c.args.words.now c.args.cycles.now _ _ _ c.if-cycles-ne1.false
    c.in-Err.ensures)
