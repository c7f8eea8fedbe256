-- `flash_store::flash_store_read` meets its contract. Assumes nothing.
use mathlib.Core.Path.{sym, ◌∙◌}
use Rattle.chip_array.specs.Device.{setting}
use Rattle.flash_store.proofs.LibraryLaws.{read_wrongly, read_handed_fact, read_refused}
use Rattle.c_buffers.specs.Buffers.{geometry_of, lent}
use Rattle.c_buffers.proofs.BufferLaws.{right-long}
use Rattle.flash_store.proofs.flash_store_read.Goals as goal

pub returns-then-not-is_lent_rightly : goal.returns-then-not-is_lent_rightly
returns-then-not-is_lent_rightly c =
    let l = (lent c.args.state.now c.args.interface.now c.args.array.now c.args.register.now c.args.history.now c.args.sent.now) in
    let set = (setting (geometry_of c.args.main c.args.spare c.args.pages c.args.blocks c.args.logical) c.args.mask.now c.args.fates.now) in let v = read_wrongly set l c.args.allowed c.args.block c.args.page c.args.buffer.now (sym c.is_lent_rightly.ensures ∙ c.if-not-is_lent_rightly.true) in record { buffer_after = v.0; passed_on = v.1 }

pub state_of-before-requires : goal.state_of-before-requires
state_of-before-requires c = (right-long _ _ _ (sym c.is_lent_rightly.ensures ∙ c.if-not-is_lent_rightly.false)).state_long

pub write_of-write-requires : goal.write_of-write-requires
write_of-write-requires c = (right-long _ _ _ (sym c.is_lent_rightly.ensures ∙ c.if-not-is_lent_rightly.false)).state_long

pub interface_of-start-requires : goal.interface_of-start-requires
interface_of-start-requires c = (right-long _ _ _ (sym c.is_lent_rightly.ensures ∙ c.if-not-is_lent_rightly.false)).interface_long

pub is_inside-requires : goal.is_inside-requires
is_inside-requires c = (right-long _ _ _ (sym c.is_lent_rightly.ensures ∙ c.if-not-is_lent_rightly.false)).state_long

pub held-held-requires : goal.held-held-requires
held-held-requires c = (right-long _ _ _ (sym c.is_lent_rightly.ensures ∙ c.if-not-is_lent_rightly.false)).state_long

pub refuse-requires : goal.refuse-requires
refuse-requires c = let long = right-long _ _ _ (sym c.is_lent_rightly.ensures ∙ c.if-not-is_lent_rightly.false) in record { state_len = long.state_long; interface_len = long.interface_long; sent_len = long.sent_long }

pub returns-then-not-is_inside : goal.returns-then-not-is_inside
returns-then-not-is_inside c =
    let l = (lent c.args.state.now c.args.interface.now c.args.array.now c.args.register.now c.args.history.now c.args.sent.now) in
    let set = (setting (geometry_of c.args.main c.args.spare c.args.pages c.args.blocks c.args.logical) c.args.mask.now c.args.fates.now) in
    let right = sym c.is_lent_rightly.ensures ∙ c.if-not-is_lent_rightly.false in let v = read_refused l right c.state_of-before.result c.write_of-write.result c.interface_of-start.result c.state_of-before.ensures c.write_of-write.ensures c.interface_of-start.ensures set c.args.allowed c.args.block c.args.page c.args.buffer.now _ _ _ (sym (c.is_inside.ensures c.state_of-before.result) ∙ c.if-not-is_inside.true) c.held-held.ensures (c.refuse.ensures.by_index _ _ _) c.refuse.ensures.state_after in record { buffer_after = v.0; passed_on = v.1 }

pub hand_back-requires : goal.hand_back-requires
hand_back-requires c = let long = right-long _ _ _ (sym c.is_lent_rightly.ensures ∙ c.if-not-is_lent_rightly.false) in record { state_len = long.state_long; interface_len = long.interface_long; sent_len = long.sent_long }

pub returns : goal.returns
returns c =
    let l = (lent c.args.state.now c.args.interface.now c.args.array.now c.args.register.now c.args.history.now c.args.sent.now) in
    let set = (setting (geometry_of c.args.main c.args.spare c.args.pages c.args.blocks c.args.logical) c.args.mask.now c.args.fates.now) in
    let right = sym c.is_lent_rightly.ensures ∙ c.if-not-is_lent_rightly.false in let v = read_handed_fact l right c.state_of-before.result c.write_of-write.result c.interface_of-start.result c.state_of-before.ensures c.write_of-write.ensures c.interface_of-start.ensures set c.args.allowed c.args.block c.args.page c.args.buffer.now _ _ _ _ _ (sym (c.is_inside.ensures c.state_of-before.result) ∙ c.if-not-is_inside.false) c.read-returned.ensures c.is_stopping-gone.ensures (c.hand_back.ensures.by_index _ _ _) c.hand_back.ensures.state_after in record { buffer_after = v.0; passed_on = v.1 }
