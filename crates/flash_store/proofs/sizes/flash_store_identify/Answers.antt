-- `flash_store::sizes::flash_store_identify` meets its contract. Assumes nothing.
use mathlib.Core.Path.{sym, ◌∙◌}
use Rattle.flash_store.proofs.SizeLaws.{identify_wrongly, sizes_wrongly, identify_handed_fact}
use Rattle.c_buffers.specs.Buffers.{lent}
use Rattle.c_buffers.proofs.BufferLaws.{right-long}
use Rattle.flash_store.proofs.sizes.flash_store_identify.Goals as goal

pub returns-then-not-is_lent_rightly : goal.returns-then-not-is_lent_rightly
returns-then-not-is_lent_rightly c =
    let l = (lent c.args.state.now c.args.interface.now c.args.array.now c.args.register.now c.args.history.now c.args.sent.now) in let v = identify_wrongly c.args.mask.now c.args.fates.now l c.args.allowed c.args.parameters.now c.args.logical c.args.sizes.now (sym c.is_lent_rightly.ensures ∙ c.if-not-is_lent_rightly.true) in record { sizes_after = v.0; passed_on = v.1 }

pub returns-then-sizes-ne4 : goal.returns-then-sizes-ne4
returns-then-sizes-ne4 c =
    let l = (lent c.args.state.now c.args.interface.now c.args.array.now c.args.register.now c.args.history.now c.args.sent.now) in let v = sizes_wrongly c.args.mask.now c.args.fates.now l c.args.allowed c.args.parameters.now c.args.logical c.args.sizes.now (sym c.is_lent_rightly.ensures ∙ c.if-not-is_lent_rightly.false) c.if-sizes-ne4.true in record { sizes_after = v.0; passed_on = v.1 }

pub state_of-before-requires : goal.state_of-before-requires
state_of-before-requires c = (right-long _ _ _ (sym c.is_lent_rightly.ensures ∙ c.if-not-is_lent_rightly.false)).state_long

pub write_of-write-requires : goal.write_of-write-requires
write_of-write-requires c = (right-long _ _ _ (sym c.is_lent_rightly.ensures ∙ c.if-not-is_lent_rightly.false)).state_long

pub interface_of-start-requires : goal.interface_of-start-requires
interface_of-start-requires c = (right-long _ _ _ (sym c.is_lent_rightly.ensures ∙ c.if-not-is_lent_rightly.false)).interface_long

pub write_sizes-requires : goal.write_sizes-requires
write_sizes-requires c = c.if-sizes-ne4.false

pub hand_back-requires : goal.hand_back-requires
hand_back-requires c = let long = right-long _ _ _ (sym c.is_lent_rightly.ensures ∙ c.if-not-is_lent_rightly.false) in record { state_len = long.state_long; interface_len = long.interface_long; sent_len = long.sent_long }

pub returns : goal.returns
returns c =
    let l = (lent c.args.state.now c.args.interface.now c.args.array.now c.args.register.now c.args.history.now c.args.sent.now) in
    let right = sym c.is_lent_rightly.ensures ∙ c.if-not-is_lent_rightly.false in let v = identify_handed_fact c.args.mask.now c.args.fates.now l c.args.allowed c.args.parameters.now c.args.logical c.args.sizes.now right c.if-sizes-ne4.false c.state_of-before.result c.write_of-write.result c.interface_of-start.result c.state_of-before.ensures c.write_of-write.ensures c.interface_of-start.ensures _ _ _ _ _ _ c.identify-identified.ensures c.is_stopping-gone.ensures (c.hand_back.ensures.by_index _ _ _) c.hand_back.ensures.state_after c.write_sizes.ensures in record { sizes_after = v.0; passed_on = v.1 }
