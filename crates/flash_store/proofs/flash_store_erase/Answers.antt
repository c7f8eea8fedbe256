-- `flash_store::flash_store_erase` meets its contract. Assumes nothing.
use mathlib.Core.Path.{sym, ◌∙◌}
use Rattle.chip_array.specs.Device.{Device, device, setting}
use Rattle.open_write.specs.Open.{OpenState, open_state}
use Rattle.open_write.specs.Requests.{erasing_open}
use Rattle.open_write.proofs.BesideLaws.{erase_beside, erase_held}
use Rattle.flash_store.specs.Library.{erasing_lent}
use Rattle.flash_store.proofs.LibraryLaws.{lent_wrongly, request_handed, left-beside, idle_inside}
use Rattle.c_open.specs.OpenBytes.{bytes_page}
use Rattle.c_buffers.specs.Buffers.{geometry_of, lent}
use Rattle.c_buffers.proofs.BufferLaws.{right-long}
use Rattle.flash_store.proofs.flash_store_erase.Goals as goal

pub returns-then-not-is_lent_rightly : goal.returns-then-not-is_lent_rightly
unfolding erasing_lent
returns-then-not-is_lent_rightly c =
    let l = (lent c.args.state.now c.args.interface.now c.args.array.now c.args.register.now c.args.history.now c.args.sent.now) in
    let set = (setting (geometry_of c.args.main c.args.spare c.args.pages c.args.blocks c.args.logical) c.args.mask.now c.args.fates.now) in let v = lent_wrongly l _ (sym c.is_lent_rightly.ensures ∙ c.if-not-is_lent_rightly.true) in record { sent_after = v.0; passed_on = v.1 }

pub state_of-before-requires : goal.state_of-before-requires
state_of-before-requires c = (right-long _ _ _ (sym c.is_lent_rightly.ensures ∙ c.if-not-is_lent_rightly.false)).state_long

pub write_of-write-requires : goal.write_of-write-requires
write_of-write-requires c = (right-long _ _ _ (sym c.is_lent_rightly.ensures ∙ c.if-not-is_lent_rightly.false)).state_long

pub interface_of-start-requires : goal.interface_of-start-requires
interface_of-start-requires c = (right-long _ _ _ (sym c.is_lent_rightly.ensures ∙ c.if-not-is_lent_rightly.false)).interface_long

pub held-held-requires : goal.held-held-requires
held-held-requires c = (right-long _ _ _ (sym c.is_lent_rightly.ensures ∙ c.if-not-is_lent_rightly.false)).state_long

pub refuse-requires : goal.refuse-requires
refuse-requires c = let long = right-long _ _ _ (sym c.is_lent_rightly.ensures ∙ c.if-not-is_lent_rightly.false) in record { state_len = long.state_long; interface_len = long.interface_long; sent_len = long.sent_long }

pub returns-then-opened-ne0 : goal.returns-then-opened-ne0
unfolding erasing_lent
returns-then-opened-ne0 c =
    let l = (lent c.args.state.now c.args.interface.now c.args.array.now c.args.register.now c.args.history.now c.args.sent.now) in
    let set = (setting (geometry_of c.args.main c.args.spare c.args.pages c.args.blocks c.args.logical) c.args.mask.now c.args.fates.now) in
    let right = sym c.is_lent_rightly.ensures ∙ c.if-not-is_lent_rightly.false in
    let x = open_state c.state_of-before.result c.write_of-write.result (bytes_page c.args.state.now) in
    let d = device c.interface_of-start.result c.args.array.now c.args.register.now c.args.history.now in let v = request_handed l right c.state_of-before.result c.write_of-write.result c.interface_of-start.result c.state_of-before.ensures c.write_of-write.ensures c.interface_of-start.ensures (λ (k : Device) (y : OpenState). erasing_open set k c.args.allowed y c.args.block) _ _ _
    (erase_held set d c.args.allowed x c.args.block c.if-opened-ne0.true _ c.held-held.ensures) (c.refuse.ensures.by_index _ _ _) c.refuse.ensures.state_after in record { sent_after = v.0; passed_on = v.1 }

pub hand_back-requires : goal.hand_back-requires
hand_back-requires c = let long = right-long _ _ _ (sym c.is_lent_rightly.ensures ∙ c.if-not-is_lent_rightly.false) in record { state_len = long.state_long; interface_len = long.interface_long; sent_len = long.sent_long }

pub returns : goal.returns
unfolding erasing_lent
returns c =
    let l = (lent c.args.state.now c.args.interface.now c.args.array.now c.args.register.now c.args.history.now c.args.sent.now) in
    let set = (setting (geometry_of c.args.main c.args.spare c.args.pages c.args.blocks c.args.logical) c.args.mask.now c.args.fates.now) in
    let right = sym c.is_lent_rightly.ensures ∙ c.if-not-is_lent_rightly.false in
    let x = open_state c.state_of-before.result c.write_of-write.result (bytes_page c.args.state.now) in
    let d = device c.interface_of-start.result c.args.array.now c.args.register.now c.args.history.now in let v = request_handed l right c.state_of-before.result c.write_of-write.result c.interface_of-start.result c.state_of-before.ensures c.write_of-write.ensures c.interface_of-start.ensures (λ (k : Device) (y : OpenState). erasing_open set k c.args.allowed y c.args.block) _ _ _
    (left-beside x _ _ _ c.erase-returned.ensures c.is_stopping-gone.ensures ∙ erase_beside set d c.args.allowed x c.args.block c.if-opened-ne0.false (idle_inside l right (geometry_of c.args.main c.args.spare c.args.pages c.args.blocks c.args.logical) c.state_of-before.result c.write_of-write.result c.if-opened-ne0.false)) (c.hand_back.ensures.by_index _ _ _) c.hand_back.ensures.state_after in record { sent_after = v.0; passed_on = v.1 }
