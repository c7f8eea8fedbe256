-- `flash_store::ledger::flash_store_append` meets its contract. Assumes nothing.
use mathlib.Core.Path.{sym, ap, ◌∙◌}
use Rattle.chip_array.specs.Device.{Device, device, setting}
use Rattle.open_write.specs.Open.{OpenState, open_state}
use Rattle.open_journal.specs.Requests.{append_beside, appending_open}
use Rattle.open_journal.proofs.BesideLaws.{append_beside_fact, append_held}
use Rattle.c_open.specs.OpenBytes.{bytes_page}
use Rattle.c_buffers.specs.Buffers.{geometry_of, lent}
use Rattle.c_buffers.proofs.BufferLaws.{right-long, single}
use Rattle.flash_store.specs.Ledger.{sale_of, append_result}
use Rattle.flash_store.proofs.LibraryLaws.{idle_inside}
use Rattle.flash_store.proofs.LedgerLaws.{told_wrongly, word_wrongly, told_handed_fact, told-beside}
use Rattle.flash_store.proofs.ledger.flash_store_append.Goals as goal

pub returns-then-not-is_lent_rightly : goal.returns-then-not-is_lent_rightly
returns-then-not-is_lent_rightly c =
    let l = (lent c.args.state.now c.args.interface.now c.args.array.now c.args.register.now c.args.history.now c.args.sent.now) in
    let set = (setting (geometry_of c.args.main c.args.spare c.args.pages c.args.blocks c.args.logical) c.args.mask.now c.args.fates.now) in let v = told_wrongly l (append_result set l c.args.allowed (sale_of c.args.selection c.args.count c.args.price c.args.replaces)) c.args.number.now (sym c.is_lent_rightly.ensures ∙ c.if-not-is_lent_rightly.true) in record { number_after = v.0; passed_on = v.1 }

pub returns-then-number-ne1 : goal.returns-then-number-ne1
returns-then-number-ne1 c =
    let l = (lent c.args.state.now c.args.interface.now c.args.array.now c.args.register.now c.args.history.now c.args.sent.now) in
    let set = (setting (geometry_of c.args.main c.args.spare c.args.pages c.args.blocks c.args.logical) c.args.mask.now c.args.fates.now) in let v = word_wrongly l (append_result set l c.args.allowed (sale_of c.args.selection c.args.count c.args.price c.args.replaces)) c.args.number.now (sym c.is_lent_rightly.ensures ∙ c.if-not-is_lent_rightly.false) c.if-number-ne1.true in record { number_after = v.0; passed_on = v.1 }

pub state_of-before-requires : goal.state_of-before-requires
state_of-before-requires c = (right-long _ _ _ (sym c.is_lent_rightly.ensures ∙ c.if-not-is_lent_rightly.false)).state_long

pub write_of-write-requires : goal.write_of-write-requires
write_of-write-requires c = (right-long _ _ _ (sym c.is_lent_rightly.ensures ∙ c.if-not-is_lent_rightly.false)).state_long

pub interface_of-start-requires : goal.interface_of-start-requires
interface_of-start-requires c = (right-long _ _ _ (sym c.is_lent_rightly.ensures ∙ c.if-not-is_lent_rightly.false)).interface_long

pub held-held-requires : goal.held-held-requires
held-held-requires c = (right-long _ _ _ (sym c.is_lent_rightly.ensures ∙ c.if-not-is_lent_rightly.false)).state_long

pub refuse-requires : goal.refuse-requires
refuse-requires c = let long = right-long _ _ _ (sym c.is_lent_rightly.ensures ∙ c.if-not-is_lent_rightly.false) in record { state_len = long.state_long; interface_len = long.interface_long; sent_len = long.sent_long }

pub returns-then-opened-ne0 : goal.returns-then-opened-ne0
returns-then-opened-ne0 c =
    let l = (lent c.args.state.now c.args.interface.now c.args.array.now c.args.register.now c.args.history.now c.args.sent.now) in
    let set = (setting (geometry_of c.args.main c.args.spare c.args.pages c.args.blocks c.args.logical) c.args.mask.now c.args.fates.now) in
    let right = sym c.is_lent_rightly.ensures ∙ c.if-not-is_lent_rightly.false in
    let x = open_state c.state_of-before.result c.write_of-write.result (bytes_page c.args.state.now) in
    let d = device c.interface_of-start.result c.args.array.now c.args.register.now c.args.history.now in let v = told_handed_fact l right c.state_of-before.result c.write_of-write.result c.interface_of-start.result c.state_of-before.ensures c.write_of-write.ensures c.interface_of-start.ensures (λ (k : Device) (y : OpenState). appending_open set k c.args.allowed y (sale_of c.args.selection c.args.count c.args.price c.args.replaces)) c.args.number.now _ _ _ _ _ c.if-number-ne1.false
    (append_held set d c.args.allowed x (sale_of c.args.selection c.args.count c.args.price c.args.replaces) c.if-opened-ne0.true _ c.held-held.ensures) (c.refuse.ensures.by_index _ _ _) c.refuse.ensures.state_after (single c.args.number.now 0 c.if-number-ne1.false) in record { number_after = v.0; passed_on = v.1 }

pub hand_back-requires : goal.hand_back-requires
hand_back-requires c = let long = right-long _ _ _ (sym c.is_lent_rightly.ensures ∙ c.if-not-is_lent_rightly.false) in record { state_len = long.state_long; interface_len = long.interface_long; sent_len = long.sent_long }

pub returns : goal.returns
returns c =
    let l = (lent c.args.state.now c.args.interface.now c.args.array.now c.args.register.now c.args.history.now c.args.sent.now) in
    let set = (setting (geometry_of c.args.main c.args.spare c.args.pages c.args.blocks c.args.logical) c.args.mask.now c.args.fates.now) in
    let right = sym c.is_lent_rightly.ensures ∙ c.if-not-is_lent_rightly.false in
    let x = open_state c.state_of-before.result c.write_of-write.result (bytes_page c.args.state.now) in
    let d = device c.interface_of-start.result c.args.array.now c.args.register.now c.args.history.now in let v = told_handed_fact l right c.state_of-before.result c.write_of-write.result c.interface_of-start.result c.state_of-before.ensures c.write_of-write.ensures c.interface_of-start.ensures (λ (k : Device) (y : OpenState). appending_open set k c.args.allowed y (sale_of c.args.selection c.args.count c.args.price c.args.replaces)) c.args.number.now _ _ _ _ _ c.if-number-ne1.false
    (told-beside x _ _ _ c.is_stopping-gone.ensures ∙ ap (append_beside x) c.append-entered.ensures ∙ append_beside_fact set d c.args.allowed x (sale_of c.args.selection c.args.count c.args.price c.args.replaces) c.if-opened-ne0.false (idle_inside l right (geometry_of c.args.main c.args.spare c.args.pages c.args.blocks c.args.logical) c.state_of-before.result c.write_of-write.result c.if-opened-ne0.false)) (c.hand_back.ensures.by_index _ _ _) c.hand_back.ensures.state_after (single c.args.number.now c.append-entered.result.number c.if-number-ne1.false) in record { number_after = v.0; passed_on = v.1 }
