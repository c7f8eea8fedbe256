-- `flash_store::opened::flash_store_open_write` meets its contract. Assumes nothing.
use Prim.Native.Nat.{ℕ}
use mathlib.Core.List.{List}
use native.Mathlib.Omega.{arith}
use mathlib.Core.Path.{sym, ap, ◌∙◌}
use Rattle.chip_array.specs.Device.{Device, device, setting}
use Rattle.open_write.specs.Open.{OpenState, open_state}
use Rattle.open_write.specs.Requests.{opening_write}
use Rattle.c_open.proofs.ByteLaws.{page-lent, page-put}
use Rattle.flash_store.specs.Opened.{opening_lent}
use Rattle.flash_store.proofs.LibraryLaws.{lent_wrongly, request_handed}
use Rattle.flash_store.proofs.OpenedLaws.{lent-long, opened-page}
use Rattle.c_buffers.specs.Buffers.{geometry_of, lent}
use Rattle.c_buffers.proofs.BufferLaws.{right-long}
use Rattle.flash_store.proofs.opened.flash_store_open_write.Goals as goal

pub returns-then-not-is_lent_rightly : goal.returns-then-not-is_lent_rightly
unfolding opening_lent
returns-then-not-is_lent_rightly c =
    let l = (lent c.args.state.now c.args.interface.now c.args.array.now c.args.register.now c.args.history.now c.args.sent.now) in
    let set = (setting (geometry_of c.args.main c.args.spare c.args.pages c.args.blocks c.args.logical) c.args.mask.now c.args.fates.now) in let v = lent_wrongly l _ (sym c.is_lent_rightly.ensures ∙ c.if-not-is_lent_rightly.true) in record { sent_after = v.0; passed_on = v.1 }

pub state_of-before-requires : goal.state_of-before-requires
state_of-before-requires c = (right-long _ _ _ (sym c.is_lent_rightly.ensures ∙ c.if-not-is_lent_rightly.false)).state_long

pub write_of-write-requires : goal.write_of-write-requires
write_of-write-requires c = (right-long _ _ _ (sym c.is_lent_rightly.ensures ∙ c.if-not-is_lent_rightly.false)).state_long

pub interface_of-start-requires : goal.interface_of-start-requires
interface_of-start-requires c = (right-long _ _ _ (sym c.is_lent_rightly.ensures ∙ c.if-not-is_lent_rightly.false)).interface_long

pub slice_bounds-open-end : goal.slice_bounds-open-end
slice_bounds-open-end c = omega (arith, (right-long _ _ _ (sym c.is_lent_rightly.ensures ∙ c.if-not-is_lent_rightly.false)).state_long)

pub hand_back-requires : goal.hand_back-requires
hand_back-requires c = let long = right-long _ _ _ (sym c.is_lent_rightly.ensures ∙ c.if-not-is_lent_rightly.false) in
    let o = c.open-ended in record { state_len = lent-long c.args.state.now c.open-ended.new.kept long.state_long c.open-ended.auto.kept; interface_len = long.interface_long; sent_len = long.sent_long }

pub shape_of-state : goal.shape_of-state
shape_of-state c = let long = right-long _ _ _ (sym c.is_lent_rightly.ensures ∙ c.if-not-is_lent_rightly.false) in
    let o = c.open-ended in
    c.state-2-1.given ∙ lent-long c.args.state.now c.open-ended.new.kept long.state_long c.open-ended.auto.kept ∙ sym long.state_long

pub returns : goal.returns
unfolding opening_lent
returns c =
    let l = (lent c.args.state.now c.args.interface.now c.args.array.now c.args.register.now c.args.history.now c.args.sent.now) in
    let set = (setting (geometry_of c.args.main c.args.spare c.args.pages c.args.blocks c.args.logical) c.args.mask.now c.args.fates.now) in
    let right = sym c.is_lent_rightly.ensures ∙ c.if-not-is_lent_rightly.false in
    let d = device c.interface_of-start.result c.args.array.now c.args.register.now c.args.history.now in
    let long = (right-long _ _ _ right).state_long in
    let o = c.open-ended in let v = request_handed l right c.state_of-before.result c.write_of-write.result c.interface_of-start.result c.state_of-before.ensures c.write_of-write.ensures c.interface_of-start.ensures (λ (k : Device) (y : OpenState). opening_write set k c.args.allowed y c.args.block c.args.page c.args.bytes.now) _ _ _
    (opened-page (page-put c.args.state.now c.open-ended.new.kept long c.open-ended.auto.kept) ∙ o.ensures ∙ ap (λ (p : List ℕ). opening_write set d c.args.allowed (open_state c.state_of-before.result c.write_of-write.result p) c.args.block c.args.page c.args.bytes.now) (page-lent c.args.state.now long)) (c.hand_back.ensures.by_index _ _ _) c.hand_back.ensures.state_after in record { sent_after = v.0; passed_on = v.1 }
