-- `flash_store::opened::flash_store_advance` meets its contract. Assumes nothing.
use Prim.Native.Nat.{ℕ}
use mathlib.Core.List.{List}
use native.Mathlib.Omega.{arith}
use mathlib.Core.Path.{sym, ap, ◌∙◌}
use Rattle.chip_array.specs.Device.{device, setting}
use Rattle.open_write.specs.Open.{open_state}
use Rattle.open_write.specs.Requests.{advancing_write}
use Rattle.c_open.proofs.ByteLaws.{page-lent, page-put}
use Rattle.flash_store.proofs.OpenedLaws.{lent-long, advanced-page, advance_wrongly, word_wrongly, advance_handed_fact}
use Rattle.c_buffers.specs.Buffers.{geometry_of, lent}
use Rattle.c_buffers.proofs.BufferLaws.{right-long, single}
use Rattle.flash_store.proofs.opened.flash_store_advance.Goals as goal

pub returns-then-not-is_lent_rightly : goal.returns-then-not-is_lent_rightly
returns-then-not-is_lent_rightly c =
    let l = (lent c.args.state.now c.args.interface.now c.args.array.now c.args.register.now c.args.history.now c.args.sent.now) in
    let set = (setting (geometry_of c.args.main c.args.spare c.args.pages c.args.blocks c.args.logical) c.args.mask.now c.args.fates.now) in let v = advance_wrongly set l c.args.allowed c.args.most c.args.finished.now (sym c.is_lent_rightly.ensures ∙ c.if-not-is_lent_rightly.true) in record { finished_after = v.0; passed_on = v.1 }

pub returns-then-finished-ne1 : goal.returns-then-finished-ne1
returns-then-finished-ne1 c =
    let l = (lent c.args.state.now c.args.interface.now c.args.array.now c.args.register.now c.args.history.now c.args.sent.now) in
    let set = (setting (geometry_of c.args.main c.args.spare c.args.pages c.args.blocks c.args.logical) c.args.mask.now c.args.fates.now) in let v = word_wrongly set l c.args.allowed c.args.most c.args.finished.now (sym c.is_lent_rightly.ensures ∙ c.if-not-is_lent_rightly.false) c.if-finished-ne1.true in record { finished_after = v.0; passed_on = v.1 }

pub state_of-before-requires : goal.state_of-before-requires
state_of-before-requires c = (right-long _ _ _ (sym c.is_lent_rightly.ensures ∙ c.if-not-is_lent_rightly.false)).state_long

pub write_of-write-requires : goal.write_of-write-requires
write_of-write-requires c = (right-long _ _ _ (sym c.is_lent_rightly.ensures ∙ c.if-not-is_lent_rightly.false)).state_long

pub interface_of-start-requires : goal.interface_of-start-requires
interface_of-start-requires c = (right-long _ _ _ (sym c.is_lent_rightly.ensures ∙ c.if-not-is_lent_rightly.false)).interface_long

pub slice_bounds-advance-end : goal.slice_bounds-advance-end
slice_bounds-advance-end c = omega (arith, (right-long _ _ _ (sym c.is_lent_rightly.ensures ∙ c.if-not-is_lent_rightly.false)).state_long)

pub bounds-finished-0 : goal.bounds-finished-0
bounds-finished-0 c = omega (arith, c.if-finished-ne1.false)

pub hand_back-requires : goal.hand_back-requires
hand_back-requires c = let long = right-long _ _ _ (sym c.is_lent_rightly.ensures ∙ c.if-not-is_lent_rightly.false) in record { state_len = lent-long c.args.state.now c.advance-ended.new.kept long.state_long c.advance-ended.auto.kept; interface_len = long.interface_long; sent_len = long.sent_long }

pub shape_of-state : goal.shape_of-state
shape_of-state c = let long = right-long _ _ _ (sym c.is_lent_rightly.ensures ∙ c.if-not-is_lent_rightly.false) in
    c.state-2-1.given ∙ lent-long c.args.state.now c.advance-ended.new.kept long.state_long c.advance-ended.auto.kept ∙ sym long.state_long

pub returns : goal.returns
returns c =
    let l = (lent c.args.state.now c.args.interface.now c.args.array.now c.args.register.now c.args.history.now c.args.sent.now) in
    let set = (setting (geometry_of c.args.main c.args.spare c.args.pages c.args.blocks c.args.logical) c.args.mask.now c.args.fates.now) in
    let right = sym c.is_lent_rightly.ensures ∙ c.if-not-is_lent_rightly.false in
    let d = device c.interface_of-start.result c.args.array.now c.args.register.now c.args.history.now in
    let long = (right-long _ _ _ right).state_long in let v = advance_handed_fact set l c.args.allowed c.args.most c.args.finished.now right c.if-finished-ne1.false c.state_of-before.result c.write_of-write.result c.interface_of-start.result c.state_of-before.ensures c.write_of-write.ensures c.interface_of-start.ensures _ _ _ _ _
    (advanced-page (page-put c.args.state.now c.advance-ended.new.kept long c.advance-ended.auto.kept) ∙ c.advance-ended.ensures ∙ ap (λ (p : List ℕ). advancing_write set d c.args.allowed (open_state c.state_of-before.result c.write_of-write.result p) c.args.most) (page-lent c.args.state.now long)) (c.hand_back.ensures.by_index _ _ _) c.hand_back.ensures.state_after (single c.args.finished.now c.advance-ended.result.finished c.if-finished-ne1.false) in record { finished_after = v.0; passed_on = v.1 }
