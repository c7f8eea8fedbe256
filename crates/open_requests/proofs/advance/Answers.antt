-- `open_requests::advance` meets its contract. Assumes nothing.
use mathlib.Core.Path.{refl, sym, ap, subst}
use native.Mathlib.Omega.{arith}
use borrow.Author.Tests.{eqb-false}
use lib.ListN.{take}
use Rattle.chip_array.specs.Device.{device, setting}
use Rattle.bus.specs.Line.{line}
use Rattle.bus.specs.declared.Bus.{Bus}
use Rattle.operations.specs.Ends.{Lent}
use Rattle.state.proofs.MountedLaws.{mounted_facts}
use Rattle.fill_cursor.specs.Cursor.{Fits, running}
use Rattle.fill_cursor.specs.declared.Cursor.{Cursor}
use Rattle.fill_laws.proofs.KeepLaws.{run-left}
use Rattle.write.proofs.EndLaws.{call_lent}
use Rattle.open_write.specs.Open.{open_state}
use Rattle.open_requests.proofs.EndLaws.{ran_as, page_kept, words_inside, advance-refused, advance_admitted, advance_ends}
use Rattle.open_requests.proofs.advance.Goals as goal

pub returns-then-refused-ne0 : goal.returns-then-refused-ne0
returns-then-refused-ne0 c =
    let set = setting c.args.g c.args.mask.now c.args.fates.now in
    let d = device c.args.interface c.args.array.now c.args.register.now c.args.history.now in
    let x = open_state c.args.state c.args.write c.args.kept.now in
    advance-refused set d c.args.allowed x c.args.most c.refusal-refused.result c.refusal-refused.ensures c.if-refused-ne0.true (c.unchanged-returned.ensures _ _ _)

pub go_on-ran-requires : goal.go_on-ran-requires
go_on-ran-requires c =
    let set = setting c.args.g c.args.mask.now c.args.fates.now in
    let d = device c.args.interface c.args.array.now c.args.register.now c.args.history.now in
    let x = open_state c.args.state c.args.write c.args.kept.now in
    let a = advance_admitted set d c.args.allowed x c.args.most c.refusal-refused.result c.refusal-refused.ensures c.if-refused-ne0.false in
    let lent = call_lent set d c.args.allowed a.sizes_fit in
    let v = lent.is_valid in
    let fits = words_inside c.args.g v x a.is_inside (eqb-false c.args.write.opened 0 a.not_barred) in record { lent = subst (λ (b : Bus). Lent set (line b c.args.array.now c.args.register.now c.args.history.now)) (sym c.begin-from.ensures) lent; fits = subst (λ (k : Cursor). Fits c.args.g c.args.g.main k) (sym c.cursor-cursor.ensures) fits; last_lt_blocks = (mounted_facts c.args.state c.args.g.blocks c.args.g.logical v.blocks_most a.is_mounted).last_below; main_in_bounds = omega (arith, page_kept c.args.g v x a.is_inside, v.main_most) }

pub leave-requires : goal.leave-requires
leave-requires c =
    let set = setting c.args.g c.args.mask.now c.args.fates.now in
    omega (arith, run-left set (take c.args.g.main c.args.kept.now) c.args.most (running c.cursor-cursor.result c.args.state) (line c.begin-from.result c.args.array.now c.args.register.now c.args.history.now) _ (running c.go_on-ran.result.cursor c.go_on-ran.result.state) c.go_on-ran.ensures, ap (λ (b : Bus). b.left) c.begin-from.ensures)

pub returns : goal.returns
returns c =
    let set = setting c.args.g c.args.mask.now c.args.fates.now in
    let d = device c.args.interface c.args.array.now c.args.register.now c.args.history.now in
    let x = open_state c.args.state c.args.write c.args.kept.now in
    let run = ran_as refl (ap (λ (k : Cursor). running k c.args.state) c.cursor-cursor.ensures) (ap (λ (b : Bus). line b c.args.array.now c.args.register.now c.args.history.now) c.begin-from.ensures) c.go_on-ran.ensures in
    advance_ends set d c.args.allowed x c.args.most c.refusal-refused.result c.refusal-refused.ensures c.if-refused-ne0.false _ (running c.go_on-ran.result.cursor c.go_on-ran.result.state) run _ (λ o cs os. c.leave.ensures c.args.state c.args.write _ _ _ o cs os)
