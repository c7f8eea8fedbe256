-- `write::fill` meets its contract. Assumes nothing.
use lib.ListN.{length}
use mathlib.Core.Path.{◌≡◌, ◌∙◌}
use native.Mathlib.Omega.{arith}
use Rattle.geometry.proofs.SizeLaws.{page_size_most}
use Rattle.chip_array.specs.Device.{setting}
use Rattle.request.proofs.CallLaws.{lent-page}
use Rattle.fill_cursor.specs.Cursor.{running}
use Rattle.fill_driver.proofs.RunLaws.{first_fits}
use Rattle.write.specs.Update.{update}
use Rattle.write.proofs.EndLaws.{fill_left, fill_ends}
use borrow.Author.Rules.{rules}
use Rattle.write.proofs.fill.Goals as goal

pub run-ran-requires : goal.run-ran-requires
run-ran-requires c = record { lent = c.requires.lent; fits = λ h. first_fits c.args.g c.requires.lent.is_valid 0 c.args.logical c.args.first c.args.count c.args.old _ c.begin-cursor.ensures c.requires.logical_lt_logical _ c.requires.bytes_len; last_lt_blocks = λ h. c.requires.last_lt_blocks; page_len = lent-page _ _ (omega (arith, c.page_size-size.ensures, page_size_most c.args.g c.requires.lent.is_valid)) c.page_size-size.ensures }

pub end-requires : goal.end-requires
end-requires c =
    let set = setting c.args.g c.args.mask.now c.args.fates.now in
    let u = update c.args.logical c.args.old c.args.first c.args.count c.args.bytes.now in
    omega (arith, c.requires.left_le_allowed, fill_left set c.args.allowed c.args.state u _ c.begin-cursor.ensures _ _ (running c.run-ran.result.cursor c.run-ran.result.state) _ c.run-ran.ensures)

pub returns : goal.returns
returns c =
    let invalid_long : length c.args.state.invalid ≡ 512 = search rules in
    let set = setting c.args.g c.args.mask.now c.args.fates.now in
    let u = update c.args.logical c.args.old c.args.first c.args.count c.args.bytes.now in
    λ cs os. c.end.ensures _ _ _ ∙ fill_ends set c.args.allowed c.args.state u _ c.begin-cursor.ensures _ _ (running c.run-ran.result.cursor c.run-ran.result.state) _ c.run-ran.ensures c.requires.lent.is_valid (invalid_long) c.requires.last_lt_blocks (omega arith) cs os
