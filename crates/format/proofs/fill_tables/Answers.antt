-- `format::fill_tables` meets its contract. Assumes nothing.
use mathlib.Core.Path.{◌≡◌, sym}
use native.Mathlib.Nat.{zero-mul}
use native.Mathlib.Omega.{arith}
use lib.ListN.{length}
use Rattle.chip_array.specs.Device.{setting}
use Rattle.bus.specs.Line.{line}
use Rattle.operations.proofs.UnreadyLaws.{called_lent}
use Rattle.state.specs.State.{none}
use Rattle.fill_cursor.specs.Cursor.{running}
use Rattle.fill_driver.proofs.RunLaws.{first_fits}
use Rattle.format.proofs.EndLaws.{tables_done}
use borrow.Author.Rules.{rules}
use Rattle.format.proofs.fill_tables.Goals as goal

pub run-requires : goal.run-requires
run-requires c = record { lent = called_lent c.requires.called; fits = λ h. first_fits c.args.g c.requires.called.is_valid 1 0 0 0 none _ c.begin-cursor.ensures (omega (arith, c.requires.called.is_valid.logical_least)) _ (sym (zero-mul c.args.g.main)); last_lt_blocks = λ h. c.requires.last_lt_blocks; page_len = c.requires.page_len }

pub returns : goal.returns
returns c =
    let invalid_long : length c.args.state.invalid ≡ 512 = search rules in
    let set = setting c.args.g c.args.mask.now c.args.fates.now in
    let l = line c.args.from c.args.array.now c.args.register.now c.args.history.now in
    tables_done set c.requires.called.is_valid c.args.state _ c.begin-cursor.ensures l _ (running c.run.result.cursor c.run.result.state) _ c.run.ensures (invalid_long) c.requires.last_lt_blocks (omega arith)
