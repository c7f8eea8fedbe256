-- `format_erase::after_erase` meets its contract. Assumes nothing.
use Rattle.chip_array.specs.Device.{setting}
use Rattle.bus_polling.proofs.OutcomeLaws.{failed_by_is, unfailed_by_not, failed_answered}
use Rattle.format_erase.proofs.RoundLaws.{after-unfailed, after_same}
use Rattle.format_erase.proofs.after_erase.Goals as goal

pub read_failed-requires : goal.read_failed-requires
read_failed-requires c = record { called = c.requires.called (failed_answered _ (failed_by_is _ c.in-Failed.is)); block_lt_blocks = c.requires.block_lt_blocks; page_len = c.requires.page_len }

pub returns-in-Failed : goal.returns-in-Failed
returns-in-Failed c =
    after_same c.in-Failed.is c.read_failed.ensures

pub returns-in_default : goal.returns-in_default
returns-in_default c =
    after-unfailed (setting c.args.g c.args.mask.now c.args.fates.now) c.args.from c.args.array.now c.args.register.now c.args.history.now c.args.block c.args.outcome (unfailed_by_not _ c.in_default.not-Failed) c.requires.called c.not_failed.ensures
