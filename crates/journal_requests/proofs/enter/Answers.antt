-- `journal_requests::enter` meets its contract. Assumes nothing.
use Rattle.journal_requests.proofs.EndLaws.{lent_main}
use Rattle.journal_requests.proofs.enter.Goals as goal

pub write_sale-requires : goal.write_sale-requires
write_sale-requires c = record { lent = c.requires.lent; left_le_allowed = c.requires.left_le_allowed; last_lt_blocks = c.requires.last_lt_blocks; records_bound = c.requires.records_bound; page_len = lent_main c.args.g.main c.requires.lent.is_valid.main_most }
