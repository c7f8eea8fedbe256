use Rattle.demo_journal.proofs.SaleLaws.{append_is}
use Rattle.demo_journal.proofs.sales.append.Goals as goal

pub returns : goal.returns
returns c =
    append_is _ _ _ c.args.store _ c.ended.ensures.r_value c.ended.ensures.geometry_value c.append-entered.ensures
