use Rattle.demo_journal.proofs.SaleLaws.{told_is}
use Rattle.demo_journal.proofs.sales.tell.Goals as goal

pub returns : goal.returns
returns c =
    told_is _ _ _ c.args.store c.ended.ensures.r_value c.ended.ensures.geometry_value c.takings-total.ensures
