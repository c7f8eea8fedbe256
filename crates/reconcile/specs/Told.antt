-- What the call returns, as an answer with four totals.
use Rattle.std.specs.Prelude.{Result, Ok, Err}
use Rattle.reconcile.specs.Totals.{Reconciled, refused}
use Rattle.reconcile.specs.declared.Totals.{Totals}
use Rattle.reconcile.specs.declared.Refused.{Refused}

abbrev pub reconciled_as : Totals → Reconciled
reconciled_as t =
    record {
      answer = 0;
      agreed = t.agreed;
      only_box = t.only_box;
      only_mechanism = t.only_mechanism;
      difference = t.difference;
    }

-- 0 and the totals, or 2 and four zeros
abbrev pub reconciled_by : Result Totals Refused → Reconciled
reconciled_by (Ok t) = reconciled_as t
reconciled_by (Err _) = refused
