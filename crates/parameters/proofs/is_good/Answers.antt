-- `parameters::is_good` meets its contract. Assumes nothing.
use mathlib.Core.Path.{sym, ap₂, ◌∙◌}
use lib.Dec.{eqb}
use Rattle.parameters.specs.Page.{good}
use Rattle.parameters.proofs.is_good.Goals as goal

pub returns-then-starts_with : goal.returns-then-starts_with
unfolding good
returns-then-starts_with c =
    rw (sym c.starts_with.ensures.value ∙ c.if-starts_with.true) (ap₂ eqb c.pair_at.ensures c.crc.ensures)

pub returns-else-starts_with : goal.returns-else-starts_with
unfolding good
returns-else-starts_with c = rw (sym c.starts_with.ensures.value ∙ c.if-starts_with.false) c.if-starts_with.false
