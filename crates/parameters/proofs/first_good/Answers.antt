-- `parameters::first_good` meets its contract. Assumes nothing.
use mathlib.Core.Path.{◌∙◌}
use Rattle.parameters.proofs.PageLaws.{first_good-cut}
use Rattle.parameters.proofs.first_good.Goals as goal

pub returns : goal.returns
returns c = c.find_good.ensures ∙ first_good-cut c.args.parameters.now _ c.told-parameters c.as_chunks.ensures.front
