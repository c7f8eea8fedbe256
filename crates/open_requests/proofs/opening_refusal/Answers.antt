-- `open_requests::opening_refusal` meets its contract. Assumes nothing.
use mathlib.Core.Path.{ap, ◌∙◌}
use lib.Dec.{eqb}
use Rattle.open_write.specs.Open.{open_state}
use Rattle.open_write.specs.Requests.{open_refusal}
use Rattle.open_requests.proofs.EndLaws.{turned, opening_held, opening_goes}
use Rattle.open_requests.proofs.opening_refusal.Goals as goal

pub returns-then-held-ne0 : goal.returns-then-held-ne0
returns-then-held-ne0 c =
    let x = open_state c.args.state c.args.write c.args.kept.now in
    opening_held c.args.g _ x c.args.logical c.args.page c.args.long _ (c.refusal-held.ensures ∙ ap (open_refusal c.args.g _ x) (turned (eqb c.args.write.opened 0))) c.if-held-ne0.true

pub returns : goal.returns
returns c =
    let x = open_state c.args.state c.args.write c.args.kept.now in
    opening_goes c.args.g _ x c.args.logical c.args.page c.args.long _ (c.refusal-held.ensures ∙ ap (open_refusal c.args.g _ x) (turned (eqb c.args.write.opened 0))) c.if-held-ne0.false _ c.refusal.ensures
