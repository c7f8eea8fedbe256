-- `pages::all_ones` meets its contract. Assumes nothing.
use Rattle.std.proofs.Common.{eqb, rules, tests}
use Rattle.std.proofs.lemmas.Iterator.{YieldsList-from_slice}
use Rattle.std.proofs.lemmas.Iterator.Search.{all_from_yields_List}
use Rattle.pages.proofs.ByteLaws.{all_ones_is}
use Rattle.pages.proofs.all_ones.Goals as goal

pub returns : goal.returns
returns c =
    rw all_ones_is
    (all_from_yields_List (λ x. eqb x 255) _ _ _ c.all.ensures.ran (YieldsList-from_slice c.args.bytes.now cc) (λ x b q k. search (rules, tests)))
