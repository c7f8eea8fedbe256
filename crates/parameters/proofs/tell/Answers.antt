-- `parameters::tell` meets its contract. Assumes nothing.
use mathlib.Core.List.{List}
use Prim.Native.Nat.{ℕ}
use mathlib.Core.Path.{ap, ◌∙◌}
use Rattle.std.specs.Prelude.{Option}
use Rattle.parameters.specs.Page.{judged, told_of, told}
use Rattle.parameters.specs.declared.Sizes.{Sizes}
use Rattle.parameters.proofs.tell.Goals as goal

pub returns-in-Some : goal.returns-in-Some
unfolding told
returns-in-Some c =
    c.judge.ensures
    ∙ ap (λ (z : Sizes). judged z c.args.logical) c.sizes_in.ensures
    ∙ ap (λ (copy : Option (List ℕ)). told_of copy c.args.logical) c.in-Some.ensures

pub returns-in-None : goal.returns-in-None
unfolding told
returns-in-None c =
    ap (λ (copy : Option (List ℕ)). told_of copy c.args.logical) c.in-None.ensures
