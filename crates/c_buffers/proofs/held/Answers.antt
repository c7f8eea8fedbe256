-- `c_buffers::held` meets its contract. Assumes nothing.
use Prim.Native.Nat.{ℕ}
use mathlib.Core.List.{List}
use mathlib.Core.Path.{ap, ◌∙◌}
use Rattle.request.specs.Call.{sized}
use Rattle.open_write.specs.Open.{open_state}
use Rattle.open_write.specs.Requests.{open_refusal}
use Rattle.c_open.proofs.ByteLaws.{page-lent}
use Rattle.c_buffers.proofs.held.Goals as goal

pub returns : goal.returns
returns c =
    c.refusal.ensures
    ∙ ap (λ (page : List ℕ). open_refusal c.args.g (sized c.args.g c.args.array c.args.register c.args.history c.args.mask) (open_state c.args.before c.args.write page) c.args.barred) (page-lent c.args.state.now c.requires)
