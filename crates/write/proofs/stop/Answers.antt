-- `write::stop` meets its contract. Assumes nothing.
use mathlib.Core.List.{List}
use mathlib.Core.Path.{◌∙◌}
use Prim.Native.Nat.{ℕ}
use Rattle.bus.specs.Line.{line}
use Rattle.request.specs.Call.{end_at}
use Rattle.write.proofs.stop.Goals as goal

pub returns : goal.returns
returns c =
    λ (a p h : List ℕ). c.end.ensures a p h ∙ λ i. end_at c.args.allowed (c.status_answer-answer.ensures i) (c.status_state.ensures i) (line c.args.bus a p h)
