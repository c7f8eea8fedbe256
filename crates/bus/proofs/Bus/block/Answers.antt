-- `bus::Bus::block` meets its contract: the cut is marked unless there was one or a cycle was answered illegal. Assumes nothing.
use Prim.Native.Nat.{ℕ}
use mathlib.Core.Path.{ap}
use borrow.Author.Tests.{eq-eqb, ne_eqb}
use Rattle.bus.specs.Line.{cut_after}
use Rattle.bus.proofs.Bus.block.Goals as goal

pub returns-then-cut-ne0 : goal.returns-then-cut-ne0
unfolding cut_after
returns-then-cut-ne0 c = search ne_eqb

pub returns-then-illegal-ne0 : goal.returns-then-illegal-ne0
unfolding cut_after
returns-then-illegal-ne0 c =
    ap (λ (k : ℕ). record { interface = c.args.self.interface; left = c.args.self.left; cut = k })
    (search (eq-eqb, ne_eqb))

pub returns : goal.returns
unfolding cut_after
returns c = search eq-eqb
