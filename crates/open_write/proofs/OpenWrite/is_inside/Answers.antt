-- `open_write::OpenWrite::is_inside` meets its contract. Assumes nothing.
use Prim.Native.Nat.{◌≤◌}
use mathlib.Core.Path.{◌∙◌}
use native.Mathlib.Omega.{arith}
use borrow.Author.Tests.{lt-ltb, le-ltb}
use Rattle.open_write.specs.Open.{words_fit}
use Rattle.open_write.proofs.OpenWrite.is_inside.Goals as goal
use Rattle.open_write.proofs.OpenWrite.is_inside.Goals.{then-self-g, else-self-g, then-self-g-2, else-self-g-2}

pub returns-then-self-g-3 : goal.returns-then-self-g-3
unfolding words_fit
returns-then-self-g-3 c =
    let t = c.if-self-g-3.true in
    rw (lt-ltb c.args.self.logical c.args.g.logical (omega arith), lt-ltb c.args.self.first c.args.g.pages (omega arith), lt-ltb c.args.self.block c.args.g.blocks (omega arith))

pub returns-else-self-g-3 : goal.returns-else-self-g-3
unfolding words_fit
returns-else-self-g-3 c =
    elim c.if-self-g-2.branch [
      | then-self-g-2 w ↦
          let past : c.args.g.blocks ≤ c.args.self.block = grind arith in
          w.t-4-is ∙ rw (lt-ltb c.args.self.logical c.args.g.logical (omega arith), lt-ltb c.args.self.first c.args.g.pages (omega arith), le-ltb c.args.self.block c.args.g.blocks past)
      | else-self-g-2 w ↦ elim c.if-self-g.branch [
        | then-self-g v ↦
            let past : c.args.g.pages ≤ c.args.self.first = grind arith in
            w.t-4-is ∙ v.t-5-is ∙ rw (lt-ltb c.args.self.logical c.args.g.logical (omega arith), le-ltb c.args.self.first c.args.g.pages past)
        | else-self-g v ↦ w.t-4-is ∙ v.t-5-is ∙ rw (le-ltb c.args.self.logical c.args.g.logical (omega arith))
      ]
    ]
