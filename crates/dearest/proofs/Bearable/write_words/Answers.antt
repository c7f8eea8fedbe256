-- `dearest::Bearable::write_words` meets its contract. Assumes nothing.
use Prim.Native.Nat.{ℕ}
use mathlib.Core.Path.{ap, ◌∙◌}
use native.Mathlib.Omega.{arith}
use lib.ListN.{length, replicate, length-replicate}
use Rattle.dearest.specs.Dearest.{slow_word, copy_operations, failing_to, dearest_fates}
use Rattle.dearest.proofs.WordLaws.{words-room}
use Rattle.dearest.proofs.Bearable.write_words.Goals as goal

pub fail_last-requires : goal.fail_last-requires
fail_last-requires c =
    let long = ap length (c.fill.ensures.after (λ y e. e)) ∙ length-replicate _ _ ∙ c.requires in record { each_nonzero = omega (arith, c.args.self.within.pages_least); each_in_bounds = omega (arith, long, words-room c.args.self.g c.args.self.failed) }

pub returns : goal.returns
unfolding dearest_fates
returns c =
    c.fail_last.ensures
    ∙ ap (failing_to (copy_operations c.args.self.g) c.args.self.failed) (c.fill.ensures.after (λ y e. e) ∙ ap (λ (n : ℕ). replicate n slow_word) c.requires)
