use Rattle.std.proofs.Common.{◌<◌}
use Rattle.demo_sweep.proofs.fill_random.Given as goal

abbrev pub invariant-loop-byte : goal.invariant-loop-byte
invariant-loop-byte l = l.word < 65537
