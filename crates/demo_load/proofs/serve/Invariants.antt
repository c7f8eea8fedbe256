use Rattle.std.proofs.Common.{◌≡◌, ◌-◌, drop}
use Rattle.demo_load.specs.Load.{load}
use Rattle.demo_load.proofs.LoadLaws.{on_from}
use Rattle.demo_load.proofs.serve.Given as goal

abbrev pub invariant-loop-made : goal.invariant-loop-made
invariant-loop-made g l = drop l.made (load l.seed l.count) ≡ on_from l.ended (l.requests - l.made) l.last
