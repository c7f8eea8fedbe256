-- `fill_driver::run` meets its contract. Assumes nothing.
use mathlib.Core.Path.{◌≡◌}
use lib.ListN.{length}
use Rattle.chip_array.specs.Device.{setting}
use Rattle.bus.specs.Line.{line}
use Rattle.fill_cursor.specs.Cursor.{running, actions_most}
use Rattle.fill_driver.proofs.RunLaws.{Going}
use Rattle.fill_driver.proofs.run.Given as goal

abbrev pub invariant-loop-g : goal.invariant-loop-g
invariant-loop-g l = (length l.array ≡ length l.initial.array) × (length l.register ≡ length l.initial.register) × (length l.history ≡ length l.initial.history) × (length l.page ≡ length l.initial.page)
    × Going (setting l.g l.mask l.fates) l.bytes l.most (running l.initial.cursor l.initial.state) (line l.initial.bus l.initial.array l.initial.register l.initial.history) l.left (running l.cursor l.state) (line l.bus l.array l.register l.history)

abbrev pub decreases-loop-g : goal.decreases-loop-g
decreases-loop-g l = actions_most l.left (running l.cursor l.state)
