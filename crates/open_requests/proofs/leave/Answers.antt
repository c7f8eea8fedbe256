-- `open_requests::leave` meets its contract. Assumes nothing.
use Rattle.bus.specs.Line.{line}
use Rattle.open_write.specs.Open.{open_state}
use Rattle.open_requests.proofs.EndLaws.{leave_open, leave_closed}
use Rattle.open_requests.proofs.leave.Goals as goal

pub returns-then-phase-lt2 : goal.returns-then-phase-lt2
returns-then-phase-lt2 c =
    λ st w a p h o cs os. leave_open c.args.allowed (open_state st w c.args.kept.now) c.args.ran.cursor c.args.ran.state (line c.args.ran.bus a p h) o cs os c.if-phase-lt2.true (c.end-returned.ensures a p h) c.keep-write.ensures

pub returns : goal.returns
returns c =
    λ st w a p h o cs os. leave_closed c.args.allowed (open_state st w c.args.kept.now) c.args.ran.cursor c.args.ran.state (line c.args.ran.bus a p h) o cs os c.if-phase-lt2.false (c.end-returned-2.ensures a p h) c.none-none.ensures c.clear.ensures c.is_finished.ensures
