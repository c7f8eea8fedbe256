-- `open_write::OpenWrite::cursor` meets its contract. Assumes nothing.
use Rattle.open_write.proofs.OpenWrite.cursor.Goals as goal

pub returns : goal.returns
returns c =
    λ i. record { phase = c.told.ensures i; step = c.told-2.ensures i; logical = c.args.self.logical; first = c.args.self.first; count = 1; old = c.args.self.old; block = c.args.self.block; number = c.args.self.number; page = c.args.self.page; failed = c.args.self.failed; answer = 0 }
