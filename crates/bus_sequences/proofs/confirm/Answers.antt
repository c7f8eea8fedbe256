-- `bus_sequences::confirm` meets its contract: two command cycles, one after the other. Assumes nothing.
use Rattle.bus_sequences.proofs.DataLaws.{lone, onward}
use Rattle.bus_sequences.proofs.confirm.Goals as goal

pub returns : goal.returns
returns c =
    onward _ _ _ _ c.command-b.ensures (lone _ _ _ c.command.ensures)
