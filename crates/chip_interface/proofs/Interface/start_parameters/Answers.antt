-- `chip_interface::Interface::start_parameters` meets its contract. Assumes nothing.
use Rattle.chip_interface.proofs.Interface.start_parameters.Goals as goal

pub returns : goal.returns
returns c = rw (c.low_half-busy.ensures, c.next_fate-next.ensures, c.fate_word-word.ensures)
