-- `chip::data_in` meets its contract. Assumes nothing.
use Rattle.chip.specs.Chip.{data_taken}
use borrow.Author.Tests.{eq-eqb, ne_eqb, lt-ltb, le-ltb}
use Rattle.chip.proofs.data_in.Goals as goal

pub returns-then-column-register : goal.returns-then-column-register
unfolding data_taken
returns-then-column-register c = λ a h. search (eq-eqb, ne_eqb, lt-ltb, le-ltb)

pub returns-else-column-register : goal.returns-else-column-register
unfolding data_taken
returns-else-column-register c = λ a h. search (eq-eqb, ne_eqb, lt-ltb, le-ltb)

pub returns-else-phase-eq-PROGRAM_DATA : goal.returns-else-phase-eq-PROGRAM_DATA
unfolding data_taken
returns-else-phase-eq-PROGRAM_DATA c = λ a h. search (eq-eqb, ne_eqb, lt-ltb, le-ltb)
