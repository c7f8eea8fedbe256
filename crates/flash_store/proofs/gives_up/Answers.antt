-- `flash_store::gives_up` meets its contract. Assumes nothing.
use borrow.Author.Tests.{eq-eqb, ne_eqb}
use lib.Dec.{eqb}
use Rattle.flash_store.proofs.LibraryLaws.{turned}
use Rattle.flash_store.proofs.gives_up.Goals as goal

pub returns-then-answer-eq-REFUSED_SIZES : goal.returns-then-answer-eq-REFUSED_SIZES
returns-then-answer-eq-REFUSED_SIZES c = search eq-eqb

pub returns : goal.returns
returns c = rw (ne_eqb c.args.answer 1 c.if-answer-eq-REFUSED_SIZES.false) (turned (eqb c.args.answer 13))
