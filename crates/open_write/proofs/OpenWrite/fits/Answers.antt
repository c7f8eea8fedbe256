-- `open_write::OpenWrite::fits` meets its contract. Assumes nothing.
use borrow.Author.Tests.{eq-eqb, ne_eqb}
use Rattle.open_write.specs.Open.{open_fits}
use Rattle.open_write.proofs.OpenWrite.fits.Goals as goal

pub returns-then-self-eq0 : goal.returns-then-self-eq0
unfolding open_fits
returns-then-self-eq0 c = λ st. search eq-eqb

pub returns-else-self-eq0 : goal.returns-else-self-eq0
unfolding open_fits
returns-else-self-eq0 c = λ st. search (eq-eqb, ne_eqb)

pub returns-else-kept-eq-KEPT : goal.returns-else-kept-eq-KEPT
unfolding open_fits
returns-else-kept-eq-KEPT c = λ st. search ne_eqb
