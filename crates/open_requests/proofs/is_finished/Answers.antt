-- `open_requests::is_finished` meets its contract. Assumes nothing.
use borrow.Author.Tests.{eq-eqb, ne_eqb}
use Rattle.open_requests.proofs.is_finished.Goals as goal

pub returns-then-answer-eq0 : goal.returns-then-answer-eq0
returns-then-answer-eq0 c = search eq-eqb

pub returns : goal.returns
returns c = search ne_eqb
