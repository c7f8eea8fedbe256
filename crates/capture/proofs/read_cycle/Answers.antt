-- `capture::read_cycle` meets its contract: up to the last status read, then the bytes out. Assumes nothing.
use Rattle.std.proofs.Common.{◌<◌, ◌+◌, sym, ◌∙◌, arith}
use Rattle.capture.proofs.AtLaws.{read_fetch, read_output}
use Rattle.capture.proofs.read_cycle.Goals as goal
use Rattle.capture.proofs.read_cycle.Goals.{then-i-lt8-via-then-i-lt8, then-i-lt8-via-else-i-lt8+then-i-polls}

pub returns-then-i-lt8 : goal.returns-then-i-lt8
returns-then-i-lt8 c =
    let s = c.args in
    let inside : s.i < 8 + s.polls = elim c.then-i-lt8.branch [ then-i-lt8-via-then-i-lt8 w ↦ omega arith | then-i-lt8-via-else-i-lt8+then-i-polls w ↦ omega arith ] in
    c.fetch_cycle.ensures ∙ sym (read_fetch s.row s.column s.polls s.i s.moved inside)

pub returns : goal.returns
returns c =
    c.output_cycle.ensures ∙ sym (read_output c.args.row c.args.column c.args.polls c.args.i c.args.moved (omega arith) (omega arith))
