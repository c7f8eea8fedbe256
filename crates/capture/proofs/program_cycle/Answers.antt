-- `capture::program_cycle` meets its contract: 80h, the address bytes, the data, then 10h and what follows it. Assumes nothing.
use Rattle.std.proofs.Common.{ℕ, Some, ap, sym, ◌∙◌, arith}
use Rattle.capture.specs.declared.Captured.TheVariants.{DataIn}
use Rattle.capture.proofs.AtLaws.{program_byte, program_polled}
use Rattle.capture.proofs.program_cycle.Goals as goal

pub returns-in-Some : goal.returns-in-Some
returns-in-Some c =
    let s = c.args in
    ap (λ (b : ℕ). Some (DataIn b)) (c.in-Some.ensures.lookup.3.1 0)
    ∙ sym (program_byte s.row s.«data».now s.polls s.i (omega arith) (omega (arith, c.in-Some.ensures.lookup.3.0)))

pub returns-in-None : goal.returns-in-None
returns-in-None c =
    let s = c.args in
    c.polled_cycle.ensures
    ∙ sym (program_polled s.row s.«data».now s.polls s.i (omega arith) (omega (arith, c.in-None.ensures.lookup.3)))
