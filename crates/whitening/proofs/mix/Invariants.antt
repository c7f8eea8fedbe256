-- `whitening::mix` meets its contract: the bytes are rewritten by what the XOR makes of them. Assumes nothing.
use Rattle.cells.proofs.RewriteLaws.{Rewritten}
use Rattle.whitening.specs.Whitened.{xored}
use Rattle.whitening.proofs.mix.Given as goal

abbrev pub invariant-loop-i : goal.invariant-loop-i
invariant-loop-i l = Rewritten (xored l.initial.bytes l.stream) l.initial.bytes l.bytes l.i
