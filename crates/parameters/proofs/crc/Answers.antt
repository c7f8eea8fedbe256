-- `parameters::crc` meets its contract. Assumes nothing.
use mathlib.Core.Path.{sym, ◌∙◌}
use native.Mathlib.Omega.{arith}
use Rattle.parameters.proofs.CrcLaws.{bytes_on, bytes_none}
use Rattle.parameters.proofs.crc.Goals as goal

pub loop-byte-preserved : goal.loop-byte-preserved
loop-byte-preserved c =
    bytes_on c.loop-byte.register _ c.loop-byte.byte-index c.args.bytes.now (omega (arith, c.loop-byte-test)) c.with_byte-register.ensures
    ∙ c.loop-byte.invariant

pub returns : goal.returns
returns c =
    c.from.ensures
    ∙ sym (bytes_none c.loop-byte.register c.loop-byte.byte-index c.args.bytes.now (omega (arith, c.loop-byte-test)))
    ∙ c.loop-byte.invariant
