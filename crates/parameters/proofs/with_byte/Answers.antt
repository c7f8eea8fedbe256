-- `parameters::with_byte` meets its contract. Assumes nothing.
use Prim.Native.Nat.{ℕ, ◌-◌}
use mathlib.Core.Path.{sym, ap, ◌∙◌}
use native.Mathlib.Omega.{arith}
use Rattle.parameters.specs.Crc.{bits_into}
use Rattle.parameters.proofs.CrcLaws.{bits_on, bits_none, low_bit}
use Rattle.parameters.proofs.with_byte.Goals as goal

pub loop-place-preserved : goal.loop-place-preserved
loop-place-preserved c =
    let left = c.loop-place.place in
    let byte = c.args.byte in
    ap (λ (x : ℕ). bits_into (left - 1) x byte) c.with_bit-register.ensures
    ∙ bits_on left c.loop-place.register byte c.from.result (omega (arith, c.loop-place-test)) (c.from.ensures ∙ low_bit byte (left - 1))
    ∙ c.loop-place.invariant

pub returns : goal.returns
returns c =
    sym (bits_none c.loop-place.place c.loop-place.register c.args.byte (omega (arith, c.loop-place-test)))
    ∙ c.loop-place.invariant
