-- `whitening::begin` meets its contract: so far the list begins as the stream does, and the register is the one that gives the next byte. Assumes nothing.
use Prim.Native.Nat.{ℕ, ◌+◌, ◌*◌, ◌/◌}
use mathlib.Core.Path.{◌≡◌, refl, sym, ap, ◌∙◌}
use native.Mathlib.Omega.{arith}
use Rattle.whitening.specs.Stream.{stepped, bits_given}
use Rattle.whitening.proofs.StreamLaws.{stepped_add, byte_out_lem}
use Rattle.whitening.proofs.BeginLaws.{begins_none, begins_more}
use Rattle.whitening.proofs.begin.Goals as goal

pub loop-byte-init : goal.loop-byte-init
unfolding stepped
loop-byte-init c = (refl, omega arith, begins_none (c.args.page + 1) _)

pub loop-byte-preserved : goal.loop-byte-preserved
loop-byte-preserved c =
    let r = c.args.page + 1 in
    let i = c.loop-byte.byte-index in
    let next : 8 * (i + 1) ≡ 8 * i + 8 = omega arith in (
      c.after_byte-register.ensures.0 ∙ ap (stepped 8) c.loop-byte.invariant.0 ∙ sym (ap (λ (n : ℕ). stepped n r) next ∙ stepped_add (8 * i) 8 r),
      c.after_byte-register.ensures.1,
      begins_more i r (c.loop-byte.register / 128) c.loop-byte.byte-items (omega arith) c.loop-byte.invariant.2 (sym (byte_out_lem c.loop-byte.register c.loop-byte.invariant.1) ∙ ap (bits_given 8) c.loop-byte.invariant.0),
    )
