-- `bitmaps::is_clear_from` meets its contract: bits to the end of a byte, whole bytes, the bits left. Assumes nothing.
use Prim.Native.Nat.{◌+◌}
use mathlib.Core.Path.{sym, ◌∙◌}
use native.Mathlib.Omega.{arith}
use Rattle.bitmaps.proofs.ByteLaws.{clear_parts}
use Rattle.bitmaps.proofs.is_clear_from.Goals as goal
use Rattle.bitmaps.proofs.is_clear_from.Goals.{then-are_bits_clear, else-are_bits_clear}

pub returns-then-are_bytes_clear : goal.returns-then-are_bytes_clear
returns-then-are_bytes_clear c =
    let parts = clear_parts c.args.bits.now c.args.from (c.byte_of-first.result + 1) c.byte_of-last.result c.args.end (omega (arith, c.byte_of-first.ensures)) (omega arith) (omega (arith, c.byte_of-last.ensures)) in
    elim c.if-are_bits_clear.branch [
      | then-are_bits_clear w ↦
          rw (parts, sym c.are_bits_clear-2.ensures ∙ w.if-are_bits_clear.true, sym w.are_bytes_clear.ensures ∙ sym w.value-is ∙ c.if-are_bytes_clear.true)
          c.are_bits_clear-then-are_bytes_clear.ensures
      | else-are_bits_clear w ↦ absurd (cc)
    ]

pub returns-else-are_bytes_clear : goal.returns-else-are_bytes_clear
returns-else-are_bytes_clear c =
    let parts = clear_parts c.args.bits.now c.args.from (c.byte_of-first.result + 1) c.byte_of-last.result c.args.end (omega (arith, c.byte_of-first.ensures)) (omega arith) (omega (arith, c.byte_of-last.ensures)) in
    elim c.if-are_bits_clear.branch [
      | then-are_bits_clear w ↦
          rw (parts, sym c.are_bits_clear-2.ensures ∙ w.if-are_bits_clear.true, sym w.are_bytes_clear.ensures ∙ sym w.value-is ∙ c.if-are_bytes_clear.false)
          c.if-are_bytes_clear.false
      | else-are_bits_clear w ↦ rw (parts, sym c.are_bits_clear-2.ensures ∙ w.if-are_bits_clear.false) c.if-are_bytes_clear.false
    ]
