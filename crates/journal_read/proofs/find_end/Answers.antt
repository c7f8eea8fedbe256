-- `journal_read::find_end` meets its contract: after each record the pass is in the middle that PassLaws tells. Assumes nothing.
use Prim.Native.Nat.{ℕ, ◌-◌, ◌<◌}
use mathlib.Core.Path.{refl, sym, ap, ◌∙◌}
use native.Mathlib.Omega.{arith}
use lib.ListN.{length, length-replicate}
use Rattle.chip_array.specs.Device.{setting}
use Rattle.bus.specs.Line.{line}
use Rattle.bus_polling.proofs.OutcomeLaws.{passed_by_is, other_by_not, is_passed_lem}
use Rattle.journal.specs.Records.{room}
use Rattle.journal.proofs.EndLaws.{room_most, room_within}
use Rattle.journal_read.specs.Reads.{pages_by}
use Rattle.journal_read.proofs.RanLaws.{ran-lent}
use Rattle.journal_read.proofs.PassLaws.{pass_begins, pass_full, pass_stops, pass_ends, pass_goes}
use Rattle.journal_read.proofs.find_end.Goals as goal

pub room_for-most-requires : goal.room_for-most-requires
room_for-most-requires c =
    c.requires.lent.is_valid

pub loop-n-init : goal.loop-n-init
loop-n-init c =
    (omega arith, refl, refl, refl, refl, refl, pass_begins (setting c.args.g c.args.mask.now c.args.fates.now) c.args.map.now (pages_by c.args.g c.args.array.now c.args.map.now c.args.kinds.now) (line c.args.from c.args.array.now c.args.register.now c.args.history.now) c.args.replaced.now c.requires.lent c.requires.replaced_value)

pub read_part-read-requires : goal.read_part-read-requires
read_part-read-requires c = record { lent = ran-lent c.loop-n.invariant.6.ran; mapped = c.requires.mapped; k_bound = omega (arith, c.loop-n-test.true, c.room_for-most.ensures, room_within c.args.g); bytes_len_bound = omega (arith, c.loop-n.invariant.4, c.requires.page_len) }

pub shape_of-array-in_default : goal.shape_of-array-in_default
shape_of-array-in_default c =
    c.array-1.given ∙ c.loop-n.invariant.1

pub shape_of-register-in_default : goal.shape_of-register-in_default
shape_of-register-in_default c =
    c.register-1.given ∙ c.loop-n.invariant.2

pub shape_of-history-in_default : goal.shape_of-history-in_default
shape_of-history-in_default c =
    c.history-1.given ∙ c.loop-n.invariant.3

pub shape_of-page-in_default : goal.shape_of-page-in_default
shape_of-page-in_default c =
    c.page-1.given ∙ c.loop-n.invariant.4

pub shape_of-replaced-in_default : goal.shape_of-replaced-in_default
shape_of-replaced-in_default c =
    c.loop-n.invariant.5

pub returns-in_default : goal.returns-in_default
returns-in_default c =
    let below : c.loop-n.n < room c.args.g = omega (arith, c.loop-n-test.true, c.room_for-most.ensures) in
    let long = c.loop-n.invariant.4 ∙ c.requires.page_len in
    pass_stops (setting c.args.g c.args.mask.now c.args.fates.now) c.args.map.now c.args.kinds.now (line c.args.from c.args.array.now c.args.register.now c.args.history.now) (line c.loop-n.b c.loop-n.array c.loop-n.register c.loop-n.history) c.loop-n.n c.loop-n.replaced c.loop-n.invariant.6 below _ long _ c.read_part-read.result.outcome _ c.read_part-read.ensures (other_by_not _ c.in_default.not-Passed) 0 _

pub is_next-requires : goal.is_next-requires
is_next-requires c = record { in_bounds = omega (arith, c.page-1.given, c.loop-n.invariant.4, c.requires.page_len, c.requires.lent.is_valid.main_least); before_bound = omega (arith, c.loop-n-test.true, c.room_for-most.ensures, room_most c.args.g) }

pub shape_of-array-then-not-is_next : goal.shape_of-array-then-not-is_next
shape_of-array-then-not-is_next c =
    c.array-1.given ∙ c.loop-n.invariant.1

pub shape_of-register-then-not-is_next : goal.shape_of-register-then-not-is_next
shape_of-register-then-not-is_next c =
    c.register-1.given ∙ c.loop-n.invariant.2

pub shape_of-history-then-not-is_next : goal.shape_of-history-then-not-is_next
shape_of-history-then-not-is_next c =
    c.history-1.given ∙ c.loop-n.invariant.3

pub shape_of-page-then-not-is_next : goal.shape_of-page-then-not-is_next
shape_of-page-then-not-is_next c =
    c.page-1.given ∙ c.loop-n.invariant.4

pub shape_of-replaced-then-not-is_next : goal.shape_of-replaced-then-not-is_next
shape_of-replaced-then-not-is_next c =
    c.loop-n.invariant.5

pub returns-then-not-is_next : goal.returns-then-not-is_next
returns-then-not-is_next c =
    let below : c.loop-n.n < room c.args.g = omega (arith, c.loop-n-test.true, c.room_for-most.ensures) in
    let long = c.loop-n.invariant.4 ∙ c.requires.page_len in
    pass_ends (setting c.args.g c.args.mask.now c.args.fates.now) c.args.map.now c.args.kinds.now (line c.args.from c.args.array.now c.args.register.now c.args.history.now) (line c.loop-n.b c.loop-n.array c.loop-n.register c.loop-n.history) c.loop-n.n c.loop-n.replaced c.loop-n.invariant.6 below _ long _ c.read_part-read.result.outcome _ c.read_part-read.ensures (is_passed_lem _ (passed_by_is _ c.in-Passed.is)) (sym c.is_next.ensures ∙ c.if-not-is_next.true)

pub replaces_of-requires : goal.replaces_of-requires
replaces_of-requires c =
    omega (arith, c.page-1.given, c.loop-n.invariant.4, c.requires.page_len, c.requires.lent.is_valid.main_least)

pub set_bit-requires : goal.set_bit-requires
set_bit-requires c =
    omega (arith, c.replaces_of.ensures.1, c.loop-n.invariant.5, ap length c.requires.replaced_value, length-replicate {A = ℕ} 8192 0)

pub overflow_add-n : goal.overflow_add-n
overflow_add-n c =
    omega (arith, c.loop-n-test.true, c.room_for-most.ensures, room_most c.args.g)

pub loop-n-smaller : goal.loop-n-smaller
loop-n-smaller c = omega (arith, c.loop-n-test.true)

pub loop-n-preserved : goal.loop-n-preserved
loop-n-preserved c =
    let below : c.loop-n.n < room c.args.g = omega (arith, c.loop-n-test.true, c.room_for-most.ensures) in
    let long = c.loop-n.invariant.4 ∙ c.requires.page_len in (
      omega (arith, c.loop-n-test.true),
      c.array-1.given ∙ c.loop-n.invariant.1,
      c.register-1.given ∙ c.loop-n.invariant.2,
      c.history-1.given ∙ c.loop-n.invariant.3,
      c.page-1.given ∙ c.loop-n.invariant.4,
      c.replaced-1.given ∙ c.loop-n.invariant.5,
      pass_goes (setting c.args.g c.args.mask.now c.args.fates.now) c.args.map.now c.args.kinds.now (line c.args.from c.args.array.now c.args.register.now c.args.history.now) (line c.loop-n.b c.loop-n.array c.loop-n.register c.loop-n.history) c.loop-n.n c.loop-n.replaced c.loop-n.invariant.6 below _ long _ c.read_part-read.result.outcome _ c.read_part-read.ensures (is_passed_lem _ (passed_by_is _ c.in-Passed.is)) (sym c.is_next.ensures ∙ c.if-not-is_next.false) _ c.replaces_of.ensures.0 c.replaces_of.ensures.1 (c.loop-n.invariant.5 ∙ ap length c.requires.replaced_value ∙ length-replicate {A = ℕ} 8192 0) _ c.set_bit.ensures,
    )

pub shape_of-array : goal.shape_of-array
shape_of-array c =
    c.loop-n.invariant.1

pub shape_of-register : goal.shape_of-register
shape_of-register c =
    c.loop-n.invariant.2

pub shape_of-history : goal.shape_of-history
shape_of-history c =
    c.loop-n.invariant.3

pub shape_of-page : goal.shape_of-page
shape_of-page c =
    c.loop-n.invariant.4

pub shape_of-replaced : goal.shape_of-replaced
shape_of-replaced c =
    c.loop-n.invariant.5

pub returns : goal.returns
returns c =
    pass_full (setting c.args.g c.args.mask.now c.args.fates.now) c.args.map.now c.args.kinds.now (line c.args.from c.args.array.now c.args.register.now c.args.history.now) (line c.loop-n.b c.loop-n.array c.loop-n.register c.loop-n.history) c.loop-n.n c.loop-n.replaced c.loop-n.invariant.6 (omega (arith, c.room_for-most.ensures)) (omega (arith, c.loop-n.invariant.0, c.room_for-most.ensures))
