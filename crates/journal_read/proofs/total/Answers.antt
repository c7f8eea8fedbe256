-- `journal_read::total` meets its contract. Assumes nothing.
use Prim.Native.Nat.{ℕ, ◌-◌}
use mathlib.Core.Path.{◌≡◌, refl, subst, ◌∙◌}
use native.Mathlib.Omega.{arith}
use Rattle.chip_array.specs.Device.{setting}
use Rattle.bus.specs.Line.{line}
use Rattle.bus_polling.proofs.OutcomeLaws.{passed_by_is, other_by_not, is_passed_lem}
use Rattle.journal.proofs.EndLaws.{room_most}
use Rattle.journal_read.specs.Reads.{pages_by}
use Rattle.journal_read.proofs.RanLaws.{ran-lent}
use Rattle.journal_read.proofs.SumLaws.{Adding, sum_begins, sum_goes, sum_stops, sum_ends, added_here}
use Rattle.journal_read.proofs.total.Goals as goal

pub loop-k-init : goal.loop-k-init
loop-k-init c =
    (omega arith, refl, refl, refl, sum_begins (setting c.args.g c.args.mask.now c.args.fates.now) c.args.map.now (pages_by c.args.g c.args.array.now c.args.map.now c.args.kinds.now) c.args.records (line c.args.from c.args.array.now c.args.register.now c.args.history.now) c.requires.lent)

pub add_record-next-requires : goal.add_record-next-requires
add_record-next-requires c = record { lent = ran-lent c.loop-k.invariant.4.ran; mapped = c.requires.mapped; replaced_len = c.requires.replaced_len; k_bound = omega (arith, c.loop-k-test.true, c.requires.records_bound); sum_bound = c.loop-k.invariant.4.most }

pub shape_of-array-in_default : goal.shape_of-array-in_default
shape_of-array-in_default c =
    c.array-1.given ∙ c.loop-k.invariant.1

pub shape_of-register-in_default : goal.shape_of-register-in_default
shape_of-register-in_default c =
    c.register-1.given ∙ c.loop-k.invariant.2

pub shape_of-history-in_default : goal.shape_of-history-in_default
shape_of-history-in_default c =
    c.history-1.given ∙ c.loop-k.invariant.3

pub returns-in_default : goal.returns-in_default
returns-in_default c =
    sum_stops (setting c.args.g c.args.mask.now c.args.fates.now) c.args.map.now (pages_by c.args.g c.args.array.now c.args.map.now c.args.kinds.now) c.args.records (line c.args.from c.args.array.now c.args.register.now c.args.history.now) (line c.loop-k.b c.loop-k.array c.loop-k.register c.loop-k.history) c.loop-k.k c.loop-k.sum c.loop-k.invariant.4 _ _ _ (added_here (setting c.args.g c.args.mask.now c.args.fates.now) c.args.map.now c.args.kinds.now c.args.records c.loop-k.k c.loop-k.array c.args.array.now (line c.loop-k.b c.loop-k.array c.loop-k.register c.loop-k.history) _ c.add_record-next.result.outcome c.loop-k.sum _ c.args.replaced.now c.loop-k.invariant.4.ran.same_array c.requires.told c.add_record-next.ensures.by_index) c.loop-k-test.true (other_by_not _ c.in_default.not-Passed) 0

pub overflow_add-k : goal.overflow_add-k
overflow_add-k c =
    omega (arith, c.loop-k-test.true, c.requires.records_bound, room_most c.args.g)

pub loop-k-smaller : goal.loop-k-smaller
loop-k-smaller c = omega (arith, c.loop-k-test.true)

pub loop-k-preserved : goal.loop-k-preserved
loop-k-preserved c =
    (omega (arith, c.loop-k-test.true), c.array-1.given ∙ c.loop-k.invariant.1, c.register-1.given ∙ c.loop-k.invariant.2, c.history-1.given ∙ c.loop-k.invariant.3, sum_goes (setting c.args.g c.args.mask.now c.args.fates.now) c.args.map.now (pages_by c.args.g c.args.array.now c.args.map.now c.args.kinds.now) c.args.records (line c.args.from c.args.array.now c.args.register.now c.args.history.now) (line c.loop-k.b c.loop-k.array c.loop-k.register c.loop-k.history) c.loop-k.k c.loop-k.sum c.loop-k.invariant.4 _ _ _ (added_here (setting c.args.g c.args.mask.now c.args.fates.now) c.args.map.now c.args.kinds.now c.args.records c.loop-k.k c.loop-k.array c.args.array.now (line c.loop-k.b c.loop-k.array c.loop-k.register c.loop-k.history) _ c.add_record-next.result.outcome c.loop-k.sum _ c.args.replaced.now c.loop-k.invariant.4.ran.same_array c.requires.told c.add_record-next.ensures.by_index) (is_passed_lem _ (passed_by_is _ c.in-Passed.is)) c.add_record-next.ensures.sum_bound_2)

pub shape_of-array : goal.shape_of-array
shape_of-array c = c.loop-k.invariant.1

pub shape_of-register : goal.shape_of-register
shape_of-register c = c.loop-k.invariant.2

pub shape_of-history : goal.shape_of-history
shape_of-history c = c.loop-k.invariant.3

pub returns : goal.returns
returns c =
    let e : c.loop-k.k ≡ c.args.records = omega arith in
    sum_ends (setting c.args.g c.args.mask.now c.args.fates.now) c.args.map.now (pages_by c.args.g c.args.array.now c.args.map.now c.args.kinds.now) c.args.records (line c.args.from c.args.array.now c.args.register.now c.args.history.now) _ _ (subst (λ (x : ℕ). Adding (setting c.args.g c.args.mask.now c.args.fates.now) c.args.map.now (pages_by c.args.g c.args.array.now c.args.map.now c.args.kinds.now) c.args.records (line c.args.from c.args.array.now c.args.register.now c.args.history.now) (line c.loop-k.b c.loop-k.array c.loop-k.register c.loop-k.history) x c.loop-k.sum) e c.loop-k.invariant.4)
