-- `journal_read::add_record` meets its contract. Assumes nothing.
use Prim.Native.Nat.{suc}
use mathlib.Core.Bool.{true, false}
use mathlib.Core.Path.{◌≡◌, refl, sym, ap, ◌∙◌}
use native.Mathlib.Numerals.{add-one}
use native.Mathlib.Nat.{suc-mul}
use native.Mathlib.Omega.{arith}
use Rattle.bitmaps.specs.Bitmap.{bit_at}
use Rattle.chip_array.specs.Device.{setting}
use Rattle.bus.specs.Line.{line}
use Rattle.bus_polling.proofs.OutcomeLaws.{passed_by_is, other_by_not, is_passed_lem}
use Rattle.journal.proofs.EndLaws.{room_most, room_within}
use Rattle.journal_read.proofs.SumLaws.{added_none, added_stopped, added_one}
use Rattle.journal_read.proofs.add_record.Goals as goal

pub overflow_add-k : goal.overflow_add-k
overflow_add-k c =
    omega (arith, c.requires.k_bound, room_most c.args.g)

pub is_set-requires : goal.is_set-requires
is_set-requires c =
    omega (arith, c.requires.replaced_len, c.requires.k_bound, room_most c.args.g)

pub returns-then-is_set : goal.returns-then-is_set
returns-then-is_set c =
    let set : bit_at c.args.replaced.now (suc c.args.k) ≡ true = ap (bit_at c.args.replaced.now) (sym (add-one c.args.k)) ∙ sym c.is_set.ensures ∙ c.if-is_set.true in record { by_index = λ e told. added_none (setting c.args.g c.args.mask.now c.args.fates.now) c.args.map.now c.args.kinds.now e c.args.k (line c.args.from c.args.array.now c.args.register.now c.args.history.now) c.args.sum c.args.replaced.now (omega (arith, c.requires.k_bound, room_most c.args.g)) told c.requires.lent set; sum_bound_2 = omega (arith, c.requires.sum_bound, suc-mul c.args.k 281470681677825) }

pub read_part-read-requires : goal.read_part-read-requires
read_part-read-requires c = record { lent = c.requires.lent; mapped = c.requires.mapped; k_bound = omega (arith, c.requires.k_bound, room_within c.args.g); bytes_len_bound = omega (arith, c.requires.lent.is_valid.main_least) }

pub returns-in_default : goal.returns-in_default
returns-in_default c =
    let clear : bit_at c.args.replaced.now (suc c.args.k) ≡ false = ap (bit_at c.args.replaced.now) (sym (add-one c.args.k)) ∙ sym c.is_set.ensures ∙ c.if-is_set.false in record { by_index = λ e told. added_stopped (setting c.args.g c.args.mask.now c.args.fates.now) c.args.map.now c.args.kinds.now e c.args.k (line c.args.from c.args.array.now c.args.register.now c.args.history.now) c.args.sum c.args.replaced.now (omega (arith, c.requires.k_bound, room_most c.args.g)) told clear _ _ _ c.read_part-read.ensures (other_by_not _ c.in_default.not-Passed) 0; sum_bound_2 = omega arith }

pub overflow_add-result : goal.overflow_add-result
overflow_add-result c =
    omega (arith, c.requires.sum_bound, c.requires.k_bound, room_most c.args.g, c.amount_of.ensures.1)

pub returns : goal.returns
returns c =
    let clear : bit_at c.args.replaced.now (suc c.args.k) ≡ false = ap (bit_at c.args.replaced.now) (sym (add-one c.args.k)) ∙ sym c.is_set.ensures ∙ c.if-is_set.false in record { by_index = λ e told. added_one (setting c.args.g c.args.mask.now c.args.fates.now) c.args.map.now c.args.kinds.now e c.args.k (line c.args.from c.args.array.now c.args.register.now c.args.history.now) c.args.sum c.args.replaced.now (omega (arith, c.requires.k_bound, room_most c.args.g)) told clear _ _ _ c.read_part-read.ensures (is_passed_lem _ (passed_by_is _ c.in-Passed.is)) _ _ c.amount_of.ensures.0 refl; sum_bound_2 = omega (arith, c.requires.sum_bound, c.amount_of.ensures.1, suc-mul c.args.k 281470681677825) }
