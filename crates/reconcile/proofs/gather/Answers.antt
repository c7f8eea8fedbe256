-- `reconcile::gather` meets its contract: what is gathered is that of the sales passed. Assumes nothing.
use Rattle.std.proofs.Common.{◌≡◌, ◌+◌, get_or, arith}
use mathlib.Core.Option.{some}
use mir.Facts.{to_z-of_z}
use Rattle.reconcile.specs.Sales.{sales}
use Rattle.reconcile.specs.Next.{number_at}
use Rattle.reconcile.specs.Totals.{if_agreed, if_missing}
use Rattle.reconcile.proofs.SignedLaws.{amounts_minus}
use Rattle.reconcile.proofs.SumLaws.{agreed-at-most, missing_at-most}
use Rattle.reconcile.proofs.PassLaws.{lists_of, start, sum_so_far, box_taken, mechanism_taken, both_taken, difference_adds, gathered, agreed_same, agreed_other}
use Rattle.reconcile.proofs.gather.Goals as goal
use Rattle.reconcile.proofs.gather.Goals.{then-amount-counted, else-amount-counted}

pub loop-i-init : goal.loop-i-init
loop-i-init c = start _ _ _ _

pub overflow_add-only_box : goal.overflow_add-only_box
overflow_add-only_box c =
    let l = lists_of c.args.box_numbers.now c.args.box_amounts.now c.args.mechanism_numbers.now c.args.mechanism_amounts.now c.requires.box_amounts_value c.requires.mechanism_amounts_value c.type_inv.box_numbers c.type_inv.mechanism_numbers c.type_inv.box_amounts c.type_inv.mechanism_amounts in
    omega (arith, c.loop-i.invariant.only_box_is, sum_so_far c.args.box_numbers.now c.args.box_amounts.now l.box l.narrow_paid (sales c.args.mechanism_numbers.now c.args.mechanism_amounts.now) c.loop-i.i c.loop-i.invariant.box_in if_missing missing_at-most, c.from-only_box.ensures, l.narrow_paid c.loop-i.i)

pub loop-i-preserved-then-number-other : goal.loop-i-preserved-then-number-other
loop-i-preserved-then-number-other c =
    let l = lists_of c.args.box_numbers.now c.args.box_amounts.now c.args.mechanism_numbers.now c.args.mechanism_amounts.now c.requires.box_amounts_value c.requires.mechanism_amounts_value c.type_inv.box_numbers c.type_inv.mechanism_numbers c.type_inv.box_amounts c.type_inv.mechanism_amounts in
    rw c.from-only_box.ensures (box_taken _ _ _ _ l.box l.mechanism l.narrow_box l.narrow_mechanism _ _ _ _ _ _ c.loop-i.invariant (omega (arith, c.number_at-number.ensures, c.number_at-other.ensures)))

pub overflow_add-only_mechanism : goal.overflow_add-only_mechanism
overflow_add-only_mechanism c =
    let l = lists_of c.args.box_numbers.now c.args.box_amounts.now c.args.mechanism_numbers.now c.args.mechanism_amounts.now c.requires.box_amounts_value c.requires.mechanism_amounts_value c.type_inv.box_numbers c.type_inv.mechanism_numbers c.type_inv.box_amounts c.type_inv.mechanism_amounts in
    omega (arith, c.loop-i.invariant.only_mechanism_is, sum_so_far c.args.mechanism_numbers.now c.args.mechanism_amounts.now l.mechanism l.narrow_counted (sales c.args.box_numbers.now c.args.box_amounts.now) c.loop-i.j c.loop-i.invariant.mechanism_in if_missing missing_at-most, c.from-only_mechanism.ensures, l.narrow_counted c.loop-i.j)

pub loop-i-preserved-then-other-number : goal.loop-i-preserved-then-other-number
loop-i-preserved-then-other-number c =
    let l = lists_of c.args.box_numbers.now c.args.box_amounts.now c.args.mechanism_numbers.now c.args.mechanism_amounts.now c.requires.box_amounts_value c.requires.mechanism_amounts_value c.type_inv.box_numbers c.type_inv.mechanism_numbers c.type_inv.box_amounts c.type_inv.mechanism_amounts in
    rw c.from-only_mechanism.ensures (mechanism_taken _ _ _ _ l.box l.mechanism l.narrow_box l.narrow_mechanism _ _ _ _ _ _ c.loop-i.invariant (omega (arith, c.number_at-number.ensures, c.number_at-other.ensures)))

pub overflow_add-agreed : goal.overflow_add-agreed
overflow_add-agreed c =
    let l = lists_of c.args.box_numbers.now c.args.box_amounts.now c.args.mechanism_numbers.now c.args.mechanism_amounts.now c.requires.box_amounts_value c.requires.mechanism_amounts_value c.type_inv.box_numbers c.type_inv.mechanism_numbers c.type_inv.box_amounts c.type_inv.mechanism_amounts in
    omega (arith, c.loop-i.invariant.agreed_is, sum_so_far c.args.box_numbers.now c.args.box_amounts.now l.box l.narrow_paid (sales c.args.mechanism_numbers.now c.args.mechanism_amounts.now) c.loop-i.i c.loop-i.invariant.box_in if_agreed agreed-at-most, c.from-agreed.ensures, l.narrow_paid c.loop-i.i)

pub overflow_add-difference : goal.overflow_add-difference
overflow_add-difference c =
    let l = lists_of c.args.box_numbers.now c.args.box_amounts.now c.args.mechanism_numbers.now c.args.mechanism_amounts.now c.requires.box_amounts_value c.requires.mechanism_amounts_value c.type_inv.box_numbers c.type_inv.mechanism_numbers c.type_inv.box_amounts c.type_inv.mechanism_amounts in
    let level : number_at c.args.box_numbers.now c.loop-i.i ≡ number_at c.args.mechanism_numbers.now c.loop-i.j = omega (arith, c.number_at-number.ensures, c.number_at-other.ensures) in
    rw (amounts_minus _ _ _ _ c.from.ensures c.from-in-loop-i.ensures (l.narrow_paid c.loop-i.i) (l.narrow_counted c.loop-i.j))
    (difference_adds _ _ _ _ l.box l.mechanism l.narrow_box l.narrow_mechanism _ _ _ _ _ _ c.loop-i.invariant (omega arith) level l.narrow_paid l.narrow_counted)

pub loop-i-preserved : goal.loop-i-preserved
loop-i-preserved c =
    let l = lists_of c.args.box_numbers.now c.args.box_amounts.now c.args.mechanism_numbers.now c.args.mechanism_amounts.now c.requires.box_amounts_value c.requires.mechanism_amounts_value c.type_inv.box_numbers c.type_inv.mechanism_numbers c.type_inv.box_amounts c.type_inv.mechanism_amounts in
    let paid = get_or c.args.box_amounts.now c.loop-i.i 0 in
    let counted = get_or c.args.mechanism_amounts.now c.loop-i.j 0 in
    let level : number_at c.args.box_numbers.now c.loop-i.i ≡ number_at c.args.mechanism_numbers.now c.loop-i.j = omega (arith, c.number_at-number.ensures, c.number_at-other.ensures) in
    let agreed : c.if-amount-counted.agreed ≡ c.loop-i.agreed + if_agreed (some counted) paid = elim c.if-amount-counted.branch [
      | then-amount-counted w ↦ omega (arith, w.agreed-is, w.from-agreed.ensures, agreed_same paid counted w.if-amount-counted.true)
      | else-amount-counted w ↦ omega (arith, w.agreed-is, agreed_other paid counted w.if-amount-counted.false)
    ] in
    rw (agreed, amounts_minus _ _ _ _ c.from.ensures c.from-in-loop-i.ensures (l.narrow_paid c.loop-i.i) (l.narrow_counted c.loop-i.j), to_z-of_z (difference_adds _ _ _ _ l.box l.mechanism l.narrow_box l.narrow_mechanism _ _ _ _ _ _ c.loop-i.invariant (omega arith) level l.narrow_paid l.narrow_counted))
    (both_taken _ _ _ _ l.box l.mechanism l.narrow_box l.narrow_mechanism _ _ _ _ _ _ c.loop-i.invariant (omega arith) level l.narrow_paid l.narrow_counted)

pub returns : goal.returns
returns c =
    let l = lists_of c.args.box_numbers.now c.args.box_amounts.now c.args.mechanism_numbers.now c.args.mechanism_amounts.now c.requires.box_amounts_value c.requires.mechanism_amounts_value c.type_inv.box_numbers c.type_inv.mechanism_numbers c.type_inv.box_amounts c.type_inv.mechanism_amounts in
    gathered _ _ _ _ l.box l.mechanism l.narrow_box l.narrow_mechanism _ _ _ _ _ _ c.loop-i.invariant (omega arith) l.narrow_paid l.narrow_counted
