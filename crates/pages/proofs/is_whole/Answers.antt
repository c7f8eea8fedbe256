-- `pages::is_whole` meets its contract: each test of the code is one of the definition, in the same order. Assumes nothing.
use Prim.Native.Nat.{◌+◌}
use mathlib.Core.Bool.{true, false, not}
use mathlib.Core.Path.{◌≡◌, sym, ap, ◌∙◌}
use native.Mathlib.Omega.{arith}
use borrow.Author.Tests.{eq-eqb, ne_eqb}
use lib.ListN.{drop}
use lib.Seq.{length-take-le}
use Rattle.bools.proofs.BoolLaws.{clash}
use Rattle.pages.specs.Layout.{number_width, all_ones}
use Rattle.pages.proofs.LayoutLaws.{width_most}
use Rattle.pages.proofs.ByteLaws.{take_rest, whole_tests}
use Rattle.pages.proofs.is_whole.Goals as goal
use Rattle.pages.proofs.is_whole.Goals.{then-width-ne0, else-width-ne0, then-page-main, else-page-main}

pub overflow_add-check_at-2 : goal.overflow_add-check_at-2
overflow_add-check_at-2 c = omega (arith, c.number_width-width.ensures, width_most c.kind_of.result)

pub overflow_add-check_at-then-page-main : goal.overflow_add-check_at-then-page-main
overflow_add-check_at-then-page-main c = omega (arith, c.number_width-width.ensures, width_most c.kind_of.result)

pub slice_bounds-all_ones-count : goal.slice_bounds-all_ones-count
slice_bounds-all_ones-count c = omega (arith, c.number_width-width.ensures, width_most c.kind_of.result)

pub slice_bounds-all_ones-start : goal.slice_bounds-all_ones-start
slice_bounds-all_ones-start c = omega (arith, c.number_width-width.ensures, width_most c.kind_of.result)

pub pair_at-requires : goal.pair_at-requires
pair_at-requires c = omega (arith, c.number_width-width.ensures, width_most c.kind_of.result)

pub slice_bounds-zero_bits-end : goal.slice_bounds-zero_bits-end
slice_bounds-zero_bits-end c = sym (length-take-le _ c.args.page.now (omega (arith, c.number_width-width.ensures, width_most c.kind_of.result)))

pub returns-then-all_ones : goal.returns-then-all_ones
returns-then-all_ones c =
    let p = c.args.page.now in
    let at = c.args.main + 5 + c.number_width-width.result in
    let tests = whole_tests c.args.main c.number_width-width.result p (ap number_width (sym c.kind_of.ensures) ∙ sym c.number_width-width.ensures) in
    elim c.if-page-main.branch [
      | then-page-main w ↦ elim c.if-width-ne0.branch [
        | then-width-ne0 v ↦
            let rest : all_ones (drop (at + 2) p) ≡ true = sym (w.all_ones.ensures ∙ ap all_ones (take_rest (at + 2) p)) ∙ sym w.value-is ∙ c.if-all_ones.true in
            rw (tests, ne_eqb _ _ v.if-width-ne0.true, sym v.value-is ∙ w.if-page-main.true, rest, c.pair_at.ensures, c.zero_bits.ensures)
        | else-width-ne0 v ↦ clash w.if-page-main.true (v.value-is ∙ ap not (eq-eqb _ _ v.if-width-ne0.false))
      ]
      | else-page-main w ↦ clash c.if-all_ones.true (w.value-is ∙ w.if-page-main.false)
    ]

pub returns-else-all_ones : goal.returns-else-all_ones
returns-else-all_ones c =
    let p = c.args.page.now in
    let at = c.args.main + 5 + c.number_width-width.result in
    let tests = whole_tests c.args.main c.number_width-width.result p (ap number_width (sym c.kind_of.ensures) ∙ sym c.number_width-width.ensures) in
    rw (c.if-all_ones.false, tests) (elim c.if-width-ne0.branch [
      | then-width-ne0 v ↦ elim c.if-page-main.branch [
        | then-page-main w ↦
            let rest : all_ones (drop (at + 2) p) ≡ false = sym (w.all_ones.ensures ∙ ap all_ones (take_rest (at + 2) p)) ∙ sym w.value-is ∙ c.if-all_ones.false in
            rw (ne_eqb _ _ v.if-width-ne0.true, sym v.value-is ∙ w.if-page-main.true, rest)
        | else-page-main w ↦ rw (ne_eqb _ _ v.if-width-ne0.true, sym v.value-is ∙ w.if-page-main.false)
      ]
      | else-width-ne0 v ↦ rw v.if-width-ne0.false
    ])
