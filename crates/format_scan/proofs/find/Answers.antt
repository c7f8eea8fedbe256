-- `format_scan::find` meets its contract: after each block the scan has come through as that of a mount does. Assumes nothing.
use Prim.Native.Nat.{ℕ}
use mathlib.Core.List.{[]}
use mathlib.Core.Path.{◌≡◌, refl, subst, ◌∙◌}
use native.Mathlib.Omega.{arith}
use borrow.Author.Rules.{rules}
use Rattle.chip_array.specs.Device.{setting}
use Rattle.bus.specs.Line.{line}
use Rattle.bools.proofs.BoolLaws.{clash}
use Rattle.bus_polling.proofs.OutcomeLaws.{passed_by_is, other_by_not, is_passed_lem}
use Rattle.scan_summary.specs.declared.Depth.TheVariants.{Full}
use Rattle.scan_found.specs.Contents.{Contents, contents, contents_to}
use Rattle.scan.proofs.ChipLaws.{Through, chip_begins, chip_goes, chip_stops}
use Rattle.format_scan.proofs.SurveyLaws.{keeps_none}
use Rattle.format_scan.proofs.find.Goals as goal

abbrev none : Contents
none = contents [] [] []

pub loop-block-init : goal.loop-block-init
unfolding contents_to
loop-block-init c =
    (omega arith, refl, refl, refl, refl, chip_begins Full (setting c.args.g c.args.mask.now c.args.fates.now) (line c.args.from c.args.array.now c.args.register.now c.args.history.now) c.blank-found.result none c.blank-found.ensures c.requires.called)

pub scan_at-done-requires : goal.scan_at-done-requires
scan_at-done-requires c = record { called = c.loop-block.invariant.5.called; block_lt_blocks = c.loop-block-test.true; page_len = c.loop-block.invariant.4 ∙ c.requires.page_len; blocks_in_bounds = omega (arith, c.loop-block.invariant.5.called.is_valid.blocks_most) }

pub shape_of-array-in_default : goal.shape_of-array-in_default
shape_of-array-in_default c = c.array-1.given ∙ c.loop-block.invariant.1

pub shape_of-register-in_default : goal.shape_of-register-in_default
shape_of-register-in_default c = c.register-1.given ∙ c.loop-block.invariant.2

pub shape_of-history-in_default : goal.shape_of-history-in_default
shape_of-history-in_default c = c.history-1.given ∙ c.loop-block.invariant.3

pub shape_of-page-in_default : goal.shape_of-page-in_default
shape_of-page-in_default c = c.page-1.given ∙ c.loop-block.invariant.4

pub returns-in_default : goal.returns-in_default
returns-in_default c =
    let t = other_by_not _ c.in_default.not-Passed in
    let stops = chip_stops Full (setting c.args.g c.args.mask.now c.args.fates.now) (line c.args.from c.args.array.now c.args.register.now c.args.history.now) (line c.loop-block.b c.loop-block.array c.loop-block.register c.loop-block.history) c.loop-block.block c.loop-block.found none (contents_to Full c.args.g c.args.array.now none c.loop-block.block) c.loop-block-test.true c.loop-block.invariant.5 _ c.scan_at-done.result.outcome c.scan_at-done.ensures.ran t in
    record {
      line_is = λ cs os. (stops cs os).0;
      outcome_is = λ cs os. (stops cs os).1;
      same_array = c.scan_at-done.ensures.ran.same_array ∙ c.loop-block.invariant.5.same_array;
      same_history = c.scan_at-done.ensures.ran.same_history ∙ c.loop-block.invariant.5.same_history;
      next = λ y. clash y t;
      found_is = λ y. clash y t;
    }

pub note-found-requires : goal.note-found-requires
note-found-requires c = omega (arith, c.loop-block-test.true, c.loop-block.invariant.5.called.is_valid.blocks_most)

pub overflow_add-block : goal.overflow_add-block
overflow_add-block c = search (rules, c.loop-block-test.true, c.loop-block.invariant.5.called.is_valid.blocks_most)

pub loop-block-smaller : goal.loop-block-smaller
loop-block-smaller c = omega (arith, c.loop-block-test.true)

pub loop-block-preserved : goal.loop-block-preserved
loop-block-preserved c =
    let set = setting c.args.g c.args.mask.now c.args.fates.now in
    let l = line c.args.from c.args.array.now c.args.register.now c.args.history.now in
    let p = passed_by_is _ c.in-Passed.is in
    let next = chip_goes Full set l (line c.loop-block.b c.loop-block.array c.loop-block.register c.loop-block.history) c.loop-block.block c.loop-block.found none (contents_to Full c.args.g c.args.array.now none c.loop-block.block) c.loop-block-test.true c.loop-block.invariant.5 _ c.scan_at-done.result.outcome c.scan_at-done.ensures.ran (is_passed_lem _ p) p (omega (arith, c.loop-block.invariant.5.called.is_valid.pages_least)) c.scan_at-done.result.summary c.scan_at-done.result.right _ (c.scan_at-done.ensures.summary_is p) (c.scan_at-done.ensures.right_is p) (c.scan_at-done.ensures.bits_are p) c.note-found.ensures refl in (
      omega (arith, c.loop-block-test.true),
      c.array-1.given ∙ c.loop-block.invariant.1,
      c.register-1.given ∙ c.loop-block.invariant.2,
      c.history-1.given ∙ c.loop-block.invariant.3,
      c.page-1.given ∙ c.loop-block.invariant.4,
      keeps_none next,
    )

pub shape_of-array : goal.shape_of-array
shape_of-array c = c.loop-block.invariant.1

pub shape_of-register : goal.shape_of-register
shape_of-register c = c.loop-block.invariant.2

pub shape_of-history : goal.shape_of-history
shape_of-history c = c.loop-block.invariant.3

pub shape_of-page : goal.shape_of-page
shape_of-page c = c.loop-block.invariant.4

pub returns : goal.returns
returns c =
    let e : c.loop-block.block ≡ c.args.g.blocks = omega arith in
    let r = subst (λ (k : ℕ). Through Full (setting c.args.g c.args.mask.now c.args.fates.now) (line c.args.from c.args.array.now c.args.register.now c.args.history.now) (line c.loop-block.b c.loop-block.array c.loop-block.register c.loop-block.history) k c.loop-block.found none (contents_to Full c.args.g c.args.array.now none k)) e c.loop-block.invariant.5 in
    record { line_is = r.reached; outcome_is = r.passing; same_array = r.same_array; same_history = r.same_history; next = λ p. r.called; found_is = λ p. r.found_is }
