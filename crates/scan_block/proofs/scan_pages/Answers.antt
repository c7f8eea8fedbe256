-- `scan_block::scan_pages` meets its contract: after each page the scan is in the middle that ScanLaws tells. Assumes nothing.
use Prim.Native.Nat.{ℕ, ◌-◌}
use mathlib.Core.Path.{◌≡◌, refl, subst, ◌∙◌}
use native.Mathlib.Omega.{arith}
use borrow.Author.Rules.{rules}
use Rattle.chip_array.specs.Device.{setting}
use Rattle.bus.specs.Line.{line}
use Rattle.bus_polling.proofs.OutcomeLaws.{passed_by_is, other_by_not, is_passed_lem}
use Rattle.scan_block.specs.Gathered.{gathered}
use Rattle.scan_block.proofs.ScanLaws.{Middle, scan_begins, scan_none, scan_goes, scan_stops, scan_ends}
use Rattle.scan_block.proofs.scan_pages.Goals as goal

pub returns-in_default : goal.returns-in_default
returns-in_default c =
    scan_none (setting c.args.g c.args.mask.now c.args.fates.now) (line c.args.from.bus c.args.array.now c.args.register.now c.args.history.now) c.args.from.outcome c.args.block c.args.first c.args.count (gathered c.args.from.summary c.args.from.right c.args.bits.now c.args.page.now) (other_by_not _ c.in_default.not-Passed)

pub loop-done-init : goal.loop-done-init
loop-done-init c =
    (omega arith, refl, refl, refl, refl, refl, scan_begins (setting c.args.g c.args.mask.now c.args.fates.now) (line c.args.from.bus c.args.array.now c.args.register.now c.args.history.now) c.args.block c.args.first (gathered c.args.from.summary c.args.from.right c.args.bits.now c.args.page.now) (c.requires.called (passed_by_is _ c.in-Passed.is)))

pub overflow_add-place : goal.overflow_add-place
overflow_add-place c =
    search (rules, c.requires.count_bound, c.loop-done-test.true, c.loop-done.invariant.6.called.is_valid.pages_most)

pub row_of-row-requires : goal.row_of-row-requires
row_of-row-requires c = record { valid = c.loop-done.invariant.6.called.is_valid; block_lt_blocks = c.requires.block_lt_blocks; page_lt_pages = omega (arith, c.requires.count_bound, c.loop-done-test.true) }

pub shape_of-array-in_default-outcome : goal.shape_of-array-in_default-outcome
shape_of-array-in_default-outcome c =
    c.array-1.given ∙ c.loop-done.invariant.1

pub shape_of-register-in_default-outcome : goal.shape_of-register-in_default-outcome
shape_of-register-in_default-outcome c =
    c.register-1.given ∙ c.loop-done.invariant.2

pub shape_of-history-in_default-outcome : goal.shape_of-history-in_default-outcome
shape_of-history-in_default-outcome c =
    c.history-1.given ∙ c.loop-done.invariant.3

pub shape_of-page-in_default-outcome : goal.shape_of-page-in_default-outcome
shape_of-page-in_default-outcome c =
    c.page-1.given ∙ c.loop-done.invariant.4

pub shape_of-bits-in_default-outcome : goal.shape_of-bits-in_default-outcome
shape_of-bits-in_default-outcome c =
    c.loop-done.invariant.5

pub returns-in_default-outcome : goal.returns-in_default-outcome
returns-in_default-outcome c =
    let long = c.loop-done.invariant.4 ∙ c.requires.page_len in
    scan_stops (setting c.args.g c.args.mask.now c.args.fates.now) (line c.args.from.bus c.args.array.now c.args.register.now c.args.history.now) (line c.loop-done.b c.loop-done.array c.loop-done.register c.loop-done.history) c.args.block c.args.first c.loop-done.done (gathered c.args.from.summary c.args.from.right c.args.bits.now c.args.page.now) (gathered c.loop-done.summary c.loop-done.right c.loop-done.bits c.loop-done.page) c.requires.block_lt_blocks (omega (arith, c.requires.count_bound, c.loop-done-test.true)) c.loop-done.invariant.6 c.row_of-row.result c.row_of-row.ensures c.loop-done.page long _ c.read-read.result.outcome _ c.read-read.ensures.history_after c.read-read.ensures.outcome_value c.read-read.ensures.buffer_after c.args.from.outcome (is_passed_lem _ (passed_by_is _ c.in-Passed.is)) (other_by_not _ c.in_default-outcome.not-Passed) c.args.count c.loop-done-test.true _

pub step-summary-requires : goal.step-summary-requires
step-summary-requires c =
    let long = c.page-1.given ∙ c.loop-done.invariant.4 ∙ c.requires.page_len in
    record { spare_least = omega (arith, long, c.loop-done.invariant.6.called.is_valid.spare_least); most = omega (arith, long, c.loop-done.invariant.6.called.is_valid.main_most, c.loop-done.invariant.6.called.is_valid.spare_most) }

pub right_with-right-requires : goal.right_with-right-requires
right_with-right-requires c = record { valid = c.loop-done.invariant.6.called.is_valid; page_len = c.page-1.given ∙ c.loop-done.invariant.4 ∙ c.requires.page_len }

pub copy_bitmap-requires : goal.copy_bitmap-requires
copy_bitmap-requires c = record { valid = c.loop-done.invariant.6.called.is_valid; page_len = c.page-1.given ∙ c.loop-done.invariant.4 ∙ c.requires.page_len; blocks_in_bounds = omega (arith, c.loop-done.invariant.5, c.requires.blocks_in_bounds) }

pub overflow_add-done : goal.overflow_add-done
overflow_add-done c =
    search (rules, c.loop-done-test.true, c.requires.count_bound, c.loop-done.invariant.6.called.is_valid.pages_most)

pub loop-done-smaller : goal.loop-done-smaller
loop-done-smaller c =
    omega (arith, c.loop-done-test.true)

pub loop-done-preserved : goal.loop-done-preserved
loop-done-preserved c =
    let t = is_passed_lem _ (passed_by_is _ c.in-Passed-outcome.is) in
    let long = c.loop-done.invariant.4 ∙ c.requires.page_len in (
      omega (arith, c.loop-done-test.true),
      c.array-1.given ∙ c.loop-done.invariant.1,
      c.register-1.given ∙ c.loop-done.invariant.2,
      c.history-1.given ∙ c.loop-done.invariant.3,
      c.page-1.given ∙ c.loop-done.invariant.4,
      c.bits-1.given ∙ c.loop-done.invariant.5,
      scan_goes (setting c.args.g c.args.mask.now c.args.fates.now) (line c.args.from.bus c.args.array.now c.args.register.now c.args.history.now) (line c.loop-done.b c.loop-done.array c.loop-done.register c.loop-done.history) c.args.block c.args.first c.loop-done.done (gathered c.args.from.summary c.args.from.right c.args.bits.now c.args.page.now) (gathered c.loop-done.summary c.loop-done.right c.loop-done.bits c.loop-done.page) c.requires.block_lt_blocks (omega (arith, c.requires.count_bound, c.loop-done-test.true)) c.loop-done.invariant.6 c.row_of-row.result c.row_of-row.ensures c.loop-done.page long _ c.read-read.result.outcome _ c.read-read.ensures.history_after c.read-read.ensures.outcome_value c.read-read.ensures.buffer_after t c.step-summary.ensures c.right_with-right.ensures c.copy_bitmap.ensures,
    )

pub shape_of-array : goal.shape_of-array
shape_of-array c = c.loop-done.invariant.1

pub shape_of-register : goal.shape_of-register
shape_of-register c = c.loop-done.invariant.2

pub shape_of-history : goal.shape_of-history
shape_of-history c = c.loop-done.invariant.3

pub shape_of-page : goal.shape_of-page
shape_of-page c = c.loop-done.invariant.4

pub shape_of-bits : goal.shape_of-bits
shape_of-bits c = c.loop-done.invariant.5

pub returns : goal.returns
returns c =
    let e : c.loop-done.done ≡ c.args.count = omega arith in
    let r = subst (λ (k : ℕ). Middle (setting c.args.g c.args.mask.now c.args.fates.now) (line c.args.from.bus c.args.array.now c.args.register.now c.args.history.now) (line c.loop-done.b c.loop-done.array c.loop-done.register c.loop-done.history) c.args.block c.args.first k (gathered c.args.from.summary c.args.from.right c.args.bits.now c.args.page.now) (gathered c.loop-done.summary c.loop-done.right c.loop-done.bits c.loop-done.page)) e c.loop-done.invariant.6 in
    scan_ends (setting c.args.g c.args.mask.now c.args.fates.now) (line c.args.from.bus c.args.array.now c.args.register.now c.args.history.now) (line c.loop-done.b c.loop-done.array c.loop-done.register c.loop-done.history) c.args.from.outcome c.args.block c.args.first c.args.count (gathered c.args.from.summary c.args.from.right c.args.bits.now c.args.page.now) (gathered c.loop-done.summary c.loop-done.right c.loop-done.bits c.loop-done.page) (is_passed_lem _ (passed_by_is _ c.in-Passed.is)) r
