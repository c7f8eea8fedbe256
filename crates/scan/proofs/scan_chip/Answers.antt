-- `scan::scan_chip` meets its contract: after each block the scan has come through as ChipLaws tells. Assumes nothing.
use Prim.Native.Nat.{ℕ, ◌-◌, ◌<◌}
use mathlib.Core.Bool.{true, false≢true}
use mathlib.Core.List.{List}
use mathlib.Core.Path.{◌≡◌, refl, sym, ap, subst, ◌∙◌}
use native.Mathlib.Omega.{arith}
use borrow.Author.Rules.{rules}
use Rattle.chip_array.specs.Device.{setting}
use Rattle.bus.specs.Line.{line}
use Rattle.bus_polling.proofs.OutcomeLaws.{passed_by_is, other_by_not, is_passed_lem}
use Rattle.scan_summary.specs.Summary.{says_complete}
use Rattle.scan_summary.specs.declared.Summary.{Summary}
use Rattle.scan_found.specs.Found.{summary_at}
use Rattle.scan_found.specs.Contents.{contents}
use Rattle.scan_found.proofs.FoundLaws.{copy_fits}
use Rattle.scan.proofs.ChipLaws.{Through, chip_begins, chip_goes, chip_stops}
use Rattle.scan.proofs.scan_chip.Goals as goal

pub loop-block-init : goal.loop-block-init
loop-block-init c =
    (omega arith, refl, refl, refl, refl, refl, refl, refl, chip_begins c.args.depth (setting c.args.g c.args.mask.now c.args.fates.now) (line c.args.from c.args.array.now c.args.register.now c.args.history.now) c.blank-found.result (contents c.args.kinds.now c.args.logicals.now c.args.numbers.now) c.blank-found.ensures c.requires.called)

pub scan_at-done-requires : goal.scan_at-done-requires
scan_at-done-requires c = record { called = c.loop-block.invariant.8.called; block_lt_blocks = c.loop-block-test.true; page_len = c.loop-block.invariant.4 ∙ c.requires.page_len; blocks_in_bounds = omega (arith, c.loop-block.invariant.8.called.is_valid.blocks_most) }

pub shape_of-array-in_default : goal.shape_of-array-in_default
shape_of-array-in_default c =
    c.array-1.given ∙ c.loop-block.invariant.1

pub shape_of-register-in_default : goal.shape_of-register-in_default
shape_of-register-in_default c =
    c.register-1.given ∙ c.loop-block.invariant.2

pub shape_of-history-in_default : goal.shape_of-history-in_default
shape_of-history-in_default c =
    c.history-1.given ∙ c.loop-block.invariant.3

pub shape_of-page-in_default : goal.shape_of-page-in_default
shape_of-page-in_default c =
    c.page-1.given ∙ c.loop-block.invariant.4

pub shape_of-kinds-in_default : goal.shape_of-kinds-in_default
shape_of-kinds-in_default c =
    c.loop-block.invariant.5

pub shape_of-logicals-in_default : goal.shape_of-logicals-in_default
shape_of-logicals-in_default c =
    c.loop-block.invariant.6

pub shape_of-numbers-in_default : goal.shape_of-numbers-in_default
shape_of-numbers-in_default c =
    c.loop-block.invariant.7

pub returns-in_default : goal.returns-in_default
returns-in_default c =
    let t = other_by_not _ c.in_default.not-Passed in
    let stops = chip_stops c.args.depth (setting c.args.g c.args.mask.now c.args.fates.now) (line c.args.from c.args.array.now c.args.register.now c.args.history.now) (line c.loop-block.b c.loop-block.array c.loop-block.register c.loop-block.history) c.loop-block.block c.loop-block.found (contents c.args.kinds.now c.args.logicals.now c.args.numbers.now) (contents c.loop-block.kinds c.loop-block.logicals c.loop-block.numbers) c.loop-block-test.true c.loop-block.invariant.8 _ c.scan_at-done.result.outcome c.scan_at-done.ensures.ran t in record { history_after = λ cs os. (stops cs os).0; outcome_value = λ cs os. (stops cs os).1; array_unchanged = c.scan_at-done.ensures.ran.same_array ∙ c.loop-block.invariant.8.same_array; history_unchanged = c.scan_at-done.ensures.ran.same_history ∙ c.loop-block.invariant.8.same_history; called_2 = λ p. absurd (false≢true (sym t ∙ p)); found_value = λ p. absurd (false≢true (sym t ∙ p)); numbers_after = λ p. absurd (false≢true (sym t ∙ p)) }

pub note-found-requires : goal.note-found-requires
note-found-requires c =
    omega (arith, c.loop-block-test.true, c.loop-block.invariant.8.called.is_valid.blocks_most)

pub note_copy-requires : goal.note_copy-requires
note_copy-requires c =
    let p = passed_by_is _ c.in-Passed.is in
    let summary_is = c.scan_at-done.ensures.summary_is p ∙ ap (λ (x : List ℕ). summary_at c.args.depth c.args.g x c.loop-block.block) c.loop-block.invariant.8.same_array in record {
      kind_bound = subst (λ (x : Summary). says_complete x ≡ true → (x.kind < 256) × (x.logical < 65536)) (sym summary_is)
          (copy_fits c.args.depth c.args.g (omega (arith, c.loop-block.invariant.8.called.is_valid.pages_least)) c.args.array.now (λ i. omega (arith, c.slice_known-1.given i)) c.loop-block.block);
      block_in_bounds = omega (arith, c.loop-block-test.true, c.loop-block.invariant.5, c.requires.blocks_in_bounds);
      block_in_bounds_2 = omega (arith, c.loop-block-test.true, c.loop-block.invariant.6, c.requires.blocks_in_bounds_2);
      block_in_bounds_3 = omega (arith, c.loop-block-test.true, c.loop-block.invariant.7, c.requires.blocks_in_bounds_3);
    }

pub overflow_add-block : goal.overflow_add-block
overflow_add-block c =
    search (rules, c.loop-block-test.true, c.loop-block.invariant.8.called.is_valid.blocks_most)

pub loop-block-smaller : goal.loop-block-smaller
loop-block-smaller c =
    omega (arith, c.loop-block-test.true)

pub loop-block-preserved : goal.loop-block-preserved
loop-block-preserved c =
    let p = passed_by_is _ c.in-Passed.is in
    let t = is_passed_lem _ p in (
      omega (arith, c.loop-block-test.true),
      c.array-1.given ∙ c.loop-block.invariant.1,
      c.register-1.given ∙ c.loop-block.invariant.2,
      c.history-1.given ∙ c.loop-block.invariant.3,
      c.page-1.given ∙ c.loop-block.invariant.4,
      c.kinds-1.given ∙ c.loop-block.invariant.5,
      c.logicals-1.given ∙ c.loop-block.invariant.6,
      c.numbers-1.given ∙ c.loop-block.invariant.7,
      chip_goes c.args.depth (setting c.args.g c.args.mask.now c.args.fates.now) (line c.args.from c.args.array.now c.args.register.now c.args.history.now) (line c.loop-block.b c.loop-block.array c.loop-block.register c.loop-block.history) c.loop-block.block c.loop-block.found (contents c.args.kinds.now c.args.logicals.now c.args.numbers.now) (contents c.loop-block.kinds c.loop-block.logicals c.loop-block.numbers) c.loop-block-test.true c.loop-block.invariant.8 _ c.scan_at-done.result.outcome c.scan_at-done.ensures.ran t p (omega (arith, c.loop-block.invariant.8.called.is_valid.pages_least)) c.scan_at-done.result.summary c.scan_at-done.result.right _ (c.scan_at-done.ensures.summary_is p) (c.scan_at-done.ensures.right_is p) (c.scan_at-done.ensures.bits_are p) c.note-found.ensures c.note_copy.ensures,
    )

pub shape_of-array : goal.shape_of-array
shape_of-array c = c.loop-block.invariant.1

pub shape_of-register : goal.shape_of-register
shape_of-register c = c.loop-block.invariant.2

pub shape_of-history : goal.shape_of-history
shape_of-history c = c.loop-block.invariant.3

pub shape_of-page : goal.shape_of-page
shape_of-page c = c.loop-block.invariant.4

pub shape_of-kinds : goal.shape_of-kinds
shape_of-kinds c = c.loop-block.invariant.5

pub shape_of-logicals : goal.shape_of-logicals
shape_of-logicals c = c.loop-block.invariant.6

pub shape_of-numbers : goal.shape_of-numbers
shape_of-numbers c = c.loop-block.invariant.7

pub returns : goal.returns
returns c =
    let e : c.loop-block.block ≡ c.args.g.blocks = omega arith in
    let r = subst (λ (k : ℕ). Through c.args.depth (setting c.args.g c.args.mask.now c.args.fates.now) (line c.args.from c.args.array.now c.args.register.now c.args.history.now) (line c.loop-block.b c.loop-block.array c.loop-block.register c.loop-block.history) k c.loop-block.found (contents c.args.kinds.now c.args.logicals.now c.args.numbers.now) (contents c.loop-block.kinds c.loop-block.logicals c.loop-block.numbers)) e c.loop-block.invariant.8 in record { history_after = r.reached; outcome_value = r.passing; array_unchanged = r.same_array; history_unchanged = r.same_history; called_2 = λ p. r.called; found_value = λ p. r.found_is; numbers_after = λ p. r.contents_are }
