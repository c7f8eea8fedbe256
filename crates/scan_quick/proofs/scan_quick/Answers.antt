-- `scan_quick::scan_quick` meets its contract. Assumes nothing.
use Prim.Native.Nat.{◌≤◌}
use mathlib.Core.Path.{sym, ◌∙◌}
use native.Mathlib.Omega.{arith}
use Rattle.chip_array.specs.Device.{setting}
use Rattle.bus.specs.Line.{line}
use Rattle.scan_quick.proofs.QuickScanLaws.{quick_first, quick_last_lem, quick_long}
use Rattle.scan_quick.proofs.scan_quick.Goals as goal

pub scan_pages-first-requires : goal.scan_pages-first-requires
scan_pages-first-requires c = record { called = λ t. c.requires.called; block_lt_blocks = c.requires.block_lt_blocks; count_bound = omega (arith, c.requires.called.is_valid.pages_least); page_len = c.requires.page_len; blocks_in_bounds = c.requires.blocks_in_bounds }

pub is_whole-begins_whole-requires : goal.is_whole-begins_whole-requires
is_whole-begins_whole-requires c =
    let long = c.page-1.given ∙ c.requires.page_len in
    record { spare_least = omega (arith, long, c.requires.called.is_valid.spare_least); most = omega (arith, long, c.requires.called.is_valid.main_most, c.requires.called.is_valid.spare_most) }

pub scan_pages-both-requires : goal.scan_pages-both-requires
scan_pages-both-requires c = record { called = c.scan_pages-first.ensures.ran.next; block_lt_blocks = c.requires.block_lt_blocks; count_bound = omega (arith, c.requires.called.is_valid.pages_least); page_len = c.page-1.given ∙ c.requires.page_len; blocks_in_bounds = omega (arith, c.bits-1.given, c.requires.blocks_in_bounds) }

pub is_whole-ends_whole-requires : goal.is_whole-ends_whole-requires
is_whole-ends_whole-requires c =
    let long = c.page-2-1.given ∙ c.page-1.given ∙ c.requires.page_len in
    record { spare_least = omega (arith, long, c.requires.called.is_valid.spare_least); most = omega (arith, long, c.requires.called.is_valid.main_most, c.requires.called.is_valid.spare_most) }

pub scan_mark-marked-requires : goal.scan_mark-marked-requires
scan_mark-marked-requires c = record { called = c.scan_pages-both.ensures.ran.next; block_lt_blocks = c.requires.block_lt_blocks }

pub shape_of-array-then-not-begins_whole : goal.shape_of-array-then-not-begins_whole
shape_of-array-then-not-begins_whole c =
    c.array-3-1.given ∙ c.array-2-1.given ∙ c.array-1.given

pub shape_of-register-then-not-begins_whole : goal.shape_of-register-then-not-begins_whole
shape_of-register-then-not-begins_whole c =
    c.register-3-1.given ∙ c.register-2-1.given ∙ c.register-1.given

pub shape_of-history-then-not-begins_whole : goal.shape_of-history-then-not-begins_whole
shape_of-history-then-not-begins_whole c =
    c.history-3-1.given ∙ c.history-2-1.given ∙ c.history-1.given

pub shape_of-page-then-not-begins_whole : goal.shape_of-page-then-not-begins_whole
shape_of-page-then-not-begins_whole c =
    c.page-2-1.given ∙ c.page-1.given

pub shape_of-bits-then-not-begins_whole : goal.shape_of-bits-then-not-begins_whole
shape_of-bits-then-not-begins_whole c =
    c.bits-2-1.given ∙ c.bits-1.given

pub returns-then-not-begins_whole : goal.returns-then-not-begins_whole
returns-then-not-begins_whole c =
    let three : 3 ≤ c.args.g.pages = omega (arith, c.requires.called.is_valid.pages_least) in
    quick_first (setting c.args.g c.args.mask.now c.args.fates.now) c.args.block three (line c.args.from c.args.array.now c.args.register.now c.args.history.now) _ _ _ _ _ _ c.args.bits.now _ _ _ _ _ _ _ _ _ _ c.args.page.now _ c.blank.ensures c.scan_pages-first.ensures c.scan_pages-both.ensures c.scan_mark-marked.ensures (sym c.is_whole-begins_whole.ensures ∙ c.if-not-begins_whole.true)

pub shape_of-array-then-not-ends_whole : goal.shape_of-array-then-not-ends_whole
shape_of-array-then-not-ends_whole c =
    c.array-3-1.given ∙ c.array-2-1.given ∙ c.array-1.given

pub shape_of-register-then-not-ends_whole : goal.shape_of-register-then-not-ends_whole
shape_of-register-then-not-ends_whole c =
    c.register-3-1.given ∙ c.register-2-1.given ∙ c.register-1.given

pub shape_of-history-then-not-ends_whole : goal.shape_of-history-then-not-ends_whole
shape_of-history-then-not-ends_whole c =
    c.history-3-1.given ∙ c.history-2-1.given ∙ c.history-1.given

pub shape_of-page-then-not-ends_whole : goal.shape_of-page-then-not-ends_whole
shape_of-page-then-not-ends_whole c =
    c.page-2-1.given ∙ c.page-1.given

pub shape_of-bits-then-not-ends_whole : goal.shape_of-bits-then-not-ends_whole
shape_of-bits-then-not-ends_whole c =
    c.bits-2-1.given ∙ c.bits-1.given

pub returns-then-not-ends_whole : goal.returns-then-not-ends_whole
returns-then-not-ends_whole c =
    let three : 3 ≤ c.args.g.pages = omega (arith, c.requires.called.is_valid.pages_least) in
    quick_last_lem (setting c.args.g c.args.mask.now c.args.fates.now) c.args.block three (line c.args.from c.args.array.now c.args.register.now c.args.history.now) _ _ _ _ _ _ c.args.bits.now _ _ _ _ _ _ _ _ _ _ c.args.page.now _ c.blank.ensures c.scan_pages-first.ensures c.scan_pages-both.ensures c.scan_mark-marked.ensures (sym c.is_whole-ends_whole.ensures ∙ c.if-not-ends_whole.true)

pub scan_pages-requires : goal.scan_pages-requires
scan_pages-requires c = record { called = c.scan_mark-marked.ensures.ran.next; block_lt_blocks = c.requires.block_lt_blocks; count_bound = omega (arith, c.requires.called.is_valid.pages_least); page_len = c.page-2-1.given ∙ c.page-1.given ∙ c.requires.page_len; blocks_in_bounds = omega (arith, c.bits-2-1.given, c.bits-1.given, c.requires.blocks_in_bounds) }

pub shape_of-array : goal.shape_of-array
shape_of-array c =
    c.array-4-1.given ∙ c.array-3-1.given ∙ c.array-2-1.given ∙ c.array-1.given

pub shape_of-register : goal.shape_of-register
shape_of-register c =
    c.register-4-1.given ∙ c.register-3-1.given ∙ c.register-2-1.given ∙ c.register-1.given

pub shape_of-history : goal.shape_of-history
shape_of-history c =
    c.history-4-1.given ∙ c.history-3-1.given ∙ c.history-2-1.given ∙ c.history-1.given

pub shape_of-page : goal.shape_of-page
shape_of-page c =
    c.page-3-1.given ∙ c.page-2-1.given ∙ c.page-1.given

pub shape_of-bits : goal.shape_of-bits
shape_of-bits c =
    c.bits-3-1.given ∙ c.bits-2-1.given ∙ c.bits-1.given

pub returns : goal.returns
returns c =
    let three : 3 ≤ c.args.g.pages = omega (arith, c.requires.called.is_valid.pages_least) in
    quick_long (setting c.args.g c.args.mask.now c.args.fates.now) c.args.block three (line c.args.from c.args.array.now c.args.register.now c.args.history.now) _ _ _ _ _ _ c.args.bits.now _ _ _ _ _ _ _ _ _ _ c.args.page.now _ c.blank.ensures c.scan_pages-first.ensures c.scan_pages-both.ensures c.scan_mark-marked.ensures (sym c.is_whole-begins_whole.ensures ∙ c.if-not-begins_whole.false) (sym c.is_whole-ends_whole.ensures ∙ c.if-not-ends_whole.false) _ _ _ _ _ _ c.scan_pages.ensures
