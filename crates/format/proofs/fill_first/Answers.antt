-- `format::fill_first` meets its contract. Assumes nothing.
use Prim.Native.Nat.{◌<◌}
use mathlib.Core.Path.{sym, subst, ◌∙◌}
use native.Mathlib.Omega.{arith}
use Rattle.chip_array.specs.Device.{setting}
use Rattle.bus.specs.Line.{line}
use Rattle.state.specs.declared.State.{State}
use Rattle.format.proofs.EndLaws.{last_small, tables_left, few_end, unpassed_end, alone_end, late_end}
use Rattle.format.proofs.fill_first.Goals as goal

pub returns-then-count_permitted-g : goal.returns-then-count_permitted-g
returns-then-count_permitted-g c =
    let set = setting c.args.g c.args.mask.now c.args.fates.now in
    let l = line c.args.from c.args.array.now c.args.register.now c.args.history.now in
    λ cs os. c.end.ensures _ _ _ ∙ few_end set c.args.allowed c.args.marked c.args.invalid c.args.greatest c.args.old c.count_permitted.result c.count_permitted.ensures c.if-count_permitted-g.true l _ c.blank.ensures cs os

pub fill_tables-ran-requires : goal.fill_tables-ran-requires
fill_tables-ran-requires c =
    let last = subst (λ (x : State). x.last < c.args.g.blocks) (sym c.first_state-first.ensures) (last_small c.args.g c.args.marked c.args.invalid c.args.greatest c.args.old c.requires.called.is_valid) in record { called = c.requires.called; last_lt_blocks = last; page_len = c.requires.page_len }

pub end-requires-then-answer-ne0 : goal.end-requires-then-answer-ne0
end-requires-then-answer-ne0 c =
    let set = setting c.args.g c.args.mask.now c.args.fates.now in
    let l = line c.args.from c.args.array.now c.args.register.now c.args.history.now in
    omega (arith, c.requires.left_le_allowed, tables_left set c.args.allowed _ l _ _ _ c.fill_tables-ran.ensures)

pub returns-then-answer-ne0 : goal.returns-then-answer-ne0
returns-then-answer-ne0 c =
    let set = setting c.args.g c.args.mask.now c.args.fates.now in
    let l = line c.args.from c.args.array.now c.args.register.now c.args.history.now in
    λ cs os. c.end-then-answer-ne0.ensures _ _ _ ∙ unpassed_end set c.args.allowed c.args.marked c.args.invalid c.args.greatest c.args.old c.count_permitted.result c.count_permitted.ensures c.if-count_permitted-g.false _ c.first_state-first.ensures l _ _ _ c.fill_tables-ran.ensures c.if-answer-ne0.true cs os

pub end-requires-then-old-g : goal.end-requires-then-old-g
end-requires-then-old-g c =
    let set = setting c.args.g c.args.mask.now c.args.fates.now in
    let l = line c.args.from c.args.array.now c.args.register.now c.args.history.now in
    omega (arith, c.requires.left_le_allowed, tables_left set c.args.allowed _ l _ _ _ c.fill_tables-ran.ensures)

pub returns-then-old-g : goal.returns-then-old-g
returns-then-old-g c =
    let set = setting c.args.g c.args.mask.now c.args.fates.now in
    let l = line c.args.from c.args.array.now c.args.register.now c.args.history.now in
    λ cs os. c.end-then-old-g.ensures _ _ _ ∙ alone_end set c.args.allowed c.args.marked c.args.invalid c.args.greatest c.args.old c.count_permitted.result c.count_permitted.ensures c.if-count_permitted-g.false _ c.first_state-first.ensures l _ _ _ c.fill_tables-ran.ensures c.if-answer-ne0.false c.if-old-g.true cs os

pub erase_old-requires : goal.erase_old-requires
erase_old-requires c =
    let set = setting c.args.g c.args.mask.now c.args.fates.now in
    let l = line c.args.from c.args.array.now c.args.register.now c.args.history.now in
    let next = c.fill_tables-ran.ensures.next_called c.if-answer-ne0.false in record { called = next.0; last_lt_blocks = next.1; lt_blocks = c.if-old-g.false; page_len = c.page-1.given ∙ c.requires.page_len; left_le_allowed = omega (arith, c.requires.left_le_allowed, tables_left set c.args.allowed _ l _ _ _ c.fill_tables-ran.ensures) }

pub shape_of-array : goal.shape_of-array
shape_of-array c = c.array-2-1.given ∙ c.array-1.given

pub shape_of-register : goal.shape_of-register
shape_of-register c = c.register-2-1.given ∙ c.register-1.given

pub shape_of-history : goal.shape_of-history
shape_of-history c = c.history-2-1.given ∙ c.history-1.given

pub returns : goal.returns
returns c =
    let set = setting c.args.g c.args.mask.now c.args.fates.now in
    let l = line c.args.from c.args.array.now c.args.register.now c.args.history.now in
    λ cs os. late_end set c.args.allowed c.args.marked c.args.invalid c.args.greatest c.args.old c.count_permitted.result c.count_permitted.ensures c.if-count_permitted-g.false _ c.first_state-first.ensures l _ _ _ c.fill_tables-ran.ensures c.if-answer-ne0.false c.if-old-g.false _ c.erase_old.ensures cs os
