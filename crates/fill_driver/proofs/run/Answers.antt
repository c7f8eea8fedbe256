-- `fill_driver::run` meets its contract. Assumes nothing.
use mathlib.Core.Path.{refl, sym, subst, ◌∙◌}
use native.Mathlib.Omega.{arith}
use Prim.Native.Nat.{◌<◌}
use Rattle.chip_array.specs.Device.{setting}
use Rattle.bus.specs.Line.{line}
use Rattle.fill_cursor.specs.Cursor.{running, actions_most}
use Rattle.fill_cursor.specs.declared.Running.{Running}
use Rattle.fill_driver.proofs.RunLaws.{Going, programs-most, after_settled, after_kept, run_begins, run_over, is_open, prepare_less, run_prepared, run_goes, run_less}
use Rattle.fill_driver.proofs.run.Goals as goal

pub loop-g-init : goal.loop-g-init
loop-g-init c =
    (refl, refl, refl, refl, run_begins (setting c.args.g c.args.mask.now c.args.fates.now) c.args.bytes.now c.args.most c.args.start (line c.args.from c.args.array.now c.args.register.now c.args.history.now) c.requires.lent c.requires.fits c.requires.last_lt_blocks)

pub prepare-ready-requires : goal.prepare-ready-requires
prepare-ready-requires c =
    let set = setting c.args.g c.args.mask.now c.args.fates.now in
    let first = line c.args.from c.args.array.now c.args.register.now c.args.history.now in
    let r = running c.loop-g.cursor c.loop-g.state in
    let here = line c.loop-g.bus c.loop-g.array c.loop-g.register c.loop-g.history in
    let a = is_open set c.args.bytes.now c.args.most c.args.start first c.loop-g.left r here c.loop-g.invariant.4 (sym c.is_open.ensures ∙ c.loop-g-test.true) in record { valid = a.lent.is_valid; last_lt_blocks = a.last_below }

pub loop-g-smaller-then-step-eq0 : goal.loop-g-smaller-then-step-eq0
loop-g-smaller-then-step-eq0 c =
    let set = setting c.args.g c.args.mask.now c.args.fates.now in
    let first = line c.args.from c.args.array.now c.args.register.now c.args.history.now in
    let r = running c.loop-g.cursor c.loop-g.state in
    let here = line c.loop-g.bus c.loop-g.array c.loop-g.register c.loop-g.history in
    subst (λ (x : Running). actions_most c.loop-g.left x < actions_most c.loop-g.left r) (sym c.prepare-ready.ensures) (prepare_less set c.args.bytes.now c.args.most c.args.start first c.loop-g.left r here c.loop-g.invariant.4 (sym c.is_open.ensures ∙ c.loop-g-test.true) c.if-step-eq0.true)

pub loop-g-preserved-then-step-eq0 : goal.loop-g-preserved-then-step-eq0
loop-g-preserved-then-step-eq0 c =
    let set = setting c.args.g c.args.mask.now c.args.fates.now in
    let first = line c.args.from c.args.array.now c.args.register.now c.args.history.now in
    let r = running c.loop-g.cursor c.loop-g.state in
    let here = line c.loop-g.bus c.loop-g.array c.loop-g.register c.loop-g.history in
    (c.loop-g.invariant.0, c.loop-g.invariant.1, c.loop-g.invariant.2, c.loop-g.invariant.3, subst (λ (x : Running). Going set c.args.bytes.now c.args.most c.args.start first c.loop-g.left x here) (sym c.prepare-ready.ensures) (run_prepared set c.args.bytes.now c.args.most c.args.start first c.loop-g.left r here c.loop-g.invariant.4 (sym c.is_open.ensures ∙ c.loop-g-test.true) c.if-step-eq0.true))

pub bounds-state-logical : goal.bounds-state-logical
bounds-state-logical c =
    let set = setting c.args.g c.args.mask.now c.args.fates.now in
    let first = line c.args.from c.args.array.now c.args.register.now c.args.history.now in
    let r = running c.loop-g.cursor c.loop-g.state in
    let here = line c.loop-g.bus c.loop-g.array c.loop-g.register c.loop-g.history in
    let a = is_open set c.args.bytes.now c.args.most c.args.start first c.loop-g.left r here c.loop-g.invariant.4 (sym c.is_open.ensures ∙ c.loop-g-test.true) in
    omega (arith, a.fits.logical_below, a.lent.is_valid.logical_most, a.lent.is_valid.blocks_most)

pub perform-done-requires : goal.perform-done-requires
perform-done-requires c =
    let set = setting c.args.g c.args.mask.now c.args.fates.now in
    let first = line c.args.from c.args.array.now c.args.register.now c.args.history.now in
    let r = running c.loop-g.cursor c.loop-g.state in
    let here = line c.loop-g.bus c.loop-g.array c.loop-g.register c.loop-g.history in
    let a = is_open set c.args.bytes.now c.args.most c.args.start first c.loop-g.left r here c.loop-g.invariant.4 (sym c.is_open.ensures ∙ c.loop-g-test.true) in record { lent = a.lent; fits = a.fits; step_nonzero = omega (arith, c.if-step-eq0.false); page_len = c.loop-g.invariant.3 ∙ c.requires.page_len }

pub overflow_sub-left : goal.overflow_sub-left
overflow_sub-left c =
    omega (arith, c.programs-left.ensures, programs-most c.loop-g.cursor c.loop-g.left (sym c.is_open.ensures ∙ c.loop-g-test.true))

pub after-next-requires : goal.after-next-requires
after-next-requires c =
    let set = setting c.args.g c.args.mask.now c.args.fates.now in
    let first = line c.args.from c.args.array.now c.args.register.now c.args.history.now in
    let r = running c.loop-g.cursor c.loop-g.state in
    let here = line c.loop-g.bus c.loop-g.array c.loop-g.register c.loop-g.history in
    let a = is_open set c.args.bytes.now c.args.most c.args.start first c.loop-g.left r here c.loop-g.invariant.4 (sym c.is_open.ensures ∙ c.loop-g-test.true) in
    omega (arith, a.fits.page_below, a.lent.is_valid.pages_most)

pub settle-state-requires : goal.settle-state-requires
settle-state-requires c =
    let set = setting c.args.g c.args.mask.now c.args.fates.now in
    let first = line c.args.from c.args.array.now c.args.register.now c.args.history.now in
    let r = running c.loop-g.cursor c.loop-g.state in
    let here = line c.loop-g.bus c.loop-g.array c.loop-g.register c.loop-g.history in
    let a = is_open set c.args.bytes.now c.args.most c.args.start first c.loop-g.left r here c.loop-g.invariant.4 (sym c.is_open.ensures ∙ c.loop-g-test.true) in
    let v = a.lent.is_valid in
    (omega (arith, a.fits.logical_below, v.logical_most, v.blocks_most), omega (arith, a.fits.block_below (omega (arith, c.if-step-eq0.false)), v.blocks_most))

pub loop-g-smaller-then-due-ne2 : goal.loop-g-smaller-then-due-ne2
loop-g-smaller-then-due-ne2 c =
    let set = setting c.args.g c.args.mask.now c.args.fates.now in
    let first = line c.args.from c.args.array.now c.args.register.now c.args.history.now in
    let r = running c.loop-g.cursor c.loop-g.state in
    let here = line c.loop-g.bus c.loop-g.array c.loop-g.register c.loop-g.history in
    run_less set c.args.bytes.now c.args.most c.args.start first c.loop-g.left r here c.loop-g.invariant.4 (sym c.is_open.ensures ∙ c.loop-g-test.true) c.if-step-eq0.false _ c.perform-done.result.outcome c.perform-done.ensures _ (after_settled c.args.g.pages c.loop-g.cursor c.loop-g.state c.perform-done.result.outcome c.after-next.result c.after-next.ensures c.if-due-ne2.true _ c.settle-state.ensures) _ c.programs-left.ensures

pub loop-g-preserved-then-due-ne2 : goal.loop-g-preserved-then-due-ne2
loop-g-preserved-then-due-ne2 c =
    let set = setting c.args.g c.args.mask.now c.args.fates.now in
    let first = line c.args.from c.args.array.now c.args.register.now c.args.history.now in
    let r = running c.loop-g.cursor c.loop-g.state in
    let here = line c.loop-g.bus c.loop-g.array c.loop-g.register c.loop-g.history in (
      c.array-1.given ∙ c.loop-g.invariant.0,
      c.register-1.given ∙ c.loop-g.invariant.1,
      c.history-1.given ∙ c.loop-g.invariant.2,
      c.page-1.given ∙ c.loop-g.invariant.3,
      run_goes set c.args.bytes.now c.args.most c.args.start first c.loop-g.left r here c.loop-g.invariant.4 (sym c.is_open.ensures ∙ c.loop-g-test.true) c.if-step-eq0.false _ c.perform-done.result.outcome c.perform-done.ensures _ (after_settled c.args.g.pages c.loop-g.cursor c.loop-g.state c.perform-done.result.outcome c.after-next.result c.after-next.ensures c.if-due-ne2.true _ c.settle-state.ensures) _ c.programs-left.ensures,
    )

pub loop-g-smaller : goal.loop-g-smaller
loop-g-smaller c =
    let set = setting c.args.g c.args.mask.now c.args.fates.now in
    let first = line c.args.from c.args.array.now c.args.register.now c.args.history.now in
    let r = running c.loop-g.cursor c.loop-g.state in
    let here = line c.loop-g.bus c.loop-g.array c.loop-g.register c.loop-g.history in
    run_less set c.args.bytes.now c.args.most c.args.start first c.loop-g.left r here c.loop-g.invariant.4 (sym c.is_open.ensures ∙ c.loop-g-test.true) c.if-step-eq0.false _ c.perform-done.result.outcome c.perform-done.ensures _ (after_kept c.args.g.pages c.loop-g.cursor c.loop-g.state c.perform-done.result.outcome c.after-next.result c.after-next.ensures c.if-due-ne2.false) _ c.programs-left.ensures

pub loop-g-preserved : goal.loop-g-preserved
loop-g-preserved c =
    let set = setting c.args.g c.args.mask.now c.args.fates.now in
    let first = line c.args.from c.args.array.now c.args.register.now c.args.history.now in
    let r = running c.loop-g.cursor c.loop-g.state in
    let here = line c.loop-g.bus c.loop-g.array c.loop-g.register c.loop-g.history in (
      c.array-1.given ∙ c.loop-g.invariant.0,
      c.register-1.given ∙ c.loop-g.invariant.1,
      c.history-1.given ∙ c.loop-g.invariant.2,
      c.page-1.given ∙ c.loop-g.invariant.3,
      run_goes set c.args.bytes.now c.args.most c.args.start first c.loop-g.left r here c.loop-g.invariant.4 (sym c.is_open.ensures ∙ c.loop-g-test.true) c.if-step-eq0.false _ c.perform-done.result.outcome c.perform-done.ensures _ (after_kept c.args.g.pages c.loop-g.cursor c.loop-g.state c.perform-done.result.outcome c.after-next.result c.after-next.ensures c.if-due-ne2.false) _ c.programs-left.ensures,
    )

pub shape_of-array : goal.shape_of-array
shape_of-array c = c.loop-g.invariant.0

pub shape_of-register : goal.shape_of-register
shape_of-register c = c.loop-g.invariant.1

pub shape_of-history : goal.shape_of-history
shape_of-history c = c.loop-g.invariant.2

pub shape_of-page : goal.shape_of-page
shape_of-page c = c.loop-g.invariant.3

pub returns : goal.returns
returns c =
    let set = setting c.args.g c.args.mask.now c.args.fates.now in
    let first = line c.args.from c.args.array.now c.args.register.now c.args.history.now in
    let r = running c.loop-g.cursor c.loop-g.state in
    let here = line c.loop-g.bus c.loop-g.array c.loop-g.register c.loop-g.history in
    run_over set c.args.bytes.now c.args.most c.args.start first c.loop-g.left r here c.loop-g.invariant.4 (sym c.is_open.ensures ∙ c.loop-g-test.false)
