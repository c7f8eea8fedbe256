-- `fill_driver::perform` meets its contract. Assumes nothing.
use Prim.Native.Nat.{ℕ}
use mathlib.Core.Path.{ap, ◌∙◌}
use native.Mathlib.Omega.{arith}
use Rattle.chip_array.specs.Device.{setting}
use Rattle.bus.specs.Line.{line, send_all}
use Rattle.bus_sequences.specs.Cycles.{erase_cycles}
use Rattle.progress.proofs.ComesLaws.{comes_as, erase_comes}
use Rattle.fill_driver.proofs.DueLaws.{erase_due, table_due, copy_comes, content_fillable, content_count, copy_fillable}
use Rattle.fill_driver.proofs.perform.Goals as goal

pub row_of-row-requires : goal.row_of-row-requires
row_of-row-requires c = record { valid = c.requires.lent.is_valid; block_lt_blocks = c.requires.fits.block_below c.requires.step_nonzero; page_lt_pages = omega (arith, c.requires.lent.is_valid.pages_least) }

pub returns-then-step-eq1 : goal.returns-then-step-eq1
returns-then-step-eq1 c =
    let set = setting c.args.g c.args.mask.now c.args.fates.now in
    let l = line c.args.from c.args.array.now c.args.register.now c.args.history.now in
    let below = c.requires.fits.block_below c.requires.step_nonzero in
    let e = c.erase.ensures.history_after ∙ ap (λ (x : ℕ). send_all set l (erase_cycles set l x)) c.row_of-row.ensures in
    comes_as (λ p. erase_due set c.args.c c.args.form c.args.invalid.now c.args.bytes.now p c.if-step-eq1.true) (erase_comes set l c.args.c.block c.requires.lent below _ c.erase.result.outcome e c.erase.ensures.outcome_value)

pub fill_table_page-requires : goal.fill_table_page-requires
fill_table_page-requires c = record { lent = c.requires.lent; block_lt_blocks = c.requires.fits.block_below c.requires.step_nonzero; place_lt_pages = c.requires.fits.page_below; page_len = c.requires.page_len }

pub returns-then-phase-ne0 : goal.returns-then-phase-ne0
returns-then-phase-ne0 c =
    let set = setting c.args.g c.args.mask.now c.args.fates.now in
    comes_as (λ p. table_due set c.args.c c.args.form c.args.invalid.now c.args.bytes.now p c.if-step-eq1.false c.if-phase-ne0.true) c.fill_table_page.ensures

pub fill_page-requires : goal.fill_page-requires
fill_page-requires c =
    let fillable = copy_fillable c.args.g c.requires.lent.is_valid c.args.c.block c.args.c.page _ (c.requires.fits.block_below c.requires.step_nonzero) c.requires.fits.page_below c.requires.page_len c.args.c.logical c.requires.fits.logical_below in record { lent = c.requires.lent; fillable = content_fillable c.args.c c.args.form c.content_of-content.result c.content_of-content.ensures c.args.g _ fillable; bytes_len = content_count c.args.c c.args.form c.content_of-content.result c.content_of-content.ensures _ c.args.g.main c.requires.fits.bytes_long }

pub returns : goal.returns
returns c =
    copy_comes c.args.c c.args.form c.content_of-content.result c.content_of-content.ensures c.args.invalid.now c.args.bytes.now c.if-step-eq1.false c.if-phase-ne0.false c.fill_page.ensures
