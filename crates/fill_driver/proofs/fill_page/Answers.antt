-- `fill_driver::fill_page` meets its contract. Assumes nothing.
use mathlib.Core.Path.{◌∙◌}
use Rattle.chip_array.specs.Device.{setting}
use Rattle.bus_polling.proofs.OutcomeLaws.{passed_by_is, other_by_not}
use Rattle.fill.specs.Fill.{copy, data_source}
use Rattle.fill_driver.proofs.PageLaws.{page_stops, page_programmed}
use Rattle.fill_driver.proofs.fill_page.Goals as goal

pub put_main-put-requires : goal.put_main-put-requires
put_main-put-requires c = record { lent = c.requires.lent; place_lt_pages = c.requires.fillable.place_below; page_len = c.requires.fillable.page-long; bytes_len = c.requires.bytes_len }

pub returns-in_default : goal.returns-in_default
returns-in_default c =
    let set = setting c.args.g c.args.mask.now c.args.fates.now in
    let k = copy c.args.content.kind c.args.content.logical c.args.content.number in
    let source = data_source c.args.g c.args.content.old c.args.content.form c.args.content.first c.args.content.count c.args.bytes.now in
    let f = other_by_not _ c.in_default.not-Passed in
    page_stops set c.args.block k c.args.place (source c.args.place) _ _ c.put_main-put.result.outcome c.put_main-put.ensures.reaches f

pub program_page-requires : goal.program_page-requires
program_page-requires c =
    record { is_valid = c.requires.fillable.is_valid; block_below = c.requires.fillable.block_below; place_below = c.requires.fillable.place_below; width_is = c.requires.fillable.width_is; logical_fits = c.requires.fillable.logical_fits; page-long = c.page-1.given ∙ c.requires.fillable.page-long }

pub returns : goal.returns
returns c =
    let set = setting c.args.g c.args.mask.now c.args.fates.now in
    let k = copy c.args.content.kind c.args.content.logical c.args.content.number in
    let source = data_source c.args.g c.args.content.old c.args.content.form c.args.content.first c.args.content.count c.args.bytes.now in
    let p = passed_by_is _ c.in-Passed.is in
    page_programmed set c.args.block k c.args.place (source c.args.place) _ _ c.put_main-put.result.outcome c.put_main-put.ensures.reaches p _ (c.put_main-put.ensures.page_after p) _ c.program_page.result.outcome c.program_page.ensures.history_after c.program_page.ensures.outcome_value
