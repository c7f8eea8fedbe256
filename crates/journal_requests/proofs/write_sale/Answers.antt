-- `journal_requests::write_sale` meets its contract. Assumes nothing.
use mathlib.Core.Path.{ap, ◌∙◌}
use native.Mathlib.Numerals.{add-one}
use native.Mathlib.Omega.{arith}
use Rattle.chip_array.specs.Device.{setting}
use Rattle.bus.specs.Line.{line}
use Rattle.bus_polling.specs.declared.Outcome.TheVariants.{Passed}
use Rattle.progress.specs.Progress.{progress}
use Rattle.fill_tables.specs.Tables.{end_of_run}
use Rattle.write_changes.specs.Changes.{Update}
use Rattle.write.specs.Update.{change_from}
use Rattle.journal.proofs.EndLaws.{room_most}
use Rattle.journal_requests.specs.Requests.{sale_update}
use Rattle.journal_requests.proofs.EndLaws.{logical_below, update_is, sale-ended, sale_done}
use Rattle.journal_requests.proofs.write_sale.Goals as goal

pub overflow_add-number : goal.overflow_add-number
overflow_add-number c =
    omega (arith, c.requires.records_bound, room_most c.args.g)

pub write_page-returned-requires : goal.write_page-returned-requires
write_page-returned-requires c = record { lent = c.requires.lent; left_le_allowed = c.requires.left_le_allowed; last_lt_blocks = c.requires.last_lt_blocks; logical_lt_logical = omega (arith, c.block_of_row-logical.ensures, logical_below c.args.g c.requires.lent.is_valid c.args.records c.requires.records_bound); bytes_len = c.page-1.given ∙ c.requires.page_len }

pub shape_of-page-then-answer-ne0 : goal.shape_of-page-then-answer-ne0
shape_of-page-then-answer-ne0 c = c.page-1.given

pub returns-then-answer-ne0 : goal.returns-then-answer-ne0
returns-then-answer-ne0 c =
    let is = update_is c.args.g c.args.state c.args.records c.args.sale c.block_of_row-logical.ensures c.page_of_row-place.ensures c.write_record.ensures c.requires.page_len (add-one c.args.records) in
    λ cs os. sale-ended c.args.allowed c.args.records (change_from (setting c.args.g c.args.mask.now c.args.fates.now) c.args.state (sale_update c.args.g c.args.state c.args.records c.args.sale) (progress (line c.args.from c.args.array.now c.args.register.now c.args.history.now) Passed cs os)) (c.write_page-returned.ensures cs os ∙ ap (λ (u : Update). end_of_run c.args.allowed (change_from (setting c.args.g c.args.mask.now c.args.fates.now) c.args.state u (progress (line c.args.from c.args.array.now c.args.register.now c.args.history.now) Passed cs os))) is) c.if-answer-ne0.true

pub returns : goal.returns
returns c =
    let is = update_is c.args.g c.args.state c.args.records c.args.sale c.block_of_row-logical.ensures c.page_of_row-place.ensures c.write_record.ensures c.requires.page_len (add-one c.args.records) in
    λ cs os. sale_done c.args.allowed c.args.records _ (change_from (setting c.args.g c.args.mask.now c.args.fates.now) c.args.state (sale_update c.args.g c.args.state c.args.records c.args.sale) (progress (line c.args.from c.args.array.now c.args.register.now c.args.history.now) Passed cs os)) (c.write_page-returned.ensures cs os ∙ ap (λ (u : Update). end_of_run c.args.allowed (change_from (setting c.args.g c.args.mask.now c.args.fates.now) c.args.state u (progress (line c.args.from c.args.array.now c.args.register.now c.args.history.now) Passed cs os))) is) c.if-answer-ne0.false (add-one c.args.records)
