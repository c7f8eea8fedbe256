-- `fill::put_kept` meets its contract. Assumes nothing.
use Prim.Native.Nat.{ℕ, ◌-◌, ◌≤◌}
use mathlib.Core.List.{List}
use mathlib.Core.Path.{refl, ap, ◌∙◌}
use native.Mathlib.Omega.{arith}
use lib.ListN.{length, take, drop}
use Rattle.chip_array.specs.Device.{setting}
use Rattle.bus.specs.Line.{line}
use Rattle.copies.specs.Blocks.{formed}
use Rattle.fill.proofs.MainLaws.{lent-long, put_read, put_long, kept_comes, kept_main}
use Rattle.fill.proofs.put_kept.Goals as goal

pub reform_main-requires : goal.reform_main-requires
reform_main-requires c = record { valid = c.requires.lent.is_valid; place_lt_pages = c.requires.place_lt_pages; page_len = put_long c.args.g.main c.args.page.now (omega (arith, c.requires.page_len)) c.read-done.new.buffer _ c.read-done.auto.buffer refl ∙ c.requires.page_len }

pub returns : goal.returns
returns c =
    let set = setting c.args.g c.args.mask.now c.args.fates.now in
    let l = line c.args.from c.args.array.now c.args.register.now c.args.history.now in
    let room : c.args.g.main ≤ length c.args.page.now = omega (arith, c.requires.page_len) in
    let buffer = take (c.args.g.main - 0) (drop 0 c.args.page.now) in
    let long = lent-long c.args.g.main c.args.page.now room in record { reaches = kept_comes set l c.requires.lent c.args.content.old c.args.content.form c.args.place c.requires.content_lt_blocks c.requires.place_lt_pages c.row_of-row.result c.row_of-row.ensures buffer long _ c.read-done.result.outcome c.read-done.ensures.history_after c.read-done.ensures.outcome_value; page_after = (λ t. c.reform_main.ensures ∙ ap (λ (xs : List ℕ). formed c.args.content.kind c.args.place (formed c.args.content.form c.args.place xs)) (put_read c.args.g.main c.args.page.now room _ _ c.read-done.auto.buffer) ∙ kept_main set l c.requires.lent c.args.content.old c.args.content.form c.args.place c.requires.content_lt_blocks c.requires.place_lt_pages c.row_of-row.result c.row_of-row.ensures buffer long _ c.read-done.result.outcome c.read-done.ensures.history_after c.read-done.ensures.outcome_value _ c.read-done.ensures.buffer_after t c.args.content.kind) }
