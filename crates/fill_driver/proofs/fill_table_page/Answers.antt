-- `fill_driver::fill_table_page` meets its contract. Assumes nothing.
use Prim.Native.Nat.{ℕ, ◌-◌}
use mathlib.Core.Path.{ap, sym, ◌∙◌}
use native.Mathlib.Nat.{one-mul}
use native.Mathlib.Omega.{arith}
use lib.ListN.{drop, replicate}
use Rattle.chip_array.specs.Device.{setting}
use Rattle.copies.specs.Table.{table_page}
use Rattle.fill.specs.Fill.{Source, page_filled, table_copy}
use Rattle.progress.proofs.ComesLaws.{comes_as}
use Rattle.fill.proofs.MainLaws.{lent-long, put_fits, put-lent, table_source_lem}
use Rattle.fill.proofs.PageLaws.{first-room}
use Rattle.fill_driver.proofs.DueLaws.{table_fillable}
use Rattle.fill_driver.proofs.fill_table_page.Goals as goal

pub slice_bounds-fill_page-end : goal.slice_bounds-fill_page-end
slice_bounds-fill_page-end c =
    put_fits c.args.g.main (replicate 4096 0) (first-room c.args.g c.requires.lent.is_valid) c.build_first.new.main (drop (c.args.g.main - 0) (replicate 4096 0)) c.build_first.auto.main

pub fill_page-requires : goal.fill_page-requires
fill_page-requires c = record { lent = c.requires.lent; fillable = table_fillable c.args.g c.requires.lent.is_valid c.args.block c.args.place _ c.requires.block_lt_blocks c.requires.place_lt_pages c.requires.page_len; bytes_len = (lent-long c.args.g.main _ (put_fits c.args.g.main (replicate 4096 0) (first-room c.args.g c.requires.lent.is_valid) c.build_first.new.main (drop (c.args.g.main - 0) (replicate 4096 0)) c.build_first.auto.main) ∙ sym (one-mul c.args.g.main)) }

pub returns : goal.returns
returns c =
    let set = setting c.args.g c.args.mask.now c.args.fates.now in
    let room = first-room c.args.g c.requires.lent.is_valid in
    let bytes = put-lent c.args.g.main (replicate 4096 0) room _ _ c.build_first.auto.main ∙ c.build_first.ensures ∙ ap (λ (k : ℕ). table_page k c.args.g.blocks c.args.g.logical c.args.invalid.now) (lent-long c.args.g.main (replicate 4096 0) room) in
    let source = table_source_lem c.args.g 65535 0 (omega (arith, c.requires.lent.is_valid.blocks_most)) c.args.invalid.now _ (lent-long c.args.g.main _ (put_fits c.args.g.main (replicate 4096 0) room c.build_first.new.main (drop (c.args.g.main - 0) (replicate 4096 0)) c.build_first.auto.main)) bytes in
    comes_as (λ p. ap (λ (x : ℕ → Source). page_filled set c.args.block (table_copy c.args.number) c.args.place (x c.args.place) p) source) c.fill_page.ensures
