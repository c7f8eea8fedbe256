-- `fill::put_main` meets its contract. Assumes nothing.
use Prim.Native.Nat.{ℕ}
use mathlib.Core.List.{List}
use mathlib.Core.Path.{sym, ap, ◌∙◌}
use lib.ListN.{replicate}
use Rattle.chip_array.specs.Device.{setting}
use Rattle.bus.specs.Line.{line}
use Rattle.copies.specs.Blocks.{formed}
use Rattle.fill.specs.Fill.{Source, main_of, given_main, data_source}
use Rattle.fill.proofs.MainLaws.{source_given, source_kept, source_none, reaches_as, given_comes, given_main_fact}
use Rattle.fill.proofs.put_main.Goals as goal

pub put_given-requires : goal.put_given-requires
put_given-requires c = record { valid = c.requires.lent.is_valid; place_lt_pages = c.requires.place_lt_pages; place_value = sym c.is_given.ensures ∙ c.if-is_given.true; bytes_len = c.requires.bytes_len; page_len = c.requires.page_len }

pub returns-then-is_given : goal.returns-then-is_given
returns-then-is_given c =
    let set = setting c.args.g c.args.mask.now c.args.fates.now in
    let l = line c.args.from c.args.array.now c.args.register.now c.args.history.now in
    let source = data_source c.args.g c.args.content.old c.args.content.form c.args.content.first c.args.content.count c.args.bytes.now c.args.place in
    let main = given_main c.args.g c.args.content.first c.args.bytes.now c.args.place in
    let is = source_given c.args.g c.args.content.old c.args.content.form c.args.content.first c.args.content.count c.args.bytes.now c.args.place (sym c.is_given.ensures ∙ c.if-is_given.true) in record { reaches = given_comes set c.args.place source main is l c.requires.lent; page_after = (λ t. given_main_fact set c.args.place source main is c.args.content.kind c.args.array.now _ c.put_given.ensures) }

pub put_kept-requires : goal.put_kept-requires
put_kept-requires c = record { lent = c.requires.lent; place_lt_pages = c.requires.place_lt_pages; content_lt_blocks = c.if-old-g.true; page_len = c.requires.page_len }

pub returns-then-old-g : goal.returns-then-old-g
returns-then-old-g c =
    let is = source_kept c.args.g c.args.content.old c.args.content.form c.args.content.first c.args.content.count c.args.bytes.now c.args.place (sym c.is_given.ensures ∙ c.if-is_given.false) c.if-old-g.true in record { reaches = reaches_as c.args.place is c.put_kept.ensures.reaches; page_after = (λ t. c.put_kept.ensures.page_after t ∙ ap (λ (x : Source). formed c.args.content.kind c.args.place (main_of c.args.g c.args.array.now c.args.place x)) (sym is)) }

pub returns : goal.returns
returns c =
    let set = setting c.args.g c.args.mask.now c.args.fates.now in
    let l = line c.args.from c.args.array.now c.args.register.now c.args.history.now in
    let source = data_source c.args.g c.args.content.old c.args.content.form c.args.content.first c.args.content.count c.args.bytes.now c.args.place in
    let ones : List ℕ = replicate c.args.g.main 255 in
    let is = source_none c.args.g c.args.content.old c.args.content.form c.args.content.first c.args.content.count c.args.bytes.now c.args.place (sym c.is_given.ensures ∙ c.if-is_given.false) c.if-old-g.false in record { reaches = given_comes set c.args.place source ones is l c.requires.lent; page_after = (λ t. given_main_fact set c.args.place source ones is c.args.content.kind c.args.array.now _ c.put_ones.ensures) }
