-- `journal_read::read_part` meets its contract. Assumes nothing.
use Prim.Native.Nat.{ℕ, ◌%◌}
use mathlib.Core.Path.{◌≡◌, refl, sym, ap, ap₂, ◌∙◌}
use native.Mathlib.Omega.{arith}
use lib.ListN.{length, get_or}
use Rattle.chip_array.specs.Device.{setting}
use Rattle.cells.specs.Cells.{over}
use Rattle.bus.specs.Line.{line, send_all}
use Rattle.bus_sequences.specs.Cycles.{read_cycles, read_outcome, read_outputs}
use Rattle.bools.proofs.BoolLaws.{clash}
use Rattle.bus_polling.proofs.OutcomeLaws.{other_by_not}
use Rattle.geometry.specs.Sizes.{row_of}
use Rattle.geometry.proofs.SizeLaws.{row_page_below}
use Rattle.journal_read.specs.Reads.{block_of}
use Rattle.journal_read.proofs.PartLaws.{logical_below, block_below, none_there, undone_so, one_there}
use Rattle.journal_read.proofs.read_part.Goals as goal

pub offset_bounds-map-logical : goal.offset_bounds-map-logical
offset_bounds-map-logical c =
    omega (arith, c.block_of_row-logical.ensures, logical_below (setting c.args.g c.args.mask.now c.args.fates.now) c.args.map.now c.args.kinds.now c.args.k (length c.args.bytes.now) (line c.args.from c.args.array.now c.args.register.now c.args.history.now) c.requires.lent c.requires.mapped c.requires.k_bound c.requires.bytes_len_bound, c.requires.lent.is_valid.logical_most, c.requires.lent.is_valid.blocks_most)

pub bounds-map-logical : goal.bounds-map-logical
bounds-map-logical c =
    omega (arith, c.block_of_row-logical.ensures, logical_below (setting c.args.g c.args.mask.now c.args.fates.now) c.args.map.now c.args.kinds.now c.args.k (length c.args.bytes.now) (line c.args.from c.args.array.now c.args.register.now c.args.history.now) c.requires.lent c.requires.mapped c.requires.k_bound c.requires.bytes_len_bound, c.requires.lent.is_valid.logical_most, c.requires.lent.is_valid.blocks_most, c.requires.mapped.long)

pub returns-then-block-eq-NONE : goal.returns-then-block-eq-NONE
returns-then-block-eq-NONE c =
    let z : block_of c.args.g c.args.map.now c.args.k ≡ 65535 = ap (λ (i : ℕ). get_or c.args.map.now i 0) (sym c.block_of_row-logical.ensures) ∙ sym c.wide-block.ensures ∙ c.if-block-eq-NONE.true in
    none_there (setting c.args.g c.args.mask.now c.args.fates.now) c.args.map.now c.args.kinds.now c.args.k (length c.args.bytes.now) (line c.args.from c.args.array.now c.args.register.now c.args.history.now) c.requires.lent c.requires.mapped c.requires.k_bound c.requires.bytes_len_bound z _ c.erase_whole.ensures

pub row_of-row-requires : goal.row_of-row-requires
row_of-row-requires c =
    let is : c.wide-block.result ≡ block_of c.args.g c.args.map.now c.args.k = c.wide-block.ensures ∙ ap (λ (i : ℕ). get_or c.args.map.now i 0) c.block_of_row-logical.ensures in record { valid = c.requires.lent.is_valid; block_lt_blocks = omega (arith, is, block_below (setting c.args.g c.args.mask.now c.args.fates.now) c.args.map.now c.args.kinds.now c.args.k (length c.args.bytes.now) (line c.args.from c.args.array.now c.args.register.now c.args.history.now) c.requires.lent c.requires.mapped c.requires.k_bound c.requires.bytes_len_bound (λ z. c.if-block-eq-NONE.false (is ∙ z))); page_lt_pages = omega (arith, c.page_of_row-page.ensures, row_page_below c.args.g c.requires.lent.is_valid c.args.k) }

pub returns-in_default : goal.returns-in_default
returns-in_default c =
    let set = (setting c.args.g c.args.mask.now c.args.fates.now) in
    let l = (line c.args.from c.args.array.now c.args.register.now c.args.history.now) in
    let n = length c.args.bytes.now in
    let is : c.wide-block.result ≡ block_of c.args.g c.args.map.now c.args.k = c.wide-block.ensures ∙ ap (λ (i : ℕ). get_or c.args.map.now i 0) c.block_of_row-logical.ensures in
    let row : c.row_of-row.result ≡ row_of c.args.g (block_of c.args.g c.args.map.now c.args.k) (c.args.k % c.args.g.pages) = c.row_of-row.ensures ∙ ap₂ (row_of c.args.g) is c.page_of_row-page.ensures in
    one_there set c.args.map.now c.args.kinds.now c.args.k n l c.requires.lent c.requires.mapped c.requires.k_bound c.requires.bytes_len_bound (λ z. c.if-block-eq-NONE.false (is ∙ z)) _ c.read-done.result.outcome c.args.bytes.now _ _ refl
    (c.read-done.ensures.history_after ∙ ap (λ (x : ℕ). send_all set l (read_cycles set l x 0 n)) row)
    (c.read-done.ensures.outcome_value ∙ ap (λ (x : ℕ). read_outcome set l x 0 n) row)
    (c.read-done.ensures.buffer_after ∙ ap (λ (x : ℕ). over (read_outputs set l x 0 n) c.args.bytes.now) row)
    (λ t. clash t (other_by_not c.read-done.result.outcome c.in_default.not-Passed))

pub bounds-kinds-logical : goal.bounds-kinds-logical
bounds-kinds-logical c =
    omega (arith, c.block_of_row-logical.ensures, logical_below (setting c.args.g c.args.mask.now c.args.fates.now) c.args.map.now c.args.kinds.now c.args.k (length c.args.bytes.now) (line c.args.from c.args.array.now c.args.register.now c.args.history.now) c.requires.lent c.requires.mapped c.requires.k_bound c.requires.bytes_len_bound, c.requires.lent.is_valid.logical_most, c.requires.lent.is_valid.blocks_most, c.requires.mapped.kinds_long)

pub undo-requires : goal.undo-requires
undo-requires c = record { page_bound = omega (arith, c.page_of_row-page.ensures, row_page_below c.args.g c.requires.lent.is_valid c.args.k, c.requires.lent.is_valid.pages_most); buffer_len_bound = omega (arith, c.bytes-2-1.given, c.requires.bytes_len_bound, c.requires.lent.is_valid.main_most) }

pub returns : goal.returns
returns c =
    let set = (setting c.args.g c.args.mask.now c.args.fates.now) in
    let l = (line c.args.from c.args.array.now c.args.register.now c.args.history.now) in
    let n = length c.args.bytes.now in
    let is : c.wide-block.result ≡ block_of c.args.g c.args.map.now c.args.k = c.wide-block.ensures ∙ ap (λ (i : ℕ). get_or c.args.map.now i 0) c.block_of_row-logical.ensures in
    let row : c.row_of-row.result ≡ row_of c.args.g (block_of c.args.g c.args.map.now c.args.k) (c.args.k % c.args.g.pages) = c.row_of-row.ensures ∙ ap₂ (row_of c.args.g) is c.page_of_row-page.ensures in
    one_there set c.args.map.now c.args.kinds.now c.args.k n l c.requires.lent c.requires.mapped c.requires.k_bound c.requires.bytes_len_bound (λ z. c.if-block-eq-NONE.false (is ∙ z)) _ c.read-done.result.outcome c.args.bytes.now _ _ refl
    (c.read-done.ensures.history_after ∙ ap (λ (x : ℕ). send_all set l (read_cycles set l x 0 n)) row)
    (c.read-done.ensures.outcome_value ∙ ap (λ (x : ℕ). read_outcome set l x 0 n) row)
    (c.read-done.ensures.buffer_after ∙ ap (λ (x : ℕ). over (read_outputs set l x 0 n) c.args.bytes.now) row)
    (λ t. undone_so c.args.g c.args.kinds.now c.args.k c.block_of_row-logical.result c.page_of_row-page.result _ _ c.block_of_row-logical.ensures c.page_of_row-page.ensures c.undo.ensures)
