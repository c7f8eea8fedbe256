-- `read::read` meets its contract. Assumes nothing.
use mathlib.Core.Path.{refl}
use Rattle.chip_array.specs.Device.{device, setting}
use Rattle.read.proofs.EndLaws.{ends_refused, is_valid, in_map, not_refused, ends_empty, block_below, ends_read}
use borrow.Author.Rules.{rules}
use Rattle.read.proofs.read.Goals as goal

pub returns-then-refused-ne0 : goal.returns-then-refused-ne0
returns-then-refused-ne0 c =
    let set = setting c.args.g c.args.mask.now c.args.fates.now in
    let d = device c.args.interface c.args.array.now c.args.register.now c.args.history.now in
    ends_refused set d c.args.allowed c.args.state c.args.logical c.args.page c.args.buffer.now c.refusal-refused.result c.refusal-refused.ensures c.if-refused-ne0.true (c.unchanged.ensures _ _ _)

pub offset_bounds-map-logical : goal.offset_bounds-map-logical
offset_bounds-map-logical c =
    let set = setting c.args.g c.args.mask.now c.args.fates.now in
    let d = device c.args.interface c.args.array.now c.args.register.now c.args.history.now in
    search (rules, in_map set d c.args.allowed c.args.state c.args.logical c.args.page c.args.buffer.now c.refusal-refused.result c.refusal-refused.ensures c.if-refused-ne0.false)

pub bounds-map-logical : goal.bounds-map-logical
bounds-map-logical c =
    let set = setting c.args.g c.args.mask.now c.args.fates.now in
    let d = device c.args.interface c.args.array.now c.args.register.now c.args.history.now in
    in_map set d c.args.allowed c.args.state c.args.logical c.args.page c.args.buffer.now c.refusal-refused.result c.refusal-refused.ensures c.if-refused-ne0.false

pub returns-then-block-eq65535 : goal.returns-then-block-eq65535
returns-then-block-eq65535 c =
    let set = setting c.args.g c.args.mask.now c.args.fates.now in
    let d = device c.args.interface c.args.array.now c.args.register.now c.args.history.now in
    ends_empty set d c.args.allowed c.args.state c.args.logical c.args.page c.args.buffer.now c.refusal-refused.result c.refusal-refused.ensures c.if-refused-ne0.false c.wide-block.result _ c.wide-block.ensures refl _ c.if-block-eq65535.true (c.unchanged-then-block-eq65535.ensures _ _ _) c.erase_whole.ensures

pub bounds-kinds-logical : goal.bounds-kinds-logical
bounds-kinds-logical c =
    let set = setting c.args.g c.args.mask.now c.args.fates.now in
    let d = device c.args.interface c.args.array.now c.args.register.now c.args.history.now in
    in_map set d c.args.allowed c.args.state c.args.logical c.args.page c.args.buffer.now c.refusal-refused.result c.refusal-refused.ensures c.if-refused-ne0.false

pub read_block-requires : goal.read_block-requires
read_block-requires c =
    let set = setting c.args.g c.args.mask.now c.args.fates.now in
    let d = device c.args.interface c.args.array.now c.args.register.now c.args.history.now in record { valid = is_valid set d c.args.allowed c.args.state c.args.logical c.args.page c.args.buffer.now c.refusal-refused.result c.refusal-refused.ensures c.if-refused-ne0.false; block_lt_blocks = block_below set d c.args.allowed c.args.state c.args.logical c.args.page c.args.buffer.now c.refusal-refused.result c.refusal-refused.ensures c.if-refused-ne0.false c.wide-block.result _ c.wide-block.ensures refl c.if-block-eq65535.false; page_lt_pages = (not_refused set d c.args.allowed c.args.state c.args.logical c.args.page c.args.buffer.now c.refusal-refused.result c.refusal-refused.ensures c.if-refused-ne0.false).page_below; buffer_len = (not_refused set d c.args.allowed c.args.state c.args.logical c.args.page c.args.buffer.now c.refusal-refused.result c.refusal-refused.ensures c.if-refused-ne0.false).buffer_long }

pub returns : goal.returns
returns c =
    let set = setting c.args.g c.args.mask.now c.args.fates.now in
    let d = device c.args.interface c.args.array.now c.args.register.now c.args.history.now in
    ends_read set d c.args.allowed c.args.state c.args.logical c.args.page c.args.buffer.now c.refusal-refused.result c.refusal-refused.ensures c.if-refused-ne0.false c.wide-block.result _ c.wide-block.ensures refl c.if-block-eq65535.false c.read_block.ensures
