-- `chip_array::confirm_read` meets its contract: the row's bytes are copied over the register, which is as long.
-- Assumes nothing.
use mathlib.Core.Path.{◌≡◌, ◌∙◌}
use native.Mathlib.Omega.{arith}
use borrow.Author.Tests.{eq-eqb, ne_eqb}
use lib.ListN.{length}
use Rattle.geometry.proofs.SizeLaws.{row_within, chip_size_most}
use Rattle.chip_array.specs.Device.{device, setting, read_started}
use Rattle.chip_array.proofs.DeviceLaws.{copied, read_confirmed}
use Rattle.chip_array.proofs.confirm_read.Goals as goal

pub returns-then-phase-ne-READ_ADDRESS : goal.returns-then-phase-ne-READ_ADDRESS
unfolding read_started
returns-then-phase-ne-READ_ADDRESS c = λ m h. rw c.refuse.ensures (search ne_eqb)

pub returns-then-count-ne5 : goal.returns-then-count-ne5
unfolding read_started
returns-then-count-ne5 c = λ m h. rw c.refuse-then-count-ne5.ensures (search (eq-eqb, ne_eqb))

pub overflow_add-end : goal.overflow_add-end
overflow_add-end c =
    rw (c.row_start-at.ensures, c.page_size.ensures, c.row_of_address-row.ensures) (omega (arith, row_within c.args.g c.requires.valid _ c.requires.i_bound, chip_size_most c.args.g c.requires.valid))

pub slice_bounds-copy-end : goal.slice_bounds-copy-end
slice_bounds-copy-end c =
    rw (c.row_start-at.ensures, c.page_size.ensures, c.row_of_address-row.ensures) (omega (arith, row_within c.args.g c.requires.valid _ c.requires.i_bound))

pub returns : goal.returns
returns c =
    λ m h.
    let long : length c.args.register.now ≡ c.page_size.result = rw c.page_size.ensures c.requires.register_len in
    read_confirmed (setting c.args.g m c.args.fates.now) (device c.args.i c.args.array.now c.args.register.now h) c.row_of_address-row.ensures c.if-phase-ne-READ_ADDRESS.false c.if-count-ne5.false c.start.ensures (copied c.row_start-at.result c.page_size.result _ _ _ ((rw (c.row_start-at.ensures, c.page_size.ensures, c.row_of_address-row.ensures) (omega (arith, row_within c.args.g c.requires.valid _ c.requires.i_bound)))) long c.copy.ensures ∙ rw (c.row_start-at.ensures, c.page_size.ensures))
