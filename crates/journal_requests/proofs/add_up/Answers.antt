-- `journal_requests::add_up` meets its contract. Assumes nothing.
use mathlib.Core.Path.{◌≡◌, sym}
use native.Mathlib.Omega.{arith}
use lib.ListN.{length}
use Rattle.chip_array.specs.Device.{setting}
use Rattle.bus.specs.Line.{line}
use Rattle.bus_polling.proofs.OutcomeLaws.{passed_by_is, other_by_not}
use Rattle.journal_read.specs.Reads.{pages_by}
use Rattle.journal_requests.proofs.EndLaws.{mapped, sum_stopped, sum_told}
use borrow.Author.Rules.{rules}
use Rattle.journal_requests.proofs.add_up.Goals as goal

pub slice_bounds-total-end : goal.slice_bounds-total-end
slice_bounds-total-end c =
    let map_long : length c.args.state.map ≡ 4096 = search (rules, c.well_formed.0.1.1.1.1.1.1.1.1.0.1.0) in
    sym (map_long)

pub slice_bounds-total-end-2 : goal.slice_bounds-total-end-2
slice_bounds-total-end-2 c =
    let kinds_long : length c.args.state.kinds ≡ 4096 = search (rules, c.well_formed.0.1.1.1.1.1.1.1.1.1.0.1.0) in
    sym (kinds_long)

pub total-sum-requires : goal.total-sum-requires
total-sum-requires c =
    let map_long : length c.args.state.map ≡ 4096 = search (rules, c.well_formed.0.1.1.1.1.1.1.1.1.0.1.0) in
    let kinds_long : length c.args.state.kinds ≡ 4096 = search (rules, c.well_formed.0.1.1.1.1.1.1.1.1.1.0.1.0) in
    record { lent = c.requires.lent; mapped = mapped c.args.g c.args.state c.requires.lent.is_valid (map_long) (kinds_long) c.requires.logical_value; replaced_len = c.requires.replaced_len.0; records_bound = c.requires.replaced_len.1; told = c.requires.told }

pub stop-requires : goal.stop-requires
stop-requires c =
    omega (arith, c.total-sum.ensures.ran.left_most, c.requires.left_le_allowed)

pub returns-in_default : goal.returns-in_default
returns-in_default c =
    sum_stopped (setting c.args.g c.args.mask.now c.args.fates.now) c.args.state.map (pages_by c.args.g c.args.array.now c.args.state.map c.args.state.kinds) c.args.allowed c.args.state (line c.args.from c.args.array.now c.args.register.now c.args.history.now) _ _ c.args.records _ c.total-sum.ensures (other_by_not _ c.in_default.not-Passed) (c.stop.ensures _ _ _)

pub end-requires : goal.end-requires
end-requires c =
    omega (arith, c.total-sum.ensures.ran.left_most, c.requires.left_le_allowed)

pub returns : goal.returns
returns c =
    sum_told (setting c.args.g c.args.mask.now c.args.fates.now) c.args.state.map (pages_by c.args.g c.args.array.now c.args.state.map c.args.state.kinds) c.args.allowed c.args.state (line c.args.from c.args.array.now c.args.register.now c.args.history.now) _ _ c.args.records _ c.total-sum.ensures (passed_by_is _ c.in-Passed.is) (c.end.ensures _ _ _)
