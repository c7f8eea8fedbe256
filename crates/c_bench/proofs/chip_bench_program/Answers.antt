-- `c_bench::chip_bench_program` meets its contract. Assumes nothing.
use Rattle.c_bench.specs.Start.{part, begun}
use Rattle.bus_sequences.specs.Cycles.{program_cycles}
use Rattle.chip_array.specs.Device.{setting}
use Rattle.c_bench.proofs.MeasureLaws.{left_most, measured_is}
use Rattle.c_bench.proofs.chip_bench_program.Goals as goal

pub overflow_sub-result : goal.overflow_sub-result
overflow_sub-result c =
    let s = setting part c.args.mask.now c.args.fates.now in
    let l = begun c.args.array.now c.args.register.now c.args.history.now in
    let e = rw (c.part.ensures, c.new-start.ensures, c.power_on.ensures) at c.program-done.ensures.history_after in
    left_most s l (program_cycles s l c.args.row c.args.«data».now) _ _ _ _ e

pub returns : goal.returns
returns c =
    let s = setting part c.args.mask.now c.args.fates.now in
    let l = begun c.args.array.now c.args.register.now c.args.history.now in
    let e = rw (c.part.ensures, c.new-start.ensures, c.power_on.ensures) at c.program-done.ensures.history_after in
    measured_is s l (program_cycles s l c.args.row c.args.«data».now) _ _ _ _ e
