-- The 10h and D0h cycles that a call sends after a list of calls, and the blocks that they name.
use Rattle.std.specs.Prelude.{ℕ, ◌<◌, Bool, true, false, cond, List, ◌∷◌, ◌++◌, ◌≡◌}
use Rattle.geometry.specs.declared.Geometry.{Geometry}
use Rattle.chip_array.specs.Device.{Device, Setting, block_at}
use Rattle.chip.specs.Chip.{Cycle}
use Rattle.chip.specs.Chip.Cycle.{command}
use Rattle.bus.specs.Line.{run}
use Rattle.copies.specs.Blocks.{block_in}
use Rattle.copies.specs.Current.{current_table}
use Rattle.copies.specs.Pick.{at}
use Rattle.copies.specs.Table.{lists}
use Rattle.recovery.specs.Calls.{Call, LineKept, Callable, Store, setting_of, cycles_of, trace_of}
use Rattle.recovery_proof.specs.Sent.{lent_for, chip_for}
use Rattle.damage.specs.Run.{failed_in}
use Rattle.recovery_cycles.specs.Starts.{Start, starts_in, failed_read, Changes, TracesEach, Modifies}

-- a list of cycles without 80h, 60h, 10h and D0h
abbrev pub OnlyReads : List Cycle → Type 0
OnlyReads cycles = (xs ys : List Cycle) (code : ℕ) → cycles ≡ xs ++ (command code ∷ ys) → Modifies code → ⊥

-- the address register of a chip names a block that bears no factory mark, that the table current on the chip does not
-- list, and that has not failed
pub record NamesGood (g : Geometry) (marked failed : ℕ → Bool) (d : Device) : Type 0 where
  pub below : block_at g d.interface < g.blocks
  pub unmarked : marked (block_at g d.interface) ≡ false
  pub table : ℕ
  pub table_is : current_table g d.array ≡ at table
  pub unlisted : lists g (block_in g d.array table) (block_at g d.interface) ≡ false
  pub unfailed : failed (block_at g d.interface) ≡ false

-- so it is just before each 10h and each D0h cycle of a list that begins on chip d: the block has not failed before the
-- list, and no E1h was read for it in the list before that cycle
abbrev pub SparesEach : Setting → (ℕ → Bool) → (ℕ → Bool) → Device → List Cycle → Type 0
SparesEach s marked failed d cycles =
    (xs ys : List Cycle) (code : ℕ) → cycles ≡ xs ++ (command code ∷ ys) → Changes code
    → NamesGood s.geometry marked (λ b. cond (failed b) true (failed_read s.geometry b (starts_in s d xs))) (run s d xs)

-- the confirm cycles that a call sends
abbrev pub starts_of : Geometry → Call → Store → List Start
starts_of g c y = starts_in (setting_of g (lent_for c)) (chip_for c y) (cycles_of g c y)

-- each 10h and each D0h cycle of every further call has its operation in the call's trace
abbrev pub TracesCycles : Geometry → Store → Type 0
TracesCycles g y =
    (c : Call) → Callable c y → TracesEach (setting_of g (lent_for c)) (chip_for c y) (cycles_of g c y) (trace_of g c y)

-- and spares bad blocks
abbrev pub SparesCycles : Geometry → Store → Type 0
SparesCycles g y =
    (c : Call) → Callable c y → SparesEach (setting_of g (lent_for c)) y.marked y.failed (chip_for c y) (cycles_of g c y)

-- the blocks that fail in the trace of a further call are those for which it reads E1h
abbrev pub FailsRead : Geometry → Store → Type 0
FailsRead g y = (c : Call) → Callable c y → (b : ℕ) → failed_in b (trace_of g c y) ≡ failed_read g b (starts_of g c y)

-- a further call with the write-protect line low sends none of them
abbrev pub ProtectedSends : Geometry → Store → Type 0
ProtectedSends g y = (c : Call) → LineKept c y → ((lent_for c).protected ≡ 0 → ⊥) → OnlyReads (cycles_of g c y)
