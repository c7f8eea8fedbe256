-- What a formatting leaves alone on any chip: the blocks carried over, and, once a table of its own is complete, every block that this table lists.
use Rattle.std.specs.Prelude.{ℕ, ◌<◌, Bool, true, false, cond, List, [], ◌∷◌, ◌++◌, ◌⊎◌, ◌≡◌, eqb}
use Rattle.geometry.specs.declared.Geometry.{Geometry}
use Rattle.chip_interface.specs.Interface.{program_confirm}
use Rattle.chip_array.specs.Device.{Device, Setting, block_at}
use Rattle.chip.specs.Chip.{Cycle}
use Rattle.chip.specs.Chip.Cycle.{command}
use Rattle.bus.specs.Line.{run}
use Rattle.operations.specs.Trace.{ArrayOperation}
use Rattle.copies.specs.Blocks.{block_in, is_marked, is_table}
use Rattle.copies.specs.Carried.{is_carried}
use Rattle.copies.specs.Table.{lists}
use Rattle.request.specs.Call.{Result, Performed, result_of, started_in}
use Rattle.recovery_cycles.specs.Starts.{Start, starts_in, Changes}

-- a program of block b
abbrev pub programs : ℕ → ArrayOperation → Bool
programs b o = cond (eqb o.block b) (eqb o.kind 2) false

-- some operation programs it
unfoldable pub programmed_in : ℕ → List ArrayOperation → Bool
programmed_in b [] = false
programmed_in b (o ∷ os) = let more = programmed_in b os in cond (programs b o) true more

-- a program or an erase, in a formatting that found this array and has programmed some blocks so far: of a block of the chip that bears no factory
-- mark, is not carried over, and is listed by no complete table in those blocks, as the chip is at its confirm cycle
pub record LeavesListed (g : Geometry) (array : List ℕ) (filled : ℕ → Bool) (o : ArrayOperation) : Type 0 where
  pub below : o.block < g.blocks
  pub unmarked : is_marked g (block_in g array o.block) ≡ false
  pub uncarried : is_carried g array o.block ≡ false
  pub unlisted : (u : ℕ) → u < g.blocks → filled u ≡ true → is_table g (block_in g o.before u) ≡ true → lists g (block_in g o.before u) o.block ≡ false

abbrev pub LeftBy : Geometry → List ℕ → (ℕ → Bool) → ArrayOperation → Type 0
LeftBy g array filled o = (o.kind ≡ 1) ⊎ LeavesListed g array filled o

-- one operation after the other
unfoldable pub LeftAlone : Geometry → List ℕ → (ℕ → Bool) → List ArrayOperation → Type 0
LeftAlone g array filled [] = Unit {0}
LeftAlone g array filled (o ∷ os) = LeftBy g array filled o × LeftAlone g array (λ b. cond (filled b) true (programs b o)) os

-- of a formatting: every block carried over is byte for byte as it was, and its operations leave listed blocks alone
pub record Carries (g : Geometry) (array : List ℕ) (r : Performed Result) : Type 0 where
  pub kept : (b : ℕ) → b < g.blocks → is_carried g array b ≡ true → block_in g (result_of r).chip.array b ≡ block_in g array b
  pub left : LeftAlone g array (λ b. false) (started_in r)

-- the same of the block that the address register of a chip names
pub record NamesUnlisted (g : Geometry) (array : List ℕ) (filled : ℕ → Bool) (d : Device) : Type 0 where
  pub below : block_at g d.interface < g.blocks
  pub unmarked : is_marked g (block_in g array (block_at g d.interface)) ≡ false
  pub uncarried : is_carried g array (block_at g d.interface) ≡ false
  pub unlisted : (u : ℕ) → u < g.blocks → filled u ≡ true → is_table g (block_in g d.array u) ≡ true → lists g (block_in g d.array u) (block_at g d.interface) ≡ false

-- a 10h cycle was sent for block b
unfoldable pub programmed_by : Geometry → ℕ → List Start → Bool
programmed_by g b [] = false
programmed_by g b (t ∷ ts) = let more = programmed_by g b ts in cond (cond (eqb (block_at g t.chip.interface) b) (eqb t.code program_confirm) false) true more

-- so it is just before each 10h and each D0h cycle of a list that begins on chip d
abbrev pub LeavesEach : Setting → List ℕ → Device → List Cycle → Type 0
LeavesEach s array d cycles =
    (xs ys : List Cycle) (code : ℕ) → cycles ≡ xs ++ (command code ∷ ys) → Changes code
    → NamesUnlisted s.geometry array (λ b. programmed_by s.geometry b (starts_in s d xs)) (run s d xs)
