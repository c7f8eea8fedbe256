-- Laws of the chip's lengths, of the page that a read copies, and of what confirm cycles start and a ready status completes.
-- Assumes nothing.
use Prim.Native.Nat.{ℕ, ◌+◌, ◌-◌, ◌*◌, ◌/◌, ◌%◌, ◌≤◌, ◌<◌}
use mathlib.Core.Bool.{true}
use mathlib.Core.Path.{◌≡◌, ap, ◌∙◌}
use mathlib.Core.List.{List, append-nil}
use native.Mathlib.Omega.{arith}
use borrow.Author.Tests.{eqb-true, eq-eqb, ne_eqb, le-leb}
use lib.Dec.{eqb}
use lib.ListN.{length, get_or, set, replicate, drop_of_length-le}
use Rattle.geometry.specs.declared.Geometry.{Geometry}
use Rattle.geometry.specs.Limits.{Valid}
use Rattle.geometry.specs.Sizes.{page_size, block_size, row_count}
use Rattle.bools.proofs.BoolLaws.{both}
use Rattle.geometry.proofs.LimitLaws.{limits}
use Rattle.geometry.proofs.SizeLaws.{row_block_below}
use Rattle.cells.specs.Cells.{programmed, weakened, raised, over}
use Rattle.cells.specs.Part.{part, put}
use Rattle.cells.proofs.PartLaws.{length_part}
use Rattle.chip_interface.specs.declared.Interface.{Interface}
use Rattle.chip_interface.specs.Interface.{refused, in_phase, started, unstarted}
use Rattle.chip_array.specs.Device.{Device, Setting, device, with_interface, row_at, fitting, Fitting, read_started, program_started, erase_started, page_loaded, completed}

-- the test of the lengths and the facts it stands for
pub fits : (g : Geometry) (a r h : ℕ) → fitting g a r h ≡ true → Fitting g a r h
unfolding fitting
fits g a r h t₀ =
    let t₁ = both _ _ t₀ in
    let t₂ = both _ _ t₁.1 in
    let t₃ = both _ _ t₂.1 in
    record {
      is_valid = limits g t₁.0;
      array_long = eqb-true _ _ t₂.0;
      register_long = eqb-true _ _ t₃.0;
      history_long = eqb-true _ _ t₃.1;
    }

-- the part that is lent and copied over as many bytes
pub copied : (at n : ℕ) (ys xs rs : List ℕ) → at + n ≤ length xs → length rs ≡ n → ys ≡ over (part at (at + n - at) xs) rs → ys ≡ part at n xs
copied at n ys xs rs h e o =
    let k : at + n - at ≡ n = omega arith in
    rw (o, k, length_part at n xs h, drop_of_length-le rs {i = n} (omega arith)) (append-nil (part at n xs))

-- the block of a row of the chip
pub block_below : (g : Geometry) → Valid g → (row block : ℕ) {at : ℕ} → row ≡ at → block ≡ row / g.pages → at < row_count g → block < g.blocks
block_below g v row block e f h = rw (f, e) (row_block_below g v _ h)

-- confirm cycles that start an operation, by what their tests found: the row at the address, its block and its page
module _ (s : Setting) (d : Device) {row : ℕ} (at : row ≡ row_at d.interface) where
  pub read_confirmed : {i : Interface} {r : List ℕ} → d.interface.phase ≡ 3 → d.interface.count ≡ 5
      → i ≡ started 1 s.fates d.interface
      → r ≡ part (row * page_size s.geometry) (page_size s.geometry) d.array
      → device i d.array r d.history ≡ read_started s d
  unfolding read_started
  read_confirmed p n e f = rw (eq-eqb _ _ p, eq-eqb _ _ n, e, f, at)

  pub program_confirmed : {i : Interface} {a : List ℕ} (block page : ℕ) {least size : ℕ} → block ≡ row / s.geometry.pages → page ≡ row % s.geometry.pages
      → d.interface.phase ≡ 6 → d.interface.first ≡ 0 → size ≡ page_size s.geometry → d.interface.column ≡ size
      → least ≡ get_or d.history block 0 → least ≤ page → d.interface.protected ≡ 0
      → i ≡ started 2 s.fates d.interface
      → a ≡ put (row * page_size s.geometry) (programmed (part (row * page_size s.geometry) (page_size s.geometry) d.array) (weakened d.register s.mask)) d.array
      → device i a d.register (set d.history block (page + 1)) ≡ program_started s d
  unfolding program_started
  program_confirmed block page b q p z k n l m high e f =
      rw (eq-eqb _ _ p, eq-eqb _ _ z, eq-eqb _ _ (n ∙ k), eq-eqb _ _ high, e, f, ← at, ← b, ← q, ← l, le-leb _ _ m)

  pub erase_confirmed : {i : Interface} {a : List ℕ} (block : ℕ) → block ≡ row / s.geometry.pages → d.interface.phase ≡ 5 → d.interface.count ≡ 5 → d.interface.protected ≡ 0
      → i ≡ started 3 s.fates d.interface
      → a ≡ put (block * block_size s.geometry) (raised (part (block * block_size s.geometry) (block_size s.geometry) d.array) s.mask) d.array
      → device i a d.register (set d.history block 255) ≡ erase_started s d
  unfolding erase_started
  erase_confirmed block b p n high e f = rw (eq-eqb _ _ p, eq-eqb _ _ n, eq-eqb _ _ high, e, f, ← at, ← b)

  -- with the line low nothing starts
  pub program_unstarted : {i : Interface} (block page : ℕ) {least size : ℕ} → block ≡ row / s.geometry.pages → page ≡ row % s.geometry.pages
      → d.interface.phase ≡ 6 → d.interface.first ≡ 0 → size ≡ page_size s.geometry → d.interface.column ≡ size
      → least ≡ get_or d.history block 0 → least ≤ page → (d.interface.protected ≡ 0 → ⊥)
      → i ≡ unstarted 2 d.interface → with_interface i d ≡ program_started s d
  unfolding program_started
  program_unstarted block page b q p z k n l m low e =
      rw (eq-eqb _ _ p, eq-eqb _ _ z, eq-eqb _ _ (n ∙ k), ne_eqb _ _ low, e, ← at, ← b, ← q, ← l, le-leb _ _ m)

-- what a ready status completes, by the operation under way and whether it failed
module _ (g : Geometry) (d : Device) where
  pub read_completed : {i : Interface} → d.interface.operation ≡ 1 → i ≡ page_loaded d.interface → with_interface i d ≡ completed g d
  unfolding completed
  read_completed o e = rw (eq-eqb _ _ o, e)

  pub failure_completed : {i : Interface} → (d.interface.operation ≡ 1 → ⊥) → (d.interface.failed ≡ 0 → ⊥) → i ≡ in_phase 1 d.interface → with_interface i d ≡ completed g d
  unfolding completed
  failure_completed o f e = rw (ne_eqb _ _ o, ne_eqb _ _ f, e)

  pub program_completed : {i : Interface} {a : List ℕ} {row : ℕ} → row ≡ row_at d.interface → d.interface.operation ≡ 2 → d.interface.failed ≡ 0 → i ≡ in_phase 1 d.interface
      → a ≡ put (row * page_size g) (programmed (part (row * page_size g) (page_size g) d.array) d.register) d.array
      → device i a d.register d.history ≡ completed g d
  unfolding completed
  program_completed at o f e h = rw (ap (λ (n : ℕ). eqb n 1) o, eq-eqb _ _ f, eq-eqb _ _ o, e, h, at)

  pub erase_completed : {i : Interface} {a : List ℕ} {row : ℕ} (block : ℕ) → row ≡ row_at d.interface → block ≡ row / g.pages → d.interface.operation ≡ 3 → d.interface.failed ≡ 0 → i ≡ in_phase 1 d.interface
      → a ≡ put (block * block_size g) (replicate (block_size g) 255) d.array
      → device i a d.register (set d.history block 0) ≡ completed g d
  unfolding completed
  erase_completed block at b o f e h =
      rw (ap (λ (n : ℕ). eqb n 1) o, eq-eqb _ _ f, ap (λ (n : ℕ). eqb n 2) o, eq-eqb _ _ o, e, h, ← at, ← b)

  pub none_completed : {i : Interface} → (d.interface.operation ≡ 1 → ⊥) → d.interface.failed ≡ 0 → (d.interface.operation ≡ 2 → ⊥) → (d.interface.operation ≡ 3 → ⊥) → i ≡ refused d.interface → with_interface i d ≡ completed g d
  unfolding completed
  none_completed o f p q e = rw (ne_eqb _ _ o, eq-eqb _ _ f, ne_eqb _ _ p, ne_eqb _ _ q, e)
