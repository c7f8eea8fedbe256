-- An array of bytes stays one, whatever cycles are sent, where the mask is bytes too. Assumes nothing.
use Prim.Native.Nat.{ℕ, ◌*◌, ◌<◌}
use mathlib.Core.Bool.{Bool, true, false, cond}
use mathlib.Core.List.{List, [], ◌∷◌}
use mathlib.Core.Path.{sym, subst}
use native.Mathlib.Omega.{arith}
use lib.Bits.{and_le_l}
use lib.Dec.{eqb, ltb}
use lib.ListN.{length, get_or, take, drop, replicate}
use Rattle.geometry.specs.declared.Geometry.{Geometry}
use Rattle.geometry.specs.Sizes.{page_size, block_size, row_count}
use Rattle.cells.specs.Bytes.{Bytes}
use Rattle.cells.specs.Cells.{programmed, weakened, raised}
use Rattle.cells.specs.Part.{put}
use Rattle.cells.proofs.CellLaws.{get_or-programmed, bytes_raised, bytes_replicate, bytes_append, bytes_take, bytes_drop}
use Rattle.cells.proofs.PartLaws.{bytes_part}
use Rattle.chip_array.specs.Device.{Device, Setting, lengths_fit, row_at, block_at, addressed_page, block_of, with_page, with_block, read_started, program_started, erase_started, completed}
use Rattle.chip.specs.Chip.{Cycle, is_confirm, confirmable, confirmed, commanded, data_taken, data_given, parameter_given, finished, status_read, exec}
use Rattle.chip.specs.Chip.Cycle.{command, address, data_in, data_out, status, parameter_address, parameter_out}
use Rattle.bus.specs.Line.{run}

bytes_programmed : (xs ds : List ℕ) → Bytes xs → Bytes (programmed xs ds)
bytes_programmed xs ds b i =
    subst (λ (x : ℕ). x < 256) (sym (get_or-programmed xs ds i)) (omega (arith, b i, and_le_l (get_or xs i 0) (get_or ds i 255)))

bytes_put : (at : ℕ) (ys xs : List ℕ) → Bytes ys → Bytes xs → Bytes (put at ys xs)
unfolding put
bytes_put at ys xs b c =
    bytes_append (take at xs) _ (bytes_take at xs c) (bytes_append ys _ b (bytes_drop (length ys) (drop at xs) (bytes_drop at xs c)))

-- it holds of both arms of a test
arms : (b : Bool) (x y : Device) → Bytes x.array → Bytes y.array → Bytes (cond b x y).array
arms true x y p q = p
arms false x y p q = q

module _ (g : Geometry) (d : Device) (h : Bytes d.array) where
  page_bytes : (ds : List ℕ) → Bytes (with_page g d (programmed (addressed_page g d) ds))
  page_bytes ds =
      bytes_put (row_at d.interface * page_size g) (programmed (addressed_page g d) ds) d.array
      (bytes_programmed (addressed_page g d) ds (bytes_part (row_at d.interface * page_size g) (page_size g) d.array h)) h

  block_bytes : (ys : List ℕ) → Bytes ys → Bytes (with_block g d ys)
  block_bytes ys b = bytes_put (block_at g d.interface * block_size g) ys d.array b h

  completed_bytes : Bytes (completed g d).array
  unfolding completed
  completed_bytes =
      arms (eqb d.interface.operation 1) _ _ h
      (arms (eqb d.interface.failed 0) _ _
      (arms (eqb d.interface.operation 2) _ _ (page_bytes d.register)
      (arms (eqb d.interface.operation 3) _ _ (block_bytes (replicate (block_size g) 255) (bytes_replicate (block_size g))) h))
      h)

module _ (s : Setting) (mask_bytes : Bytes s.mask) where
  module _ (d : Device) (h : Bytes d.array) where
    confirmed_bytes : (code : ℕ) → Bytes (confirmed code s d).array
    unfolding confirmed read_started program_started erase_started
    confirmed_bytes code =
        let g = s.geometry in
        let page = page_bytes g d h (weakened d.register s.mask) in
        let block = block_bytes g d h (raised (block_of g d) s.mask) (bytes_raised (block_of g d) s.mask (bytes_part (block_at g d.interface * block_size g) (block_size g) d.array h) mask_bytes) in
        search (arms, h, page, block) depth 12

    commanded_bytes : (code : ℕ) → Bytes (commanded code s d).array
    unfolding commanded
    commanded_bytes code =
        arms (is_confirm code) _ _ (arms (confirmable s d) _ _ (confirmed_bytes code) h) h

    status_bytes : Bytes (status_read s.geometry d).array
    unfolding status_read finished
    status_bytes =
        arms (eqb d.interface.phase 1) _ _ h
        (arms (eqb d.interface.phase 8) _ _
        (arms (eqb d.interface.busy 0) _ _
        (arms (eqb d.interface.operation 4) _ _ h
        (arms (lengths_fit s.geometry d) _ _ (arms (ltb (row_at d.interface) (row_count s.geometry)) _ _ (completed_bytes s.geometry d h) h) h))
        h)
        h)

    pub exec_bytes : (c : Cycle) → Bytes (exec s d c).array
    unfolding exec data_taken data_given parameter_given
    exec_bytes (command code) = commanded_bytes code
    exec_bytes (address byte) = h
    exec_bytes (data_in byte) =
        arms (eqb d.interface.phase 6) _ _ (arms (ltb d.interface.column (length d.register)) _ _ h h) h
    exec_bytes data_out = search (arms, h)
    exec_bytes status = status_bytes
    exec_bytes (parameter_address byte) = h
    exec_bytes (parameter_out page) = search (arms, h)

  pub run_bytes : (d : Device) (cs : List Cycle) → Bytes d.array → Bytes (run s d cs).array
  unfolding run
  run_bytes d [] h = h
  run_bytes d (c ∷ cs) h = run_bytes (exec s d c) cs (exec_bytes d h c)
