-- No cycle changes the length of the array, the page register or the history, on any chip. Assumes nothing.
use Prim.Native.Nat.{ℕ, ◌+◌, ◌*◌, ◌≤◌, ◌<◌}
use mathlib.Core.Bool.{Bool, true, false, cond}
use mathlib.Core.List.{List, [], ◌∷◌}
use mathlib.Core.Path.{◌≡◌, refl, sym, ◌∙◌}
use borrow.Author.Tests.{ltb-true}
use lib.Dec.{eqb, ltb}
use lib.ListN.{length, replicate, length-set, length-replicate}
use Rattle.geometry.specs.declared.Geometry.{Geometry}
use Rattle.geometry.specs.Sizes.{page_size, block_size, row_count}
use Rattle.geometry.proofs.SizeLaws.{row_within, block_within, row_block_below}
use Rattle.cells.specs.Cells.{programmed, weakened, raised}
use Rattle.cells.proofs.CellLaws.{length-programmed, length-raised}
use Rattle.cells.proofs.PartLaws.{length_part, length-put}
use Rattle.chip_array.specs.Device.{Device, Setting, Fitting, lengths_fit, row_at, block_at, addressed_page, block_of, with_page, with_block, read_started, program_started, erase_started, completed}
use Rattle.chip_array.proofs.DeviceLaws.{fits}
use Rattle.chip.specs.Chip.{Cycle, is_confirm, confirmable, confirmed, commanded, data_taken, data_given, parameter_given, finished, status_read, exec}
use Rattle.chip.specs.Chip.Cycle.{command, address, data_in, data_out, status, parameter_address, parameter_out}
use Rattle.chip.proofs.ConfirmableLaws.{confirms}
use Rattle.bus.specs.Line.{run}
use Rattle.chip_laws.specs.Lengths.{SameLengths}

same : {d e : Device} → length e.array ≡ length d.array → length e.register ≡ length d.register → length e.history ≡ length d.history → SameLengths d e
same a r h = record { array = a; register = r; history = h }

-- it holds of both arms of a test, of the first one where the test holds
arms : (d : Device) (b : Bool) (x y : Device) → SameLengths d x → SameLengths d y → SameLengths d (cond b x y)
arms d true x y p q = p
arms d false x y p q = q

arms_where : (d : Device) (b : Bool) (x y : Device) → (b ≡ true → SameLengths d x) → SameLengths d y → SameLengths d (cond b x y)
arms_where d true x y p q = p refl
arms_where d false x y p q = q

-- the page and the block that the address register names, on a chip whose lengths fit
module _ (g : Geometry) (d : Device) (f : Fitting g (length d.array) (length d.register) (length d.history)) (on : row_at d.interface < row_count g) where
  page_in_fact : row_at d.interface * page_size g + page_size g ≤ length d.array
  page_in_fact = rw f.array_long (row_within g f.is_valid (row_at d.interface) on)

  block_in : block_at g d.interface * block_size g + block_size g ≤ length d.array
  block_in =
      rw f.array_long
      (block_within g f.is_valid (block_at g d.interface) (row_block_below g f.is_valid (row_at d.interface) on))

  length_page : length (addressed_page g d) ≡ length d.register
  length_page = length_part (row_at d.interface * page_size g) (page_size g) d.array page_in_fact ∙ sym f.register_long

  length_with_page : (ys : List ℕ) → length ys ≡ length (addressed_page g d) → length (with_page g d ys) ≡ length d.array
  length_with_page ys e =
      length-put (row_at d.interface * page_size g) ys d.array
      (rw (e, length_part (row_at d.interface * page_size g) (page_size g) d.array page_in_fact) page_in_fact)

  length_with_block : (ys : List ℕ) → length ys ≡ block_size g → length (with_block g d ys) ≡ length d.array
  length_with_block ys e =
      length-put (block_at g d.interface * block_size g) ys d.array (rw e block_in)

  length_block : length (block_of g d) ≡ block_size g
  length_block = length_part (block_at g d.interface * block_size g) (block_size g) d.array block_in

  completed_lengths : SameLengths d (completed g d)
  unfolding completed
  completed_lengths =
      arms d (eqb d.interface.operation 1) _ _ (same refl refl refl)
      (arms d (eqb d.interface.failed 0) _ _
      (arms d (eqb d.interface.operation 2) _ _
      (same (length_with_page (programmed (addressed_page g d) d.register) (length-programmed (addressed_page g d) d.register)) refl refl)
      (arms d (eqb d.interface.operation 3) _ _
      (same (length_with_block (replicate (block_size g) 255) (length-replicate (block_size g) 255)) refl (length-set d.history (block_at g d.interface) 0))
      (same refl refl refl)))
      (same refl refl refl))

module _ (s : Setting) (d : Device) where
  confirmed_lengths : (code : ℕ) → confirmable s d ≡ true → SameLengths d (confirmed code s d)
  unfolding confirmed read_started program_started erase_started
  confirmed_lengths code t =
      let g = s.geometry in
      let f = (confirms s d t).0 in
      let on = (confirms s d t).1.1 in
      let a₁ = length_with_page g d f on (programmed (addressed_page g d) (weakened d.register s.mask)) (length-programmed (addressed_page g d) (weakened d.register s.mask)) in
      let a₂ = length_with_block g d f on (raised (block_of g d) s.mask) (length-raised (block_of g d) s.mask ∙ length_block g d f on) in
      search (arms, same, length_page g d f on, a₁, a₂, length-set) depth 12

  commanded_lengths : (code : ℕ) → SameLengths d (commanded code s d)
  unfolding commanded
  commanded_lengths code =
      arms d (is_confirm code) _ _ (arms_where d (confirmable s d) _ _ (confirmed_lengths code) (same refl refl refl))
      (same refl refl refl)

  status_lengths : SameLengths d (status_read s.geometry d)
  unfolding status_read finished
  status_lengths =
      arms d (eqb d.interface.phase 1) _ _ (same refl refl refl)
      (arms d (eqb d.interface.phase 8) _ _
      (arms d (eqb d.interface.busy 0) _ _
      (arms d (eqb d.interface.operation 4) _ _ (same refl refl refl)
      (arms_where d (lengths_fit s.geometry d) _ _
      (λ f. arms_where d (ltb (row_at d.interface) (row_count s.geometry)) _ _ (λ on. completed_lengths s.geometry d (fits _ _ _ _ f) (ltb-true _ _ on)) (same refl refl refl))
      (same refl refl refl)))
      (same refl refl refl))
      (same refl refl refl))

  pub exec_lengths : (c : Cycle) → SameLengths d (exec s d c)
  unfolding exec data_taken data_given parameter_given
  exec_lengths (command code) = commanded_lengths code
  exec_lengths (address byte) = same refl refl refl
  exec_lengths (data_in byte) =
      arms d (eqb d.interface.phase 6) _ _ (arms d (ltb d.interface.column (length d.register)) _ _ (same refl (length-set d.register d.interface.column byte) refl) (same refl refl refl)) (same refl refl refl)
  exec_lengths data_out = search (arms, same)
  exec_lengths status = status_lengths
  exec_lengths (parameter_address byte) = same refl refl refl
  exec_lengths (parameter_out page) = search (arms, same)

-- a chip that fits a geometry fits it after any cycles, and one that does not, does not
pub lengths_fit_lem : (g : Geometry) {d e : Device} → SameLengths d e → lengths_fit g e ≡ lengths_fit g d
lengths_fit_lem g q = rw (q.array, q.register, q.history)

module _ (s : Setting) where
  pub run_lengths : (d : Device) (cs : List Cycle) → SameLengths d (run s d cs)
  unfolding run
  run_lengths d [] = same refl refl refl
  run_lengths d (c ∷ cs) =
      let q = exec_lengths s d c in
      let r = run_lengths (exec s d c) cs in
      same (r.array ∙ q.array) (r.register ∙ q.register) (r.history ∙ q.history)

  pub exec_fits : (g : Geometry) (d : Device) (c : Cycle) → lengths_fit g (exec s d c) ≡ lengths_fit g d
  exec_fits g d c = lengths_fit_lem g (exec_lengths s d c)

  pub run_fits : (g : Geometry) (d : Device) (cs : List Cycle) → lengths_fit g (run s d cs) ≡ lengths_fit g d
  run_fits g d cs = lengths_fit_lem g (run_lengths d cs)
