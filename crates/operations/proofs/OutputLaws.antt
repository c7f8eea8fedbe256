-- The bytes that output cycles put out, one column after the other: of the page register, or of the parameter page.
use Prim.Native.Nat.{ℕ, zero, suc, ◌+◌, ◌<◌, ◌≤◌}
use mathlib.Core.Bool.{Bool, cond}
use mathlib.Core.List.{List, [], ◌∷◌}
use mathlib.Core.Path.{◌≡◌, refl, ap, ◌∙◌}
use native.Mathlib.Omega.{arith}
use native.Mathlib.Numerals.{add-one}
use lib.Dec.{eqb}
use lib.ListN.{length, get_or}
use lib.Seq.{drop-cons}
use Rattle.cells.specs.Part.{part}
use Rattle.chip_interface.specs.declared.Interface.{Interface}
use Rattle.chip_array.specs.Device.{Device, Setting, device}
use Rattle.chip.specs.Chip.{Cycle, exec, next_column}
use Rattle.bus.specs.Line.{Line, send, uncut_line, goes_on}
use Rattle.bus.proofs.LineLaws.{send_one, goes}
use Rattle.bus_sequences.specs.Cycles.{put_out}

-- an output cycle in the output phase: it gives the byte of a source at the present column and goes on to the next one
pub record Puts (s : Setting) (output : Cycle) (byte_of : Line → ℕ) (parameters : Bool) (source a r h : List ℕ) : Type 0 where
  pub steps : (i : Interface) → i.phase ≡ 2 → eqb i.operation 4 ≡ parameters → i.column < length source → exec s (device i a r h) output ≡ device (next_column i) a r h
  pub gives : (i : Interface) (k : ℕ) → i.phase ≡ 2 → eqb i.operation 4 ≡ parameters → i.illegal ≡ 0 → byte_of (uncut_line (device i a r h) (suc k)) ≡ get_or source i.column 0

module _ (s : Setting) (output : Cycle) (byte_of : Line → ℕ) (parameters : Bool) (source a r h : List ℕ) (p : Puts s output byte_of parameters source a r h) where
  pub put_out_are : (n k : ℕ) (i : Interface) → i.phase ≡ 2 → eqb i.operation 4 ≡ parameters → i.illegal ≡ 0 → i.column + n ≤ length source → n ≤ k → put_out s output byte_of n (uncut_line (device i a r h) k) ≡ part i.column n source
  unfolding put_out
  put_out_are zero k i f o e q m = refl
  put_out_are (suc n) zero i f o e q m = absurd (omega arith)
  put_out_are (suc n) (suc k) i f o e q m =
      let next : send s (uncut_line (device i a r h) (suc k)) output ≡ uncut_line (device (next_column i) a r h) k =
      send_one s (device i a r h) k output e ∙ ap (λ (x : Device). uncut_line x k) (p.steps i f o (omega arith)) in
      ap (λ (x : Line). cond (goes_on x) (byte_of (uncut_line (device i a r h) (suc k)) ∷ put_out s output byte_of n x) []) next
      ∙ rw (
        goes (uncut_line (device (next_column i) a r h) k) (record { uncut = refl; legal = e }),
        p.gives i k f o e,
        put_out_are n k (next_column i) f o e (omega arith) (omega arith),
      )
      (rw (add-one, drop-cons source i.column 0 (omega arith)))
