-- What every call on a ready chip has: lengths that fit, and an address that the chip takes.
use Prim.Native.Nat.{ℕ, ◌+◌, ◌*◌, ◌<◌, ◌≤◌}
use mathlib.Core.Bool.{Bool, true, false, cond}
use mathlib.Core.List.{List}
use mathlib.Core.Path.{◌≡◌, refl, ◌∙◌}
use native.Mathlib.Omega.{arith}
use borrow.Author.Tests.{eq-eqb, lt-ltb}
use lib.ListN.{length, set, length-set}
use Rattle.geometry.specs.declared.Geometry.{Geometry}
use Rattle.geometry.specs.Limits.{Valid}
use Rattle.geometry.specs.Sizes.{page_size, chip_size, row_count}
use Rattle.geometry.proofs.LimitLaws.{holds}
use Rattle.geometry.proofs.SizeLaws.{page_size_most}
use Rattle.chip_interface.specs.Interface.{address_fits, row_of_address, column_of_address}
use Rattle.cells.specs.Part.{put}
use Rattle.cells.proofs.PartLaws.{length-put}
use Rattle.chip_array.specs.Device.{Device, Setting, fitting}
use Rattle.operations.specs.Ends.{Called}
use Rattle.bus.specs.Line.{Line, uncut_line}

pub fitting_holds : (g : Geometry) (a r h : ℕ) → Valid g → a ≡ chip_size g → r ≡ page_size g → h ≡ g.blocks → fitting g a r h ≡ true
unfolding fitting
fitting_holds g a r h v p q w = rw (holds g v, eq-eqb a (chip_size g) p, eq-eqb r (page_size g) q, eq-eqb h g.blocks w)

-- the column and the row of an address made of them
pub column_is : (c r : ℕ) → c < 65536 → column_of_address (c + r * 65536) ≡ c
column_is c r h = omega arith

pub row_is : (c r : ℕ) → c < 65536 → row_of_address (c + r * 65536) ≡ r
row_is c r h = omega arith

pub address_holds : (g : Geometry) (c r : ℕ) → Valid g → c < page_size g → r < row_count g → address_fits g (c + r * 65536) ≡ true
unfolding address_fits
address_holds g c r v hc hr =
    let s : c < 65536 = omega (arith, page_size_most g v) in
    rw (holds g v, column_is c r s, row_is c r s, lt-ltb c (page_size g) hc, lt-ltb r (row_count g) hr)

-- a line that is not cut
pub uncut_is : (l : Line) → l.cut ≡ 0 → l ≡ uncut_line l.chip l.left
uncut_is l h = λ i. record { chip = l.chip; left = l.left; cut = h i }

-- what both arms of a test have
pub arms : (f : Device → ℕ) (v : ℕ) (b : Bool) (x y : Device) → f x ≡ v → f y ≡ v → f (cond b x y) ≡ v
arms f v true x y p q = p
arms f v false x y p q = q

pub part_arms : (f : Device → List ℕ) (b : Bool) (x y : Device) → f (cond b x y) ≡ cond b (f x) (f y)
part_arms f true x y = refl
part_arms f false x y = refl

-- the array with a part replaced and the history with a byte replaced are as long as they were
module _ {s : Setting} {l : Line} (c : Called s l) where
  pub put_long : (at : ℕ) (ys : List ℕ) → at + length ys ≤ length l.chip.array → length (put at ys l.chip.array) ≡ chip_size s.geometry
  put_long at ys h = length-put at ys l.chip.array h ∙ c.array_long

  pub set_long : (block k : ℕ) → length (set l.chip.history block k) ≡ s.geometry.blocks
  set_long block k = length-set l.chip.history block k ∙ c.history_long
