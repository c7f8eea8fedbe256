-- Pages that this store can leave: a partial erase keeps them so, and makes none of them whole. Assumes nothing.
use Prim.Native.Nat.{ℕ}
use mathlib.Core.Bool.{true}
use mathlib.Core.List.{List}
use mathlib.Core.Path.{◌≡◌, sym, subst}
use native.Mathlib.Omega.{arith}
use Rattle.geometry.specs.declared.Geometry.{Geometry}
use Rattle.geometry.specs.Limits.{Valid}
use Rattle.cells.specs.Bytes.{Bytes}
use Rattle.cells.specs.Cells.{raised}
use Rattle.pages.specs.Check.{zero_bits}
use Rattle.pages.specs.Layout.{Sized, whole}
use Rattle.pages.specs.Over.{Over}
use Rattle.pages.proofs.OverLaws.{over_refl, over_bytes_to, zero_bits-over, zero_bits_same, raised-over}
use Rattle.pages.proofs.LayoutLaws.{whole_over_any}
use Rattle.recovery_stored.specs.Stored.{Left}

-- two pages, each with bits raised over the other, are the same
pub over_both : {xs ys : List ℕ} → Over xs ys → Over ys xs → ys ≡ xs
over_both {xs} {ys} o q =
    let same : zero_bits ys ≡ zero_bits xs = omega (arith, zero_bits-over o, zero_bits-over q) in
    zero_bits_same o same

-- it was meant as a page of the chip
left-sized : (g : Geometry) → Valid g → (x : List ℕ) (l : Left g x) → Sized g.main l.page
left-sized g v x l =
    record { spare_least = omega (arith, l.long, v.spare_least); most = omega (arith, l.long, v.main_most, v.spare_most) }

module _ (g : Geometry) (v : Valid g) (x ms : List ℕ) (l : Left g x) (bytes : Bytes ms) where
  -- with more bits raised it is still such a page
  pub left_raised : Left g (raised x ms)
  left_raised = record { page = l.page; long = l.long; is_whole = l.is_whole; is_over = raised-over ms l.is_over bytes }

  -- and whole only if no bit was raised
  pub whole_kept : whole g.main (raised x ms) ≡ true → raised x ms ≡ x
  whole_kept t =
      let up = raised-over ms (over_refl x (over_bytes_to l.is_over)) bytes in
      let back : raised x ms ≡ l.page = whole_over_any g.main (left-sized g v x l) (raised-over ms l.is_over bytes) l.is_whole t in
      let down : Over (raised x ms) x = subst (λ (y : List ℕ). Over y x) (sym back) l.is_over in
      over_both up down

-- a page that is whole is the one it was meant to be
pub left-whole : (g : Geometry) → Valid g → (x : List ℕ) (l : Left g x) → whole g.main x ≡ true → x ≡ l.page
left-whole g v x l t = whole_over_any g.main (left-sized g v x l) l.is_over l.is_whole t
