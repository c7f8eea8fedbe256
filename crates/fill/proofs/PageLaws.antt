-- The bytes of a page as they are written into a buffer. Assumes nothing.
use Prim.Native.Nat.{ℕ, ◌+◌, ◌-◌, ◌≤◌}
use mathlib.Core.List.{List}
use mathlib.Core.Path.{◌≡◌, sym, ap, ◌∙◌}
use native.Mathlib.Omega.{arith}
use lib.ListN.{length, take, replicate, length-replicate}
use lib.Seq.{length-take-le}
use Rattle.geometry.specs.declared.Geometry.{Geometry}
use Rattle.geometry.specs.Limits.{Valid}
use Rattle.geometry.specs.Sizes.{page_size}
use Rattle.pages.specs.Layout.{label, encoded}
use Rattle.pages.proofs.LayoutLaws.{length-encoded, width_most}
use Rattle.copies.specs.Blocks.{formed}
use Rattle.copies.proofs.FormLaws.{length-formed}
use Rattle.fill.specs.Fill.{copy, stored_page, copy_page}

-- a page as it is finished
pub as_page : (g : Geometry) (kind logical number place : ℕ) (page bytes : List ℕ) → length page ≡ page_size g
    → bytes ≡ encoded (length page - g.main) (label kind logical place number) (take g.main page) → bytes ≡ stored_page g (copy kind logical number) place (take g.main page)
as_page g kind logical number place page bytes h e =
    let spare : length page - g.main ≡ g.spare = omega (arith, h) in
    e ∙ ap (λ (k : ℕ). encoded k (label kind logical place number) (take g.main page)) spare

-- it is as long as a page
pub page-long : (g : Geometry) → Valid g → (kind logical number place : ℕ) (main : List ℕ) → length main ≡ g.main → length (copy_page g (copy kind logical number) place main) ≡ page_size g
page-long g v kind logical number place main h =
    length-encoded g.spare (label kind logical place number) (formed kind place main) (omega (arith, width_most kind, v.spare_least))
    ∙ ap (λ (k : ℕ). k + g.spare) (length-formed kind place main ∙ h)

-- main bytes that were written into the buffer are as long as they are
pub main_long : (g : Geometry) (page main : List ℕ) → length page ≡ page_size g → take g.main page ≡ main → length main ≡ g.main
main_long g page main h e = sym (ap length e) ∙ length-take-le g.main page (omega (arith, h))

-- main bytes fit into the buffer for page 0 of a table
pub first-room : (g : Geometry) → Valid g → g.main ≤ length (replicate {A = ℕ} 4096 0)
first-room g v = omega (arith, v.main_most, length-replicate {A = ℕ} 4096 0)
