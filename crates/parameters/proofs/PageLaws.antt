-- The copies of a parameter page, cut from its bytes. Assumes nothing.
use Prim.Native.Nat.{ℕ, ◌/◌}
use mathlib.Core.List.{List, [], ◌∷◌}
use mathlib.Core.Path.{◌≡◌, ap, ◌∙◌}
use native.Mathlib.Omega.{arith}
use lib.ListN.{length, take, drop}
use Rattle.std.specs.List.{find}
use Rattle.std.specs.Simd.{first_chunks}
use Rattle.std.proofs.lemmas.List.{drop-drop}
use Rattle.parameters.specs.Page.{good, copies_of, first_good_of}

copies-cut : (page : List ℕ) → length page ≡ 768 → first_chunks 256 (length page / 256) page ≡ copies_of page
copies-cut page long =
    let three : length page / 256 ≡ 3 = omega (arith, long) in
    ap (λ (n : ℕ). first_chunks 256 n page) three
    ∙ ap (λ (rest : List ℕ). take 256 page ∷ take 256 (drop 256 page) ∷ take 256 rest ∷ []) (drop-drop 256 256 page)

pub first_good-cut : (page : List ℕ) (copies : List (List ℕ)) → length page ≡ 768 → copies ≡ first_chunks 256 (length page / 256) page
    → find good copies ≡ first_good_of page
unfolding first_good_of
first_good-cut page copies long e = ap (find good) (e ∙ copies-cut page long)
