-- Main bytes as a kind stores them. Assumes nothing.
use Prim.Native.Nat.{ℕ}
use mathlib.Core.Bool.{false}
use mathlib.Core.List.{List}
use mathlib.Core.Path.{◌≡◌, refl}
use borrow.Table.Steps.{cases}
use lib.ListN.{length}
use Rattle.cells.specs.Bytes.{Bytes}
use Rattle.whitening.proofs.WhitenedLaws.{whitened-twice, length-whitened, bytes_whitened}
use Rattle.pages.specs.Layout.{is_white_kind}
use Rattle.copies.specs.Blocks.{formed}

pub formed-plain : (kind p : ℕ) (main : List ℕ) → is_white_kind kind ≡ false → formed kind p main ≡ main
unfolding formed
formed-plain kind p main t = rw t refl

pub formed-twice : (kind p : ℕ) (main : List ℕ) → formed kind p (formed kind p main) ≡ main
unfolding formed
formed-twice kind p main =
    cases (is_white_kind kind) (λ t. rw t (whitened-twice p main)) (λ t. rw t refl)

pub length-formed : (kind p : ℕ) (main : List ℕ) → length (formed kind p main) ≡ length main
unfolding formed
length-formed kind p main =
    cases (is_white_kind kind) (λ t. rw t (length-whitened p main)) (λ t. rw t refl)

pub bytes_formed : (kind p : ℕ) (main : List ℕ) → Bytes main → Bytes (formed kind p main)
unfolding formed
bytes_formed kind p main b =
    cases (is_white_kind kind) (λ t. rw t (bytes_whitened p main b)) (λ t. rw t b)
