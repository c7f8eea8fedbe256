-- Each cycle of a list is so, and so is each of those that are sent. Assumes nothing.
use Prim.Native.Nat.{ℕ, zero, suc}
use mathlib.Core.List.{List, [], ◌∷◌, ◌++◌, map}
use borrow.Table.Steps.{cases}
use lib.ListN.{replicate}
use Rattle.chip_array.specs.Device.{Setting}
use Rattle.chip.specs.Chip.{Cycle}
use Rattle.bus.specs.Line.{Line, admits, send, sent}

abbrev pub All : (Cycle → Type 0) → List Cycle → Type 0
All P [] = Unit {0}
All P (c ∷ cs) = P c × All P cs

module _ (P : Cycle → Type 0) where
  pub all_append : (xs ys : List Cycle) → All P xs → All P ys → All P (xs ++ ys)
  all_append [] ys a b = b
  all_append (x ∷ xs) ys a b = (a.0, all_append xs ys a.1 b)

  pub all_mapped : (f : ℕ → Cycle) → ((b : ℕ) → P (f b)) → (bytes : List ℕ) → All P (map f bytes)
  all_mapped f h [] = tt
  all_mapped f h (b ∷ bytes) = (h b, all_mapped f h bytes)

  pub all_repeated : (n : ℕ) (c : Cycle) → P c → All P (replicate n c)
  all_repeated zero c h = tt
  all_repeated (suc n) c h = (h, all_repeated n c h)

  pub all-sent : (s : Setting) (l : Line) (cs : List Cycle) → All P cs → All P (sent s l cs)
  unfolding sent
  all-sent s l [] h = tt
  all-sent s l (c ∷ cs) h = cases (admits l) (λ t. rw t (h.0, all-sent s (send s l c) cs h.1)) (λ f. rw f tt)

  pub all_at : (xs ys : List Cycle) (c : Cycle) → All P (xs ++ (c ∷ ys)) → P c
  all_at [] ys c h = h.0
  all_at (x ∷ xs) ys c h = all_at xs ys c h.1

pub all_weaker : (P Q : Cycle → Type 0) → ((c : Cycle) → P c → Q c) → (cs : List Cycle) → All P cs → All Q cs
all_weaker P Q f [] h = tt
all_weaker P Q f (c ∷ cs) h = (f c h.0, all_weaker P Q f cs h.1)
