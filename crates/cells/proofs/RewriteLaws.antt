-- A loop that rewrites a list from its start: what is below the index is as it is to be, what is from it on is as it was.
use Prim.Native.Nat.{ℕ, ◌+◌, ◌≤◌, ◌<◌, zero-le}
use mathlib.Core.Path.{◌≡◌, refl, ap, ◌∙◌}
use mathlib.Core.List.{List, ◌++◌, append-nil}
use native.Mathlib.Nat.{add-zero, zero-add}
use native.Mathlib.Numerals.{add-one}
use native.Mathlib.Omega.{arith}
use lib.ListN.{length, get_or, take, drop, set, length-set, drop_of_length-le}
use lib.Seq.{paste-suc, length-take-le, take-length, drop_at, get_or-drop}
use Rattle.cells.specs.Cells.{over}

-- xs is start with its first i elements replaced by those of goal
pub record Rewritten (goal start xs : List ℕ) (i : ℕ) : Type 0 where
  pub within : i ≤ length goal
  pub same : length xs ≡ length start
  pub is : xs ≡ take i goal ++ drop i start

pub rewritten_none : (goal start : List ℕ) → Rewritten goal start start 0
rewritten_none goal start = record { within = zero-le; same = refl; is = refl }

-- the element at the index is as it was
pub rewritten_next : {goal start xs : List ℕ} {i : ℕ} → Rewritten goal start xs i → get_or xs i 0 ≡ get_or start i 0
rewritten_next {goal} {start} {xs} {i} r =
    let e : drop i xs ≡ drop i start = rw r.is (drop_at (take i goal) (drop i start) i (length-take-le i goal r.within)) in
    simp (get_or-drop, add-zero) at (ap (λ (l : List ℕ). get_or l 0 0) e)

-- a turn: it stores what is to be at the index
pub rewritten_more : {goal start xs : List ℕ} {i : ℕ} (v : ℕ) → Rewritten goal start xs i → i < length goal → i < length start
    → get_or goal i 0 ≡ v → Rewritten goal start (set xs i v) (i + 1)
rewritten_more {goal} {start} {xs} {i} v r hg hs e =
    record {
      within = omega arith;
      same = length-set xs i v ∙ r.same;
      is = rw (← e, r.is, add-one) (simp zero-add at (paste-suc start 0 goal i 0 (omega arith) hg));
    }

-- past the end of goal
pub rewritten_all : {goal start xs : List ℕ} {i : ℕ} → Rewritten goal start xs i → length goal ≤ i → xs ≡ over goal start
rewritten_all {goal} {start} {xs} {i} r h =
    let e : i ≡ length goal = omega arith in
    r.is ∙ rw (e, take-length)

-- where goal is as long as start
pub rewritten_whole : {goal start xs : List ℕ} {i : ℕ} → Rewritten goal start xs i → length goal ≡ length start → length xs ≤ i → xs ≡ goal
rewritten_whole {goal} {start} {xs} {i} r e h =
    rewritten_all r (omega arith) ∙ rw (drop_of_length-le start {i = length goal} (omega arith), append-nil)
