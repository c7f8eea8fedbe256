-- Laws of the copies found: a search that goes on, and what a candidate is. Assumes nothing.
use Prim.Native.Nat.{ℕ, ◌+◌, ◌<◌}
use mathlib.Core.Bool.{Bool, true, false}
use mathlib.Core.List.{List}
use mathlib.Core.Path.{◌≡◌}
use native.Mathlib.Numerals.{add-one}
use borrow.Author.Tests.{ltb-true}
use lib.ListN.{get_or}
use Rattle.bools.proofs.BoolLaws.{both}
use Rattle.pages.specs.Layout.{is_data_kind}
use Rattle.copies.specs.Pick.{some_below}
use Rattle.scan_found.specs.Contents.{Contents, counted, is_candidate}

-- one block more that fails a test
pub none_next : (test : ℕ → Bool) (n : ℕ) → test n ≡ false → some_below test n ≡ false → some_below test (n + 1) ≡ false
unfolding some_below
none_next test n f e = rw (add-one, f) e

-- a candidate is a counted data copy of a logical block below N
pub record Candidate (c : Contents) (bits : List ℕ) (logical b : ℕ) : Type 0 where
  pub is_counted : counted c bits b ≡ true
  pub is_data_fact : is_data_kind (get_or c.kinds b 0) ≡ true
  pub logical_below : get_or c.logicals b 0 < logical

pub candidate : (c : Contents) (bits : List ℕ) (logical b : ℕ) → is_candidate c bits logical b ≡ true → Candidate c bits logical b
unfolding is_candidate
candidate c bits logical b h =
    let t = both (counted c bits b) _ h in
    let u = both (is_data_kind (get_or c.kinds b 0)) _ t.1 in
    record { is_counted = t.0; is_data_fact = u.0; logical_below = ltb-true _ _ u.1 }
