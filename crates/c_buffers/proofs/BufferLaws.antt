-- The lengths of what is lent, and a result written into the buffers. Assumes nothing.
use Prim.Native.Nat.{ℕ}
use mathlib.Core.Bool.{true}
use mathlib.Core.List.{List, [], ◌∷◌}
use mathlib.Core.Path.{◌≡◌, refl}
use native.Mathlib.Omega.{arith}
use borrow.Author.Tests.{eqb-true}
use lib.Dec.{eqb}
use lib.ListN.{length, set}
use Rattle.bools.proofs.BoolLaws.{both}
use Rattle.chip_interface.specs.declared.Interface.{Interface}
use Rattle.chip_array.specs.Device.{device}
use Rattle.open_write.specs.Open.{OpenState}
use Rattle.open_write.specs.Requests.{open_result}
use Rattle.c_open.specs.OpenBytes.{open_length, open_bytes}
use Rattle.c_buffers.specs.Buffers.{interface_words, lent, lengths_right, handed, put_back}

-- the lengths asked for
pub record Long (state interface sent : ℕ) : Type 0 where
  pub state_long : state ≡ open_length
  pub interface_long : interface ≡ 12
  pub sent_long : sent ≡ 1

pub right-long : (state interface sent : ℕ) → lengths_right state interface sent ≡ true → Long state interface sent
unfolding lengths_right
right-long state interface sent h =
    let p = both (eqb state open_length) _ h in
    let q = both (eqb interface 12) (eqb sent 1) p.1 in
    record { state_long = eqb-true state open_length p.0; interface_long = eqb-true interface 12 q.0; sent_long = eqb-true sent 1 q.1 }

-- what a request hands back, written into the buffers
pub single : (xs : List ℕ) (n : ℕ) → length xs ≡ 1 → set xs 0 n ≡ n ∷ []
single (x ∷ []) n h = refl
single [] n h = absurd (omega (arith, h))
single (x ∷ y ∷ xs) n h = absurd (omega (arith, h))

pub put_back_lem : (answer n : ℕ) (x : OpenState) (i : Interface) (bytes interface sent : List ℕ) → bytes ≡ open_bytes x → interface ≡ interface_words i → length sent ≡ 1
    → (a p h : List ℕ) → handed answer (lent bytes interface a p h (set sent 0 n)) ≡ put_back (open_result answer x (device i a p h) n)
put_back_lem answer n x i bytes interface sent e f l a p h = rw (e, f, single sent n l)
