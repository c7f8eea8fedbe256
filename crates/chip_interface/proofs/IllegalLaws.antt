-- Which commands and address bytes the interface refuses, for every state of it. Assumes nothing.
use Prim.Native.Nat.{ℕ, ◌≤◌}
use mathlib.Core.Bool.{Bool, true, false, cond}
use mathlib.Core.List.{List}
use mathlib.Core.Path.{◌≡◌, refl}
use native.Mathlib.Omega.{arith}
use borrow.Author.Tests.{eq-eqb, ne_eqb, le-leb, lt-leb, le-ltb}
use Rattle.geometry.specs.declared.Geometry.{Geometry}
use Rattle.chip_interface.specs.declared.Interface.{Interface}
use Rattle.chip_interface.specs.Interface.{refused, begun, status_mode, read_mode, plain_command, shifted, address_fits, latched, addressed, parameter_addressed}

cond_same : (b : Bool) (i : Interface) → cond b i i ≡ i
cond_same true i = refl
cond_same false i = refl

module _ (i : Interface) where
  -- every command but FFh, 70h, 00h, 80h, 60h and ECh
  pub other_command : (code : ℕ) → (code ≡ 255 → ⊥) → (code ≡ 112 → ⊥) → (code ≡ 0 → ⊥) → (code ≡ 128 → ⊥) → (code ≡ 96 → ⊥) → (code ≡ 236 → ⊥) → plain_command code i ≡ refused i
  unfolding plain_command
  other_command code a b c d e f = rw (ne_eqb _ _ a, ne_eqb _ _ b, ne_eqb _ _ c, ne_eqb _ _ d, ne_eqb _ _ e, ne_eqb _ _ f)

  -- in the middle of an operation and while busy: all but FFh and 70h
  pub command_within : (code : ℕ) → 3 ≤ i.phase → (code ≡ 255 → ⊥) → (code ≡ 112 → ⊥) → plain_command code i ≡ refused i
  unfolding plain_command begun read_mode
  command_within code h a b = rw (ne_eqb _ _ a, ne_eqb _ _ b, lt-leb i.phase 2 (omega arith)) (simp cond_same)

  -- 70h between the first cycle of an operation and its confirm cycle
  pub status_within : 3 ≤ i.phase → i.phase ≤ 6 → plain_command 112 i ≡ refused i
  unfolding plain_command status_mode
  status_within h k =
      rw (lt-leb i.phase 2 (omega arith), ne_eqb i.phase 7 (λ e. omega (arith, e)), ne_eqb i.phase 8 (λ e. omega (arith, e)))

  -- and between ECh and its address byte
  pub status_parameters : i.phase ≡ 9 → plain_command 112 i ≡ refused i
  unfolding plain_command status_mode
  status_parameters h =
      rw (lt-leb i.phase 2 (omega arith), ne_eqb i.phase 7 (λ e. omega (arith, e)), ne_eqb i.phase 8 (λ e. omega (arith, e)))

  -- the address cycle of ECh anywhere but after ECh, and any byte but 00h
  pub parameter_elsewhere : (byte : ℕ) (fates : List ℕ) → (i.phase ≡ 9 → ⊥) → parameter_addressed byte fates i ≡ refused i
  unfolding parameter_addressed
  parameter_elsewhere byte fates n = rw (ne_eqb _ _ n)

  pub parameter_other : (byte : ℕ) (fates : List ℕ) → (byte ≡ 0 → ⊥) → parameter_addressed byte fates i ≡ refused i
  unfolding parameter_addressed
  parameter_other byte fates n = rw (ne_eqb _ _ n) (simp cond_same)

module _ (g : Geometry) (byte : ℕ) (i : Interface) where
  -- an address byte when ready or with status shown, among data in, and while busy
  pub address_elsewhere : (i.phase ≡ 2 → ⊥) → (i.phase ≡ 3 → ⊥) → (i.phase ≡ 4 → ⊥) → (i.phase ≡ 5 → ⊥) → addressed g byte i ≡ refused i
  unfolding addressed
  address_elsewhere a b c d = rw (ne_eqb _ _ a, ne_eqb _ _ b, ne_eqb _ _ c, ne_eqb _ _ d)

  -- after a data output cycle
  pub address_output : i.phase ≡ 2 → (i.first ≡ i.column → ⊥) → addressed g byte i ≡ refused i
  unfolding addressed
  address_output h n =
      rw (
        ne_eqb i.phase 3 (λ e. omega (arith, e)),
        ne_eqb i.phase 4 (λ e. omega (arith, e)),
        ne_eqb i.phase 5 (λ e. omega (arith, e)),
        eq-eqb i.phase 2 h,
        ne_eqb _ _ n,
      )

  -- a sixth byte, and a fifth with a column or a row outside the geometry
  pub address_full : 5 ≤ i.count → 3 ≤ i.phase → addressed g byte i ≡ refused i
  unfolding addressed latched
  address_full n h = rw (le-leb _ _ n, ne_eqb i.phase 2 (λ e. omega (arith, e))) (simp cond_same)

  pub address_outside : i.count ≡ 4 → address_fits g (shifted byte i.address) ≡ false → 3 ≤ i.phase → addressed g byte i ≡ refused i
  unfolding addressed latched
  address_outside n f h =
      rw (lt-leb 5 i.count (omega arith), le-ltb i.count 4 (omega arith), f, ne_eqb i.phase 2 (λ e. omega (arith, e)))
      (simp cond_same)
