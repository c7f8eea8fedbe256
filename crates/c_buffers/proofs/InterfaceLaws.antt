-- The words of the chip's interface: written, read back, and after power comes on. Assumes nothing.
use Prim.Native.Nat.{ℕ}
use mathlib.Core.List.{List, [], ◌∷◌}
use mathlib.Core.Path.{◌≡◌, refl}
use native.Mathlib.Omega.{arith}
use lib.ListN.{length, replicate, set}
use Rattle.chip_interface.specs.declared.Interface.{Interface}
use Rattle.chip_interface.specs.Interface.{powered_on}
use Rattle.c_buffers.specs.Buffers.{interface_words, interface_of}

-- the words of an interface, written one after the other
pub interface_written : (i : Interface) (xs : List ℕ) → length xs ≡ 12
    → set (set (set (set (set (set (set (set (set (set (set (set xs 0 i.phase) 1 i.count) 2 i.address) 3 i.first) 4 i.column) 5 i.operation) 6 i.busy) 7 i.failed) 8 i.loaded) 9 i.fate) 10 i.illegal) 11 i.protected
    ≡ interface_words i
unfolding interface_words
interface_written i (a ∷ b ∷ c ∷ d ∷ e ∷ f ∷ g ∷ j ∷ k ∷ l ∷ m ∷ n ∷ []) h = refl
interface_written i [] h = absurd (omega (arith, h))
interface_written i (a ∷ []) h = absurd (omega (arith, h))
interface_written i (a ∷ b ∷ []) h = absurd (omega (arith, h))
interface_written i (a ∷ b ∷ c ∷ []) h = absurd (omega (arith, h))
interface_written i (a ∷ b ∷ c ∷ d ∷ []) h = absurd (omega (arith, h))
interface_written i (a ∷ b ∷ c ∷ d ∷ e ∷ []) h = absurd (omega (arith, h))
interface_written i (a ∷ b ∷ c ∷ d ∷ e ∷ f ∷ []) h = absurd (omega (arith, h))
interface_written i (a ∷ b ∷ c ∷ d ∷ e ∷ f ∷ g ∷ []) h = absurd (omega (arith, h))
interface_written i (a ∷ b ∷ c ∷ d ∷ e ∷ f ∷ g ∷ j ∷ []) h = absurd (omega (arith, h))
interface_written i (a ∷ b ∷ c ∷ d ∷ e ∷ f ∷ g ∷ j ∷ k ∷ []) h = absurd (omega (arith, h))
interface_written i (a ∷ b ∷ c ∷ d ∷ e ∷ f ∷ g ∷ j ∷ k ∷ l ∷ []) h = absurd (omega (arith, h))
interface_written i (a ∷ b ∷ c ∷ d ∷ e ∷ f ∷ g ∷ j ∷ k ∷ l ∷ m ∷ []) h = absurd (omega (arith, h))
interface_written i (a ∷ b ∷ c ∷ d ∷ e ∷ f ∷ g ∷ j ∷ k ∷ l ∷ m ∷ n ∷ o ∷ p) h = absurd (omega (arith, h))

-- the interface and its words
pub interface_read : (i : Interface) → interface_of (interface_words i) ≡ i
unfolding interface_words interface_of
interface_read i = refl

pub interface_kept : (xs : List ℕ) → length xs ≡ 12 → interface_words (interface_of xs) ≡ xs
unfolding interface_words interface_of
interface_kept (a ∷ b ∷ c ∷ d ∷ e ∷ f ∷ g ∷ j ∷ k ∷ l ∷ m ∷ n ∷ []) h = refl
interface_kept [] h = absurd (omega (arith, h))
interface_kept (a ∷ []) h = absurd (omega (arith, h))
interface_kept (a ∷ b ∷ []) h = absurd (omega (arith, h))
interface_kept (a ∷ b ∷ c ∷ []) h = absurd (omega (arith, h))
interface_kept (a ∷ b ∷ c ∷ d ∷ []) h = absurd (omega (arith, h))
interface_kept (a ∷ b ∷ c ∷ d ∷ e ∷ []) h = absurd (omega (arith, h))
interface_kept (a ∷ b ∷ c ∷ d ∷ e ∷ f ∷ []) h = absurd (omega (arith, h))
interface_kept (a ∷ b ∷ c ∷ d ∷ e ∷ f ∷ g ∷ []) h = absurd (omega (arith, h))
interface_kept (a ∷ b ∷ c ∷ d ∷ e ∷ f ∷ g ∷ j ∷ []) h = absurd (omega (arith, h))
interface_kept (a ∷ b ∷ c ∷ d ∷ e ∷ f ∷ g ∷ j ∷ k ∷ []) h = absurd (omega (arith, h))
interface_kept (a ∷ b ∷ c ∷ d ∷ e ∷ f ∷ g ∷ j ∷ k ∷ l ∷ []) h = absurd (omega (arith, h))
interface_kept (a ∷ b ∷ c ∷ d ∷ e ∷ f ∷ g ∷ j ∷ k ∷ l ∷ m ∷ []) h = absurd (omega (arith, h))
interface_kept (a ∷ b ∷ c ∷ d ∷ e ∷ f ∷ g ∷ j ∷ k ∷ l ∷ m ∷ n ∷ o ∷ p) h = absurd (omega (arith, h))

-- after power comes on every word is 0
pub power_on_interface : interface_words powered_on ≡ replicate 12 0
unfolding interface_words
power_on_interface = refl
