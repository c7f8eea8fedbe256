-- When a request is answered 10: by the fate word of the array operation that it started last.
use Rattle.std.specs.Prelude.{ℕ, ◌≤◌, List, [], ◌∷◌, ◌↔◌, ◌≡◌}
use Rattle.geometry.specs.declared.Geometry.{Geometry}
use Rattle.chip_interface.specs.Interface.{fate_word, busy_of}
use Rattle.chip_array.specs.Device.{Device, Setting}
use Rattle.chip.specs.Chip.{Cycle}
use Rattle.recovery.specs.Calls.{Call, to_mount, to_read, to_write, to_erase, to_identify, to_open, to_advance, LineKept, Store, setting_of, answer_of, cycles_of}
use Rattle.recovery_proof.specs.Sent.{lent_for, chip_for}
use Rattle.recovery_cycles.specs.Starts.{Start, starts_in}

-- the busy status reads that the fate word of an operation counts: the word that is next where its confirm cycle is sent
abbrev pub busy_reads : List ℕ → Start → ℕ
busy_reads fates t = busy_of (fate_word fates t.chip.interface.fate)

-- the operation started last has 256 or more
unfoldable pub SlowLast : List ℕ → List Start → Type 0
SlowLast fates [] = ⊥
SlowLast fates (t ∷ []) = 256 ≤ busy_reads fates t
SlowLast fates (t ∷ u ∷ ts) = SlowLast fates (u ∷ ts)

-- a request that begins on chip d, is answered so and sends these cycles is answered 10 exactly there, unless it is cut (11) before the 256th of them
abbrev pub SilentExactly : Setting → Device → ℕ → List Cycle → Type 0
SilentExactly s d answer cycles =
    (answer ≡ 10) ↔ (SlowLast s.fates (starts_in s d cycles) × (answer ≡ 11 → ⊥))

-- every call but the one that asks the chip for its size, which starts no array operation
abbrev pub OfArray : Call → Type 0
OfArray (to_mount depth a) = Unit {0}
OfArray (to_read a logical page buffer) = Unit {0}
OfArray (to_write a logical page bytes) = Unit {0}
OfArray (to_erase a logical) = Unit {0}
OfArray (to_identify a parameters logical) = ⊥
OfArray (to_open a logical page bytes) = Unit {0}
OfArray (to_advance a most) = Unit {0}

abbrev pub SilentCalls : Geometry → Store → Type 0
SilentCalls g y =
    (c : Call) → OfArray c → LineKept c y → SilentExactly (setting_of g (lent_for c)) (chip_for c y) (answer_of g c y) (cycles_of g c y)
