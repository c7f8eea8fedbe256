-- A test on the interface of a device is a test on the device. Assumes nothing.
use Prim.Native.Nat.{ℕ}
use mathlib.Core.Bool.{Bool, true, false, cond}
use mathlib.Core.List.{List}
use mathlib.Core.Path.{◌≡◌, refl}
use Rattle.chip_interface.specs.declared.Interface.{Interface}
use Rattle.chip_array.specs.Device.{device}

pub tested : (b : Bool) (i j : Interface) (a r h : List ℕ) → device (cond b i j) a r h ≡ cond b (device i a r h) (device j a r h)
tested true i j a r h = refl
tested false i j a r h = refl
