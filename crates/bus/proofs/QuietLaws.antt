-- Cycles before a confirm cycle change neither the array nor the history, and take no fate word.
use Prim.Native.Nat.{ℕ, zero, suc}
use mathlib.Core.Bool.{Bool, true, false, cond, false≢true}
use mathlib.Core.List.{List, [], ◌∷◌, ◌++◌, map}
use mathlib.Core.Path.{◌≡◌, refl, ◌∙◌}
use borrow.Author.Tests.{not-true}
use lib.Dec.{eqb}
use lib.ListN.{take, replicate}
use Rattle.geometry.specs.declared.Geometry.{Geometry}
use Rattle.chip_interface.specs.declared.Interface.{Interface}
use Rattle.chip_interface.specs.Interface.{beginning, begun, status_mode, read_mode, plain_command, latched, addressed}
use Rattle.chip_array.specs.Device.{Device, Setting}
use Rattle.chip.specs.Chip.{Cycle, is_confirm, commanded, data_taken, data_given, parameter_given, exec}
use Rattle.chip.specs.Chip.Cycle.{command, address, data_in, data_out, status, parameter_address, parameter_out}
use Rattle.bus.specs.Line.{run, still, AllStill, Quiet}

record Fate (k : ℕ) (i : Interface) : Type 0 where
  fate : i.fate ≡ k

kept : {k : ℕ} {i : Interface} → i.fate ≡ k → Fate k i
kept h = record { fate = h }

-- it holds of both arms of a test
arms : (k : ℕ) (b : Bool) (x y : Interface) → Fate k x → Fate k y → Fate k (cond b x y)
arms k true x y p q = p
arms k false x y p q = q

arms_quiet : (d : Device) (b : Bool) (x y : Device) → Quiet d x → Quiet d y → Quiet d (cond b x y)
arms_quiet d true x y p q = p
arms_quiet d false x y p q = q

begun_fate : (p n : ℕ) (i : Interface) → Fate i.fate (begun p n i)
unfolding begun
begun_fate p n i = search (arms, kept)

status_mode_fate : (i : Interface) → Fate i.fate (status_mode i)
unfolding status_mode
status_mode_fate i = search (arms, kept)

read_mode_fate : (i : Interface) → Fate i.fate (read_mode i)
unfolding read_mode
read_mode_fate i = search (arms, kept)

plain_fate : (code : ℕ) (i : Interface) → Fate i.fate (plain_command code i)
unfolding plain_command
plain_fate code i = search (arms, kept, begun_fate, status_mode_fate, read_mode_fate) depth 9

latched_fate : (g : Geometry) (b : ℕ) (i : Interface) → Fate i.fate (latched g b i)
unfolding latched
latched_fate g b i = search (arms, kept)

addressed_fate : (g : Geometry) (b : ℕ) (i : Interface) → Fate i.fate (addressed g b i)
unfolding addressed
addressed_fate g b i =
    arms _ (eqb i.phase 3) _ _ (latched_fate g b i)
    (arms _ (eqb i.phase 4) _ _ (latched_fate g b i)
    (arms _ (eqb i.phase 5) _ _ (latched_fate g b i)
    (arms _ (eqb i.phase 2) _ _
    (arms _ (eqb i.first i.column) _ _ (latched_fate g b (beginning 3 0 i)) (kept refl))
    (kept refl))))

same : {d e : Device} → e.array ≡ d.array → e.history ≡ d.history → e.interface.fate ≡ d.interface.fate → Quiet d e
same a h f = record { array = a; history = h; fate = f }

pub still_quiet : (s : Setting) (d : Device) (c : Cycle) → still c ≡ true → Quiet d (exec s d c)
unfolding still exec commanded data_taken data_given parameter_given
still_quiet s d (command code) h =
    rw (not-true (is_confirm code) h) (same refl refl (plain_fate code d.interface).fate)
still_quiet s d (address byte) h = same refl refl (addressed_fate s.geometry byte d.interface).fate
still_quiet s d (data_in byte) h = search (arms_quiet, same)
still_quiet s d data_out h = search (arms_quiet, same)
still_quiet s d status h = absurd (false≢true h)
still_quiet s d (parameter_address byte) h = absurd (false≢true h)
still_quiet s d (parameter_out page) h = search (arms_quiet, same)

pub quiet_run : (s : Setting) (d : Device) (cs : List Cycle) → AllStill cs → Quiet d (run s d cs)
unfolding run
quiet_run s d [] g = same refl refl refl
quiet_run s d (c ∷ cs) g =
    let q = still_quiet s d c g.0 in
    let r = quiet_run s (exec s d c) cs g.1 in
    same (r.array ∙ q.array) (r.history ∙ q.history) (r.fate ∙ q.fate)

pub still-take : (n : ℕ) (cs : List Cycle) → AllStill cs → AllStill (take n cs)
still-take zero cs g = tt
still-take (suc n) [] g = tt
still-take (suc n) (c ∷ cs) g = (g.0, still-take n cs g.1)

pub still-append : (xs ys : List Cycle) → AllStill xs → AllStill ys → AllStill (xs ++ ys)
still-append [] ys g h = h
still-append (x ∷ xs) ys g h = (g.0, still-append xs ys g.1 h)

pub still_data : (xs : List ℕ) → AllStill (map data_in xs)
unfolding still
still_data [] = tt
still_data (x ∷ xs) = (refl, still_data xs)

pub still_address : (xs : List ℕ) → AllStill (map address xs)
unfolding still
still_address [] = tt
still_address (x ∷ xs) = (refl, still_address xs)

pub still_repeated : (c : Cycle) → still c ≡ true → (n : ℕ) → AllStill (replicate n c)
still_repeated c h zero = tt
still_repeated c h (suc n) = (h, still_repeated c h n)
