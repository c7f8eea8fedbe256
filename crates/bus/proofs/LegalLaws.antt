-- A cycle answered illegal changes nothing but the flag. The flag is never cleared, so a run that ends without it had no such cycle.
use Prim.Native.Nat.{ℕ, zero, suc}
use mathlib.Core.Bool.{Bool, true, false, cond}
use mathlib.Core.List.{List, [], ◌∷◌, ◌++◌}
use mathlib.Core.Logic.{◌⊎◌, inl, inr, ⊎_elim}
use mathlib.Core.Path.{◌≡◌, refl, sym, ap, ◌∙◌}
use native.Mathlib.Omega.{arith}
use lib.Dec.{eqb, ltb}
use lib.ListN.{take}
use Rattle.geometry.specs.Sizes.{row_count}
use Rattle.geometry.specs.declared.Geometry.{Geometry}
use Rattle.chip_interface.specs.declared.Interface.{Interface}
use Rattle.chip_interface.specs.Interface.{refused, begun, status_mode, read_mode, plain_command, latched, addressed, started, parameter_addressed}
use Rattle.chip_array.specs.Device.{Device, Setting, with_interface, illegal_cycle, read_started, program_started, erase_started, lengths_fit, row_at, completed}
use Rattle.chip.specs.Chip.{Cycle, is_confirm, confirmable, confirmed, commanded, data_taken, data_given, parameter_given, finished, status_read, exec}
use Rattle.chip.specs.Chip.Cycle.{command, address, data_in, data_out, status, parameter_address, parameter_out}
use Rattle.bus.specs.Line.{Legal, run}

-- a cycle leaves the flag, or it leaves all but the flag
record Answered (i j : Interface) : Type 0 where
  answered : (j.illegal ≡ i.illegal) ⊎ (j ≡ refused i)

record AnsweredOf (d e : Device) : Type 0 where
  answered : (e.interface.illegal ≡ d.interface.illegal) ⊎ (e ≡ illegal_cycle d)

same : {i j : Interface} → j.illegal ≡ i.illegal → Answered i j
same h = record { answered = inl h }

flagged : {i j : Interface} → j ≡ refused i → Answered i j
flagged h = record { answered = inr h }

same_of : {d e : Device} → e.interface.illegal ≡ d.interface.illegal → AnsweredOf d e
same_of h = record { answered = inl h }

flagged_of : {d e : Device} → e ≡ illegal_cycle d → AnsweredOf d e
flagged_of h = record { answered = inr h }

interface_of_lem : (d : Device) {i : Interface} → Answered d.interface i → AnsweredOf d (with_interface i d)
interface_of_lem d p = record { answered = ⊎_elim inl (λ e. inr (ap (λ (j : Interface). with_interface j d) e)) p.answered }

-- it holds of both arms of a test
arms : (i : Interface) (b : Bool) (x y : Interface) → Answered i x → Answered i y → Answered i (cond b x y)
arms i true x y p q = p
arms i false x y p q = q

arms_of : (d : Device) (b : Bool) (x y : Device) → AnsweredOf d x → AnsweredOf d y → AnsweredOf d (cond b x y)
arms_of d true x y p q = p
arms_of d false x y p q = q

begun-answered : (p n : ℕ) (i : Interface) → Answered i (begun p n i)
unfolding begun
begun-answered p n i = search (arms, same, flagged)

status_mode_answered : (i : Interface) → Answered i (status_mode i)
unfolding status_mode
status_mode_answered i = search (arms, same, flagged)

read_mode_answered : (i : Interface) → Answered i (read_mode i)
unfolding read_mode
read_mode_answered i = search (arms, same, flagged)

plain-answered : (code : ℕ) (i : Interface) → Answered i (plain_command code i)
unfolding plain_command
plain-answered code i = search (arms, same, flagged, begun-answered, status_mode_answered, read_mode_answered) depth 9

latched-answered : (g : Geometry) (b : ℕ) (i : Interface) → Answered i (latched g b i)
unfolding latched
latched-answered g b i = search (arms, same, flagged)

addressed-answered : (g : Geometry) (b : ℕ) (i : Interface) → Answered i (addressed g b i)
unfolding addressed latched
addressed-answered g b i =
    arms _ (eqb i.phase 3) _ _ (latched-answered g b i)
    (arms _ (eqb i.phase 4) _ _ (latched-answered g b i)
    (arms _ (eqb i.phase 5) _ _ (latched-answered g b i)
    (arms _ (eqb i.phase 2) _ _
    (arms _ (eqb i.first i.column) _ _ (same refl) (flagged refl))
    (flagged refl))))

confirmed-answered : (code : ℕ) (s : Setting) (d : Device) → AnsweredOf d (confirmed code s d)
unfolding confirmed read_started program_started erase_started started
confirmed-answered code s d = search (arms_of, same_of, flagged_of) depth 9

commanded-answered : (code : ℕ) (s : Setting) (d : Device) → AnsweredOf d (commanded code s d)
unfolding commanded
commanded-answered code s d =
    arms_of _ (is_confirm code) _ _ (arms_of _ (confirmable s d) _ _ (confirmed-answered code s d) (flagged_of refl))
    (interface_of_lem d (plain-answered code d.interface))

completed-answered : (g : Geometry) (d : Device) → AnsweredOf d (completed g d)
unfolding completed
completed-answered g d = search (arms_of, same_of, flagged_of) depth 9

status_answered : (g : Geometry) (d : Device) → AnsweredOf d (status_read g d)
unfolding status_read finished
status_answered g d =
    arms_of _ (eqb d.interface.phase 1) _ _ (same_of refl)
    (arms_of _ (eqb d.interface.phase 8) _ _
    (arms_of _ (eqb d.interface.busy 0) _ _
    (arms_of _ (eqb d.interface.operation 4) _ _ (same_of refl)
    (arms_of _ (lengths_fit g d) _ _
    (arms_of _ (ltb (row_at d.interface) (row_count g)) _ _ (completed-answered g d) (flagged_of refl))
    (flagged_of refl)))
    (same_of refl))
    (flagged_of refl))

parameter_answered : (b : ℕ) (fates : List ℕ) (i : Interface) → Answered i (parameter_addressed b fates i)
unfolding parameter_addressed
parameter_answered b fates i = search (arms, same, flagged)

exec-answered : (s : Setting) (d : Device) (c : Cycle) → AnsweredOf d (exec s d c)
unfolding exec data_taken data_given parameter_given
exec-answered s d (command code) = commanded-answered code s d
exec-answered s d (address byte) = interface_of_lem d (addressed-answered s.geometry byte d.interface)
exec-answered s d (data_in byte) = search (arms_of, same_of, flagged_of)
exec-answered s d data_out = search (arms_of, same_of, flagged_of)
exec-answered s d status = status_answered s.geometry d
exec-answered s d (parameter_address byte) = interface_of_lem d (parameter_answered byte s.fates d.interface)
exec-answered s d (parameter_out page) = search (arms_of, same_of, flagged_of)

module _ (s : Setting) where
  -- every cycle on every chip leaves the flag as it was, or changes nothing but the flag
  pub illegal_changes_nothing : (d : Device) (c : Cycle) → ((exec s d c).interface.illegal ≡ d.interface.illegal) ⊎ (exec s d c ≡ illegal_cycle d)
  illegal_changes_nothing d c = (exec-answered s d c).answered

  pub illegal_keeps : (d : Device) (c : Cycle) → d.interface.illegal ≡ 0 → ((exec s d c).interface.illegal ≡ 0 → ⊥) → exec s d c ≡ illegal_cycle d
  illegal_keeps d c e n = ⊎_elim (λ f. absurd (n (f ∙ e))) (λ f. f) (illegal_changes_nothing d c)

  legal_before : (d : Device) (c : Cycle) → (exec s d c).interface.illegal ≡ 0 → d.interface.illegal ≡ 0
  legal_before d c h =
      ⊎_elim (λ e. sym e ∙ h)
      (λ e. let one : (exec s d c).interface.illegal ≡ 1 = ap (λ (x : Device). x.interface.illegal) e in absurd (omega arith))
      (illegal_changes_nothing d c)

  pub legal_start : (d : Device) (cs : List Cycle) → (run s d cs).interface.illegal ≡ 0 → d.interface.illegal ≡ 0
  unfolding run
  legal_start d [] h = h
  legal_start d (c ∷ cs) h = legal_before d c (legal_start (exec s d c) cs h)

  -- a run that ends with no illegal answer had none
  pub legal_run : (d : Device) (cs : List Cycle) → (run s d cs).interface.illegal ≡ 0 → Legal s d cs
  unfolding run
  legal_run d [] h = tt
  legal_run d (c ∷ cs) h = (legal_start (exec s d c) cs h, legal_run (exec s d c) cs h)

  -- the first cycles of a legal run are legal
  pub legal_first : (d : Device) (xs ys : List Cycle) → Legal s d (xs ++ ys) → Legal s d xs
  legal_first d [] ys g = tt
  legal_first d (x ∷ xs) ys g = (g.0, legal_first (exec s d x) xs ys g.1)

  pub legal_take : (d : Device) (n : ℕ) (cs : List Cycle) → d.interface.illegal ≡ 0 → Legal s d cs → (run s d (take n cs)).interface.illegal ≡ 0
  unfolding run
  legal_take d zero cs e g = e
  legal_take d (suc n) [] e g = e
  legal_take d (suc n) (c ∷ cs) e g = legal_take (exec s d c) n cs g.0 g.1
