-- No cycle changes the word of the write-protect line, on any chip. Assumes nothing.
use Prim.Native.Nat.{ℕ}
use mathlib.Core.Bool.{Bool, true, false, cond}
use mathlib.Core.List.{List, [], ◌∷◌}
use mathlib.Core.Path.{◌≡◌, refl, ap, ◌∙◌}
use borrow.Table.Steps.{cases}
use lib.Dec.{eqb}
use Rattle.geometry.specs.declared.Geometry.{Geometry}
use Rattle.chip_interface.specs.declared.Interface.{Interface}
use Rattle.chip_interface.specs.Interface.{beginning, begun, status_mode, read_mode, plain_command, latched, addressed, started, parameter_addressed}
use Rattle.chip_array.specs.Device.{Device, Setting, read_started, program_started, erase_started, completed}
use Rattle.chip.specs.Chip.{Cycle, is_confirm, confirmable, confirmed, commanded, data_taken, data_given, parameter_given, finished, status_read, exec}
use Rattle.chip.specs.Chip.Cycle.{command, address, data_in, data_out, status, parameter_address, parameter_out}
use Rattle.bus.specs.Line.{Line, admits, send, send_all}
use Rattle.bus.proofs.LineLaws.{send_on, send_off}

record Word (k : ℕ) (i : Interface) : Type 0 where
  word : i.protected ≡ k

kept : {k : ℕ} {i : Interface} → i.protected ≡ k → Word k i
kept h = record { word = h }

-- it holds of both arms of a test
arms : (k : ℕ) (b : Bool) (x y : Interface) → Word k x → Word k y → Word k (cond b x y)
arms k true x y p q = p
arms k false x y p q = q

record On (k : ℕ) (d : Device) : Type 0 where
  on : d.interface.protected ≡ k

stays : {k : ℕ} {d : Device} → d.interface.protected ≡ k → On k d
stays h = record { on = h }

arms_on : (k : ℕ) (b : Bool) (x y : Device) → On k x → On k y → On k (cond b x y)
arms_on k true x y p q = p
arms_on k false x y p q = q

begun_word : (p n : ℕ) (i : Interface) → Word i.protected (begun p n i)
unfolding begun
begun_word p n i = search (arms, kept)

status_mode_word : (i : Interface) → Word i.protected (status_mode i)
unfolding status_mode
status_mode_word i = search (arms, kept)

read_mode_word : (i : Interface) → Word i.protected (read_mode i)
unfolding read_mode
read_mode_word i = search (arms, kept)

plain_word : (code : ℕ) (i : Interface) → Word i.protected (plain_command code i)
unfolding plain_command
plain_word code i = search (arms, kept, begun_word, status_mode_word, read_mode_word) depth 9

latched_word : (g : Geometry) (b : ℕ) (i : Interface) → Word i.protected (latched g b i)
unfolding latched
latched_word g b i = search (arms, kept)

addressed_word : (g : Geometry) (b : ℕ) (i : Interface) → Word i.protected (addressed g b i)
unfolding addressed
addressed_word g b i =
    arms _ (eqb i.phase 3) _ _ (latched_word g b i)
    (arms _ (eqb i.phase 4) _ _ (latched_word g b i)
    (arms _ (eqb i.phase 5) _ _ (latched_word g b i)
    (arms _ (eqb i.phase 2) _ _
    (arms _ (eqb i.first i.column) _ _ (latched_word g b (beginning 3 0 i)) (kept refl))
    (kept refl))))

parameter_word : (b : ℕ) (fates : List ℕ) (i : Interface) → Word i.protected (parameter_addressed b fates i)
unfolding parameter_addressed
parameter_word b fates i = search (arms, kept)

module _ (s : Setting) (d : Device) where
  confirmed_word : (code : ℕ) → On d.interface.protected (confirmed code s d)
  unfolding confirmed read_started program_started erase_started started
  confirmed_word code = search (arms_on, stays) depth 12

  status_word : On d.interface.protected (status_read s.geometry d)
  unfolding status_read finished completed
  status_word = search (arms_on, stays) depth 12

  commanded_word : (code : ℕ) → On d.interface.protected (commanded code s d)
  unfolding commanded
  commanded_word code =
      arms_on _ (is_confirm code) _ _ (arms_on _ (confirmable s d) _ _ (confirmed_word code) (stays refl))
      (stays (plain_word code d.interface).word)

  exec_on : (c : Cycle) → On d.interface.protected (exec s d c)
  unfolding exec data_taken data_given parameter_given
  exec_on (command code) = commanded_word code
  exec_on (address byte) = stays (addressed_word s.geometry byte d.interface).word
  exec_on (data_in byte) = search (arms_on, stays)
  exec_on data_out = search (arms_on, stays)
  exec_on status = status_word
  exec_on (parameter_address byte) = stays (parameter_word byte s.fates d.interface).word
  exec_on (parameter_out page) = search (arms_on, stays)

  pub exec_line : (c : Cycle) → (exec s d c).interface.protected ≡ d.interface.protected
  exec_line c = (exec_on c).on

module _ (s : Setting) where
  pub send_line : (l : Line) (c : Cycle) → (send s l c).chip.interface.protected ≡ l.chip.interface.protected
  send_line l c =
      cases (admits l)
      (λ t. ap (λ (x : Line). x.chip.interface.protected) (send_on s l c t) ∙ exec_line s l.chip c)
      (λ t. ap (λ (x : Line). x.chip.interface.protected) (send_off s l c t))

  -- a list of cycles leaves the line as it was
  pub all_line : (l : Line) (cs : List Cycle) → (send_all s l cs).chip.interface.protected ≡ l.chip.interface.protected
  unfolding send_all
  all_line l [] = refl
  all_line l (c ∷ cs) = all_line (send s l c) cs ∙ send_line l c
