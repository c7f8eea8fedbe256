-- A read never ends as failed, and an operation that passed or failed was started: on any chip. Assumes nothing.
use Prim.Native.Nat.{ℕ, zero, suc}
use mathlib.Core.Bool.{Bool, true, false, cond}
use mathlib.Core.List.{List, [], ◌∷◌, ◌++◌}
use mathlib.Core.Path.{◌≡◌, refl, sym, ap, ◌∙◌}
use native.Mathlib.Omega.{arith}
use borrow.Table.Steps.{cases}
use lib.Dec.{eqb}
use lib.ListN.{replicate}
use Rattle.geometry.specs.declared.Geometry.{Geometry}
use Rattle.chip_interface.specs.declared.Interface.{Interface}
use Rattle.chip_interface.specs.Interface.{status_mode, plain_command, started}
use Rattle.chip_array.specs.Device.{Device, Setting, read_started, completed}
use Rattle.chip.specs.Chip.{Cycle, exec, is_confirm, confirmable, confirmed, commanded, finished, status_read}
use Rattle.chip.specs.Chip.Cycle.{command, status}
use Rattle.bus.specs.Line.{Line, admits, send, send_all, goes_on}
use Rattle.bus.proofs.LineLaws.{going, send_all_append, send_on, send_off, send_stopped, send_all_stopped, blocked-stops}
use Rattle.bus_polling.specs.Outcomes.{is_passed, is_failed, guarded}
use Rattle.bus_polling.specs.Polling.{polls, status_reads, outcome_of, answer_of, ended_as}
use Rattle.bus_polling.specs.declared.Outcome.{Outcome}
use Rattle.bus_polling.specs.declared.Outcome.TheVariants.{Passed, Failed, Silent, Cut, Illegal, Protected}
use Rattle.bus_sequences.specs.Cycles.{read_address, page_read, read_outcome}
use Rattle.bools.proofs.BoolLaws.{clash}

-- the interface's word for a failed operation stays
record Word (k : ℕ) (i : Interface) : Type 0 where
  word : i.failed ≡ k

kept : {k : ℕ} {i : Interface} → i.failed ≡ k → Word k i
kept h = record { word = h }

arms : (k : ℕ) (b : Bool) (x y : Interface) → Word k x → Word k y → Word k (cond b x y)
arms k true x y p q = p
arms k false x y p q = q

record On (k : ℕ) (d : Device) : Type 0 where
  on : d.interface.failed ≡ k

stays : {k : ℕ} {d : Device} → d.interface.failed ≡ k → On k d
stays h = record { on = h }

arms_on : (k : ℕ) (b : Bool) (x y : Device) → On k x → On k y → On k (cond b x y)
arms_on k true x y p q = p
arms_on k false x y p q = q

mode_word : (i : Interface) → Word i.failed (status_mode i)
unfolding status_mode
mode_word i = search (arms, kept)

mode_on : (s : Setting) (d : Device) → (exec s d (command 112)).interface.failed ≡ d.interface.failed
unfolding exec commanded is_confirm plain_command
mode_on s d = (mode_word d.interface).word

completed_on : (g : Geometry) (d : Device) → On d.interface.failed (completed g d)
unfolding completed
completed_on g d = search (arms_on, stays)

finished_on : (g : Geometry) (d : Device) → On d.interface.failed (finished g d)
unfolding finished
finished_on g d = search (arms_on, stays, completed_on)

status_on_lem : (s : Setting) (d : Device) → On d.interface.failed (exec s d status)
unfolding exec status_read
status_on_lem s d = search (arms_on, stays, finished_on)

-- on the bus
send_word : (s : Setting) (l : Line) (c : Cycle) → (exec s l.chip c).interface.failed ≡ l.chip.interface.failed → (send s l c).chip.interface.failed ≡ l.chip.interface.failed
send_word s l c h =
    cases (admits l)
    (λ t. ap (λ (x : Line). x.chip.interface.failed) (send_on s l c t) ∙ h)
    (λ t. ap (λ (x : Line). x.chip.interface.failed) (send_off s l c t))

reads_word : (s : Setting) (l : Line) (n : ℕ) → (send_all s l (replicate n status)).chip.interface.failed ≡ l.chip.interface.failed
unfolding send_all
reads_word s l zero = refl
reads_word s l (suc n) = reads_word s (send s l status) n ∙ send_word s l status (status_on_lem s l.chip).on

-- what is stopped stays so
pub goes_before : (s : Setting) (l : Line) (xs ys : List Cycle) → goes_on (send_all s l (xs ++ ys)) ≡ true → goes_on (send_all s l xs) ≡ true
goes_before s l xs ys t =
    cases (goes_on (send_all s l xs))
    (λ u. u)
    (λ u. clash t (ap goes_on (send_all_append s l xs ys ∙ send_all_stopped s (send_all s l xs) ys u) ∙ u))

-- passed or failed
abbrev pub told : Outcome → Bool
told o = cond (is_passed o) true (is_failed o)

failed_told : (o : Outcome) → is_failed o ≡ true → told o ≡ true
failed_told o t = cases (is_passed o) (λ u. rw u) (λ u. rw (u, t))

outcome_goes : (l : Line) → told (outcome_of l) ≡ true → goes_on l ≡ true
unfolding goes_on outcome_of is_passed is_failed
outcome_goes l t =
    cases (eqb l.cut 0)
    (λ c. cases (eqb l.chip.interface.illegal 0) (λ i. rw (c, i)) (λ i. clash t (rw (c, i))))
    (λ c. clash t (rw c))

guarded_untold : (o : Outcome) → told (guarded o) ≡ false
unfolding guarded is_passed is_failed
guarded_untold Passed = refl
guarded_untold Failed = refl
guarded_untold Silent = refl
guarded_untold Cut = refl
guarded_untold Illegal = refl
guarded_untold Protected = refl

pub answer_goes : (l : Line) → told (answer_of l) ≡ true → goes_on l ≡ true
answer_goes l t =
    cases (eqb l.chip.interface.protected 0)
    (λ u. outcome_goes l (rw u at t))
    (λ u. clash (rw u at t) (guarded_untold (outcome_of l)))

-- 30h: a read that was started has not failed
read_start : (s : Setting) (d : Device) → (exec s d (command 48)).interface.illegal ≡ 0 → (exec s d (command 48)).interface.failed ≡ 0
unfolding exec commanded is_confirm confirmed read_started started
read_start s d h =
    cases (confirmable s d)
    (λ c.
    cases (eqb d.interface.phase 3)
    (λ p. cases (eqb d.interface.count 5) (λ k. rw (c, p, k)) (λ k. absurd (omega (arith, rw (c, p, k) at h))))
    (λ p. absurd (omega (arith, rw (c, p) at h))))
    (λ c. absurd (omega (arith, rw c at h)))

start_word : (s : Setting) (l : Line) → goes_on (send s l (command 48)) ≡ true → (send s l (command 48)).chip.interface.failed ≡ 0
start_word s l t =
    cases (admits l)
    (λ a.
    let is = send_on s l (command 48) a in
    ap (λ (x : Line). x.chip.interface.failed) is ∙ read_start s l.chip (sym (ap (λ (x : Line). x.chip.interface.illegal) is) ∙ (going (send s l (command 48)) t).legal))
    (λ a. clash t (ap goes_on (send_off s l (command 48) a) ∙ blocked-stops l))

zero-unfailed : (l : Line) → l.chip.interface.failed ≡ 0 → is_failed (outcome_of l) ≡ false
unfolding outcome_of is_failed
zero-unfailed l z =
    cases (eqb l.cut 0)
    (λ c.
    cases (eqb l.chip.interface.illegal 0)
    (λ i. cases (eqb l.chip.interface.phase 8) (λ p. rw (c, i, p)) (λ p. rw (c, i, p, z)))
    (λ i. rw (c, i)))
    (λ c. rw c)

ended-unfailed : (l : Line) → is_failed (ended_as l) ≡ false
unfolding ended_as is_failed
ended-unfailed l =
    cases (eqb l.cut 0) (λ c. cases (eqb l.chip.interface.illegal 0) (λ i. rw (c, i)) (λ i. rw (c, i))) (λ c. rw c)

module _ (s : Setting) (l : Line) (row column : ℕ) where
  abbrev first : Line
  first = send_all s l (read_address row column)

  abbrev shown : Line
  shown = send_all s l (read_address row column ++ (command 48 ∷ command 112 ∷ []))

  shown_is : shown ≡ send s (send s first (command 48)) (command 112)
  unfolding send_all
  shown_is = send_all_append s l (read_address row column) (command 48 ∷ command 112 ∷ [])

  shown_word : goes_on shown ≡ true → shown.chip.interface.failed ≡ 0
  shown_word t =
      let before = send s first (command 48) in
      let goes : goes_on before ≡ true = cases (goes_on before) (λ u. u) (λ u. clash t (ap goes_on (shown_is ∙ send_stopped s before (command 112) u) ∙ u)) in
      ap (λ (x : Line). x.chip.interface.failed) shown_is ∙ send_word s before (command 112) (mode_on s before.chip) ∙ start_word s first goes

  page_unfailed : is_failed (outcome_of (send_all s l (page_read s l row column))) ≡ false
  page_unfailed =
      let m = send_all s l (page_read s l row column) in
      let reads = status_reads s shown.chip in
      cases (is_failed (outcome_of m))
      (λ t.
      let goes = outcome_goes m (failed_told (outcome_of m) t) in
      let word = ap (λ (x : Line). x.chip.interface.failed) (send_all_append s l (read_address row column ++ (command 48 ∷ command 112 ∷ [])) reads) ∙ reads_word s shown (polls s 256 shown.chip) in
      clash t (zero-unfailed m (word ∙ shown_word (goes_before s l (read_address row column ++ (command 48 ∷ command 112 ∷ [])) reads goes))))
      (λ t. t)

-- a read does not fail
pub read_unfailed : (s : Setting) (l : Line) (row column n : ℕ) → is_failed (read_outcome s l row column n) ≡ false
unfolding read_outcome
read_unfailed s l row column n =
    cases (is_passed (outcome_of (send_all s l (page_read s l row column))))
    (λ t. rw t (ended-unfailed _))
    (λ t. rw t (page_unfailed s l row column))
