-- Each 10h and each D0h cycle of a formatting on any chip leaves alone the blocks carried over and those that a complete table of its own lists. Assumes
-- nothing.
use Prim.Native.Nat.{ℕ, ◌<◌}
use mathlib.Core.Bool.{Bool, true, false, cond}
use mathlib.Core.List.{List, [], ◌∷◌}
use mathlib.Core.Logic.{inl, inr, ⊎_elim}
use mathlib.Core.Path.{◌≡◌, refl, sym, ap, ap₂, subst, fun_ext, ◌∙◌}
use native.Mathlib.Omega.{arith}
use borrow.Table.Steps.{cases}
use borrow.Author.Tests.{eqb-true, eqb-false, eq-eqb, ne_eqb}
use lib.Dec.{eqb}
use Rattle.geometry.specs.declared.Geometry.{Geometry}
use Rattle.cells.specs.Bytes.{Bytes}
use Rattle.bools.proofs.BoolLaws.{and_none}
use Rattle.chip_array.specs.Device.{Device, Setting, block_at}
use Rattle.chip.specs.Chip.{Cycle, exec}
use Rattle.chip.specs.Chip.Cycle.{command}
use Rattle.bus.specs.Line.{run, Legal}
use Rattle.chip_laws.proofs.ReplayLaws.{legal_rest}
use Rattle.operations.specs.Trace.{ArrayOperation}
use Rattle.copies.specs.Blocks.{block_in, is_marked, is_table}
use Rattle.copies.specs.Carried.{is_carried}
use Rattle.copies.specs.Table.{lists}
use Rattle.state.specs.declared.State.{State}
use Rattle.request.specs.Call.{call_line, sent_in, started_in}
use Rattle.damage.specs.Touched.{Each}
use Rattle.damage.proofs.EachLaws.{each_left}
use Rattle.recovery_cycles.specs.Starts.{Start, start, starts_in, fails_next, kind_of, StartedAt, Traced, OnChip, ChangeOn}
use Rattle.recovery_cycles.proofs.ReadOnlyLaws.{changes_confirm}
use Rattle.recovery_cycles.proofs.CycleLaws.{traced_at, change_on, not_read}
use Rattle.recovery_format.specs.Carries.{programs, programmed_in, LeavesListed, LeftAlone, NamesUnlisted, programmed_by, LeavesEach}
use Rattle.format.specs.Format.{format_request}
use Rattle.recovery_format.proofs.LeftLaws.{since, left_at}
use Rattle.recovery_format.proofs.CarryLaws.{format_carries}
use Rattle.recovery_format.proofs.SparesLaws.{legal_sent, sent_traced}

kind_program : (code : ℕ) → (code ≡ 16 → ⊥) → kind_of code ≡ 2 → ⊥
unfolding kind_of
kind_program code x e =
    cases (eqb code 48)
    (λ t. let one : ◌≡◌ {A = ℕ} 1 2 = rw t at e in omega (arith, one))
    (λ t. let three : ◌≡◌ {A = ℕ} 3 2 = rw (t, ne_eqb code 16 x) at e in omega (arith, three))

-- a 10h cycle was sent for the block of an operation exactly if it is a program
one_programmed : (g : Geometry) (t : Start) (o : ArrayOperation) → StartedAt g t o → OnChip g o → (b : ℕ) → cond (eqb (block_at g t.chip.interface) b) (eqb t.code 16) false ≡ programs b o
unfolding kind_of
one_programmed g t o h on b =
    cases (eqb t.code 16)
    (λ u.
    let code = eqb-true t.code 16 u in
    let two : o.kind ≡ 2 = h.kind_is ∙ ap kind_of code in
    ⊎_elim
    (λ one. absurd (omega (arith, one, two)))
    (λ below. ap₂ (λ (k : ℕ) (x : Bool). cond (eqb k b) x false) (sym (h.program_is code below).block_is) (u ∙ sym (eq-eqb o.kind 2 two)))
    on)
    (λ u.
    let other = kind_program t.code (eqb-false t.code 16 u) in
    ap (λ (x : Bool). cond (eqb (block_at g t.chip.interface) b) x false) u ∙ and_none (eqb (block_at g t.chip.interface) b)
    ∙ sym (ap (λ (x : Bool). cond (eqb o.block b) x false) (ne_eqb o.kind 2 (λ z. other (sym h.kind_is ∙ z))) ∙ and_none (eqb o.block b)))

programmed_traced : (g : Geometry) (ts : List Start) (os : List ArrayOperation) → Traced g ts os → Each (OnChip g) os → (b : ℕ) → programmed_by g b ts ≡ programmed_in b os
unfolding Traced Each programmed_by programmed_in
programmed_traced g [] [] h on b = refl
programmed_traced g [] (o ∷ os) h on b = absurd h
programmed_traced g (t ∷ ts) [] h on b = absurd h
programmed_traced g (t ∷ ts) (o ∷ os) h on b =
    ap₂ (λ (x y : Bool). cond x true y) (one_programmed g t o h.0 on.0 b) (programmed_traced g ts os h.1 on.1 b)

left_on_chip : (g : Geometry) (array : List ℕ) (filled : ℕ → Bool) (os : List ArrayOperation) → LeftAlone g array filled os → Each (OnChip g) os
unfolding LeftAlone Each
left_on_chip g array filled [] h = tt
left_on_chip g array filled (o ∷ os) h = (⊎_elim inl (λ x. inr x.below) h.0, left_on_chip g array (λ b. cond (filled b) true (programs b o)) os h.1)

-- what is said of an operation holds on the chip just before its cycle
names_unlisted : (g : Geometry) (array : List ℕ) (filled : ℕ → Bool) (code : ℕ) (d : Device) (o : ArrayOperation) → ChangeOn g code d o → LeavesListed g array filled o → NamesUnlisted g array filled d
names_unlisted g array filled code d o h x =
    let block : o.block ≡ block_at g d.interface = h.block_is in
    record {
      below = subst (λ (k : ℕ). k < g.blocks) block x.below;
      unmarked = ap (λ (k : ℕ). is_marked g (block_in g array k)) (sym block) ∙ x.unmarked;
      uncarried = ap (is_carried g array) (sym block) ∙ x.uncarried;
      unlisted = λ u k f t.
          let row = ap (λ (a : List ℕ). block_in g a u) h.before_is in
          ap (λ (y : List ℕ). lists g y (block_at g d.interface)) (sym row)
          ∙ ap (lists g (block_in g o.before u)) (sym block)
          ∙ x.unlisted u k f (ap (is_table g) row ∙ t);
    }

leaves_each : (s : Setting) (array : List ℕ) (d : Device) (cycles : List Cycle) (started : List ArrayOperation) → Traced s.geometry (starts_in s d cycles) started → Legal s d cycles → LeftAlone s.geometry array (λ b. false) started → LeavesEach s array d cycles
leaves_each s array d cycles started h legal left xs ys code e k =
    let g = s.geometry in
    let at = run s d xs in
    let taken : (exec s at (command code)).interface.illegal ≡ 0 = (legal_rest s d xs (command code ∷ ys) (subst (Legal s d) e legal)).0 in
    let r = traced_at s d cycles started h xs ys code e (changes_confirm code k) taken in
    let b = left_at g array (λ c. false) r.earlier r.later r.operation (subst (LeftAlone g array (λ c. false)) r.started_is left) in
    let on : Each (OnChip g) r.earlier = each_left (OnChip g) r.earlier (r.operation ∷ r.later) (subst (Each (OnChip g)) r.started_is (left_on_chip g array (λ c. false) started left)) in
    let filled : since g array (λ c. false) r.earlier ≡ (λ (c : ℕ). programmed_by g c (starts_in s d xs)) =
    fun_ext (λ c. sym (programmed_traced g (starts_in s d xs) r.earlier r.earlier_traced on c)) in
    let here = start code at (fails_next s (exec s at (command code)) ys) in
    subst (λ (f : ℕ → Bool). NamesUnlisted g array f at) filled
    (⊎_elim (λ one. absurd (not_read code k (sym r.here.kind_is ∙ one)))
    (λ x. names_unlisted g array (since g array (λ c. false) r.earlier) code at r.operation (change_on g here r.operation r.here k x.below) x) b)

pub carries_cycles : (s : Setting) → Bytes s.mask → (d : Device) → Bytes d.array → (n : ℕ) (state : State) → LeavesEach s d.array (call_line d n).chip (sent_in (format_request s d n state))
carries_cycles s mask_bytes d bytes n state =
    leaves_each s d.array (call_line d n).chip (sent_in (format_request s d n state)) (started_in (format_request s d n state)) (sent_traced s mask_bytes d bytes n state) (legal_sent s mask_bytes d bytes n state)
    (format_carries s mask_bytes d bytes n state).left
