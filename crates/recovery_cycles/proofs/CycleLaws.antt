-- Demand 3, cycle by cycle: after every list of calls, each 10h and each D0h cycle of a further call has its operation in the
-- call's trace and spares bad blocks. Assumes nothing but the laws named.
use Prim.Native.Nat.{ℕ, suc, ◌<◌}
use mathlib.Core.Bool.{Bool, true, false, cond}
use mathlib.Core.List.{List, [], ◌∷◌, ◌++◌}
use mathlib.Core.Logic.{inl, inr, ⊎_elim}
use mathlib.Core.Path.{◌≡◌, refl, sym, ap, ap₂, subst, fun_ext, ◌∙◌}
use native.Mathlib.Omega.{arith}
use borrow.Author.Tests.{eq-eqb, eqb-true}
use borrow.Table.Steps.{cases}
use lib.Dec.{eqb}
use lib.ListN.{length, get_or}
use Rattle.bools.proofs.BoolLaws.{either, or_none, and_none}
use Rattle.geometry.specs.declared.Geometry.{Geometry}
use Rattle.chip_array.specs.Device.{Device, Setting, block_at}
use Rattle.chip.specs.Chip.{Cycle, exec, is_confirm}
use Rattle.chip.specs.Chip.Cycle.{command}
use Rattle.bus.specs.Line.{run, Legal}
use Rattle.chip_laws.proofs.ReplayLaws.{legal_rest}
use Rattle.bus_polling.specs.Outcomes.{is_failed}
use Rattle.operations.specs.Trace.{ArrayOperation}
use Rattle.copies.specs.Blocks.{block_in}
use Rattle.copies.specs.Current.{current_table}
use Rattle.copies.specs.Pick.{at}
use Rattle.copies.specs.Table.{lists}
use Rattle.state.specs.State.{none}
use Rattle.request.specs.Call.{result_with, Performed, unsent, sized_for, call_line, sent_in, started_in}
use Rattle.request_refusals.specs.Refusals.{refusal_of}
use Rattle.write_changes.specs.Changes.{Update, change_request, write_update, erase_update, write_request, erase_request, erase_refusal}
use Rattle.scan_summary.specs.declared.Depth.{Depth}
use Rattle.mount.specs.Mount.{mount_request}
use Rattle.read.specs.Reading.{copy_request, read_request}
use Rattle.identify.proofs.SentLaws.{identify_starts}
use Rattle.open_write.specs.Open.{is_opened}
use Rattle.open_write.specs.Requests.{OpenResult, beside, open_refusal, through, unless, open_read_request, open_write_request, open_erase_request, open_mount_request, open_identify_request, open_request, advance_request}
use Rattle.damage.specs.Run.{failed_in}
use Rattle.damage.specs.Touched.{Each, Some, first}
use Rattle.damage.proofs.EachLaws.{each_left, each_right, some_append_right}
use Rattle.damage.proofs.TraceLaws.{or_assoc}
use Rattle.recovery.specs.Calls.{Lent, Call, to_mount, to_read, to_write, to_erase, to_identify, to_open, to_advance, LineKept, Store, state_of, setting_of, cycles_of, trace_of, failed_after, chip_of, after, begun}
use Rattle.recovery_proof.specs.Sent.{Sends, SendsLegally}
use Rattle.recovery.specs.Recovery.{Always, SparesBad, SparedBy, Spared, Spares}
use Rattle.recovery_proof.proofs.OpenLaws.{admits}
use Rattle.recovery_proof.proofs.RecoveryLaws.{spares}
use Rattle.recovery_proof.proofs.SentLaws.{sends_legally}
use Rattle.recovery_cycles.specs.Starts.{takes, fails_next, start, Start, starts_at, starts_in, kind_of, StartedAt, Traced, Divided, TracedAt, failed_read, OnChip, Changes, ChangeOn, TracesEach}
use Rattle.recovery_cycles.specs.Spared.{OnlyReads, NamesGood, TracesCycles, SparesEach, starts_of, SparesCycles, FailsRead, ProtectedSends}
use Rattle.recovery_cycles.proofs.StartLaws.{starts_append}
use Rattle.recovery_cycles.proofs.TraceLaws.{first_traced, change_traced, advance_traced, mount_traced, page_traced}
use Rattle.recovery_cycles.proofs.ReadOnlyLaws.{mount_only_reads, page_only_reads, first_only_reads, changes_confirm, identify_only_reads, identify_starts_none, change_only_reads}

divided : (g : Geometry) (ts us : List Start) (t : Start) (os : List ArrayOperation) → Traced g (ts ++ (t ∷ us)) os → Divided g ts t os
unfolding Traced
divided g [] us t [] h = absurd h
divided g [] us t (o ∷ os) h = record { earlier = []; operation = o; later = os; started_is = refl; earlier_traced = tt; here = h.0 }
divided g (x ∷ ts) us t [] h = absurd h
divided g (x ∷ ts) us t (o ∷ os) h =
    let r = divided g ts us t os h.1 in
    record {
      earlier = o ∷ r.earlier;
      operation = r.operation;
      later = r.later;
      started_is = ap (λ (ps : List ArrayOperation). o ∷ ps) r.started_is;
      earlier_traced = (h.0, r.earlier_traced);
      here = r.here;
    }

-- a confirm cycle that the chip took has its operation in the trace
pub traced_at : (s : Setting) (d : Device) (cycles : List Cycle) (started : List ArrayOperation) → Traced s.geometry (starts_in s d cycles) started → (xs ys : List Cycle) (code : ℕ) → cycles ≡ xs ++ (command code ∷ ys) → is_confirm code ≡ true → (exec s (run s d xs) (command code)).interface.illegal ≡ 0 → TracedAt s d xs code ys started
unfolding starts_in starts_at takes fails_next
traced_at s d cycles started h xs ys code e c legal =
    let at = run s d xs in
    let here = start code at (fails_next s (exec s at (command code)) ys) in
    let passes : fails_next s at (command code ∷ ys) ≡ false = rw (c, eq-eqb _ _ legal) in
    let starts : starts_in s d cycles ≡ starts_in s d xs ++ (here ∷ starts_in s (exec s at (command code)) ys) =
    ap (starts_in s d) e ∙ starts_append s d xs (command code ∷ ys) passes ∙ rw (c, eq-eqb _ _ legal) in
    divided s.geometry (starts_in s d xs) (starts_in s (exec s at (command code)) ys) here started (subst (λ (ts : List Start). Traced s.geometry ts started) starts h)

-- an operation of a trace that spares bad blocks: by the blocks that failed before the trace and in it before the operation
spared_at : (g : Geometry) (marked failed : ℕ → Bool) (earlier : List ArrayOperation) (o : ArrayOperation) (later : List ArrayOperation) → Spared g marked failed (earlier ++ (o ∷ later)) → SparedBy g marked (failed_after failed earlier) o
unfolding Spared failed_in
spared_at g marked failed [] o later h =
    subst (λ (f : ℕ → Bool). SparedBy g marked f o) (fun_ext (λ b. sym (or_none (failed b)))) h.0
spared_at g marked failed (x ∷ earlier) o later h =
    let f : ℕ → Bool = λ b. cond (failed b) true (cond (eqb x.block b) (is_failed x.answer) false) in
    subst (λ (k : ℕ → Bool). SparedBy g marked k o)
    (fun_ext (λ b. or_assoc (failed b) (cond (eqb x.block b) (is_failed x.answer) false) (failed_in b earlier)))
    (spared_at g marked f earlier o later h.1)

pub not_read : (code : ℕ) → Changes code → kind_of code ≡ 1 → ⊥
unfolding kind_of
not_read code k z =
    ⊎_elim
    (λ e. let two : ◌≡◌ {A = ℕ} 2 1 = subst (λ (x : ℕ). kind_of x ≡ 1) e z in omega (arith, two))
    (λ e. let three : ◌≡◌ {A = ℕ} 3 1 = subst (λ (x : ℕ). kind_of x ≡ 1) e z in omega (arith, three))
    k

-- the operation of a 10h or D0h cycle, where it is of a block of the chip
pub change_on : (g : Geometry) (t : Start) (o : ArrayOperation) → StartedAt g t o → Changes t.code → o.block < g.blocks → ChangeOn g t.code t.chip o
change_on g t o h k below =
    record {
      kind_is = h.kind_is;
      before_is = h.before_is;
      block_is = ⊎_elim (λ e. (h.program_is e below).block_is) (λ e. h.erase_is e below) k;
      program_is = λ e. h.program_is e below;
    }

-- what is said of it holds on the chip just before its cycle
names_good : (g : Geometry) (marked failed : ℕ → Bool) (code : ℕ) (d : Device) (o : ArrayOperation) → ChangeOn g code d o → SparesBad g marked failed o → NamesGood g marked failed d
names_good g marked failed code d o h b =
    let block : o.block ≡ block_at g d.interface = h.block_is in
    let listed : lists g (block_in g d.array b.table) (block_at g d.interface) ≡ false =
    ap (λ (a : List ℕ). lists g (block_in g a b.table) (block_at g d.interface)) (sym h.before_is)
    ∙ ap (lists g (block_in g o.before b.table)) (sym block)
    ∙ b.unlisted in
    record {
      below = subst (λ (x : ℕ). x < g.blocks) block b.below;
      unmarked = ap marked (sym block) ∙ b.unmarked;
      table = b.table;
      table_is = ap (current_table g) (sym h.before_is) ∙ b.table_is;
      unlisted = listed;
      unfailed = ap failed (sym block) ∙ b.unfailed;
    }

-- a trace that spares bad blocks stays on the chip
spared_on_chip : (g : Geometry) (marked failed : ℕ → Bool) (os : List ArrayOperation) → Spared g marked failed os → Each (OnChip g) os
unfolding Spared Each
spared_on_chip g marked failed [] h = tt
spared_on_chip g marked failed (o ∷ os) h =
    (⊎_elim inl (λ x. inr x.below) h.0, spared_on_chip g marked (λ b. cond (failed b) true (cond (eqb o.block b) (is_failed o.answer) false)) os h.1)

kind_read : (code : ℕ) → kind_of code ≡ 1 → code ≡ 48
unfolding kind_of
kind_read code h =
    cases (eqb code 48) (λ t. eqb-true code 48 t)
    (λ t. cases (eqb code 16)
    (λ u. let two : ◌≡◌ {A = ℕ} 2 1 = rw (t, u) at h in absurd (omega (arith, two)))
    (λ u. let three : ◌≡◌ {A = ℕ} 3 1 = rw (t, u) at h in absurd (omega (arith, three))))

-- E1h was read for the block of an operation exactly if it failed
one_failed : (g : Geometry) (t : Start) (o : ArrayOperation) → StartedAt g t o → OnChip g o → (b : ℕ) → cond (eqb (block_at g t.chip.interface) b) t.failed false ≡ cond (eqb o.block b) (is_failed o.answer) false
unfolding is_confirm
one_failed g t o h on b =
    let none : t.code ≡ 48 → cond (eqb (block_at g t.chip.interface) b) t.failed false ≡ cond (eqb o.block b) (is_failed o.answer) false =
    λ e.
    ap (λ (x : Bool). cond (eqb (block_at g t.chip.interface) b) x false) (h.read_unfailed e) ∙ and_none (eqb (block_at g t.chip.interface) b)
    ∙ sym (ap (λ (x : Bool). cond (eqb o.block b) x false) (h.failed_is ∙ h.read_unfailed e) ∙ and_none (eqb o.block b)) in
    let same : o.block ≡ block_at g t.chip.interface → cond (eqb (block_at g t.chip.interface) b) t.failed false ≡ cond (eqb o.block b) (is_failed o.answer) false =
    λ e. ap₂ (λ (k : ℕ) (x : Bool). cond (eqb k b) x false) (sym e) (sym h.failed_is) in
    ⊎_elim (λ one. none (kind_read t.code (sym h.kind_is ∙ one)))
    (λ below.
    either (eqb t.code 48) _ _ (λ e. none (eqb-true _ _ e))
    (λ x. either (eqb t.code 16) _ _ (λ e. same (h.program_is (eqb-true _ _ e) below).block_is) (λ e. same (h.erase_is (eqb-true _ _ e) below)) x)
    h.confirms)
    on

pub failed_traced : (g : Geometry) (ts : List Start) (os : List ArrayOperation) → Traced g ts os → Each (OnChip g) os → (b : ℕ) → failed_read g b ts ≡ failed_in b os
unfolding Traced Each failed_read failed_in
failed_traced g [] [] h on b = refl
failed_traced g [] (o ∷ os) h on b = absurd h
failed_traced g (t ∷ ts) [] h on b = absurd h
failed_traced g (t ∷ ts) (o ∷ os) h on b =
    ap₂ (λ (x y : Bool). cond x true y) (one_failed g t o h.0 on.0 b) (failed_traced g ts os h.1 on.1 b)

-- a request whose cycles are legal, and whose trace has the operations that they start and stays on the chip
pub traces_each : (s : Setting) (d : Device) (cycles : List Cycle) (started : List ArrayOperation) → Traced s.geometry (starts_in s d cycles) started → Legal s d cycles → Each (OnChip s.geometry) started → TracesEach s d cycles started
unfolding Each
traces_each s d cycles started h legal on xs ys code e k =
    let g = s.geometry in
    let at = run s d xs in
    let taken : (exec s at (command code)).interface.illegal ≡ 0 = (legal_rest s d xs (command code ∷ ys) (subst (Legal s d) e legal)).0 in
    let r = traced_at s d cycles started h xs ys code e (changes_confirm code k) taken in
    let this : OnChip g r.operation = (each_right (OnChip g) r.earlier (r.operation ∷ r.later) (subst (Each (OnChip g)) r.started_is on)).0 in
    let here : ChangeOn g code at r.operation =
    ⊎_elim (λ one. absurd (not_read code k (sym r.here.kind_is ∙ one)))
    (λ below. change_on g (start code at (fails_next s (exec s at (command code)) ys)) r.operation r.here k below) this in
    subst (Some (ChangeOn g code at)) (sym r.started_is) (some_append_right r.earlier (first here))

-- and spares bad blocks
pub spares_each : (s : Setting) (marked failed : ℕ → Bool) (d : Device) (cycles : List Cycle) (started : List ArrayOperation) → Traced s.geometry (starts_in s d cycles) started → Legal s d cycles → Spared s.geometry marked failed started → SparesEach s marked failed d cycles
spares_each s marked failed d cycles started h legal spared xs ys code e k =
    let g = s.geometry in
    let at = run s d xs in
    let taken : (exec s at (command code)).interface.illegal ≡ 0 = (legal_rest s d xs (command code ∷ ys) (subst (Legal s d) e legal)).0 in
    let r = traced_at s d cycles started h xs ys code e (changes_confirm code k) taken in
    let b = spared_at g marked failed r.earlier r.operation r.later (subst (Spared g marked failed) r.started_is spared) in
    let on : Each (OnChip g) r.earlier = each_left (OnChip g) r.earlier (r.operation ∷ r.later) (subst (Each (OnChip g)) r.started_is (spared_on_chip g marked failed started spared)) in
    let failures : failed_after failed r.earlier ≡ (λ (c : ℕ). cond (failed c) true (failed_read g c (starts_in s d xs))) =
    fun_ext (λ c. ap (cond (failed c) true) (sym (failed_traced g (starts_in s d xs) r.earlier r.earlier_traced on c))) in
    let here = start code at (fails_next s (exec s at (command code)) ys) in
    subst (λ (f : ℕ → Bool). NamesGood g marked f at) failures
    (⊎_elim (λ one. absurd (not_read code k (sym r.here.kind_is ∙ one))) (λ x. names_good g marked (failed_after failed r.earlier) code at r.operation (change_on g here r.operation r.here k x.below) x) b)

-- no cycle is in a list without one
none_there : {P : Type 0} (xs ys : List Cycle) (c : Cycle) → [] ≡ xs ++ (c ∷ ys) → P
none_there [] ys c e = absurd (let n : 0 ≡ suc (length ys) = ap length e in omega (arith, n))
none_there (x ∷ xs) ys c e = absurd (let n : 0 ≡ suc (length (xs ++ (c ∷ ys))) = ap length e in omega (arith, n))

-- the trace of every call of any store has the operations that its confirm cycles start
module _ (g : Geometry) (y : Store) (a : Lent) (u : Update) (refused : ℕ) where
  -- a write or an erase, refused while a write is open
  abbrev changing : Performed OpenResult
  changing =
      unless (open_refusal g (sized_for (setting_of g a) (chip_of a y.chip)) (state_of y) (is_opened (state_of y))) (state_of y) (chip_of a y.chip)
      (through (beside (state_of y)) (cond (eqb refused 0) (change_request (setting_of g a) (chip_of a y.chip) a.allowed y.state u) (unsent (result_with refused y.state (chip_of a y.chip) 0))))

  changing_traced : Traced g (starts_in (setting_of g a) (call_line (chip_of a y.chip) a.allowed).chip (sent_in changing)) (started_in changing)
  unfolding sent_in started_in starts_in Traced
  changing_traced =
      cases (eqb (open_refusal g (sized_for (setting_of g a) (chip_of a y.chip)) (state_of y) (is_opened (state_of y))) 0)
      (λ o. cases (eqb refused 0) (λ t. rw (o, t) (change_traced (setting_of g a) (chip_of a y.chip) a.allowed y.state u)) (λ f. rw (o, f) tt))
      (λ o. rw o tt)

  -- with the write-protect line low it sends no 80h, 60h, 10h or D0h
  changing_sends : (a.protected ≡ 0 → ⊥) → OnlyReads (sent_in changing)
  unfolding sent_in
  changing_sends low xs ys code e k =
      cases (eqb (open_refusal g (sized_for (setting_of g a) (chip_of a y.chip)) (state_of y) (is_opened (state_of y))) 0)
      (λ o.
      cases (eqb refused 0)
      (λ t. change_only_reads (setting_of g a) (chip_of a y.chip) a.allowed low y.state u xs ys code (rw (o, t) at e) k)
      (λ f. none_there xs ys (command code) (rw (o, f) at e)))
      (λ o. none_there xs ys (command code) (rw o at e))

pub call_traced : (g : Geometry) (c : Call) (y : Store) → Traced g (starts_of g c y) (trace_of g c y)
unfolding sent_in started_in open_mount_request open_read_request open_write_request open_erase_request open_identify_request open_request advance_request mount_request read_request copy_request write_request erase_request starts_in Traced
call_traced g (to_mount depth a) y =
    cases (sized_for (setting_of g a) (chip_of a y.chip)) (λ t. rw t (mount_traced (setting_of g a) (chip_of a y.chip) a.allowed depth)) (λ f. rw f tt)
call_traced g (to_read a logical page buffer) y =
    cases (eqb (open_refusal g (sized_for (setting_of g a) (chip_of a y.chip)) (state_of y) false) 0)
    (λ o.
    cases (eqb (refusal_of (setting_of g a) (chip_of a y.chip) y.state logical page buffer) 0)
    (λ t. cases (eqb (get_or y.state.map logical 0) none) (λ u. rw (o, t, u) tt)
    (λ u. rw (o, t, u) (page_traced (setting_of g a) (chip_of a y.chip) a.allowed (get_or y.state.map logical 0) page)))
    (λ f. rw (o, f) tt))
    (λ o. rw o tt)
call_traced g (to_write a logical page bytes) y =
    changing_traced g y a (write_update y.state logical page bytes) (refusal_of (setting_of g a) (chip_of a y.chip) y.state logical page bytes)
call_traced g (to_erase a logical) y =
    changing_traced g y a (erase_update logical) (erase_refusal (setting_of g a) (chip_of a y.chip) y.state logical)
call_traced g (to_identify a parameters logical) y =
    rw (identify_starts_none a.mask a.fates (chip_of a y.chip) a.allowed y.state parameters logical (setting_of g a) (call_line (chip_of a y.chip) a.allowed).chip, identify_starts a.mask a.fates (chip_of a y.chip) a.allowed y.state parameters logical) tt
call_traced g (to_open a logical page bytes) y =
    cases (eqb (open_refusal g (sized_for (setting_of g a) (chip_of a y.chip)) (state_of y) (is_opened (state_of y))) 0)
    (λ o.
    cases (eqb (refusal_of (setting_of g a) (chip_of a y.chip) y.state logical page bytes) 0)
    (λ t. rw (o, t) (first_traced (setting_of g a) (chip_of a y.chip) a.allowed).1)
    (λ f. rw (o, f) tt))
    (λ o. rw o tt)
call_traced g (to_advance a most) y =
    cases (eqb (open_refusal g (sized_for (setting_of g a) (chip_of a y.chip)) (state_of y) (eqb y.write.opened 0)) 0)
    (λ o. rw o (advance_traced (setting_of g a) (chip_of a y.chip) a.allowed _ _ most _))
    (λ o. rw o tt)

-- mounts, reads, calls that ask for the chip's size and openings, of any store, send no 80h, 60h, 10h or D0h
pub mount_sends : (g : Geometry) (y : Store) (depth : Depth) (a : Lent) → OnlyReads (cycles_of g (to_mount depth a) y)
unfolding sent_in open_mount_request mount_request
mount_sends g y depth a xs ys code e k =
    cases (sized_for (setting_of g a) (chip_of a y.chip))
    (λ t. mount_only_reads (setting_of g a) depth (call_line (chip_of a y.chip) a.allowed) xs ys code (rw t at e) k)
    (λ f. none_there xs ys (command code) (rw f at e))

pub read_sends_lem : (g : Geometry) (y : Store) (a : Lent) (logical page : ℕ) (buffer : List ℕ) → OnlyReads (cycles_of g (to_read a logical page buffer) y)
unfolding sent_in open_read_request read_request copy_request
read_sends_lem g y a logical page buffer xs ys code e k =
    let s = setting_of g a in
    cases (eqb (open_refusal g (sized_for s (chip_of a y.chip)) (state_of y) false) 0)
    (λ o.
    cases (eqb (refusal_of s (chip_of a y.chip) y.state logical page buffer) 0)
    (λ t. cases (eqb (get_or y.state.map logical 0) none)
    (λ u. none_there xs ys (command code) (rw (o, t, u) at e))
    (λ u. page_only_reads s (chip_of a y.chip) a.allowed (get_or y.state.map logical 0) page xs ys code (rw (o, t, u) at e) k))
    (λ f. none_there xs ys (command code) (rw (o, f) at e)))
    (λ o. none_there xs ys (command code) (rw o at e))

pub identify_sends : (g : Geometry) (y : Store) (a : Lent) (parameters : List ℕ) (logical : ℕ) → OnlyReads (cycles_of g (to_identify a parameters logical) y)
unfolding sent_in open_identify_request
identify_sends g y a parameters logical = identify_only_reads a.mask a.fates (chip_of a y.chip) a.allowed y.state parameters logical

pub open_sends : (g : Geometry) (y : Store) (a : Lent) (logical page : ℕ) (bytes : List ℕ) → OnlyReads (cycles_of g (to_open a logical page bytes) y)
unfolding sent_in open_request
open_sends g y a logical page bytes xs ys code e k =
    let s = setting_of g a in
    cases (eqb (open_refusal g (sized_for s (chip_of a y.chip)) (state_of y) (is_opened (state_of y))) 0)
    (λ o.
    cases (eqb (refusal_of s (chip_of a y.chip) y.state logical page bytes) 0)
    (λ t. first_only_reads s (chip_of a y.chip) a.allowed xs ys code (rw (o, t) at e) k)
    (λ f. none_there xs ys (command code) (rw (o, f) at e)))
    (λ o. none_there xs ys (command code) (rw o at e))

-- an advance with the line low is refused, since none is open
advance_sends : (g : Geometry) (y : Store) (a : Lent) (most : ℕ) → LineKept (to_advance a most) y → (a.protected ≡ 0 → ⊥) → OnlyReads (cycles_of g (to_advance a most) y)
unfolding sent_in advance_request
advance_sends g y a most kept low xs ys code e k =
    let refused = open_refusal g (sized_for (setting_of g a) (chip_of a y.chip)) (state_of y) (eqb y.write.opened 0) in
    cases (eqb refused 0)
    (λ o.
    let shut = (admits g (sized_for (setting_of g a) (chip_of a y.chip)) (state_of y) (eqb y.write.opened 0) (eqb-true refused 0 o)).unbarred in
    absurd (low (kept (rw shut))))
    (λ o. none_there xs ys (command code) (rw o at e))

pub protected_sends : (g : Geometry) (y : Store) → ProtectedSends g y
unfolding open_write_request open_erase_request write_request erase_request
protected_sends g y (to_mount depth a) kept low = mount_sends g y depth a
protected_sends g y (to_read a logical page buffer) kept low = read_sends_lem g y a logical page buffer
protected_sends g y (to_write a logical page bytes) kept low =
    changing_sends g y a (write_update y.state logical page bytes) (refusal_of (setting_of g a) (chip_of a y.chip) y.state logical page bytes) low
protected_sends g y (to_erase a logical) kept low =
    changing_sends g y a (erase_update logical) (erase_refusal (setting_of g a) (chip_of a y.chip) y.state logical) low
protected_sends g y (to_identify a parameters logical) kept low = identify_sends g y a parameters logical
protected_sends g y (to_open a logical page bytes) kept low = open_sends g y a logical page bytes
protected_sends g y (to_advance a most) kept low = advance_sends g y a most kept low

-- each cycle of a call is legal
sends_legal : {s : Setting} {d : Device} {n : ℕ} {cs : List Cycle} {left : Device} {sent : ℕ} → Sends s d n cs left sent → Legal s (call_line d n).chip cs
sends_legal {s} {d} {n} x =
    ⊎_elim (λ e. subst (Legal s (call_line d n).chip) (sym e.0) tt) (λ e. e.each_legal) x.leads

module _ (g : Geometry) (y : Store) where
  calls_spare : Spares g y → SendsLegally g y → SparesCycles g y
  calls_spare sp w (to_mount depth a) t = λ xs ys code e k. absurd (mount_sends g y depth a xs ys code e (inr (inr k)))
  calls_spare sp w (to_read a logical page buffer) t = λ xs ys code e k. absurd (read_sends_lem g y a logical page buffer xs ys code e (inr (inr k)))
  calls_spare sp w (to_write a logical page bytes) t =
      let c = to_write a logical page bytes in
      spares_each (setting_of g a) y.marked y.failed (call_line (chip_of a y.chip) a.allowed).chip (cycles_of g c y) (trace_of g c y) (call_traced g c y) (sends_legal (w c t)) (sp c t)
  calls_spare sp w (to_erase a logical) t =
      let c = to_erase a logical in
      spares_each (setting_of g a) y.marked y.failed (call_line (chip_of a y.chip) a.allowed).chip (cycles_of g c y) (trace_of g c y) (call_traced g c y) (sends_legal (w c t)) (sp c t)
  calls_spare sp w (to_identify a parameters logical) t = λ xs ys code e k. absurd (identify_sends g y a parameters logical xs ys code e (inr (inr k)))
  calls_spare sp w (to_open a logical page bytes) t = λ xs ys code e k. absurd (open_sends g y a logical page bytes xs ys code e (inr (inr k)))
  calls_spare sp w (to_advance a most) t =
      let c = to_advance a most in
      spares_each (setting_of g a) y.marked y.failed (call_line (chip_of a y.chip) a.allowed).chip (cycles_of g c y) (trace_of g c y) (call_traced g c y) (sends_legal (w c t)) (sp c t)

  calls_trace : Spares g y → SendsLegally g y → TracesCycles g y
  calls_trace sp w (to_mount depth a) t = λ xs ys code e k. absurd (mount_sends g y depth a xs ys code e (inr (inr k)))
  calls_trace sp w (to_read a logical page buffer) t = λ xs ys code e k. absurd (read_sends_lem g y a logical page buffer xs ys code e (inr (inr k)))
  calls_trace sp w (to_write a logical page bytes) t =
      let c = to_write a logical page bytes in
      traces_each (setting_of g a) (call_line (chip_of a y.chip) a.allowed).chip (cycles_of g c y) (trace_of g c y) (call_traced g c y) (sends_legal (w c t)) (spared_on_chip g y.marked y.failed (trace_of g c y) (sp c t))
  calls_trace sp w (to_erase a logical) t =
      let c = to_erase a logical in
      traces_each (setting_of g a) (call_line (chip_of a y.chip) a.allowed).chip (cycles_of g c y) (trace_of g c y) (call_traced g c y) (sends_legal (w c t)) (spared_on_chip g y.marked y.failed (trace_of g c y) (sp c t))
  calls_trace sp w (to_identify a parameters logical) t = λ xs ys code e k. absurd (identify_sends g y a parameters logical xs ys code e (inr (inr k)))
  calls_trace sp w (to_open a logical page bytes) t = λ xs ys code e k. absurd (open_sends g y a logical page bytes xs ys code e (inr (inr k)))
  calls_trace sp w (to_advance a most) t =
      let c = to_advance a most in
      traces_each (setting_of g a) (call_line (chip_of a y.chip) a.allowed).chip (cycles_of g c y) (trace_of g c y) (call_traced g c y) (sends_legal (w c t)) (spared_on_chip g y.marked y.failed (trace_of g c y) (sp c t))

pub traces_cycles : Always TracesCycles
traces_cycles g a d x m h k z es t =
    calls_trace g _ (spares g a d x m h k z es t) (sends_legally g a d x m h k z es t)

pub spares_cycles : Always SparesCycles
spares_cycles g a d x m h k z es t =
    calls_spare g _ (spares g a d x m h k z es t) (sends_legally g a d x m h k z es t)

pub sends_no_change : Always ProtectedSends
sends_no_change g a d x m h k z es t = protected_sends g (after g es (begun g a d x))

pub fails_read : Always FailsRead
fails_read g a d x m h k z es t c callable b =
    sym (failed_traced g _ _ (call_traced g c _) (spared_on_chip g _ _ _ (spares g a d x m h k z es t c callable)) b)
