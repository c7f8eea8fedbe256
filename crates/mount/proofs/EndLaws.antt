-- The ends of a mount: an operation that did not pass, a refusal, a mounted state; and the cycles left. Assumes nothing.
use Prim.Native.Nat.{ℕ, ◌≤◌}
use mathlib.Core.Bool.{true, false}
use mathlib.Core.List.{List, []}
use mathlib.Core.Path.{◌≡◌, refl, sym, ap, ap₂, ◌∙◌}
use native.Mathlib.Nat.{add-zero}
use native.Mathlib.Omega.{arith}
use borrow.Table.Steps.{cases}
use borrow.Author.Tests.{eq-eqb, ne_eqb}
use lib.ListN.{length, replicate, length-replicate}
use Rattle.geometry.specs.declared.Geometry.{Geometry}
use Rattle.geometry.specs.Limits.{Valid}
use Rattle.geometry.specs.Sizes.{chip_size}
use Rattle.chip_array.specs.Device.{Device, Setting}
use Rattle.bus.specs.Line.{Line}
use Rattle.bus_polling.specs.Outcomes.{is_passed}
use Rattle.bus_polling.specs.declared.Outcome.{Outcome}
use Rattle.bus_polling.specs.declared.Outcome.TheVariants.{Passed}
use Rattle.copies.specs.Current.{mount_answer}
use Rattle.state.specs.State.{blank}
use Rattle.state.specs.declared.State.{State}
use Rattle.scan_summary.specs.declared.Depth.{Depth}
use Rattle.scan_found.specs.Contents.{Contents, contents, contents_to}
use Rattle.scan_found.specs.Found.{found_to}
use Rattle.scan_found.specs.declared.Found.{Found}
use Rattle.progress.specs.Progress.{Progress, progress}
use Rattle.scan.specs.Scan.{blocks_read}
use Rattle.scan.proofs.ChipLaws.{blocks_stopped}
use Rattle.request.proofs.StartLaws.{Stops}
use Rattle.scan.proofs.KeepLaws.{blocks_keep}
use Rattle.progress.proofs.CountLaws.{allowance_kept}
use Rattle.request.specs.Call.{sized_for, end_at, stop_answer, result_of}
use Rattle.request.specs.Start.{started}
use Rattle.mount_judge.specs.Judging.{judged_by, state_of}
use Rattle.mount.specs.Mount.{mount_end, state_after, state_by, mount_request, mounting}
use Rattle.mount.proofs.MountLaws.{judge_is, state_is}

-- a scan leaves no more cycles than it found
pub scan_left : (depth : Depth) (s : Setting) (l m : Line) (n : ℕ) → m ≡ (blocks_read depth s n (progress l Passed [] [])).line → m.left ≤ l.left
scan_left depth s l m n e =
    let count = blocks_keep depth s _ (allowance_kept s _) n (progress l Passed [] []) refl in
    omega (arith, count, ap (λ (x : Line). x.left) e)

-- a request that has come to line m with outcome o
module _ (depth : Depth) (s : Setting) (n : ℕ) (p : Progress) (m : Line) (o : Outcome) (e : m ≡ p.line) (q : o ≡ p.outcome) where
  pub stopped_end : (a : ℕ) (st : State) → is_passed o ≡ false → a ≡ stop_answer o → st ≡ blank 2 → end_at n a st m ≡ mount_end depth s n p
  unfolding mount_end
  stopped_end a st f h k =
      let stops : is_passed p.outcome ≡ false = sym (ap is_passed q) ∙ f in
      let all : end_at n a st m ≡ end_at n (stop_answer p.outcome) (blank 2) p.line = λ i. end_at n ((h ∙ ap stop_answer q) i) (k i) (e i) in
      rw stops all

  module _ (t : is_passed o ≡ true) (a : ℕ) (h : a ≡ mount_answer s.geometry m.chip.array) where
    decided : end_at n (mount_answer s.geometry p.line.chip.array) (state_after depth s.geometry p.line.chip.array (mount_answer s.geometry p.line.chip.array)) p.line ≡ mount_end depth s n p
    unfolding mount_end
    decided =
        let goes : is_passed p.outcome ≡ true = sym (ap is_passed q) ∙ t in
        rw goes

    answer_is : a ≡ mount_answer s.geometry p.line.chip.array
    answer_is = h ∙ ap (λ (x : Line). mount_answer s.geometry x.chip.array) e

    refused_state : (a ≡ 0 → ⊥) → blank 0 ≡ state_after depth s.geometry p.line.chip.array (mount_answer s.geometry p.line.chip.array)
    unfolding state_after
    refused_state z = rw (ne_eqb (mount_answer s.geometry p.line.chip.array) 0 (λ x. z (answer_is ∙ x)))

    mounted_state_is : a ≡ 0 → state_by depth s.geometry m.chip.array ≡ state_after depth s.geometry p.line.chip.array (mount_answer s.geometry p.line.chip.array)
    unfolding state_after
    mounted_state_is z =
        rw (eq-eqb (mount_answer s.geometry p.line.chip.array) 0 (sym answer_is ∙ z))
        (ap (λ (x : Line). state_by depth s.geometry x.chip.array) e)

    pub refused_end : (st : State) → (a ≡ 0 → ⊥) → st ≡ blank 0 → end_at n a st m ≡ mount_end depth s n p
    refused_end st z k =
        let all : end_at n a st m ≡ end_at n (mount_answer s.geometry p.line.chip.array) (state_after depth s.geometry p.line.chip.array (mount_answer s.geometry p.line.chip.array)) p.line =
        λ i. end_at n (answer_is i) ((k ∙ refused_state z) i) (e i) in
        all ∙ decided

    pub mounted_end : (st : State) → a ≡ 0 → st ≡ state_by depth s.geometry m.chip.array → end_at n 0 st m ≡ mount_end depth s n p
    mounted_end st z k =
        let all : end_at n 0 st m ≡ end_at n (mount_answer s.geometry p.line.chip.array) (state_after depth s.geometry p.line.chip.array (mount_answer s.geometry p.line.chip.array)) p.line =
        λ i. end_at n ((sym z ∙ answer_is) i) ((k ∙ mounted_state_is z) i) (e i) in
        all ∙ decided

-- what was found in a scan of the array, and the array as it is afterwards
module _ (depth : Depth) (g : Geometry) (v : Valid g) (array after : List ℕ) (long : length array ≡ chip_size g) (same : after ≡ array) (found : Found) (c : Contents) (f : found ≡ found_to depth g array g.blocks)
    (e : c ≡ contents_to depth g array (contents (replicate 4096 0) (replicate 4096 0) (replicate 4096 0)) g.blocks) where
  pub answer_found : judged_by g found c ≡ mount_answer g after
  answer_found = ap₂ (judged_by g) f e ∙ judge_is depth g v array long ∙ ap (mount_answer g) (sym same)

  pub state_found : mount_answer g after ≡ 0 → state_of g found c ≡ state_by depth g after
  state_found z =
      ap₂ (state_of g) f e ∙ state_is depth g v array long (ap (mount_answer g) (sym same) ∙ z) ∙ ap (state_by depth g) (sym same)

-- the buffers for what is found
pub room : (n : ℕ) → n ≤ 4096 → n ≤ length (replicate {A = ℕ} 4096 0)
room n h = omega (arith, h, length-replicate {A = ℕ} 4096 0)

-- a mount ends at the operation that did not pass
pub mount-stops : (depth : Depth) (s : Setting) (n : ℕ) → Stops n (λ p. mount_end depth s n (blocks_read depth s s.geometry.blocks p))
unfolding mount_end blocks_read
mount-stops depth s n p f =
    let same : blocks_read depth s s.geometry.blocks p ≡ p = sym (ap (λ (x : ℕ). blocks_read depth s x p) (add-zero s.geometry.blocks)) ∙ blocks_stopped depth s 0 p f s.geometry.blocks in
    ap (mount_end depth s n) same ∙ rw f

-- the request, told by how every request that resets the chip begins
pub mount-started : (depth : Depth) (s : Setting) (d : Device) (n : ℕ) (state : State) → started s d n state (λ p. mount_end depth s n (blocks_read depth s s.geometry.blocks p)) ≡ mounting depth s d n state
unfolding result_of mount_request
mount-started depth s d n state = cases (sized_for s d) (λ t. rw t) (λ f. rw f)
