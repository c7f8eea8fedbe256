-- A state with its open write that was stored is loaded as it was. Assumes nothing.
use Prim.Native.Nat.{ℕ, ◌<◌, ◌^◌}
use mathlib.Core.Bool.{Bool, true, false}
use mathlib.Core.List.{List, ◌++◌, append_assoc}
use mathlib.Core.Path.{◌≡◌, ap, ap₂, ◌∙◌}
use native.Mathlib.Omega.{arith}
use lib.ListN.{length, take, drop, replicate, length-replicate}
use lib.Seq.{take_at, drop_at, take_all}
use Rattle.cells.specs.Part.{part}
use Rattle.pages.specs.Layout.{bytes_of, number_of}
use Rattle.pages.proofs.LayoutLaws.{number_of-bytes_of, length-bytes_of}
use Rattle.c_state.specs.StateBytes.{state_length, state_bytes, bytes_state, Ranged}
use Rattle.c_state.proofs.RoundLaws.{piece, load_stored, stored-long}
use Rattle.state.specs.declared.State.{State}
use Rattle.open_write.specs.declared.OpenWrite.{OpenWrite}
use Rattle.open_write.specs.Open.{OpenState, open_state, no_write}
use Rattle.c_open.specs.OpenBytes.{write_bytes, open_bytes, bytes_write, bytes_open, left_open, WordsRanged}

pub load_open : (x : OpenState) → Ranged x.state → WordsRanged x.write → length x.page ≡ 4096 → bytes_open (open_bytes x) ≡ x
unfolding open_bytes write_bytes bytes_write
load_open x r f page-long =
    let w = x.write in
    let xs : List ℕ = open_bytes x in
    let base : List ℕ = state_bytes x.state in
    let long = stored-long x.state r in
    let kinds : List ℕ = x.state.kinds in
    let t10 : List ℕ = x.page ++ kinds in
    let t9 : List ℕ = bytes_of 8 w.failed ++ t10 in
    let t8 : List ℕ = bytes_of 8 w.page ++ t9 in
    let t7 : List ℕ = bytes_of 8 w.number ++ t8 in
    let t6 : List ℕ = bytes_of 8 w.block ++ t7 in
    let t5 : List ℕ = bytes_of 8 w.old ++ t6 in
    let t4 : List ℕ = bytes_of 8 w.first ++ t5 in
    let t3 : List ℕ = bytes_of 8 w.logical ++ t4 in
    let t2 : List ℕ = bytes_of 8 w.step ++ t3 in
    let t1 : List ℕ = bytes_of 8 w.phase ++ t2 in
    let t0 : List ℕ = bytes_of 8 w.opened ++ t1 in
    let words : write_bytes w ++ t10 ≡ t0 = simp append_assoc in
    let rest : drop 9248 xs ≡ t0 = drop_at base (write_bytes w ++ t10) 9248 long ∙ words in
    let number : (n : ℕ) (k : ℕ) → n < 2 ^ 64 → part k 8 xs ≡ bytes_of 8 n → number_of (part k 8 xs) ≡ n = λ n k h e. ap number_of e ∙ number_of-bytes_of 8 n h in
    let p1 = piece 9248 8 (bytes_of 8 w.opened) t1 xs (length-bytes_of 8 w.opened) rest in
    let p2 = piece 9256 8 (bytes_of 8 w.phase) t2 xs (length-bytes_of 8 w.phase) p1.1 in
    let p3 = piece 9264 8 (bytes_of 8 w.step) t3 xs (length-bytes_of 8 w.step) p2.1 in
    let p4 = piece 9272 8 (bytes_of 8 w.logical) t4 xs (length-bytes_of 8 w.logical) p3.1 in
    let p5 = piece 9280 8 (bytes_of 8 w.first) t5 xs (length-bytes_of 8 w.first) p4.1 in
    let p6 = piece 9288 8 (bytes_of 8 w.old) t6 xs (length-bytes_of 8 w.old) p5.1 in
    let p7 = piece 9296 8 (bytes_of 8 w.block) t7 xs (length-bytes_of 8 w.block) p6.1 in
    let p8 = piece 9304 8 (bytes_of 8 w.number) t8 xs (length-bytes_of 8 w.number) p7.1 in
    let p9 = piece 9312 8 (bytes_of 8 w.page) t9 xs (length-bytes_of 8 w.page) p8.1 in
    let p10 = piece 9320 8 (bytes_of 8 w.failed) t10 xs (length-bytes_of 8 w.failed) p9.1 in
    let p11 = piece 9328 4096 x.page kinds xs page-long p10.1 in
    let last : part 13424 4096 xs ≡ kinds = ap (take 4096) p11.1 ∙ take_all 4096 kinds (omega (arith, r.kinds_long)) in
    let state = ap₂ bytes_state (take_at base (write_bytes w ++ t10) state_length long) last ∙ load_stored x.state r in
    λ i. open_state (state i) (record {
      opened = number w.opened 9248 f.opened_fits p1.0 i;
      phase = number w.phase 9256 f.phase_fits p2.0 i;
      step = number w.step 9264 f.step_fits p3.0 i;
      logical = number w.logical 9272 f.logical_fits p4.0 i;
      first = number w.first 9280 f.first_fits p5.0 i;
      old = number w.old 9288 f.old_fits p6.0 i;
      block = number w.block 9296 f.block_fits p7.0 i;
      number = number w.number 9304 f.number_fits p8.0 i;
      page = number w.page 9312 f.page_fits p9.0 i;
      failed = number w.failed 9320 f.failed_fits p10.0 i;
    }) (p11.0 i)

-- one that stays, or that is given up
none_ranged : WordsRanged no_write
none_ranged =
    record { opened_fits = omega arith; phase_fits = omega arith; step_fits = omega arith; logical_fits = omega arith; first_fits = omega arith; old_fits = omega arith; block_fits = omega arith; number_fits = omega arith; page_fits = omega arith; failed_fits = omega arith }

pub load-left : (gone : Bool) (st : State) (w : OpenWrite) (page : List ℕ) → Ranged st → WordsRanged w → length page ≡ 4096 → bytes_open (open_bytes (left_open gone st w page)) ≡ left_open gone st w page
load-left true st w page r f long = load_open (open_state st no_write (replicate (length page) 0)) r none_ranged (length-replicate (length page) 0 ∙ long)
load-left false st w page r f long = load_open (open_state st w page) r f long
