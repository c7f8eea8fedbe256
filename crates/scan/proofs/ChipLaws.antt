-- The scan of the chip on its way: where each block leaves it, and what was found. Assumes nothing.
use Prim.Native.Nat.{ℕ, zero, suc, ◌+◌, ◌-◌, ◌≤◌, ◌<◌}
use mathlib.Core.Bool.{true, false}
use mathlib.Core.List.{List}
use mathlib.Core.Path.{◌≡◌, refl, sym, ap, subst, ◌∙◌}
use native.Mathlib.Nat.{zero-add}
use native.Mathlib.Numerals.{add-one}
use native.Mathlib.Omega.{arith}
use Rattle.chip_array.specs.Device.{Setting}
use Rattle.chip.specs.Chip.{Cycle}
use Rattle.bus.specs.Line.{Line}
use Rattle.bus_polling.specs.Outcomes.{is_passed}
use Rattle.bus_polling.specs.declared.Outcome.{Outcome}
use Rattle.bus_polling.specs.declared.Outcome.TheVariants.{Passed}
use Rattle.operations.specs.Ends.{Called}
use Rattle.operations.specs.Trace.{ArrayOperation}
use Rattle.copies.specs.Blocks.{block_in, is_complete}
use Rattle.scan_summary.specs.Summary.{says_complete}
use Rattle.scan_summary.specs.declared.Depth.{Depth}
use Rattle.scan_summary.specs.declared.Summary.{Summary}
use Rattle.scan_summary.proofs.DepthLaws.{says_complete_fact}
use Rattle.scan_found.proofs.FoundLaws.{note-right}
use Rattle.scan_found.specs.Contents.{Contents, copy_noted, contents_to}
use Rattle.scan_found.specs.Found.{blank_found, noted, found_to, summary_at, right_at, bits_at}
use Rattle.scan_found.specs.declared.Found.{Found}
use Rattle.progress.specs.Progress.{Progress, progress}
use Rattle.scan_block.specs.Gathered.{Ran}
use Rattle.scan_quick.specs.BlockRead.{block_read}
use Rattle.scan.specs.Scan.{blocks_read}
use Rattle.scan_quick.proofs.BlockKeepLaws.{block_stopped}
use Rattle.progress.proofs.ReadOnLaws.{same_progress}

-- once a block's scan has not passed no further one is scanned
pub blocks_stopped : (depth : Depth) (s : Setting) (n : ℕ) (p : Progress) → is_passed (blocks_read depth s n p).outcome ≡ false → (k : ℕ) → blocks_read depth s (k + n) p ≡ blocks_read depth s n p
unfolding blocks_read
blocks_stopped depth s n p f zero = ap (λ (x : ℕ). blocks_read depth s x p) (zero-add n)
blocks_stopped depth s n p f (suc k) =
    let less = blocks_stopped depth s n p f k in
    let e : suc k + n ≡ suc (k + n) = omega arith in
    ap (λ (x : ℕ). blocks_read depth s x p) e
    ∙ block_stopped depth s (k + n) (blocks_read depth s (k + n) p) (ap (λ (x : Progress). is_passed x.outcome) less ∙ f)
    ∙ less

-- after the first blocks all passed
pub record Through (depth : Depth) (s : Setting) (l m : Line) (n : ℕ) (found : Found) (before after : Contents) : Type 0 where
  pub reached : (cs : List Cycle) (os : List ArrayOperation) → m ≡ (blocks_read depth s n (progress l Passed cs os)).line
  pub passing : (cs : List Cycle) (os : List ArrayOperation) → Passed ≡ (blocks_read depth s n (progress l Passed cs os)).outcome
  pub called : Called s m
  pub same_array : m.chip.array ≡ l.chip.array
  pub same_history : m.chip.history ≡ l.chip.history
  pub found_is : found ≡ found_to depth s.geometry l.chip.array n
  pub contents_are : after ≡ contents_to depth s.geometry l.chip.array before n

pub chip_begins : (depth : Depth) (s : Setting) (l : Line) (found : Found) (c : Contents) → found ≡ blank_found → Called s l → Through depth s l l 0 found c c
unfolding blocks_read found_to contents_to
chip_begins depth s l found c e called =
    record {
      reached = λ cs os. refl;
      passing = λ cs os. refl;
      called = called;
      same_array = refl;
      same_history = refl;
      found_is = e;
      contents_are = refl;
    }

module _ (depth : Depth) (s : Setting) (l m : Line) (n : ℕ) (found : Found) (before after : Contents) (below : n < s.geometry.blocks) (r : Through depth s l m n found before after) where
  -- the scan of block n leaves line m' and outcome o
  module _ (m' : Line) (o : Outcome) (d : Ran s (block_read depth s n) m m' Passed o) where
    here : (cs : List Cycle) (os : List ArrayOperation) → progress m Passed (blocks_read depth s n (progress l Passed cs os)).cycles (blocks_read depth s n (progress l Passed cs os)).started ≡ blocks_read depth s n (progress l Passed cs os)
    here cs os = same_progress (blocks_read depth s n (progress l Passed cs os)) m (r.reached cs os) (r.passing cs os)

    line_next : (cs : List Cycle) (os : List ArrayOperation) → m' ≡ (blocks_read depth s (suc n) (progress l Passed cs os)).line
    unfolding blocks_read
    line_next cs os =
        d.line_is (blocks_read depth s n (progress l Passed cs os)).cycles (blocks_read depth s n (progress l Passed cs os)).started
        ∙ ap (λ (x : Progress). (block_read depth s n x).line) (here cs os)

    outcome_next : (cs : List Cycle) (os : List ArrayOperation) → o ≡ (blocks_read depth s (suc n) (progress l Passed cs os)).outcome
    unfolding blocks_read
    outcome_next cs os =
        d.outcome_is (blocks_read depth s n (progress l Passed cs os)).cycles (blocks_read depth s n (progress l Passed cs os)).started
        ∙ ap (λ (x : Progress). (block_read depth s n x).outcome) (here cs os)

    -- after it did not pass
    pub chip_stops : is_passed o ≡ false → (cs : List Cycle) (os : List ArrayOperation)
        → (m' ≡ (blocks_read depth s s.geometry.blocks (progress l Passed cs os)).line) × (o ≡ (blocks_read depth s s.geometry.blocks (progress l Passed cs os)).outcome)
    chip_stops f cs os =
        let k : s.geometry.blocks - suc n + suc n ≡ s.geometry.blocks = omega arith in
        let still = blocks_stopped depth s (suc n) (progress l Passed cs os) (sym (ap is_passed (outcome_next cs os)) ∙ f) (s.geometry.blocks - suc n) in
        let all : blocks_read depth s s.geometry.blocks (progress l Passed cs os) ≡ blocks_read depth s (suc n) (progress l Passed cs os) =
        ap (λ (x : ℕ). blocks_read depth s x (progress l Passed cs os)) (sym k) ∙ still in
        (line_next cs os ∙ sym (ap (λ (x : Progress). x.line) all), outcome_next cs os ∙ sym (ap (λ (x : Progress). x.outcome) all))

    -- after it passed, with this summary, this test for a table where the block is complete, and this bitmap
    module _ (w : o ≡ Passed) (t : is_passed o ≡ true) (three : 3 ≤ s.geometry.pages)
        (summary : Summary) (right : ℕ) (bits : List ℕ) (e₁ : summary ≡ summary_at depth s.geometry m.chip.array n)
        (e₂ : is_complete s.geometry (block_in s.geometry m.chip.array n) ≡ true → right ≡ right_at s.geometry m.chip.array n)
        (e₃ : bits ≡ bits_at s.geometry m.chip.array n) where
      -- the test counts of a complete block only
      right_next : noted n summary right bits found ≡ noted n summary (right_at s.geometry m.chip.array n) bits found
      right_next =
          let said = ap says_complete e₁ ∙ says_complete_fact s.geometry three (block_in s.geometry m.chip.array n) depth in
          note-right n summary right (right_at s.geometry m.chip.array n) bits found (λ c. e₂ (sym said ∙ c))

      found_next : noted n summary right bits found ≡ found_to depth s.geometry l.chip.array (suc n)
      unfolding found_to
      found_next =
          let here_is : noted n summary (right_at s.geometry m.chip.array n) bits found ≡ noted n (summary_at depth s.geometry m.chip.array n) (right_at s.geometry m.chip.array n) (bits_at s.geometry m.chip.array n) (found_to depth s.geometry l.chip.array n) =
          λ i. noted n (e₁ i) (right_at s.geometry m.chip.array n) (e₃ i) (r.found_is i) in
          right_next
          ∙ here_is
          ∙ ap (λ (x : List ℕ). noted n (summary_at depth s.geometry x n) (right_at s.geometry x n) (bits_at s.geometry x n) (found_to depth s.geometry l.chip.array n)) r.same_array

      contents_next : copy_noted n summary after ≡ contents_to depth s.geometry l.chip.array before (suc n)
      unfolding contents_to
      contents_next =
          let here_is : copy_noted n summary after ≡ copy_noted n (summary_at depth s.geometry m.chip.array n) (contents_to depth s.geometry l.chip.array before n) =
          λ i. copy_noted n (e₁ i) (r.contents_are i) in
          here_is
          ∙ ap (λ (x : List ℕ). copy_noted n (summary_at depth s.geometry x n) (contents_to depth s.geometry l.chip.array before n)) r.same_array

      pub chip_goes : {next : Found} {later : Contents} → next ≡ noted n summary right bits found → later ≡ copy_noted n summary after → Through depth s l m' (n + 1) next before later
      chip_goes {next} {later} f g =
          subst (λ (k : ℕ). Through depth s l m' k next before later) (sym (add-one n))
          (record {
            reached = line_next;
            passing = λ cs os. sym w ∙ outcome_next cs os;
            called = d.next t;
            same_array = d.same_array ∙ r.same_array;
            same_history = d.same_history ∙ r.same_history;
            found_is = f ∙ found_next;
            contents_are = g ∙ contents_next;
          })
