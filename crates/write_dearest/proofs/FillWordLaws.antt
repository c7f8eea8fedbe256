-- The fate words that a fill takes and the cycles that it sends, where each word has 255 busy reads and none but the last says fail.
-- Assumes nothing.
use Prim.Native.Nat.{ℕ, zero, suc, ◌+◌, ◌-◌, ◌*◌, ◌≤◌, ◌<◌}
use mathlib.Core.Bool.{true, cond}
use mathlib.Core.List.{List}
use mathlib.Core.Path.{◌≡◌, refl, sym, ap, subst, ◌∙◌}
use native.Mathlib.Omega.{arith}
use lib.Dec.{eqb}
use lib.ListN.{length}
use Rattle.geometry.specs.declared.Geometry.{Geometry}
use Rattle.geometry.specs.Sizes.{page_size, row_of}
use Rattle.geometry.proofs.SizeLaws.{row_below}
use Rattle.cells.specs.Bytes.{Bytes}
use Rattle.chip_interface.specs.Interface.{failed_for}
use Rattle.chip_array.specs.Device.{Setting}
use Rattle.bus_polling.specs.Outcomes.{is_passed}
use Rattle.bus_polling.specs.declared.Outcome.TheVariants.{Passed, Failed}
use Rattle.bus_polling.proofs.OutcomeLaws.{passed_answered}
use Rattle.operations.specs.Ends.{Called, CanProgram, CanRead}
use Rattle.copies.specs.Blocks.{main_in, formed}
use Rattle.progress.specs.Progress.{Progress, line_of, read_on}
use Rattle.progress.specs.Steps.{erase_on, program_on}
use Rattle.fill.specs.Fill.{Copy, Source, given, kept, copy_page, main_of, main_read, page_filled, pages_filled, filled}
use Rattle.damage.specs.Run.{Filled, Meant, Provides, from_caller, from_copy, read_most, program_most, page_most, erase_most, source_most}
use Rattle.damage.proofs.FillLaws.{source_most_lem, fetch_leaves, erase_filled, pages_leave}
use Rattle.dearest.specs.Dearest.{slow_word}
use Rattle.write_dearest.specs.Exactly.{sum_to, SlowWord, Exactly, words_of}
use Rattle.write_dearest.proofs.OperationLaws.{erase_exactly, erase_ends_as, program_exactly, program_ends_as, read_exactly, read_ends_as}
use Rattle.write_dearest.proofs.SumLaws.{sum_grows}

-- one after the other
pub exactly_then : {p q r : Progress} {a b c d : ℕ} → Exactly p q a b → Exactly q r c d → Exactly p r (a + c) (b + d)
exactly_then x y =
    record {
      words_taken = omega (arith, x.words_taken, y.words_taken);
      cycles_sent = omega (arith, x.cycles_sent, y.cycles_sent);
    }

pub exactly_as : {p q : Progress} {a b : ℕ} (c d : ℕ) → a ≡ c → b ≡ d → Exactly p q a b → Exactly p q c d
exactly_as c d e f x =
    record { words_taken = omega (arith, x.words_taken, e); cycles_sent = omega (arith, x.cycles_sent, f) }

words_some : (from : Source) → 1 ≤ words_of from
unfolding words_of
words_some (given main) = omega arith
words_some (kept old form) = omega arith

module _ (s : Setting) (p : Progress) (block : ℕ) (below : block < s.geometry.blocks) (c : Copy) (source : ℕ → Source) (pages : ℕ → List ℕ)
    (meant : Meant s p.line.chip.array block c source pages) (mask_bytes : Bytes s.mask) (high : line_of p ≡ 0) (passed : is_passed p.outcome ≡ true) (called : Called s p.line) where
  abbrev g : Geometry
  g = s.geometry

  -- after the erase and n pages: where it stands, the words taken and the cycles sent
  abbrev at : ℕ → Progress
  at n = pages_filled s block c source n (erase_on s block p)

  abbrev fate_at : ℕ → ℕ
  fate_at n = (at n).line.chip.interface.fate

  abbrev words : ℕ → ℕ
  words n = 1 + sum_to (λ i. words_of (source i)) n

  abbrev cycles : ℕ → ℕ
  cycles n = erase_most + sum_to (λ i. source_most g (source i)) n

  so_far : (n : ℕ) → n ≤ g.pages → Filled s p (at n) block pages n (erase_most + n * page_most g)
  so_far =
      pages_leave s p block below c source pages meant mask_bytes high (page_most g) (λ i h. source_most_lem g (source i)) (erase_on s block p)
      (erase_filled s p block below c source pages meant mask_bytes high passed called)

  -- page n, where all passed before it; the word of its program is w
  module _ (n : ℕ) (page_below : n < g.pages) (t : is_passed (at n).outcome ≡ true) (w : ℕ) where
    r : Filled s p (at n) block pages n (erase_most + n * page_most g)
    r = so_far n (omega (arith, page_below))

    -- the program, from q, which stands where page n is due
    module _ (q : Progress) (k : ℕ) (u : Filled s p q block pages n k) (y : is_passed q.outcome ≡ true) (bytes : List ℕ) (e : bytes ≡ pages n)
        (slow : SlowWord s q.line.chip.interface.fate w) (enough : program_most g ≤ q.line.left) where
      bytes_long : length bytes ≡ page_size g
      bytes_long = ap length e ∙ meant.long n page_below

      can : CanProgram s q.line block n bytes
      can =
          record {
            may = record { called = u.sound.called (passed_answered q.outcome y); block_below = below; page_below = page_below; in_order = u.in_order y; bytes_long = bytes_long };
            high = u.same_line ∙ high;
          }

      enough_bytes : 264 + length bytes ≤ q.line.left
      enough_bytes = omega (arith, enough, bytes_long)

      programs : Exactly q (program_on s block n bytes q) 1 (program_most g)
      programs = exactly_as 1 (program_most g) refl (omega (arith, bytes_long)) (program_exactly s q y w slow block n bytes can enough_bytes)

      programs_as : (program_on s block n bytes q).outcome ≡ cond (eqb (failed_for 2 w) 0) Passed Failed
      programs_as = program_ends_as s q y w slow block n bytes can enough_bytes

    abbrev Goes : Source → Type 0
    Goes from =
        Exactly (at n) (page_filled s block c n from (at n)) (words_of from) (source_most g from)
        × ((page_filled s block c n from (at n)).outcome ≡ cond (eqb (failed_for 2 w) 0) Passed Failed)

    page_goes : (from : Source) (page : List ℕ) → Provides g p.line.chip.array block c n from page → page ≡ pages n
        → (words_of from ≡ 2 → SlowWord s (fate_at n) slow_word) → SlowWord s (fate_at n + (words_of from - 1)) w → source_most g from ≤ (at n).line.left → Goes from
    unfolding page_filled main_of main_read words_of source_most is_passed
    page_goes from page (from_caller main) e first slow enough =
        let here : SlowWord s (fate_at n) w = subst (λ (i : ℕ). SlowWord s i w) (omega arith) slow in
        (programs (at n) _ r t _ e here enough, programs_as (at n) _ r t _ e here enough)
    page_goes from page (from_copy old form old_below x) e first slow enough =
        let fetched = read_on s (row_of g old n) 0 g.main (at n) in
        let valid = called.is_valid in
        let can_read : CanRead s (at n).line (row_of g old n) 0 g.main = record { called = r.sound.called (passed_answered (at n).outcome t); row_below = row_below g valid old n old_below page_below; column_below = omega (arith, valid.main_least); within = omega arith } in
        let enough-read : read_most g.main ≤ (at n).line.left = omega (arith, enough) in
        let read = read_exactly s (at n) t slow_word (first refl) (row_of g old n) 0 g.main can_read enough-read in
        let y : is_passed fetched.outcome ≡ true = ap is_passed (read_ends_as s (at n) t slow_word (first refl) (row_of g old n) 0 g.main can_read enough-read) in
        let u = fetch_leaves s p block below c source pages meant mask_bytes high (at n) n page_below _ r t old old_below in
        let same = ap (λ (row : List ℕ). copy_page g c n (formed form n (main_in g row n))) (r.others old old_below x) ∙ e in
        let here : SlowWord s fetched.line.chip.interface.fate w = subst (λ (i : ℕ). SlowWord s i w) (omega (arith, read.words_taken)) slow in
        let left : program_most g ≤ fetched.line.left = omega (arith, enough, read.cycles_sent) in
        (exactly_then read (programs fetched _ u y _ same here left), programs_as fetched _ u y _ same here left)

    page_exactly : (words_of (source n) ≡ 2 → SlowWord s (fate_at n) slow_word) → SlowWord s (fate_at n + (words_of (source n) - 1)) w → source_most g (source n) ≤ (at n).line.left → Goes (source n)
    page_exactly = page_goes (source n) (pages n) (meant.provides n page_below) refl

  -- all words are slow but the last one
  module _ (slows : (i : ℕ) → i + 1 < words g.pages → SlowWord s (p.line.chip.interface.fate + i) slow_word) (enough : cycles g.pages ≤ p.line.left) where
    -- what is still to come after n pages
    words_left : (n : ℕ) → n < g.pages → words n + words_of (source n) ≤ words g.pages
    unfolding sum_to
    words_left n h = omega (arith, sum_grows (λ i. words_of (source i)) (suc n) g.pages (omega (arith, h)))

    cycles_left : (n : ℕ) → n < g.pages → cycles n + source_most g (source n) ≤ cycles g.pages
    unfolding sum_to
    cycles_left n h = omega (arith, sum_grows (λ i. source_most g (source i)) (suc n) g.pages (omega (arith, h)))

    -- a word by its place from the start of the fill
    slow_from : (n i : ℕ) → Exactly p (at n) (words n) (cycles n) → words n + i + 1 < words g.pages → SlowWord s (fate_at n + i) slow_word
    slow_from n i x h = subst (λ (k : ℕ). SlowWord s k slow_word) (omega (arith, x.words_taken)) (slows (words n + i) (omega (arith, h)))

    record Goes-to (n : ℕ) : Type 0 where
      all_passed : is_passed (at n).outcome ≡ true
      exactly : Exactly p (at n) (words n) (cycles n)

    -- page n, where it stands so
    module _ (n : ℕ) (h : n < g.pages) (x : Goes-to n) (w : ℕ) (slow : SlowWord s (fate_at n + (words_of (source n) - 1)) w) where
      next_goes : Exactly p (at (suc n)) (words (suc n)) (cycles (suc n)) × ((at (suc n)).outcome ≡ cond (eqb (failed_for 2 w) 0) Passed Failed)
      unfolding pages_filled sum_to
      next_goes =
          let zero-place : fate_at n + 0 ≡ fate_at n = omega arith in
          let y = page_exactly n h x.all_passed w
          (λ two. subst (λ (k : ℕ). SlowWord s k slow_word) zero-place (slow_from n 0 x.exactly (omega (arith, two, words_left n h))))
          slow (omega (arith, x.exactly.cycles_sent, enough, cycles_left n h)) in
          (exactly_as (words (suc n)) (cycles (suc n)) (omega arith) (omega arith) (exactly_then x.exactly y.0), y.1)

    goes_to : (n : ℕ) → n < g.pages → Goes-to n
    unfolding pages_filled sum_to is_passed
    goes_to zero h =
        let first : SlowWord s p.line.chip.interface.fate slow_word = subst (λ (k : ℕ). SlowWord s k slow_word) (omega arith) (slows 0 (omega (arith, words_left 0 h, words_some (source 0)))) in
        let few : erase_most ≤ p.line.left = omega (arith, enough) in
        record {
          all_passed = ap is_passed (erase_ends_as s p passed slow_word first block below called high few);
          exactly = exactly_as (words 0) (cycles 0) (omega arith) (omega arith) (erase_exactly s p passed slow_word first block below called high few);
        }
    goes_to (suc n) h =
        let x = goes_to n (omega (arith, h)) in
        let some = words_some (source n) in
        let later = words_left (suc n) h in
        let more = words_some (source (suc n)) in
        let y = next_goes n (omega (arith, h)) x slow_word (slow_from n (words_of (source n) - 1) x.exactly (omega (arith, some, later, more))) in
        record { all_passed = ap is_passed y.1; exactly = y.0 }

    -- the whole fill; w: its last word
    pub fill_exactly : (w : ℕ) → SlowWord s (p.line.chip.interface.fate + (words g.pages - 1)) w
        → Exactly p (filled s block c source p) (words g.pages) (cycles g.pages) × ((filled s block c source p).outcome ≡ cond (eqb (failed_for 2 w) 0) Passed Failed)
    unfolding sum_to
    fill_exactly w slow =
        let n = g.pages - 1 in
        let last : suc n ≡ g.pages = omega (arith, called.is_valid.pages_least) in
        let x = goes_to n (omega (arith, last)) in
        let some = words_some (source n) in
        let place : p.line.chip.interface.fate + (words g.pages - 1) ≡ fate_at n + (words_of (source n) - 1) =
        ap (λ (k : ℕ). p.line.chip.interface.fate + (words k - 1)) (sym last) ∙ omega (arith, x.exactly.words_taken, some) in
        subst (λ (k : ℕ). Exactly p (at k) (words k) (cycles k) × ((at k).outcome ≡ cond (eqb (failed_for 2 w) 0) Passed Failed)) last
        (next_goes n (omega (arith, last)) x w (subst (λ (k : ℕ). SlowWord s k w) place slow))
