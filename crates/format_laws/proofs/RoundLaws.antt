-- The first round of erases: every block that is not passed over is erased, or is invalid and its greatest number is known. Assumes nothing.
use Prim.Native.Nat.{ℕ, zero, suc, ◌+◌, ◌*◌, ◌/◌, ◌≤◌, ◌<◌, max}
use mathlib.Core.Bool.{Bool, true, false, cond, true≢false, false≢true}
use mathlib.Core.List.{List}
use mathlib.Core.Logic.{◌⊎◌, inl, inr, ⊎_elim}
use mathlib.Core.Path.{◌≡◌, refl, sym, ap, subst, ◌∙◌}
use native.Mathlib.Nat.{suc-mul}
use native.Mathlib.Omega.{arith}
use borrow.Table.Steps.{cases}
use borrow.Author.Tests.{eqb-true}
use lib.Bits.{bit_or}
use lib.Dec.{eqb}
use lib.ListN.{length, get_or, drop, replicate}
use lib.Seq.{get_or-take, get_or-drop}
use Rattle.geometry.specs.declared.Geometry.{Geometry}
use Rattle.geometry.specs.Limits.{Valid}
use Rattle.geometry.specs.Sizes.{page_size, block_size}
use Rattle.cells.specs.Bytes.{Bytes}
use Rattle.cells.specs.Cells.{raised}
use Rattle.cells.proofs.CellLaws.{get_or-raised, or_full}
use Rattle.bitmaps.specs.Bitmap.{bit_at, with_bit}
use Rattle.bitmaps.proofs.BitLaws.{bit-set, bit_kept}
use Rattle.chip_array.specs.Device.{Setting}
use Rattle.bus_polling.specs.Outcomes.{is_passed, is_failed, is_illegal, is_protected, is_cut_off, is_read_end, is_silent}
use Rattle.operations.specs.Ends.{Called}
use Rattle.copies.specs.Blocks.{block_in, mark_byte, is_marked, greatest_to}
use Rattle.copies.proofs.PickLaws.{up_to}
use Rattle.progress.specs.Progress.{Progress, line_of}
use Rattle.progress.proofs.WordLaws.{line_kept}
use Rattle.format_erase.proofs.KeepLaws.{round_keeps}
use Rattle.scan_block.specs.Pages.{pages_read}
use Rattle.progress.specs.Steps.{erase_on, resumed}
use Rattle.bus_polling.proofs.OutcomeLaws.{passed_answered, failed_answered, read_end_unfailed, failed_unpassed, unfailed_end}
use Rattle.progress.proofs.StepLaws.{erase_stopped}
use Rattle.format_erase.specs.declared.Numbers.{Numbers}
use Rattle.format_erase.specs.Round.{Round, round, after_erase, block_erased, failed_at, numbers_of, joined, erased_to, numbers_at}
use Rattle.format_erase.proofs.NumberLaws.{numbers_none, joined_most, joined_none}
use Rattle.damage.specs.Run.{failed_in, NoneFailed, Sound, Unchanged, Erased, Spent, read_most, block_on, Failing}
use Rattle.damage.proofs.PlaceLaws.{block_long, page-within}
use Rattle.damage.proofs.ReadLaws.{pages_unchanged, pages_spend, pages_calm}
use Rattle.damage.proofs.TraceLaws.{unfailed-none}
use Rattle.damage.proofs.EraseLaws.{erase_leaves}
use Rattle.damage.proofs.CopyLaws.{no_mark}
use Rattle.bitmaps.proofs.BitmapLaws.{Bitmap, bits_none, bits_more, bit_more, blank-bit}
use Rattle.format_laws.specs.Formatting.{block_most}

-- a block without a factory mark has none where bits of it are raised
module _ (g : Geometry) (v : Valid g) (row ms : List ℕ) (long : length row ≡ block_size g) (bytes : Bytes ms) where
  byte_at : (xs : List ℕ) (i : ℕ) → mark_byte g xs i ≡ get_or xs (i * page_size g + g.main) 0
  byte_at xs i = get_or-take (page_size g) (drop (i * page_size g) xs) g.main 0 (omega (arith, v.spare_least)) ∙ get_or-drop (i * page_size g) xs g.main 0

  byte_raised : (i : ℕ) → i < g.pages → mark_byte g row i ≡ 255 → mark_byte g (raised row ms) i ≡ 255
  byte_raised i h e =
      let k = i * page_size g + g.main in
      let in_row : k < length row = omega (arith, long, page-within g i h, v.spare_least) in
      byte_at (raised row ms) i ∙ get_or-raised row ms k in_row ∙ ap (λ (y : ℕ). bit_or y (get_or ms k 0)) (sym (byte_at row i) ∙ e) ∙ or_full (get_or ms k 0) (bytes k)

  bytes_full : is_marked g row ≡ false → (mark_byte g row 0 ≡ 255) × (mark_byte g row 1 ≡ 255)
  unfolding is_marked
  bytes_full f =
      cases (eqb (mark_byte g row 0) 255)
      (λ a.
      cases (eqb (mark_byte g row 1) 255)
      (λ b. (eqb-true _ _ a, eqb-true _ _ b))
      (λ b. absurd (true≢false (sym (rw (a, b)) ∙ f))))
      (λ a. absurd (true≢false (sym (rw a) ∙ f)))

  pub raised_no_mark : is_marked g row ≡ false → is_marked g (raised row ms) ≡ false
  raised_no_mark f =
      let full = bytes_full f in
      no_mark g (raised row ms) (byte_raised 0 (omega (arith, v.pages_least)) full.0) (byte_raised 1 (omega (arith, v.pages_least)) full.1)

-- the first n blocks led from p to r; those of a bitmap are passed over
pub record Rounded (s : Setting) (skip : List ℕ) (p : Progress) (n : ℕ) (r : Round) : Type 0 where
  pub sound : Sound s r.progress
  pub ends : is_read_end r.progress.outcome ≡ true
  pub kept : (b : ℕ) → b < s.geometry.blocks → bit_at skip b ≡ true → block_on s r.progress b ≡ block_on s p b
  pub ahead : (b : ℕ) → b < s.geometry.blocks → n ≤ b → block_on s r.progress b ≡ block_on s p b
  pub invalid_bits : Bitmap s.geometry.blocks r.invalid
  pub apart : (b : ℕ) → b < s.geometry.blocks → bit_at skip b ≡ true → bit_at r.invalid b ≡ false
  pub later : (b : ℕ) → b < s.geometry.blocks → n ≤ b → bit_at r.invalid b ≡ false
  pub erased : is_passed r.progress.outcome ≡ true → (b : ℕ) → b < n → bit_at skip b ≡ false → bit_at r.invalid b ≡ false → block_on s r.progress b ≡ replicate (block_size s.geometry) 255
  pub unmarked : is_passed r.progress.outcome ≡ true → (b : ℕ) → b < n → bit_at r.invalid b ≡ true → is_marked s.geometry (block_on s r.progress b) ≡ false
  pub numbers : is_passed r.progress.outcome ≡ true → (b : ℕ) → b < n → bit_at r.invalid b ≡ true → greatest_to s.geometry (block_on s r.progress b) s.geometry.pages ≤ r.numbers.greatest
  pub spent : Spent p r.progress (n * block_most s.geometry)
  pub failures : (b : ℕ) → b < s.geometry.blocks → failed_in b r.progress.started ≡ bit_at r.invalid b
  pub failed_by_fact : (b : ℕ) → b < s.geometry.blocks → failed_in b r.progress.started ≡ true → Failing s.fates
  pub none-greatest : r.numbers.any ≡ 0 → r.numbers.greatest ≡ 0
  pub greatest_by_fact : (r.numbers.greatest ≡ 0 → ⊥) → Failing s.fates

module _ (s : Setting) (v : Valid s.geometry) (mask_bytes : Bytes s.mask) (skip : List ℕ) (p : Progress) (clear : (b : ℕ) → b < s.geometry.blocks → bit_at skip b ≡ false → is_marked s.geometry (block_on s p b) ≡ false) where
  next_round : ℕ → Round → Round
  next_round n r =
      round (block_erased s skip n r.progress)
      (cond (failed_at s skip n r.progress) (with_bit r.invalid n) r.invalid)
      (joined r.numbers (numbers_at s skip n r.progress))

  one_round : (n : ℕ) → erased_to s skip (suc n) p ≡ next_round n (erased_to s skip n p)
  unfolding erased_to next_round
  one_round n = refl

  -- a block that is passed over
  module _ (n : ℕ) (r : Round) (x : Rounded s skip p n r) where
    more : suc n * block_most s.geometry ≡ n * block_most s.geometry + block_most s.geometry
    more = suc-mul n (block_most s.geometry)

    stopped_is : is_passed r.progress.outcome ≡ false → r ≡ next_round n r
    unfolding next_round block_erased failed_at joined numbers_at
    stopped_is f =
        let unfailed : is_failed (erase_on s n r.progress).outcome ≡ false =
        ap (λ (q : Progress). is_failed q.outcome) (erase_stopped s n r.progress f) ∙ read_end_unfailed r.progress.outcome x.ends in
        cases (bit_at skip n) (λ t. rw (f, t)) (λ t. rw (f, t, unfailed))

    skipped_is : is_passed r.progress.outcome ≡ true → bit_at skip n ≡ true → r ≡ next_round n r
    unfolding next_round block_erased failed_at joined numbers_at
    skipped_is t m = rw (t, m)

    module _ (below : n < s.geometry.blocks) (high : line_of r.progress ≡ 0) where
      unlisted : {A : Type 0} → bit_at r.invalid n ≡ true → A
      unlisted t = absurd (false≢true (sym (x.later n below (omega arith)) ∙ t))

      due : (bit_at skip n ≡ true) ⊎ (is_passed r.progress.outcome ≡ false) → is_passed r.progress.outcome ≡ true → bit_at skip n ≡ false → ⊥
      due why y m = ⊎_elim (λ t. false≢true (sym m ∙ t)) (λ f. false≢true (sym f ∙ y)) why

      passed_over : (bit_at skip n ≡ true) ⊎ (is_passed r.progress.outcome ≡ false) → Rounded s skip p (suc n) r
      passed_over why =
          record {
            sound = x.sound;
            ends = x.ends;
            kept = x.kept;
            ahead = λ b h l. x.ahead b h (omega (arith, l));
            invalid_bits = x.invalid_bits;
            apart = x.apart;
            later = λ b h l. x.later b h (omega (arith, l));
            erased = λ y b l.
                up_to (λ k. bit_at skip k ≡ false → bit_at r.invalid k ≡ false → block_on s r.progress k ≡ replicate (block_size s.geometry) 255) n b l (x.erased y b) (λ m f. absurd (due why y m));
            unmarked = λ y b l. up_to (λ k. bit_at r.invalid k ≡ true → is_marked s.geometry (block_on s r.progress k) ≡ false) n b l (x.unmarked y b) unlisted;
            numbers = λ y b l.
                up_to (λ k. bit_at r.invalid k ≡ true → greatest_to s.geometry (block_on s r.progress k) s.geometry.pages ≤ r.numbers.greatest) n b l (x.numbers y b) unlisted;
            spent = omega (arith, x.spent, more);
            failures = x.failures;
            failed_by_fact = x.failed_by_fact;
            none-greatest = x.none-greatest;
            greatest_by_fact = x.greatest_by_fact;
          }

      -- a block that is erased
      module _ (t : is_passed r.progress.outcome ≡ true) (free : bit_at skip n ≡ false) where
        abbrev q : Progress
        q = r.progress

        abbrev e : Progress
        e = erase_on s n q

        called : Called s q.line
        called = x.sound.called (passed_answered q.outcome t)

        left : Erased s q e n
        left = erase_leaves s q n below t called high

        off_skipped : (b : ℕ) → bit_at skip b ≡ true → b ≡ n → ⊥
        off_skipped b m same = false≢true (sym free ∙ ap (bit_at skip) (sym same) ∙ m)

        others_skipped : (b : ℕ) → b < s.geometry.blocks → bit_at skip b ≡ true → block_on s e b ≡ block_on s p b
        others_skipped b h m = left.others b h (off_skipped b m) ∙ x.kept b h m

        others_ahead : (b : ℕ) → b < s.geometry.blocks → suc n ≤ b → block_on s e b ≡ block_on s p b
        others_ahead b h l = left.others b h (λ same. omega (arith, same, l)) ∙ x.ahead b h (omega (arith, l))

        others_before : (b : ℕ) → b < n → block_on s e b ≡ block_on s q b
        others_before b h = left.others b (omega (arith, h, below)) (λ same. omega (arith, same, h))

        -- the erase did not fail
        module _ (f : is_failed e.outcome ≡ false) where
          unfailed_is : round e r.invalid r.numbers ≡ next_round n r
          unfolding next_round block_erased after_erase failed_at joined numbers_at
          unfailed_is = rw (t, free, f)

          unfailed : Rounded s skip p (suc n) (round e r.invalid r.numbers)
          unfailed =
              record {
                sound = left.sound;
                ends = unfailed_end e.outcome left.sound.known f left.sound.unprotected;
                kept = others_skipped;
                ahead = others_ahead;
                invalid_bits = x.invalid_bits;
                apart = x.apart;
                later = λ b h l. x.later b h (omega (arith, l));
                erased = λ y b l.
                    up_to (λ k. bit_at skip k ≡ false → bit_at r.invalid k ≡ false → block_on s e k ≡ replicate (block_size s.geometry) 255) n b l
                    (λ h m c. others_before b h ∙ x.erased t b h m c) (λ m c. left.whole y);
                unmarked = λ y b l.
                    up_to (λ k. bit_at r.invalid k ≡ true → is_marked s.geometry (block_on s e k) ≡ false) n b l
                    (λ h c. ap (is_marked s.geometry) (others_before b h) ∙ x.unmarked t b h c) unlisted;
                numbers = λ y b l.
                    up_to (λ k. bit_at r.invalid k ≡ true → greatest_to s.geometry (block_on s e k) s.geometry.pages ≤ r.numbers.greatest) n b l
                    (λ h c. subst (λ (row : List ℕ). greatest_to s.geometry row s.geometry.pages ≤ r.numbers.greatest) (sym (others_before b h)) (x.numbers t b h c)) unlisted;
                spent = omega (arith, x.spent, left.spent, more);
                failures = λ b h. unfailed-none q e n f left.failures b ∙ x.failures b h;
                failed_by_fact = λ b h z. x.failed_by_fact b h (sym (unfailed-none q e n f left.failures b) ∙ z);
                none-greatest = x.none-greatest;
                greatest_by_fact = x.greatest_by_fact;
              }

        -- the erase failed: the pages are read
        module _ (w : is_failed e.outcome ≡ true) where
          abbrev scanned : Progress
          scanned = pages_read s n s.geometry.pages (resumed e)

          abbrev more_numbers : Numbers
          more_numbers = numbers_of s.geometry (block_on s e n)

          abbrev all-numbers : Numbers
          all-numbers = joined r.numbers more_numbers

          most_is : all-numbers.greatest ≡ max r.numbers.greatest more_numbers.greatest
          most_is = joined_most r.numbers more_numbers x.none-greatest (numbers_none s.geometry (block_on s e n))

          failed_is : round scanned (with_bit r.invalid n) all-numbers ≡ next_round n r
          unfolding next_round block_erased after_erase failed_at numbers_at
          failed_is = rw (t, free, w)

          goes_on : Unchanged s e.line.chip.array e.line.chip.history (resumed e)
          unfolding is_illegal is_protected is_read_end is_cut_off is_silent is_failed
          goes_on =
              record {
                sound = record { legal = left.sound.legal; known = refl; unprotected = refl; used_up = λ c. absurd (false≢true c); silent_by = λ c. absurd (false≢true c); failed_by_fact = λ c. absurd (false≢true c); called = λ a. left.sound.called (failed_answered e.outcome w) };
                ends = refl;
                same_array = refl;
                same_history = refl;
              }

          unchanged : Unchanged s e.line.chip.array e.line.chip.history scanned
          unchanged = pages_unchanged s e.line.chip.array e.line.chip.history v n below s.geometry.pages (omega arith) (resumed e) goes_on

          scan_spent : Spent e scanned (s.geometry.pages * read_most (page_size s.geometry))
          scan_spent = pages_spend s e.line.chip.array e.line.chip.history v n below s.geometry.pages (omega arith) (resumed e) goes_on

          same_block : (b : ℕ) → block_on s scanned b ≡ block_on s e b
          same_block b = ap (λ (a : List ℕ). block_in s.geometry a b) unchanged.same_array

          was_unmarked : is_marked s.geometry (block_on s q n) ≡ false
          was_unmarked = ap (is_marked s.geometry) (x.ahead n below (omega arith)) ∙ clear n below free

          still_unmarked : is_marked s.geometry (block_on s e n) ≡ false
          still_unmarked =
              ⊎_elim
              (λ same. ap (is_marked s.geometry) same ∙ was_unmarked)
              (λ partly.
              ap (is_marked s.geometry) partly
              ∙ raised_no_mark s.geometry v (block_on s q n) s.mask (block_long s.geometry v q.line.chip.array called.array_long n below) mask_bytes was_unmarked)
              (left.partly (failed_unpassed e.outcome w))

          byte_there : n / 8 < length r.invalid
          byte_there = omega (arith, below, v.blocks_most, x.invalid_bits.long)

          bit_before : (b : ℕ) → b < n → bit_at (with_bit r.invalid n) b ≡ bit_at r.invalid b
          bit_before b h = bit_kept r.invalid n b (λ same. omega (arith, same, h))

          calm : NoneFailed (resumed e) scanned
          calm = pages_calm s e.line.chip.array e.line.chip.history v n below s.geometry.pages (omega arith) (resumed e) goes_on

          failed_bits : (b : ℕ) → b < s.geometry.blocks → failed_in b scanned.started ≡ bit_at (with_bit r.invalid n) b
          failed_bits b h =
              calm b ∙ left.failures b
              ∙ ap (λ (y : Bool). cond (failed_in b q.started) true (cond (eqb n b) y false)) w
              ∙ ap (λ (y : Bool). cond y true (cond (eqb n b) true false)) (x.failures b h)
              ∙ bit_more r.invalid n b byte_there

          failed : Rounded s skip p (suc n) (round scanned (with_bit r.invalid n) all-numbers)
          failed =
              record {
                sound = unchanged.sound;
                ends = unchanged.ends;
                kept = λ b h m. same_block b ∙ others_skipped b h m;
                ahead = λ b h l. same_block b ∙ others_ahead b h l;
                invalid_bits = bits_more s.geometry.blocks r.invalid n v.blocks_most below x.invalid_bits;
                apart = λ b h m. bit_kept r.invalid n b (off_skipped b m) ∙ x.apart b h m;
                later = λ b h l. bit_kept r.invalid n b (λ same. omega (arith, same, l)) ∙ x.later b h (omega (arith, l));
                erased = λ y b l.
                    up_to (λ k. bit_at skip k ≡ false → bit_at (with_bit r.invalid n) k ≡ false → block_on s scanned k ≡ replicate (block_size s.geometry) 255) n b l
                    (λ h m c. same_block b ∙ others_before b h ∙ x.erased t b h m (sym (bit_before b h) ∙ c))
                    (λ m c. absurd (true≢false (sym (bit-set r.invalid n byte_there) ∙ c)));
                unmarked = λ y b l.
                    up_to (λ k. bit_at (with_bit r.invalid n) k ≡ true → is_marked s.geometry (block_on s scanned k) ≡ false) n b l
                    (λ h c. ap (is_marked s.geometry) (same_block b ∙ others_before b h) ∙ x.unmarked t b h (sym (bit_before b h) ∙ c))
                    (λ c. ap (is_marked s.geometry) (same_block n) ∙ still_unmarked);
                numbers = λ y b l.
                    up_to (λ k. bit_at (with_bit r.invalid n) k ≡ true → greatest_to s.geometry (block_on s scanned k) s.geometry.pages ≤ all-numbers.greatest) n b l
                    (λ h c.
                    subst (λ (row : List ℕ). greatest_to s.geometry row s.geometry.pages ≤ all-numbers.greatest) (sym (same_block b ∙ others_before b h))
                    (omega (arith, most_is, x.numbers t b h (sym (bit_before b h) ∙ c))))
                    (λ c. subst (λ (row : List ℕ). greatest_to s.geometry row s.geometry.pages ≤ all-numbers.greatest) (sym (same_block n)) (omega (arith, most_is)));
                spent = omega (arith, x.spent, left.spent, scan_spent, more);
                failures = failed_bits;
                failed_by_fact = λ b h z. left.sound.failed_by_fact w;
                none-greatest = joined_none r.numbers more_numbers x.none-greatest (numbers_none s.geometry (block_on s e n));
                greatest_by_fact = λ z. left.sound.failed_by_fact w;
              }

      round_next : Rounded s skip p (suc n) (next_round n r)
      round_next =
          cases (is_passed r.progress.outcome)
          (λ t.
          cases (bit_at skip n)
          (λ m. subst (Rounded s skip p (suc n)) (skipped_is t m) (passed_over (inl m)))
          (λ free.
          cases (is_failed (erase_on s n r.progress).outcome)
          (λ w. subst (Rounded s skip p (suc n)) (failed_is t free w) (failed t free w))
          (λ f. subst (Rounded s skip p (suc n)) (unfailed_is t free f) (unfailed t free f))))
          (λ f. subst (Rounded s skip p (suc n)) (stopped_is f) (passed_over (inr f)))

  pub round_leaves : Sound s p → is_read_end p.outcome ≡ true → ((b : ℕ) → failed_in b p.started ≡ false) → line_of p ≡ 0 → (n : ℕ) → n ≤ s.geometry.blocks → Rounded s skip p n (erased_to s skip n p)
  unfolding erased_to
  round_leaves sound ends none high zero h =
      record {
        sound = sound;
        ends = ends;
        kept = λ b l m. refl;
        ahead = λ b l k. refl;
        invalid_bits = bits_none s.geometry.blocks;
        apart = λ b l m. blank-bit 512 b;
        later = λ b l k. blank-bit 512 b;
        erased = λ y b l. absurd (omega (arith, l));
        unmarked = λ y b l. absurd (omega (arith, l));
        numbers = λ y b l. absurd (omega (arith, l));
        spent = omega arith;
        failures = λ b l. none b ∙ sym (blank-bit 512 b);
        failed_by_fact = λ b l z. absurd (false≢true (sym (none b) ∙ z));
        none-greatest = λ z. refl;
        greatest_by_fact = λ z. absurd (z refl);
      }
  round_leaves sound ends none high (suc n) h =
      subst (Rounded s skip p (suc n)) (sym (one_round n)) (round_next n (erased_to s skip n p) (round_leaves sound ends none high n (omega (arith, h))) (omega (arith, h)) (round_keeps s (λ q. line_of q ≡ 0) (line_kept s 0) skip n p high))
