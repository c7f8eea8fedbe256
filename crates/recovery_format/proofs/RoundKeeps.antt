-- The first round of erases forgets no entry of the current table and spares bad blocks, wherever it is cut. Assumes nothing.
use Prim.Native.Nat.{ℕ, zero, suc, ◌≤◌, ◌<◌}
use mathlib.Core.Bool.{Bool, true, false, cond}
use mathlib.Core.List.{List}
use mathlib.Core.Logic.{inr}
use mathlib.Core.Path.{◌≡◌, refl, sym, ap, ap₂, subst, ◌∙◌}
use native.Mathlib.Omega.{arith}
use borrow.Table.Steps.{cases}
use borrow.Author.Tests.{ne_eqb}
use lib.Dec.{eqb}
use lib.ListN.{length, replicate}
use Rattle.geometry.specs.declared.Geometry.{Geometry}
use Rattle.geometry.specs.Sizes.{page_size, block_size, chip_size}
use Rattle.cells.specs.Bytes.{Bytes}
use Rattle.bools.proofs.BoolLaws.{clash}
use Rattle.bitmaps.specs.Bitmap.{bit_at}
use Rattle.chip_array.specs.Device.{Device, Setting}
use Rattle.chip_laws.specs.Lengths.{SameLengths}
use Rattle.chip_laws.proofs.LengthLaws.{run_lengths}
use Rattle.bus_polling.specs.Outcomes.{is_passed, is_failed, is_read_end}
use Rattle.bus_polling.proofs.OutcomeLaws.{passed_answered, unfailed_end}
use Rattle.operations.specs.Ends.{Called}
use Rattle.operations.specs.Trace.{ArrayOperation}
use Rattle.pages.specs.Layout.{whole}
use Rattle.pages.specs.Over.{Over}
use Rattle.pages.proofs.OverLaws.{over_bytes_to}
use Rattle.pages.proofs.LayoutLaws.{erased_not_whole}
use Rattle.copies.specs.Blocks.{SamePages, block_in, page_in, is_marked, is_complete, is_table}
use Rattle.copies.specs.Table.{lists}
use Rattle.copies.specs.Current.{current_table, number_at}
use Rattle.copies.proofs.CompleteLaws.{complete_pages, table_complete}
use Rattle.progress.specs.Progress.{Progress, line_of}
use Rattle.progress.specs.Steps.{erase_on, resumed}
use Rattle.progress.proofs.WordLaws.{line_kept}
use Rattle.scan_block.specs.Pages.{pages_read}
use Rattle.scan_block.proofs.KeepLaws.{pages_keep, pages_reads}
use Rattle.format_erase.specs.Round.{after_erase, block_erased, erased_to}
use Rattle.damage.specs.Run.{failed_in, NoneFailed, Sound, Unchanged, Erased, block_on}
use Rattle.damage.proofs.PlaceLaws.{page-long, page-erased}
use Rattle.damage.proofs.EraseLaws.{erase_leaves}
use Rattle.damage.proofs.EachLaws.{each_map}
use Rattle.damage.proofs.ReadLaws.{pages_unchanged, pages_calm}
use Rattle.damage.proofs.FillLaws.{over-erased}
use Rattle.damage.proofs.CopyLaws.{erased_unmarked}
use Rattle.damage.proofs.ReplayLaws.{Leads, leads_kept}
use Rattle.recovery_stored.specs.Stored.{Left}
use Rattle.recovery_stored.specs.After.{After, Based, Below, MarksSame}
use Rattle.recovery_stored.specs.Remembered.{Remembers}
use Rattle.recovery_stored.proofs.AfterLaws.{after_old}
use Rattle.recovery_stored.proofs.BaseLaws as base
use Rattle.recovery_stored.proofs.BaseLaws.{picked_best}
use Rattle.recovery_stored.proofs.RememberedLaws.{remembers_based, remembers_calm}
use Rattle.recovery.specs.Calls.{failed_after}
use Rattle.recovery.specs.Recovery.{SparedBy, Spared}
use Rattle.recovery.proofs.SparedLaws.{spared_append, spared_steady}
use Rattle.recovery_format.proofs.TableFill.{resumed_sound}
use Rattle.recovery_format.proofs.EraseTouches.{Erases, erase_touches, read_spares}

-- FFh is a page of the table with all bits raised
erased-left : (g : Geometry) (array : List ℕ) (keeps : ℕ → Bool) (t : ℕ) → Remembers g array keeps t → (i : ℕ) → i < g.pages → Left g (replicate (page_size g) 255)
unfolding current_table
erased-left g array keeps t m i h =
    let best = picked_best (λ c. is_table g (block_in g array c)) (number_at g array) g.blocks t m.table_is in
    let c = complete_pages g (block_in g array t) (table_complete g (block_in g array t) best.passes) in
    let page = page_in g (block_in g array t) i in
    let there = m.left t i best.below h c.unmarked m.own in
    let long = page-long g m.is_valid array m.array_long t best.below i h in
    record {
      page = page;
      long = long;
      is_whole = c.is_whole i h;
      is_over = subst (λ (n : ℕ). Over page (replicate n 255)) long (over-erased page (over_bytes_to there.is_over));
    }

-- a block that an erase has set to FFh
pub after-erased : (g : Geometry) (before after : List ℕ) (keeps : ℕ → Bool) (t b : ℕ) → Remembers g before keeps t → length after ≡ chip_size g
    → ((c : ℕ) → c < g.blocks → (c ≡ b → ⊥) → block_in g after c ≡ block_in g before c) → block_in g after b ≡ replicate (block_size g) 255
    → After g before after b (λ i. page_in g (block_in g before b) i)
after-erased g before after keeps t b m long others q =
    let page : (i : ℕ) → i < g.pages → page_in g (block_in g after b) i ≡ replicate (page_size g) 255 = λ i h. ap (λ (x : List ℕ). page_in g x i) q ∙ page-erased g i h in
    record {
      long = long;
      others = others;
      only = λ i h w. clash w (ap (whole g.main) (page i h) ∙ erased_not_whole g.main (page_size g));
      left = λ i h. subst (Left g) (sym (page i h)) (erased-left g before keeps t m i h);
      unmarked = erased_unmarked g m.is_valid (block_in g after b) page;
    }

-- an erase of a block that may be erased, whether it passed or not
module _ (s : Setting) (mask_bytes : Bytes s.mask) (keeps : ℕ → Bool) (t b : ℕ) (p : Progress) (m : Remembers s.geometry p.line.chip.array keeps t)
    (d : Based s.geometry p.line.chip.array t b) (x : Erased s p (erase_on s b p) b) (long : length (erase_on s b p).line.chip.array ≡ chip_size s.geometry) where
  abbrev before : List ℕ
  before = p.line.chip.array

  abbrev after : List ℕ
  after = (erase_on s b p).line.chip.array

  pub erase_after : After s.geometry before after b (λ i. page_in s.geometry (block_on s p b) i)
  erase_after =
      cases (is_passed (erase_on s b p).outcome)
      (λ u. after-erased s.geometry before after keeps t b m long x.others (x.whole u))
      (λ f. after_old s.geometry before after t b s.mask d mask_bytes long x.others (x.partly f))

  kept : is_complete s.geometry (block_in s.geometry after b) ≡ true → SamePages s.geometry (block_in s.geometry after b) (block_on s p b)
  kept w i h = erase_after.only i h ((complete_pages s.geometry (block_in s.geometry after b) w).is_whole i h)

  pub erase_remembers : Remembers s.geometry after keeps t
  erase_remembers = remembers_calm s.geometry before after keeps t b (λ i. page_in s.geometry (block_on s p b) i) m d erase_after kept

  pub erase_marks : MarksSame s.geometry before after
  erase_marks = base.marks s.geometry before after t b (λ i. page_in s.geometry (block_on s p b) i) d erase_after

  pub erase_row : block_in s.geometry after t ≡ block_on s p t
  erase_row = base.table_row s.geometry before after t b (λ i. page_in s.geometry (block_on s p b) i) d erase_after

  pub erase_below : (n : ℕ) → Below s.geometry before n → Below s.geometry after n
  erase_below = base.below_kept s.geometry before after t b (λ i. page_in s.geometry (block_on s p b) i) d erase_after kept

-- the erase of a block that is not marked, that the current table does not list and that has not failed adds to a trace that spares bad blocks
pub erase_spares : (s : Setting) (p : Progress) (t b : ℕ) → Based s.geometry p.line.chip.array t b → lists s.geometry (block_on s p t) b ≡ false
    → is_passed p.outcome ≡ true → Called s p.line → line_of p ≡ 0
    → (marked : ℕ → Bool) → marked b ≡ false → failed_in b p.started ≡ false → Spared s.geometry marked (λ c. false) p.started
    → Spared s.geometry marked (λ c. false) (erase_on s b p).started
erase_spares s p t b d unlisted y called high marked unmarked unfailed so_far =
    let x = erase_touches s p b d.below y called high in
    let none : ℕ → Bool = λ c. false in
    subst (Spared s.geometry marked none) (sym x.started_is)
    (spared_append s.geometry marked none p.started x.adds so_far
    (spared_steady s.geometry marked (failed_after none p.started) x.adds
    (each_map (Erases p.line.chip.array b) (SparedBy s.geometry marked (failed_after none p.started)) spares x.adds x.each) x.steady))
  where
    spares : (o : ArrayOperation) → Erases p.line.chip.array b o → SparedBy s.geometry marked (failed_after (λ c. false) p.started) o
    spares o e =
        inr (record {
          below = omega (arith, e.block_is, d.below);
          unmarked = ap marked e.block_is ∙ unmarked;
          table = t;
          table_is = ap (current_table s.geometry) e.before_is ∙ d.table_is;
          unlisted = ap₂ (λ (a : List ℕ) (k : ℕ). lists s.geometry (block_in s.geometry a t) k) e.before_is e.block_is ∙ unlisted;
          unfailed = ap (failed_after (λ c. false) p.started) e.block_is ∙ unfailed;
        })

module _ (s : Setting) (mask_bytes : Bytes s.mask) (keeps : ℕ → Bool) (t : ℕ) (skip : List ℕ) (d : Device) (array : List ℕ) (long : length d.array ≡ chip_size s.geometry) where
  abbrev g : Geometry
  g = s.geometry

  -- blocks that are not passed over: unmarked, not listed, and not the table's
  pub record Open : Type 0 where
    pub unmarked : (b : ℕ) → b < g.blocks → bit_at skip b ≡ false → is_marked g (block_in g array b) ≡ false
    pub unlisted : (b : ℕ) → b < g.blocks → bit_at skip b ≡ false → lists g (block_in g array t) b ≡ false
    pub off_table : (b : ℕ) → b < g.blocks → bit_at skip b ≡ false → b ≡ t → ⊥

  abbrev marked : ℕ → Bool
  marked b = is_marked g (block_in g array b)

  -- the first n blocks led to p
  pub record Mid (n : ℕ) (p : Progress) : Type 0 where
    pub sound : Sound s p
    pub ends : is_read_end p.outcome ≡ true
    pub leads : Leads s d p
    pub remembers : Remembers g p.line.chip.array keeps t
    pub marks : MarksSame g array p.line.chip.array
    pub row : block_on s p t ≡ block_in g array t
    pub numbers : (n : ℕ) → Below g array n → Below g p.line.chip.array n
    pub high : line_of p ≡ 0
    pub spared : Spared g marked (λ b. false) p.started
    pub ahead : (b : ℕ) → n ≤ b → failed_in b p.started ≡ false

  array_long : (p : Progress) → Leads s d p → length p.line.chip.array ≡ chip_size g
  array_long p e = (subst (SameLengths d) e (run_lengths s d p.cycles)).array ∙ long

  module _ (due : Open) (n : ℕ) (below : n < g.blocks) (p : Progress) (x : Mid n p) (y : is_passed p.outcome ≡ true) (free : bit_at skip n ≡ false) where
    abbrev e : Progress
    e = erase_on s n p

    called : Called s p.line
    called = x.sound.called (passed_answered p.outcome y)

    left : Erased s p e n
    left = erase_leaves s p n below y called x.high

    leads_next : Leads s d e
    leads_next = (leads_kept s d).erase n p x.leads

    high_next : line_of e ≡ 0
    high_next = (line_kept s 0).erase n p x.high

    based : Based g p.line.chip.array t n
    based =
        remembers_based g p.line.chip.array keeps t n x.remembers below (x.marks n below ∙ due.unmarked n below free)
        (ap (λ (row : List ℕ). lists g row n) x.row ∙ due.unlisted n below free) (due.off_table n below free)

    remembers_next : Remembers g e.line.chip.array keeps t
    remembers_next = erase_remembers s mask_bytes keeps t n p x.remembers based left (array_long e leads_next)

    marks_next : MarksSame g array e.line.chip.array
    marks_next c h = erase_marks s mask_bytes keeps t n p x.remembers based left (array_long e leads_next) c h ∙ x.marks c h

    row_next : block_on s e t ≡ block_in g array t
    row_next = erase_row s mask_bytes keeps t n p x.remembers based left (array_long e leads_next) ∙ x.row

    numbers_next : (k : ℕ) → Below g array k → Below g e.line.chip.array k
    numbers_next k low = erase_below s mask_bytes keeps t n p x.remembers based left (array_long e leads_next) k (x.numbers k low)

    spared_next : Spared g marked (λ b. false) e.started
    spared_next =
        erase_spares s p t n based (ap (λ (row : List ℕ). lists g row n) x.row ∙ due.unlisted n below free) y called x.high marked (due.unmarked n below free) (x.ahead n (omega arith)) x.spared

    ahead_next : (b : ℕ) → suc n ≤ b → failed_in b e.started ≡ false
    ahead_next b h =
        left.failures b
        ∙ ap (λ (k : Bool). cond k true (cond (eqb n b) (is_failed e.outcome) false)) (x.ahead b (omega (arith, h)))
        ∙ ap (λ (k : Bool). cond k (is_failed e.outcome) false) (ne_eqb n b (λ k. omega (arith, k, h)))

    -- the erase did not fail, or its block is read
    unfailed : is_failed e.outcome ≡ false → Mid (suc n) e
    unfailed f =
        record { sound = left.sound; ends = unfailed_end e.outcome left.sound.known f left.sound.unprotected; leads = leads_next; remembers = remembers_next; marks = marks_next; row = row_next; numbers = numbers_next; high = high_next; spared = spared_next; ahead = ahead_next }

    module _ (w : is_failed e.outcome ≡ true) where
      abbrev scanned : Progress
      scanned = pages_read s n g.pages (resumed e)

      goes_on : Unchanged s e.line.chip.array e.line.chip.history (resumed e)
      unfolding is_read_end
      goes_on = record { sound = resumed_sound s e left.sound w; ends = refl; same_array = refl; same_history = refl }

      unchanged : Unchanged s e.line.chip.array e.line.chip.history scanned
      unchanged = pages_unchanged s e.line.chip.array e.line.chip.history called.is_valid n below g.pages (omega arith) (resumed e) goes_on

      calm : NoneFailed (resumed e) scanned
      calm = pages_calm s e.line.chip.array e.line.chip.history called.is_valid n below g.pages (omega arith) (resumed e) goes_on

      failed : Mid (suc n) scanned
      failed =
          record {
            sound = unchanged.sound;
            ends = unchanged.ends;
            leads = pages_keep s (Leads s d) (leads_kept s d) n g.pages (resumed e) leads_next;
            remembers = subst (λ (a : List ℕ). Remembers g a keeps t) (sym unchanged.same_array) remembers_next;
            marks = subst (MarksSame g array) (sym unchanged.same_array) marks_next;
            row = ap (λ (a : List ℕ). block_in g a t) unchanged.same_array ∙ row_next;
            numbers = λ k low. subst (λ (a : List ℕ). Below g a k) (sym unchanged.same_array) (numbers_next k low);
            high = pages_keep s (λ q. line_of q ≡ 0) (line_kept s 0) n g.pages (resumed e) high_next;
            spared = pages_reads s (λ q. Spared g marked (λ b. false) q.started) (read_spares s marked (λ b. false)) n g.pages (resumed e) spared_next;
            ahead = λ b h. calm b ∙ ahead_next b h;
          }

  module _ (due : Open) where
    -- a block that is passed over, or a round that has ended
    passes : (n : ℕ) (p : Progress) → Mid n p → Mid (suc n) p
    passes n p x =
        record { sound = x.sound; ends = x.ends; leads = x.leads; remembers = x.remembers; marks = x.marks; row = x.row; numbers = x.numbers; high = x.high; spared = x.spared; ahead = λ b h. x.ahead b (omega (arith, h)) }

    block_keeps : (n : ℕ) → n < g.blocks → (p : Progress) → Mid n p → Mid (suc n) (block_erased s skip n p)
    unfolding block_erased after_erase
    block_keeps n h p x =
        cases (is_passed p.outcome)
        (λ y.
        cases (bit_at skip n)
        (λ k. rw (y, k) (passes n p x))
        (λ k.
        cases (is_failed (erase_on s n p).outcome)
        (λ w. rw (y, k, w) (failed due n h p x y k w))
        (λ f. rw (y, k, f) (unfailed due n h p x y k f))))
        (λ f. rw f (passes n p x))

    pub round_remembers : (n : ℕ) → n ≤ g.blocks → (p : Progress) → Mid 0 p → Mid n (erased_to s skip n p).progress
    unfolding erased_to
    round_remembers zero h p x = x
    round_remembers (suc n) h p x = block_keeps n (omega (arith, h)) (erased_to s skip n p).progress (round_remembers n (omega (arith, h)) p x)
