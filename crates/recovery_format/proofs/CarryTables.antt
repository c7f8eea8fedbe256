-- Table fills of a formatting on any chip: blocks carried over stay, and no block is touched that a complete table of this formatting lists. Assumes
-- nothing.
use Prim.Native.Nat.{ℕ, zero, suc, ◌≤◌, ◌<◌}
use mathlib.Core.Bool.{Bool, true, false, false≢true}
use mathlib.Core.List.{List, [], ◌∷◌}
use mathlib.Core.Logic.{◌⊎◌, inl, inr, ⊎_elim}
use mathlib.Core.Path.{◌≡◌, refl, sym, ap, subst, ◌∙◌}
use native.Mathlib.Omega.{arith}
use borrow.Table.Steps.{cases}
use borrow.Author.Tests.{eqb-true, eqb-false}
use lib.Dec.{eqb, ltb}
use lib.ListN.{length, replicate, get_or-replicate}
use Rattle.geometry.specs.declared.Geometry.{Geometry}
use Rattle.geometry.specs.Limits.{Valid}
use Rattle.geometry.specs.Sizes.{page_size, block_size, chip_size}
use Rattle.cells.specs.Bytes.{Bytes}
use Rattle.cells.specs.Cells.{raised}
use Rattle.cells.proofs.CellLaws.{raised-erased}
use Rattle.bools.proofs.BoolLaws.{clash, either}
use Rattle.bitmaps.specs.Bitmap.{bit_at, with_bit}
use Rattle.bitmaps.proofs.BitLaws.{bit_kept}
use Rattle.bitmaps.proofs.BitmapLaws.{Bitmap, bits_more, blank-bit}
use Rattle.chip_array.specs.Device.{Device, Setting}
use Rattle.chip_laws.specs.Lengths.{SameLengths}
use Rattle.chip_laws.proofs.LengthLaws.{run_lengths}
use Rattle.bus_polling.specs.Outcomes.{is_passed, is_failed}
use Rattle.bus_polling.proofs.OutcomeLaws.{passed_answered}
use Rattle.operations.specs.Trace.{ArrayOperation}
use Rattle.pages.specs.Layout.{whole}
use Rattle.pages.proofs.LayoutLaws.{erased_not_whole}
use Rattle.copies.specs.Blocks.{block_in, page_in, is_marked, is_table}
use Rattle.copies.specs.Carried.{is_carried}
use Rattle.copies.specs.Table.{lists}
use Rattle.copies.proofs.CompleteLaws.{complete_pages, table_complete}
use Rattle.state_choose.specs.Choose.{permitted}
use Rattle.state.specs.State.{none, blank, add_block, copy_bits, held_bits, next_number, number_end, numbers_left, taken, with_invalid, with_table}
use Rattle.state.specs.declared.State.{State}
use Rattle.progress.specs.Progress.{Progress, line_of}
use Rattle.progress.specs.Steps.{resumed}
use Rattle.fill.specs.Fill.{table_filled}
use Rattle.fill.proofs.KeepLaws.{filled_keeps}
use Rattle.fill_tables.specs.Tables.{Tabled, tabled, tables_filled}
use Rattle.damage.specs.Run.{Sound, block_on}
use Rattle.damage.specs.Touched.{Each, Touch, TouchedBy}
use Rattle.damage.proofs.PlaceLaws.{page-erased}
use Rattle.damage.proofs.ReplayLaws.{Leads, leads_kept}
use Rattle.format_laws.proofs.TableBlockLaws.{lists_invalid}
use Rattle.recovery_write.proofs.CopyLaws.{Permitted, permitted_so, still_set, was_clear}
use Rattle.recovery_format.specs.Carries.{programs, programmed_in, LeavesListed, LeftAlone}
use Rattle.recovery_format.proofs.LeftLaws.{programmed-append, not_programs, since, left_append, left_each}
use Rattle.recovery_format.proofs.TableFill.{tables_by, table_pages, Fill, table_fill, resumed_sound}

-- a state without copies holds no block but its table's
blank_copies : (n : ℕ) → n ≤ 4096 → (bits : List ℕ) → copy_bits (replicate 4096 none) n bits ≡ bits
unfolding copy_bits
blank_copies zero h bits = refl
blank_copies (suc n) h bits =
    rw (get_or-replicate 4096 n none 0 (omega (arith, h))) (blank_copies n (omega (arith, h)) bits)

pub held_only : (st : State) → st.map ≡ replicate 4096 none → (n : ℕ) → n ≤ 4096 → (b : ℕ) → bit_at (held_bits st n) b ≡ true → b ≡ st.table
held_only st e n h b t =
    let zeros : List ℕ = replicate 512 0 in
    let one : bit_at (add_block st.table zeros) b ≡ true = sym (ap (λ (x : List ℕ). bit_at x b) (ap (λ (x : List ℕ). copy_bits x n (add_block st.table zeros)) e ∙ blank_copies n h (add_block st.table zeros))) ∙ t in
    cases (ltb st.table 4096)
    (λ u.
    cases (eqb b st.table)
    (λ k. eqb-true b st.table k)
    (λ k. clash (rw u at one) (bit_kept zeros st.table b (eqb-false b st.table k) ∙ blank-bit 512 b)))
    (λ u. clash (rw u at one) (blank-bit 512 b))

-- an erased block is no table
pub erased_no_table : (g : Geometry) → 0 < g.pages → (row : List ℕ) → row ≡ replicate (block_size g) 255 → {P : Type 0} → is_table g row ≡ true → P
erased_no_table g some row e t =
    clash ((complete_pages g row (table_complete g row t)).is_whole 0 some)
    (ap (whole g.main) (ap (λ (x : List ℕ). page_in g x 0) e ∙ page-erased g 0 some) ∙ erased_not_whole g.main (page_size g))

-- what fills leave alone: held blocks, and block `old`, which is invalid only if `late`
module _ (s : Setting) (mask_bytes : Bytes s.mask) (d : Device) (long : length d.array ≡ chip_size s.geometry) (old : ℕ) (late : Bool) (held : List ℕ) where
  abbrev g : Geometry
  g = s.geometry

  abbrev array : List ℕ
  array = d.array

  -- the state and the chip between two fills
  pub record Carrying (st : State) (p : Progress) : Type 0 where
    pub passed : is_passed p.outcome ≡ true
    pub sound : Sound s p
    pub leads : Leads s d p
    pub high : line_of p ≡ 0
    pub bits : Bitmap g.blocks st.invalid
    pub last_below : st.last < g.blocks
    pub map_blank : st.map ≡ replicate 4096 none
    pub origin : (b : ℕ) → b < g.blocks → is_marked g (block_in g array b) ≡ bit_at st.marked b
    pub carried : (b : ℕ) → b < g.blocks → is_carried g array b ≡ true → bit_at st.invalid b ≡ true
    pub kept : (b : ℕ) → b < g.blocks → is_carried g array b ≡ true → block_on s p b ≡ block_in g array b
    pub listed : (u : ℕ) → u < g.blocks → programmed_in u p.started ≡ true → is_table g (block_on s p u) ≡ true → (c : ℕ) → c < g.blocks → lists g (block_on s p u) c ≡ true → bit_at st.invalid c ≡ true
    pub off_old : (u : ℕ) → programmed_in u p.started ≡ true → u ≡ old → ⊥
    pub old_bit : old < g.blocks → bit_at st.invalid old ≡ late
    pub left : LeftAlone g array (λ b. false) p.started

  -- permitted blocks are erased
  pub record Filling (st : State) (p : Progress) : Type 0 where
    pub carrying : Carrying st p
    pub erased : (b : ℕ) → b < g.blocks → Permitted st.marked st.invalid held b → block_on s p b ≡ replicate (block_size g) 255
    pub barred : old < g.blocks → Permitted st.marked st.invalid held old → ⊥

  -- a fill passed
  pub record Done (t : Tabled) : Type 0 where
    pub carrying : Carrying t.state t.progress
    pub table_below : t.state.table < g.blocks
    pub table_valid : Permitted t.state.marked t.state.invalid held t.state.table
    pub erased : (b : ℕ) → b < g.blocks → (b ≡ t.state.table → ⊥) → Permitted t.state.marked t.state.invalid held b → block_on s t.progress b ≡ replicate (block_size g) 255

  pub record Ends (t : Tabled) : Type 0 where
    pub kept : (b : ℕ) → b < g.blocks → is_carried g array b ≡ true → block_on s t.progress b ≡ block_in g array b
    pub left : LeftAlone g array (λ b. false) t.progress.started
    pub done : t.answer ≡ 0 → Done t

  module _ (st : State) (p : Progress) (x : Filling st p) (fits : next_number st < number_end) (b : ℕ) (below : b < g.blocks) (may : permitted st.marked st.invalid held b ≡ true) where
    m : Carrying st p
    m = x.carrying

    v : Valid g
    v = (m.sound.called (passed_answered p.outcome m.passed)).is_valid

    free : Permitted st.marked st.invalid held b
    free = permitted_so st.marked st.invalid held b may

    abbrev q : Progress
    q = table_filled s b (next_number st) st.invalid p

    abbrev before : List ℕ
    before = p.line.chip.array

    abbrev pages : ℕ → List ℕ
    pages = table_pages g st

    fill : Fill s st p q b
    fill = table_fill s mask_bytes st p m.passed m.sound m.high m.bits fits b below

    some : 0 < g.pages
    some = omega (arith, v.pages_least)

    leads_next : Leads s d q
    leads_next = filled_keeps s (Leads s d) (leads_kept s d) b _ _ p m.leads

    after_long : length q.line.chip.array ≡ chip_size g
    after_long = (subst (SameLengths d) leads_next (run_lengths s d q.cycles)).array ∙ long

    was_erased : block_on s p b ≡ replicate (block_size g) 255
    was_erased = x.erased b below free

    off : b ≡ old → ⊥
    off e = x.barred (omega (arith, e, below)) (subst (Permitted st.marked st.invalid held) e free)

    unmarked : is_marked g (block_in g array b) ≡ false
    unmarked = m.origin b below ∙ free.unmarked

    uncarried : is_carried g array b ≡ false
    uncarried = cases (is_carried g array b) (λ t. clash (m.carried b below t) free.valid) (λ f. f)

    -- the tables that an operation of this fill finds in blocks that were programmed: none lists this block
    unlisted : (filled : ℕ → Bool) → ((u : ℕ) → (u ≡ b → ⊥) → filled u ≡ true → programmed_in u p.started ≡ true) → (o : ArrayOperation) → Touch g before b pages o
        → (u : ℕ) → u < g.blocks → filled u ≡ true → is_table g (block_in g o.before u) ≡ true → lists g (block_in g o.before u) b ≡ false
    unlisted filled only o k u h f t =
        cases (eqb u b)
        (λ e.
        let here : is_table g (block_in g o.before b) ≡ true = subst (λ (c : ℕ). is_table g (block_in g o.before c) ≡ true) (eqb-true u b e) t in
        ⊎_elim
        (λ same. erased_no_table g some (block_in g o.before b) (same ∙ was_erased) here)
        (λ on.
        clash ((complete_pages g (block_in g o.before b) (table_complete g (block_in g o.before b) here)).is_whole on.page on.page_below)
        (ap (whole g.main) on.blank ∙ erased_not_whole g.main (page_size g)))
        k.here)
        (λ e.
        let other = eqb-false u b e in
        let row = k.others u h other in
        cases (lists g (block_in g o.before u) b)
        (λ l. clash (m.listed u h (only u other f) (sym (ap (is_table g) row) ∙ t) b below (sym (ap (λ (z : List ℕ). lists g z b) row) ∙ l)) free.valid)
        (λ l. l))

    leaves_listed : (filled : ℕ → Bool) → ((u : ℕ) → (u ≡ b → ⊥) → filled u ≡ true → programmed_in u p.started ≡ true) → (o : ArrayOperation) → Touch g before b pages o → LeavesListed g array filled o
    leaves_listed filled only o k =
        record {
          below = omega (arith, k.block_is, below);
          unmarked = ap (λ (c : ℕ). is_marked g (block_in g array c)) k.block_is ∙ unmarked;
          uncarried = ap (is_carried g array) k.block_is ∙ uncarried;
          unlisted = λ u h f t. ap (lists g (block_in g o.before u)) k.block_is ∙ unlisted filled only o k u h f t;
        }

    -- a program of this fill is of its block
    programs_own : (o : ArrayOperation) → TouchedBy g before b pages o → (u : ℕ) → programs u o ≡ true → u ≡ b
    programs_own o k u t =
        ⊎_elim
        (λ one. clash t (not_programs 1 (λ e. omega (arith, e)) u o one))
        (λ z.
        cases (eqb o.block u)
        (λ e. sym (eqb-true o.block u e) ∙ z.block_is)
        (λ e. clash t (rw e)))
        k

    programmed_own : (os : List ArrayOperation) → Each (TouchedBy g before b pages) os → (u : ℕ) → programmed_in u os ≡ true → u ≡ b
    unfolding programmed_in Each
    programmed_own [] a u t = absurd (false≢true t)
    programmed_own (o ∷ os) a u t = either (programs u o) (programmed_in u os) (u ≡ b) (programs_own o a.0 u) (λ y. programmed_own os a.1 u y) t

    left_next : LeftAlone g array (λ c. false) q.started
    left_next =
        subst (LeftAlone g array (λ c. false)) (sym fill.touches.started_is)
        (left_append g array (λ c. false) p.started fill.touches.adds m.left
        (left_each g array (TouchedBy g before b pages) (λ filled. (u : ℕ) → (u ≡ b → ⊥) → filled u ≡ true → programmed_in u p.started ≡ true)
        (λ filled o only k. (
          ⊎_elim inl (λ z. inr (leaves_listed filled only o z)) k,
          λ u other f. either (filled u) (programs u o) (programmed_in u p.started ≡ true) (only u other) (λ y. absurd (other (programs_own o k u y))) f,
        ))
        (since g array (λ c. false) p.started) (λ u other f. f) fill.touches.adds fill.touches.each))

    -- the blocks programmed: those before, and this one
    programmed_next : (u : ℕ) → programmed_in u q.started ≡ true → (programmed_in u p.started ≡ true) ⊎ (u ≡ b)
    programmed_next u t =
        either (programmed_in u p.started) (programmed_in u fill.touches.adds) ((programmed_in u p.started ≡ true) ⊎ (u ≡ b)) inl
        (λ y. inr (programmed_own fill.touches.adds fill.touches.each u y))
        (sym (ap (programmed_in u) fill.touches.started_is ∙ programmed-append u p.started fill.touches.adds) ∙ t)

    kept_next : (c : ℕ) → c < g.blocks → is_carried g array c ≡ true → block_on s q c ≡ block_in g array c
    kept_next c h k = fill.leaves.others c h (λ e. clash (sym (ap (is_carried g array) e) ∙ k) uncarried) ∙ m.kept c h k

    -- this block, if it has come to hold a table: the one that was meant
    own_lists : is_table g (block_on s q b) ≡ true → (c : ℕ) → c < g.blocks → lists g (block_on s q b) c ≡ true → bit_at st.invalid c ≡ true
    own_lists t c h l =
        ⊎_elim
        (λ k.
        erased_no_table g some (block_on s q b)
        (⊎_elim (λ same. same ∙ was_erased) (λ partly. partly ∙ ap (λ (y : List ℕ). raised y s.mask) was_erased ∙ raised-erased (block_size g) s.mask mask_bytes) k.block_was) t)
        (λ k.
        let new = fill.after q.line.chip.array after_long fill.leaves.others k.over in
        let whole-at = (complete_pages g (block_on s q b) (table_complete g (block_on s q b) t)).is_whole in
        sym (lists_invalid g v st.invalid m.bits (next_number st) fits (block_on s q b) (λ i j. new.only i j (whole-at i j)) c h) ∙ l)
        fill.touches.here

    listed_next : (u : ℕ) → u < g.blocks → programmed_in u q.started ≡ true → is_table g (block_on s q u) ≡ true → (c : ℕ) → c < g.blocks → lists g (block_on s q u) c ≡ true → bit_at st.invalid c ≡ true
    listed_next u h f t c k l =
        cases (eqb u b)
        (λ e.
        let same = eqb-true u b e in
        own_lists (subst (λ (j : ℕ). is_table g (block_on s q j) ≡ true) same t) c k (subst (λ (j : ℕ). lists g (block_on s q j) c ≡ true) same l))
        (λ e.
        let other = eqb-false u b e in
        let row = fill.leaves.others u h other in
        m.listed u h (⊎_elim (λ y. y) (λ y. absurd (other y)) (programmed_next u f)) (sym (ap (is_table g) row) ∙ t) c k (sym (ap (λ (z : List ℕ). lists g z c) row) ∙ l))

    off_next : (u : ℕ) → programmed_in u q.started ≡ true → u ≡ old → ⊥
    off_next u f e = ⊎_elim (λ y. m.off_old u y e) (λ y. off (sym y ∙ e)) (programmed_next u f)

    erased_next : (c : ℕ) → c < g.blocks → (c ≡ b → ⊥) → Permitted st.marked st.invalid held c → block_on s q c ≡ replicate (block_size g) 255
    erased_next c h k y = fill.leaves.others c h k ∙ x.erased c h y

    passes : is_passed q.outcome ≡ true → Ends (tabled q 0 (with_table b (taken st)))
    passes y =
        record {
          kept = kept_next;
          left = left_next;
          done = λ z. record {
            carrying = record {
              passed = y;
              sound = fill.leaves.sound;
              leads = leads_next;
              high = fill.high;
              bits = m.bits;
              last_below = below;
              map_blank = m.map_blank;
              origin = m.origin;
              carried = m.carried;
              kept = kept_next;
              listed = listed_next;
              off_old = off_next;
              old_bit = m.old_bit;
              left = left_next;
            };
            table_below = below;
            table_valid = free;
            erased = erased_next;
          };
        }

    -- a block that is not invalid after the failure of this one
    abbrev worse : List ℕ
    worse = with_bit st.invalid b

    more_bits : (c : ℕ) → bit_at st.invalid c ≡ true → bit_at worse c ≡ true
    more_bits = still_set g.blocks st.invalid b v.blocks_most below m.bits

    was_valid : (c : ℕ) → Permitted st.marked worse held c → (bit_at st.invalid c ≡ false) × (c ≡ b → ⊥)
    was_valid c y = was_clear g.blocks st.invalid b v.blocks_most below m.bits c y.valid

    still_free : (c : ℕ) → Permitted st.marked worse held c → Permitted st.marked st.invalid held c
    still_free c y = record { unmarked = y.unmarked; valid = (was_valid c y).0; unheld = y.unheld }

    fails : is_failed q.outcome ≡ true → Filling (with_invalid b (taken st)) (resumed q)
    unfolding is_passed
    fails w =
        record {
          carrying = record {
            passed = refl;
            sound = resumed_sound s q fill.leaves.sound w;
            leads = leads_next;
            high = fill.high;
            bits = bits_more g.blocks st.invalid b v.blocks_most below m.bits;
            last_below = m.last_below;
            map_blank = m.map_blank;
            origin = m.origin;
            carried = λ c h k. more_bits c (m.carried c h k);
            kept = kept_next;
            listed = λ u h f t c k l. more_bits c (listed_next u h f t c k l);
            off_old = off_next;
            old_bit = λ h. bit_kept st.invalid b old (λ e. off (sym e)) ∙ m.old_bit h;
            left = left_next;
          };
          erased = λ c h y. erased_next c h (was_valid c y).1 (still_free c y);
          barred = λ h y. x.barred h (still_free old y);
        }

    stops : (a : ℕ) → (a ≡ 0 → ⊥) → Ends (tabled q a (blank 2))
    stops a k = record { kept = kept_next; left = left_next; done = λ z. absurd (k z) }

  none_filled : (st : State) (p : Progress) → Filling st p → (a : ℕ) → (a ≡ 0 → ⊥) → Ends (tabled p a (blank 2))
  none_filled st p x a k = record { kept = x.carrying.kept; left = x.carrying.left; done = λ z. absurd (k z) }

  pub tables_carry : (st : State) (p : Progress) → Filling st p → Ends (tables_filled s held (numbers_left st) st p)
  tables_carry =
      tables_by s held Filling Ends (record { last_below = λ st p x. x.carrying.last_below; unfilled = none_filled; passed = passes; failed = fails; stopped = stops })
