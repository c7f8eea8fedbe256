-- The data fills of a request: what holds before each of them, and how they end. Assumes nothing.
use Prim.Native.Nat.{ℕ, ◌+◌, ◌≤◌, ◌<◌}
use mathlib.Core.Bool.{Bool, true, false, cond}
use mathlib.Core.List.{List, [], ◌++◌}
use mathlib.Core.Logic.{◌⊎◌, inl, inr, ⊎_elim}
use mathlib.Core.Path.{◌≡◌, refl, sym, ap, subst, ◌∙◌}
use native.Mathlib.Omega.{arith}
use borrow.Table.Steps.{cases}
use borrow.Author.Tests.{eqb-true, eqb-false, ne_eqb}
use lib.Dec.{eqb}
use lib.ListN.{get_or}
use Rattle.geometry.specs.declared.Geometry.{Geometry}
use Rattle.geometry.specs.Limits.{Valid}
use Rattle.geometry.specs.Sizes.{chip_size}
use Rattle.bools.proofs.BoolLaws.{clash, or_none, and_none}
use Rattle.cells.specs.Bytes.{Bytes}
use Rattle.bitmaps.specs.Bitmap.{bit_at, with_bit}
use Rattle.bitmaps.proofs.BitmapLaws.{Bitmap, bits_more}
use Rattle.chip_array.specs.Device.{Setting}
use Rattle.chip.specs.Chip.{Cycle}
use Rattle.bus.specs.Line.{Line}
use Rattle.bus_polling.specs.Outcomes.{is_passed, is_failed, is_silent, is_cut_off, is_illegal, is_protected}
use Rattle.bus_polling.specs.declared.Outcome.TheVariants.{Passed}
use Rattle.bus_polling.proofs.OutcomeLaws.{passed_answered, failed_answered, passed_unfailed, unfailed_end}
use Rattle.operations.specs.Ends.{Called}
use Rattle.operations.specs.Trace.{ArrayOperation}
use Rattle.pages.specs.Layout.{data_kind, kind_of, is_data_kind}
use Rattle.pages.proofs.LayoutLaws.{data_is}
use Rattle.copies.specs.Blocks.{block_in, is_marked, is_complete}
use Rattle.copies.specs.Pick.{at}
use Rattle.copies.specs.Table.{lists}
use Rattle.copies.specs.Current.{current_table, current_copy, kind_at, reading}
use Rattle.scan_found.specs.Contents.{entry_of}
use Rattle.state_choose.specs.Choose.{permitted}
use Rattle.state.specs.State.{blank, held_bits, next_number, number_end, numbers_left, taken, with_invalid, with_copy}
use Rattle.state.specs.declared.State.{State}
use Rattle.state.proofs.HeldLaws.{held_table, held_entry}
use Rattle.request.proofs.CallLaws.{stop_answer_lem, stop_silent, stop_cut}
use Rattle.progress.specs.Progress.{Progress, progress, line_of}
use Rattle.progress.specs.Steps.{resumed}
use Rattle.fill.specs.Fill.{copy, copy_page}
use Rattle.fill.proofs.KeepLaws.{filled_keeps}
use Rattle.damage.specs.Run.{Labelled, Meant, Sound, Slow, Filled, failed_in, fill_most}
use Rattle.damage.specs.Touched.{Each, Touched}
use Rattle.damage.proofs.EachLaws.{each_append}
use Rattle.recovery_write.proofs.LongLaws.{Long, long_kept}
use Rattle.mount_laws.proofs.StateLaws.{right_at_fact}
use Rattle.write_changes.specs.Changes.{Update, Copied, copied, copy_filled, stopped_at, copies_filled, update_source}
use Rattle.write_changes.proofs.LoopLaws.{Copying, copies_end}
use Rattle.recovery_stored.specs.Stored.{Stored}
use Rattle.recovery_stored.specs.After.{Below, Free, MarksSame, Renewed}
use Rattle.recovery_stored.proofs.StoredLaws.{same_at}
use Rattle.recovery_stored.proofs.KnowsLaws.{knows_facts, knows_marked, knows_invalid, knows_bits, knows_entry}
use Rattle.recovery_stored.proofs.RenewedLaws.{near_data, data_below, data_label}
use Rattle.recovery.specs.Book.{Book, Same, Change, write, erase, entered}
use Rattle.recovery.specs.Copy.{sent_pages, has_copy}
use Rattle.recovery.specs.Calls.{failed_after}
use Rattle.recovery.specs.Recovery.{Spared}
use Rattle.recovery.proofs.CopyLaws.{has_some, has_none}
use Rattle.recovery.proofs.SparedLaws.{failed_after-append, spared_append, spared_steady}
use Rattle.write_laws.specs.Changing.{ChangeAnswer, is_worn, is_spent, is_silent_fact, is_cut}
use Rattle.recovery_write.specs.Changed.{Agrees, MarkedBy, Proper, update_of}
use Rattle.recovery_write.proofs.ContentLaws as content
use Rattle.recovery_write.proofs.CopyLaws.{Permitted, permitted_so, now_set, still_set, was_clear, still_clear, page_kind, has_still, sent_here}
use Rattle.recovery_write.proofs.TryLaws as tries

-- a request that has ended with an answer other than 0
pub record Halted (s : Setting) (c : Change) (book : Book) (marked failed : ℕ → Bool) (answer : ℕ) (p : Progress) : Type 0 where
  pub answers : ChangeAnswer answer
  pub most : answer ≤ 11
  pub legal : p.line.chip.interface.illegal ≡ 0
  pub stored : Stored s.geometry p.line.chip.array
  pub table : ℕ
  pub table_is : current_table s.geometry p.line.chip.array ≡ at table
  pub reads : Same s.geometry (reading s.geometry p.line.chip.array table) (cond (has_copy s.geometry p.line.chip.array p.started) (entered s.geometry c book) book)
  pub marks : MarkedBy s.geometry p.line.chip.array marked
  pub spared : Spared s.geometry marked failed p.started
  pub silent_by : answer ≡ 10 → Slow s.fates
  pub used_up : answer ≡ 11 → p.line.left ≡ 0

-- pages of other logical blocks stay
pub entered_other : (g : Geometry) (c : Change) (book : Book) (st : State) (l p : ℕ) → (l ≡ (update_of st c).logical → ⊥) → entered g c book l p ≡ book l p
unfolding entered update_of
entered_other g (write logical page bytes) book st l p x = rw (ne_eqb l logical x)
entered_other g (erase logical) book st l p x = rw (ne_eqb l logical x)

either_book : (g : Geometry) (c : Change) (book : Book) (st : State) (d : Bool) (l p : ℕ) → (l ≡ (update_of st c).logical → ⊥) → cond d (entered g c book) book l p ≡ entered g c book l p
either_book g c book st true l p x = refl
either_book g c book st false l p x = sym (entered_other g c book st l p x)

module _ (s : Setting) (mask_bytes : Bytes s.mask) (first : Line) (called : Called s first) (st₀ : State) (c : Change) (book : Book) (marked₀ failed₀ : ℕ → Bool)
    (marks₀ : MarkedBy s.geometry first.chip.array marked₀) (agrees : Agrees s.geometry first.chip.array st₀ book failed₀) (proper : Proper s.geometry c) where
  abbrev g : Geometry
  g = s.geometry

  abbrev array₀ : List ℕ
  array₀ = first.chip.array

  abbrev u : Update
  u = update_of st₀ c

  abbrev logical : ℕ
  logical = u.logical

  abbrev held : List ℕ
  held = held_bits st₀ g.logical

  abbrev main : ℕ → List ℕ
  main = entered g c book logical

  abbrev t : ℕ
  t = st₀.table

  v : Valid g
  v = called.is_valid

  x : content.Content g array₀ held st₀ u main
  x = content.change_content g array₀ st₀ book failed₀ agrees c proper

  logical_fits : logical < 65536
  logical_fits = omega (arith, x.logical_below, v.logical_most, v.blocks_most)

  pub table_below : t < g.blocks
  table_below = (right_at_fact g array₀ t agrees.knows.table_is agrees.stored.mounts).below

  pub table_held : bit_at held t ≡ true
  table_held = held_table st₀ g.logical (omega (arith, table_below, v.blocks_most))

  -- the block of a current copy is held
  pub copy_held : (l b : ℕ) → l < g.logical → current_copy g array₀ t l ≡ at b → bit_at held b ≡ true
  unfolding entry_of
  copy_held l b h e =
      let entry : get_or st₀.map l 0 ≡ b = knows_entry g array₀ st₀ agrees.stored agrees.knows l h ∙ ap entry_of e in
      let on = content.current_copied g array₀ t l b e in
      subst (λ (k : ℕ). bit_at held k ≡ true) entry (held_entry st₀ g.logical l h (omega (arith, entry, on.below, v.blocks_most)))

  -- the state with other invalid blocks and another number
  abbrev pub moved : ℕ → List ℕ → State
  moved n invalid =
      record { status = st₀.status; table = st₀.table; last = st₀.last; number = n; marked = st₀.marked; invalid = invalid; map = st₀.map; kinds = st₀.kinds }

  -- array and trace, while n is the next number and these blocks are invalid
  pub record Rest (n : ℕ) (invalid array : List ℕ) (os : List ArrayOperation) : Type 0 where
    pub stored : Stored g array
    pub table_is : current_table g array ≡ at t
    pub kept : (b : ℕ) → b < g.blocks → bit_at held b ≡ true → block_in g array b ≡ block_in g array₀ b
    pub marks : MarksSame g array₀ array
    pub bits : Bitmap g.blocks invalid
    pub more : (b : ℕ) → bit_at st₀.invalid b ≡ true → bit_at invalid b ≡ true
    pub numbers : Below g array n
    pub copies : (l : ℕ) → l < g.logical → (l ≡ logical → ⊥) → current_copy g array t l ≡ current_copy g array₀ t l
    pub copy_kinds : (l : ℕ) → l < g.logical → (l ≡ logical → ⊥) → kind_at g array (current_copy g array t l) ≡ kind_at g array₀ (current_copy g array₀ t l)
    pub copy_from : (b : ℕ) → current_copy g array t logical ≡ at b → (current_copy g array₀ t logical ≡ at b) ⊎ (bit_at invalid b ≡ true)
    pub valid : (b : ℕ) → bit_at held b ≡ true → bit_at st₀.invalid b ≡ false → bit_at invalid b ≡ false
    pub apart : (b : ℕ) → b < g.blocks → is_marked g (block_in g array₀ b) ≡ true → bit_at invalid b ≡ false
    pub reads : Same g (reading g array t) (cond (has_copy g array os) (entered g c book) book)
    pub untried : (b : ℕ) → bit_at invalid b ≡ false → Each (λ o. o.kind ≡ 2 → o.block ≡ b → ⊥) os
    pub failures : (b : ℕ) → b < g.blocks → failed_after failed₀ os b ≡ true → bit_at invalid b ≡ true
    pub spared : Spared g marked₀ failed₀ os

  -- before each data fill; failed tells whether a block failed so far
  pub record Mid (st : State) (failed : Bool) (p : Progress) : Type 0 where
    pub state_is : st ≡ moved st.number st.invalid
    pub passed : is_passed p.outcome ≡ true
    pub sound : Sound s p
    pub long : Long (chip_size g) p
    pub high : line_of p ≡ 0
    pub rest : Rest (next_number st) st.invalid p.line.chip.array p.started
    pub clean : failed ≡ false → st.invalid ≡ st₀.invalid

  -- after a data fill that passed: the block filled holds the current copy
  pub record Done (st : State) (failed : Bool) (p : Progress) : Type 0 where
    pub block : ℕ
    pub below : block < g.blocks
    pub state_is : st ≡ with_copy data_kind logical block (moved st.number st.invalid)
    pub passed : is_passed p.outcome ≡ true
    pub sound : Sound s p
    pub long : Long (chip_size g) p
    pub high : line_of p ≡ 0
    pub stored : Stored g p.line.chip.array
    pub table_is : current_table g p.line.chip.array ≡ at t
    pub table_same : block_in g p.line.chip.array t ≡ block_in g array₀ t
    pub marks : MarksSame g array₀ p.line.chip.array
    pub bits : Bitmap g.blocks st.invalid
    pub more : (b : ℕ) → bit_at st₀.invalid b ≡ true → bit_at st.invalid b ≡ true
    pub numbers : Below g p.line.chip.array (next_number st)
    pub copies : (l : ℕ) → l < g.logical → (l ≡ logical → ⊥) → current_copy g p.line.chip.array t l ≡ current_copy g array₀ t l
    pub copy_kinds : (l : ℕ) → l < g.logical → (l ≡ logical → ⊥) → kind_at g p.line.chip.array (current_copy g p.line.chip.array t l) ≡ kind_at g array₀ (current_copy g array₀ t l)
    pub copy_is : current_copy g p.line.chip.array t logical ≡ at block
    pub kind_is : kind_at g p.line.chip.array (current_copy g p.line.chip.array t logical) ≡ data_kind
    pub valid : (b : ℕ) → bit_at held b ≡ true → bit_at st₀.invalid b ≡ false → bit_at st.invalid b ≡ false
    pub block_valid : bit_at st.invalid block ≡ false
    pub apart : (b : ℕ) → b < g.blocks → is_marked g (block_in g array₀ b) ≡ true → bit_at st.invalid b ≡ false
    pub reads : Same g (reading g p.line.chip.array t) (entered g c book)
    pub complete : is_complete g (block_in g p.line.chip.array block) ≡ true
    pub sent : sent_pages g block p.started g.pages ≡ true
    pub failures : (b : ℕ) → b < g.blocks → failed_after failed₀ p.started b ≡ true → bit_at st.invalid b ≡ true
    pub spared : Spared g marked₀ failed₀ p.started
    pub clean : failed ≡ false → st.invalid ≡ st₀.invalid

  -- however data fills end
  pub record Ends (d : Copied) : Type 0 where
    pub done : d.answer ≡ 0 → Done d.state d.failed d.progress
    pub halted : (d.answer ≡ 0 → ⊥) → Halted s c book marked₀ failed₀ d.answer d.progress
    pub stopped : (d.answer ≡ 0 → ⊥) → d.state ≡ blank 2

  -- the start
  rest_first : Rest (next_number st₀) st₀.invalid array₀ []
  unfolding Each Spared failed_in
  rest_first =
      record {
        stored = agrees.stored;
        table_is = agrees.knows.table_is;
        kept = λ b h e. refl;
        marks = λ b h. refl;
        bits = knows_bits g array₀ st₀ agrees.stored agrees.knows;
        more = λ b e. e;
        numbers = agrees.knows.numbers;
        copies = λ l h e. refl;
        copy_kinds = λ l h e. refl;
        copy_from = λ b e. inl e;
        valid = λ b e f. f;
        apart = λ b h m. (knows_facts g array₀ st₀ agrees.stored agrees.knows).apart b (omega (arith, h, v.blocks_most)) (knows_marked g array₀ st₀ agrees.stored agrees.knows b h ∙ m);
        reads = λ l p h i. agrees.reads l p h i ∙ ap (λ (z : Bool). cond z (entered g c book) book l p) (sym (has_none g array₀ (omega (arith, v.pages_least))));
        untried = λ b e. tt;
        failures = λ b h e. agrees.failed_listed b h (none_more b e);
        spared = tt;
      }
    where
      none_more : (b : ℕ) → failed_after failed₀ [] b ≡ true → failed₀ b ≡ true
      none_more b e = cases (failed₀ b) (λ y. y) (λ f. clash e (rw f))

  pub mid_first : (cs : List Cycle) → first.chip.interface.protected ≡ 0 → Mid st₀ false (progress first Passed cs [])
  unfolding is_passed is_illegal is_cut_off is_silent is_failed is_protected
  mid_first cs high =
      record {
        state_is = refl;
        passed = refl;
        sound = record { legal = called.legal; known = refl; unprotected = refl; used_up = λ e. clash e refl; silent_by = λ e. clash e refl; failed_by_fact = λ e. clash e refl; called = λ e. called };
        long = called.array_long;
        high = high;
        rest = rest_first;
        clean = λ e. refl;
      }

  -- the fill of a permitted block b
  module _ (st : State) (failed : Bool) (p : Progress) (m : Mid st failed p) (number_fits : next_number st < number_end) (b : ℕ) (below : b < g.blocks)
      (may : permitted st.marked st.invalid held b ≡ true) where
    abbrev n : ℕ
    n = next_number st

    abbrev invalid : List ℕ
    invalid = st.invalid

    abbrev before : List ℕ
    before = p.line.chip.array

    abbrev os : List ArrayOperation
    os = p.started

    r : Rest n invalid before os
    r = m.rest

    marked_is : st.marked ≡ st₀.marked
    marked_is = ap (λ (z : State). z.marked) m.state_is

    is : Permitted st.marked invalid held b
    is = permitted_so st.marked invalid held b may

    -- it was valid at the start, and holds nothing current
    first_valid : bit_at st₀.invalid b ≡ false
    first_valid = cases (bit_at st₀.invalid b) (λ y. clash (r.more b y) is.valid) (λ f. f)

    off_held : (k : ℕ) → bit_at held k ≡ true → k ≡ b → ⊥
    off_held k y e = clash (sym (ap (bit_at held) e) ∙ y) is.unheld

    free : Free g before t b
    free =
        record {
          below = below;
          unmarked = r.marks b below ∙ sym (knows_marked g array₀ st₀ agrees.stored agrees.knows b below) ∙ sym (ap (λ (z : List ℕ). bit_at z b) marked_is) ∙ is.unmarked;
          unlisted = ap (λ (row : List ℕ). lists g row b) (r.kept t table_below table_held) ∙ sym (knows_invalid g array₀ st₀ agrees.stored agrees.knows b below) ∙ first_valid;
          off_table = λ e. off_held t table_held (sym e);
          off_copies = λ l h e.
              cases (eqb l logical)
              (λ z.
              ⊎_elim (λ y. off_held b (copy_held logical b x.logical_below y) refl) (λ y. clash y is.valid)
              (r.copy_from b (subst (λ (k : ℕ). current_copy g before t k ≡ at b) (eqb-true l logical z) e)))
              (λ z. off_held b (copy_held l b h (sym (r.copies l h (eqb-false l logical z)) ∙ e)) refl);
        }

    fits : Labelled (copy data_kind logical n)
    fits = data_label logical n logical_fits number_fits

    pub meant : Meant s before b (copy data_kind logical n) (update_source g st u) (λ i. copy_page g (copy data_kind logical n) i (main i))
    meant =
        subst (λ (z : State). Meant s before b (copy data_kind logical n) (update_source g z u) (λ i. copy_page g (copy data_kind logical n) i (main i))) (sym m.state_is)
        (content.content_meant s v array₀ held st₀ u main x n fits before b is.unheld r.kept)

    p_called : Called s p.line
    p_called = m.sound.called (passed_answered p.outcome m.passed)

    abbrev pages : ℕ → List ℕ
    pages i = copy_page g (copy data_kind logical n) i (main i)

    -- a fill that ended so
    pub tried_so : (q : Progress) → Filled s p q b pages g.pages (fill_most g) → Touched s p q b pages → tries.Tried s p q t b pages
    tried_so q leaves touches = tries.tried_from s mask_bytes p t b r.stored r.table_is free (copy data_kind logical n) fits main x.long x.bytes q leaves touches

    -- the whole fill in one call
    plain_try : tries.Tried s p (copy_filled s u st b p) t b pages
    plain_try = tries.tried s mask_bytes p m.passed p_called m.high t b r.stored r.table_is free (copy data_kind logical n) fits main x.long x.bytes _ meant

    plain_long : Long (chip_size g) (copy_filled s u st b p)
    plain_long = filled_keeps s (Long (chip_size g)) (long_kept s (chip_size g)) b _ _ p m.long

    -- however the fill was carried out
    module _ (q : Progress) (try : tries.Tried s p q t b pages) (long : Long (chip_size g) q) where
      abbrev adds : List ArrayOperation
      adds = try.touched.adds

      abbrev after : List ℕ
      after = q.line.chip.array

      -- the block has not failed before
      unfailed : failed_after failed₀ os b ≡ false
      unfailed = cases (failed_after failed₀ os b) (λ y. clash (r.failures b below y) is.valid) (λ f. f)

      unmarked : marked₀ b ≡ false
      unmarked = sym (marks₀ b below) ∙ sym (r.marks b below) ∙ free.unmarked

      spared_next : Spared g marked₀ failed₀ (os ++ adds)
      spared_next =
          spared_append g marked₀ failed₀ os adds r.spared
          (spared_steady g marked₀ (failed_after failed₀ os) adds
          (try.spares marked₀ (failed_after failed₀ os) unmarked unfailed) try.touched.steady)

      kinds : (i : ℕ) → i < g.pages → is_data_kind (kind_of g.main (pages i)) ≡ true
      kinds i h = ap is_data_kind (page_kind g v (copy data_kind logical n) fits main x.long i h) ∙ data_is

      abbrev more-invalid : List ℕ
      more-invalid = with_bit invalid b

      few : g.blocks ≤ 4096
      few = v.blocks_most

      kept_next : (k : ℕ) → k < g.blocks → bit_at held k ≡ true → block_in g after k ≡ block_in g array₀ k
      kept_next k h y = try.leaves.others k h (off_held k y) ∙ r.kept k h y

      untried_next : (k : ℕ) → bit_at more-invalid k ≡ false → Each (λ o. o.kind ≡ 2 → o.block ≡ k → ⊥) (os ++ adds)
      untried_next k f =
          let was = was_clear g.blocks invalid b few below r.bits k f in
          each_append (λ o. o.kind ≡ 2 → o.block ≡ k → ⊥) os adds (r.untried k was.0) (try.elsewhere k was.1)

      failures_next : (k : ℕ) → k < g.blocks → failed_after failed₀ (os ++ adds) k ≡ true → bit_at more-invalid k ≡ true
      failures_next k h y =
          cases (eqb k b)
          (λ e. ap (bit_at more-invalid) (eqb-true k b e) ∙ now_set g.blocks invalid b few below r.bits)
          (λ e.
          let other = eqb-false k b e in
          still_set g.blocks invalid b few below r.bits k
          (r.failures k h (sym (none_here k other) ∙ y)))
        where
          none_here : (k : ℕ) → (k ≡ b → ⊥) → failed_after failed₀ (os ++ adds) k ≡ failed_after failed₀ os k
          none_here k other =
              failed_after-append failed₀ os adds k
              ∙ ap (cond (failed_after failed₀ os k) true) (try.touched.failures k ∙ ap (λ (z : Bool). cond z (is_failed q.outcome) false) (ne_eqb b k (λ e. other (sym e))))
              ∙ or_none (failed_after failed₀ os k)

      -- what follows whether or not the block is complete
      rest_with : Stored g after → current_table g after ≡ at t → MarksSame g before after → Below g after (n + 1)
          → ((l : ℕ) → l < g.logical → (l ≡ logical → ⊥) → current_copy g after t l ≡ current_copy g before t l)
          → ((l : ℕ) → l < g.logical → (l ≡ logical → ⊥) → kind_at g after (current_copy g after t l) ≡ kind_at g before (current_copy g before t l))
          → ((k : ℕ) → current_copy g after t logical ≡ at k → (current_copy g before t logical ≡ at k) ⊎ (k ≡ b))
          → Same g (reading g after t) (cond (has_copy g after (os ++ adds)) (entered g c book) book)
          → Rest (n + 1) more-invalid after (os ++ adds)
      rest_with stored table_is marks numbers copies copy_kinds copy_from reads =
          record {
            stored = stored;
            table_is = table_is;
            kept = kept_next;
            marks = λ k h. marks k h ∙ r.marks k h;
            bits = bits_more g.blocks invalid b few below r.bits;
            more = λ k y. still_set g.blocks invalid b few below r.bits k (r.more k y);
            numbers = numbers;
            copies = λ l h e. copies l h e ∙ r.copies l h e;
            copy_kinds = λ l h e. copy_kinds l h e ∙ r.copy_kinds l h e;
            copy_from = λ k e.
                ⊎_elim (λ y. ⊎_elim inl (λ z. inr (still_set g.blocks invalid b few below r.bits k z)) (r.copy_from k y))
                (λ y. inr (ap (bit_at more-invalid) y ∙ now_set g.blocks invalid b few below r.bits)) (copy_from k e);
            valid = λ k y f. still_clear g.blocks invalid b few below r.bits k (off_held k y) (r.valid k y f);
            apart = λ k h y. still_clear g.blocks invalid b few below r.bits k (off_marked k h y) (r.apart k h y);
            reads = reads;
            untried = untried_next;
            failures = failures_next;
            spared = spared_next;
          }
        where
          off_marked : (k : ℕ) → k < g.blocks → is_marked g (block_in g array₀ k) ≡ true → k ≡ b → ⊥
          off_marked k h y e = clash y (sym (r.marks k h) ∙ ap (λ (j : ℕ). is_marked g (block_in g before j)) e ∙ free.unmarked)

      rest_quiet : tries.Quiet g before after t b adds → Rest (n + 1) more-invalid after (os ++ adds)
      rest_quiet k =
          rest_with k.calm.stored k.calm.table_is k.calm.marks (λ j h y. omega (arith, k.below n r.numbers j h y))
          (λ l h e. k.calm.copies l h) (λ l h e. k.calm.kinds l h) (λ j e. inl (sym (k.calm.copies logical x.logical_below) ∙ e))
          (λ l i h j. k.calm.reads l i h j ∙ r.reads l i h j ∙ ap (λ (z : Bool). cond z (entered g c book) book l i) (sym same_has))
        where
          same_has : has_copy g after (os ++ adds) ≡ has_copy g before os
          same_has = has_still g v before after b try.leaves.others os adds try.elsewhere (r.untried b is.valid) k.unsent

      -- the block is complete
      module _ (k : tries.Made g before after b pages adds) where
        renewed : Renewed g before after t logical b main × Below g after (n + 1)
        renewed = (
          near_data g before after t b n logical r.stored r.table_is free r.numbers number_fits x.logical_below main x.long x.bytes k.after_new k.complete,
          data_below g before after t b n logical r.stored r.table_is free r.numbers number_fits x.logical_below main x.long x.bytes k.after_new k.complete,
        )

        sent : sent_pages g b (os ++ adds) g.pages ≡ true
        sent = sent_here g v before after b try.leaves.others os adds try.elsewhere pages kinds k.sent

        has : has_copy g after (os ++ adds) ≡ true
        has = has_some g after (os ++ adds) b below sent k.complete

        reads_new : Same g (reading g after t) (entered g c book)
        reads_new l i h j =
            cases (eqb l logical)
            (λ e. subst (λ (z : ℕ). reading g after t z i ≡ entered g c book z i) (sym (eqb-true l logical e)) (renewed.0.reads_new i j))
            (λ e.
            let other = eqb-false l logical e in
            renewed.0.reads l i h j other ∙ r.reads l i h j ∙ either_book g c book st₀ (has_copy g before os) l i other)

        rest_made : Rest (n + 1) more-invalid after (os ++ adds)
        rest_made =
            rest_with renewed.0.stored renewed.0.table_is renewed.0.marks renewed.1 renewed.0.copies renewed.0.kinds
            (λ j e. inr (same_at (sym e ∙ renewed.0.copy_is)))
            (λ l i h j. reads_new l i h j ∙ ap (λ (z : Bool). cond z (entered g c book) book l i) (sym has))

      came : ((is_passed q.outcome ≡ false) × tries.Quiet g before after t b adds) ⊎ tries.Made g before after b pages adds
      came = try.comes long

      high_next : line_of q ≡ 0
      high_next = try.leaves.same_line ∙ m.high

      rest_next : Rest (n + 1) more-invalid after q.started
      rest_next = subst (Rest (n + 1) more-invalid after) (sym try.touched.started_is) (⊎_elim (λ k. rest_quiet k.1) rest_made came)

      -- it passed
      module _ (y : is_passed q.outcome ≡ true) where
        made : tries.Made g before after b pages adds
        made = ⊎_elim (λ k. clash y k.0) (λ k. k) came

        next_unfailed : (k : ℕ) → failed_after failed₀ q.started k ≡ failed_after failed₀ os k
        next_unfailed k =
            ap (λ (z : List ArrayOperation). failed_after failed₀ z k) try.touched.started_is
            ∙ failed_after-append failed₀ os adds k
            ∙ ap (cond (failed_after failed₀ os k) true) (try.touched.failures k ∙ ap (λ (z : Bool). cond (eqb b k) z false) (passed_unfailed q.outcome y) ∙ and_none (eqb b k))
            ∙ or_none (failed_after failed₀ os k)

        pub data_done : Done (with_copy data_kind logical b (taken st)) failed q
        data_done =
            record {
              block = b;
              below = below;
              state_is = ap (λ (z : State). with_copy data_kind logical b (taken z)) m.state_is;
              passed = y;
              sound = try.leaves.sound;
              long = long;
              high = high_next;
              stored = rest_next.stored;
              table_is = rest_next.table_is;
              table_same = rest_next.kept t table_below table_held;
              marks = rest_next.marks;
              bits = r.bits;
              more = r.more;
              numbers = rest_next.numbers;
              copies = rest_next.copies;
              copy_kinds = rest_next.copy_kinds;
              copy_is = (renewed made).0.copy_is;
              kind_is = (renewed made).0.kind_new;
              valid = r.valid;
              block_valid = is.valid;
              apart = r.apart;
              reads = reads_new made;
              complete = made.complete;
              sent = ap (λ (z : List ArrayOperation). sent_pages g b z g.pages) try.touched.started_is ∙ sent made;
              failures = λ k h z. r.failures k h (sym (next_unfailed k) ∙ z);
              spared = rest_next.spared;
              clean = m.clean;
            }

      -- it failed: the block is invalid, and another is tried
      pub data_failed : is_failed q.outcome ≡ true → Mid (with_invalid b (taken st)) true (resumed q)
      unfolding is_passed is_illegal is_cut_off is_silent is_failed is_protected
      data_failed w =
          record {
            state_is = ap (λ (z : State). with_invalid b (taken z)) m.state_is;
            passed = refl;
            sound = record { legal = try.leaves.sound.legal; known = refl; unprotected = refl; used_up = λ e. clash e refl; silent_by = λ e. clash e refl; failed_by_fact = λ e. clash e refl; called = λ e. try.leaves.sound.called (failed_answered q.outcome w) };
            long = long;
            high = high_next;
            rest = rest_next;
            clean = λ e. clash refl e;
          }

      -- it was silent or cut
      pub data_stopped : is_passed q.outcome ≡ false → is_failed q.outcome ≡ false → Ends (stopped_at q)
      data_stopped n f =
          let which = stop_answer_lem q.outcome (unfailed_end q.outcome try.leaves.sound.known f try.leaves.sound.unprotected) n in
          record {
            done = λ z. absurd (⊎_elim (λ e. omega (arith, e, z)) (λ e. omega (arith, e, z)) which);
            halted = λ z.
                record {
                  answers = ⊎_elim (λ e. subst ChangeAnswer (sym e) is_silent_fact) (λ e. subst ChangeAnswer (sym e) is_cut) which;
                  most = ⊎_elim (λ e. omega (arith, e)) (λ e. omega (arith, e)) which;
                  legal = try.leaves.sound.legal;
                  stored = rest_next.stored;
                  table = t;
                  table_is = rest_next.table_is;
                  reads = rest_next.reads;
                  marks = λ k h. rest_next.marks k h ∙ marks₀ k h;
                  spared = rest_next.spared;
                  silent_by = λ e. try.leaves.sound.silent_by (stop_silent q.outcome e);
                  used_up = λ e. try.leaves.sound.used_up (stop_cut q.outcome e);
                };
            stopped = λ z. refl;
          }

  -- no number or no block is left
  pub data_none : (answer : ℕ) → ChangeAnswer answer → 0 < answer → answer < 10 → (st : State) (failed : Bool) (p : Progress) → Mid st failed p → Ends (copied p answer (blank 2) failed)
  data_none answer is some few st failed p m =
      record {
        done = λ z. absurd (omega (arith, z, some));
        halted = λ z.
            record {
              answers = is;
              most = omega (arith, few);
              legal = m.sound.legal;
              stored = m.rest.stored;
              table = t;
              table_is = m.rest.table_is;
              reads = m.rest.reads;
              marks = λ k h. m.rest.marks k h ∙ marks₀ k h;
              spared = m.rest.spared;
              silent_by = λ e. absurd (omega (arith, e, few));
              used_up = λ e. absurd (omega (arith, e, few));
            };
        stopped = λ z. refl;
      }

  pub last_same : (st : State) (failed : Bool) (p : Progress) → Mid st failed p → st.last < g.blocks
  last_same st failed p m = omega (arith, ap (λ (z : State). z.last) m.state_is, agrees.knows.last_below)

  copying : Copying s held u Mid Ends
  copying =
      record {
        last_below = last_same;
        spent = λ st f p m h. data_none 9 is_spent (omega arith) (omega arith) st f p m;
        worn = λ st f p m h none. data_none 8 is_worn (omega arith) (omega arith) st f p m;
        passed = λ st f p m h b l may y. record { done = λ z. data_done st f p m h b l may (copy_filled s u st b p) (plain_try st f p m h b l may) (plain_long st f p m h b l may) y; halted = λ z. absurd (z refl); stopped = λ z. absurd (z refl) };
        failed = λ st f p m h b l may w. data_failed st f p m h b l may (copy_filled s u st b p) (plain_try st f p m h b l may) (plain_long st f p m h b l may) w;
        stopped = λ st f p m h b l may n w. data_stopped st f p m h b l may (copy_filled s u st b p) (plain_try st f p m h b l may) (plain_long st f p m h b l may) n w;
      }

  pub data_ends : (cs : List Cycle) → first.chip.interface.protected ≡ 0 → Ends (copies_filled s held u (numbers_left st₀) false st₀ (progress first Passed cs []))
  data_ends cs high = copies_end s held u Mid Ends copying (numbers_left st₀) st₀ false (progress first Passed cs []) (mid_first cs high) refl
