-- The table fills of a request whose data fill has passed after a failure: what holds before each of them, and how they end.
-- Assumes nothing.
use Prim.Native.Nat.{ℕ, ◌+◌, ◌≤◌, ◌<◌}
use mathlib.Core.Bool.{Bool, true, false, cond}
use mathlib.Core.List.{List, ◌++◌}
use mathlib.Core.Logic.{◌⊎◌, inl, inr, ⊎_elim}
use mathlib.Core.Path.{◌≡◌, refl, sym, ap, subst, ◌∙◌}
use native.Mathlib.Omega.{arith}
use borrow.Table.Steps.{cases}
use borrow.Author.Tests.{eqb-true, eqb-false, ne_eqb}
use lib.Dec.{eqb}
use lib.ListN.{length, get_or, set, replicate}
use lib.Seq.{get_or-set_same, get_or-set_other}
use Rattle.geometry.specs.declared.Geometry.{Geometry}
use Rattle.geometry.specs.Limits.{Valid}
use Rattle.geometry.specs.Sizes.{chip_size}
use Rattle.bools.proofs.BoolLaws.{clash, or_none, and_none}
use Rattle.cells.specs.Bytes.{Bytes}
use Rattle.cells.specs.Part.{put}
use Rattle.bitmaps.specs.Bitmap.{bit_at, with_bit}
use Rattle.bitmaps.proofs.BitmapLaws.{Bitmap, bits_more}
use Rattle.chip_array.specs.Device.{Setting}
use Rattle.bus.specs.Line.{Line}
use Rattle.bus_polling.specs.Outcomes.{is_passed, is_failed, is_silent, is_cut_off, is_illegal, is_protected}
use Rattle.bus_polling.proofs.OutcomeLaws.{passed_answered, failed_answered, passed_unfailed, unfailed_end}
use Rattle.operations.specs.Ends.{Called}
use Rattle.operations.specs.Trace.{ArrayOperation}
use Rattle.pages.specs.Layout.{data_kind}
use Rattle.copies.specs.Blocks.{block_in, main_in, is_marked, is_complete}
use Rattle.copies.specs.Pick.{at}
use Rattle.copies.specs.Table.{lists, bitmap_of}
use Rattle.copies.specs.Current.{current_table, current_copy, kind_at, reading}
use Rattle.scan_found.specs.Contents.{entry_of, map_in, kinds_of}
use Rattle.scan_found.specs.Found.{bits_at}
use Rattle.scan_found.proofs.MapLaws.{length-tabulate}
use Rattle.state_choose.specs.Choose.{permitted}
use Rattle.state.specs.State.{blank, held_bits, next_number, number_end, numbers_left, taken, with_invalid, with_table}
use Rattle.state.specs.declared.State.{State}
use Rattle.state.proofs.HeldLaws.{held_table, held_entry}
use Rattle.request.specs.Call.{stop_answer}
use Rattle.request.proofs.CallLaws.{stop_answer_lem, stop_least, stop_silent, stop_cut}
use Rattle.progress.specs.Progress.{Progress, line_of}
use Rattle.progress.specs.Steps.{resumed}
use Rattle.fill.specs.Fill.{copy_page, table_copy, table_main, table_source, table_filled}
use Rattle.fill.proofs.KeepLaws.{filled_keeps}
use Rattle.fill_tables.specs.Tables.{tabled, tables_filled}
use Rattle.damage.specs.Run.{Labelled, Meant, from_caller, Sound, Filled, fill_most}
use Rattle.damage.specs.Touched.{Touched}
use Rattle.damage.proofs.CopyLaws.{copy-long, copy_bytes}
use Rattle.recovery_write.proofs.LongLaws.{Long, long_kept}
use Rattle.write_changes.proofs.LoopLaws.{Tabling, tables_end}
use Rattle.recovery_stored.specs.Stored.{Stored}
use Rattle.recovery_stored.specs.Knows.{Knows}
use Rattle.recovery_stored.specs.After.{Below, Free, MarksSame, Listed}
use Rattle.format_laws.proofs.TableBlockLaws.{table_label, table_long, table_bytes}
use Rattle.recovery_stored.proofs.StoredLaws.{same_at}
use Rattle.recovery_stored.proofs.FollowLaws.{marks_follow, map_renewed, kinds_renewed}
use Rattle.recovery_stored.proofs.KnowsLaws.{knows_facts, knows_marked, knows_invalid, knows_entry}
use Rattle.recovery_stored.proofs.ListedLaws.{near_table, bits_are, table_below}
use Rattle.recovery.specs.Book.{Book, Same, Change, entered}
use Rattle.recovery.specs.Copy.{sent_pages}
use Rattle.recovery.specs.Calls.{failed_after}
use Rattle.recovery.specs.Recovery.{Spared}
use Rattle.recovery.proofs.CopyLaws.{has_some}
use Rattle.recovery.proofs.SparedLaws.{failed_after-append, spared_append, spared_steady}
use Rattle.write_laws.specs.Changing.{ChangeAnswer, is_done, is_worn, is_spent, is_silent_fact, is_cut}
use Rattle.recovery_write.specs.Changed.{Agrees, MarkedBy, Proper, update_of, Changed}
use Rattle.recovery_write.proofs.ContentLaws as content
use Rattle.recovery_write.proofs.CopyLaws.{Permitted, permitted_so, now_set, still_set, still_clear, sent_elsewhere}
use Rattle.recovery_write.proofs.TryLaws as tries
use Rattle.recovery_write.proofs.DataLaws as phase
use Rattle.recovery_write.proofs.DataLaws.{Halted}

-- a request that was not acknowledged
pub halted_changed : (s : Setting) (c : Change) (book : Book) (marked failed : ℕ → Bool) (answer : ℕ) (p : Progress) → 0 < answer → Halted s c book marked failed answer p → Changed s c book marked failed (tabled p answer (blank 2))
halted_changed s c book marked failed answer p some h =
    record {
      answers = h.answers;
      legal = h.legal;
      stored = h.stored;
      done = λ z. absurd (omega (arith, z, some));
      ready = λ z. absurd (omega (arith, z, some));
      stopped = λ z x. refl;
      kept = λ z. absurd (omega (arith, z, h.most));
      kept_ready = λ z. absurd (omega (arith, z, h.most));
      table = h.table;
      table_is = h.table_is;
      reads = λ z. h.reads;
      marks = h.marks;
      spared = h.spared;
      silent_by = h.silent_by;
      used_up = h.used_up;
    }

module _ (s : Setting) (mask_bytes : Bytes s.mask) (first : Line) (called : Called s first) (st₀ : State) (c : Change) (book : Book) (marked₀ failed₀ : ℕ → Bool)
    (marks₀ : MarkedBy s.geometry first.chip.array marked₀) (agrees : Agrees s.geometry first.chip.array st₀ book failed₀) (proper : Proper s.geometry c)
    (st₁ : State) (f₁ : Bool) (p₁ : Progress) (d : phase.Done s mask_bytes first called st₀ c book marked₀ failed₀ marks₀ agrees proper st₁ f₁ p₁) where
  abbrev g : Geometry
  g = s.geometry

  abbrev array₀ : List ℕ
  array₀ = first.chip.array

  abbrev array₁ : List ℕ
  array₁ = p₁.line.chip.array

  abbrev t : ℕ
  t = st₀.table

  abbrev logical : ℕ
  logical = (update_of st₀ c).logical

  abbrev pub held : List ℕ
  held = held_bits st₁ g.logical

  v : Valid g
  v = called.is_valid

  logical_below : logical < g.logical
  logical_below = (content.change_content g array₀ st₀ book failed₀ agrees c proper).logical_below

  -- the map of the state
  map_long : length st₀.map ≡ 4096
  unfolding map_in
  map_long = ap length agrees.knows.map_is ∙ length-tabulate _ 4096

  map_is : st₁.map ≡ set st₀.map logical d.block
  map_is = ap (λ (z : State). z.map) d.state_is

  kinds_is : st₁.kinds ≡ set st₀.kinds logical data_kind
  kinds_is = ap (λ (z : State). z.kinds) d.state_is

  table_same : st₁.table ≡ t
  table_same = ap (λ (z : State). z.table) d.state_is

  marked_same : st₁.marked ≡ st₀.marked
  marked_same = ap (λ (z : State). z.marked) d.state_is

  logical_room : logical < length st₀.map
  logical_room = omega (arith, map_long, logical_below, v.logical_most, v.blocks_most)

  entry_here : get_or st₁.map logical 0 ≡ d.block
  entry_here = ap (λ (z : List ℕ). get_or z logical 0) map_is ∙ get_or-set_same st₀.map logical d.block 0 logical_room

  entry_other : (l : ℕ) → (l ≡ logical → ⊥) → get_or st₁.map l 0 ≡ get_or st₀.map l 0
  entry_other l x = ap (λ (z : List ℕ). get_or z l 0) map_is ∙ get_or-set_other st₀.map logical l d.block 0 x

  -- the map is that of an array on which the copies are these
  pub map_of : (array : List ℕ) (table : ℕ) → ((l : ℕ) → l < g.logical → current_copy g array table l ≡ current_copy g array₁ t l) → st₁.map ≡ map_in g array table
  map_of array table copies =
      map_is ∙ ap (λ (z : List ℕ). set z logical d.block) agrees.knows.map_is
      ∙ sym (map_renewed g array₀ array t table logical d.block logical_below (copies logical logical_below ∙ d.copy_is) (λ l h x. copies l h ∙ d.copies l h x))

  -- and the kinds, where they are of these kinds too
  pub kinds_of_fact : (array : List ℕ) (table : ℕ) → ((l : ℕ) → l < g.logical → kind_at g array (current_copy g array table l) ≡ kind_at g array₁ (current_copy g array₁ t l)) → st₁.kinds ≡ kinds_of g array table
  kinds_of_fact array table same =
      kinds_is ∙ ap (λ (z : List ℕ). set z logical data_kind) agrees.knows.kinds_is
      ∙ sym (kinds_renewed g array₀ array t table logical data_kind logical_below (same logical logical_below ∙ d.kind_is) (λ l h x. same l h ∙ d.copy_kinds l h x))

  -- the blocks of the table and of the current copies are held
  table_held : bit_at held t ≡ true
  table_held =
      subst (λ (k : ℕ). bit_at held k ≡ true) table_same
      (held_table st₁ g.logical (omega (arith, table_same, phase.table_below s mask_bytes first called st₀ c book marked₀ failed₀ marks₀ agrees proper, v.blocks_most)))

  copy_entry : (l b : ℕ) → l < g.logical → current_copy g array₁ t l ≡ at b → get_or st₁.map l 0 ≡ b
  unfolding entry_of
  copy_entry l b h e =
      cases (eqb l logical)
      (λ z. ap (λ (k : ℕ). get_or st₁.map k 0) (eqb-true l logical z) ∙ entry_here ∙ same_at (sym d.copy_is ∙ ap (current_copy g array₁ t) (sym (eqb-true l logical z)) ∙ e))
      (λ z.
      let x = eqb-false l logical z in
      entry_other l x ∙ knows_entry g array₀ st₀ agrees.stored agrees.knows l h ∙ ap entry_of (sym (d.copies l h x) ∙ e))

  copy_held : (l b : ℕ) → l < g.logical → current_copy g array₁ t l ≡ at b → bit_at held b ≡ true
  copy_held l b h e =
      let entry = copy_entry l b h e in
      subst (λ (k : ℕ). bit_at held k ≡ true) entry
      (held_entry st₁ g.logical l h (omega (arith, entry, (content.current_copied g array₁ t l b e).below, v.blocks_most)))

  block_held : bit_at held d.block ≡ true
  block_held = copy_held logical d.block logical_below d.copy_is

  -- the state with other invalid blocks and another number
  abbrev pub moved : ℕ → List ℕ → State
  moved n invalid =
      record { status = st₁.status; table = st₁.table; last = st₁.last; number = n; marked = st₁.marked; invalid = invalid; map = st₁.map; kinds = st₁.kinds }

  -- array and trace, while n is the next number, these blocks are invalid and this table is current
  pub record Rest (n : ℕ) (invalid : List ℕ) (table : ℕ) (array : List ℕ) (os : List ArrayOperation) : Type 0 where
    pub stored : Stored g array
    pub table_is : current_table g array ≡ at table
    pub table_from : (table ≡ t) ⊎ (bit_at invalid table ≡ true)
    pub listed : (b : ℕ) → b < g.blocks → lists g (block_in g array table) b ≡ true → bit_at invalid b ≡ true
    pub marks : MarksSame g array₀ array
    pub bits : Bitmap g.blocks invalid
    pub numbers : Below g array n
    pub copies : (l : ℕ) → l < g.logical → current_copy g array table l ≡ current_copy g array₁ t l
    pub copy_kinds : (l : ℕ) → l < g.logical → kind_at g array (current_copy g array table l) ≡ kind_at g array₁ (current_copy g array₁ t l)
    pub valid : (l b : ℕ) → l < g.logical → current_copy g array₁ t l ≡ at b → bit_at invalid b ≡ false
    pub table_valid : bit_at invalid t ≡ false
    pub apart : (b : ℕ) → b < g.blocks → is_marked g (block_in g array₀ b) ≡ true → bit_at invalid b ≡ false
    pub reads : Same g (reading g array table) (entered g c book)
    pub complete : is_complete g (block_in g array d.block) ≡ true
    pub sent : sent_pages g d.block os g.pages ≡ true
    pub failures : (b : ℕ) → b < g.blocks → failed_after failed₀ os b ≡ true → bit_at invalid b ≡ true
    pub spared : Spared g marked₀ failed₀ os

  -- before each table fill
  pub record Mid (st : State) (p : Progress) : Type 0 where
    pub state_is : st ≡ moved st.number st.invalid
    pub passed : is_passed p.outcome ≡ true
    pub sound : Sound s p
    pub long : Long (chip_size g) p
    pub high : line_of p ≡ 0
    pub table : ℕ
    pub rest : Rest (next_number st) st.invalid table p.line.chip.array p.started

  pub mid_first : Mid st₁ p₁
  mid_first =
      record {
        state_is = refl;
        passed = d.passed;
        sound = d.sound;
        long = d.long;
        high = d.high;
        table = t;
        rest = record {
          stored = d.stored;
          table_is = d.table_is;
          table_from = inl refl;
          listed = λ b h y. d.more b (knows_invalid g array₀ st₀ agrees.stored agrees.knows b h ∙ ap (λ (row : List ℕ). lists g row b) (sym d.table_same) ∙ y);
          marks = d.marks;
          bits = d.bits;
          numbers = d.numbers;
          copies = λ l h. refl;
          copy_kinds = λ l h. refl;
          valid = valid_first;
          table_valid = d.valid t (phase.table_held s mask_bytes first called st₀ c book marked₀ failed₀ marks₀ agrees proper) (knows_facts g array₀ st₀ agrees.stored agrees.knows).table_valid;
          apart = d.apart;
          reads = d.reads;
          complete = d.complete;
          sent = d.sent;
          failures = d.failures;
          spared = d.spared;
        };
      }
    where
      valid_first : (l b : ℕ) → l < g.logical → current_copy g array₁ t l ≡ at b → bit_at st₁.invalid b ≡ false
      valid_first l b h e =
          cases (eqb l logical)
          (λ z. ap (bit_at st₁.invalid) (same_at (sym e ∙ ap (current_copy g array₁ t) (eqb-true l logical z) ∙ d.copy_is)) ∙ d.block_valid)
          (λ z.
          let was = sym (d.copies l h (eqb-false l logical z)) ∙ e in
          let on = content.current_copied g array₀ t l b was in
          d.valid b (phase.copy_held s mask_bytes first called st₀ c book marked₀ failed₀ marks₀ agrees proper l b h was)
          (knows_invalid g array₀ st₀ agrees.stored agrees.knows b on.below ∙ on.unlisted))

  -- the fill of a permitted block b
  module _ (st : State) (p : Progress) (m : Mid st p) (number_fits : next_number st < number_end) (b : ℕ) (below : b < g.blocks) (may : permitted st.marked st.invalid held b ≡ true) where
    abbrev n : ℕ
    n = next_number st

    abbrev invalid : List ℕ
    invalid = st.invalid

    abbrev table : ℕ
    table = m.table

    abbrev before : List ℕ
    before = p.line.chip.array

    abbrev os : List ArrayOperation
    os = p.started

    r : Rest n invalid table before os
    r = m.rest

    is : Permitted st.marked invalid held b
    is = permitted_so st.marked invalid held b may

    off_held : (k : ℕ) → bit_at held k ≡ true → k ≡ b → ⊥
    off_held k y e = clash (sym (ap (bit_at held) e) ∙ y) is.unheld

    free : Free g before table b
    free =
        record {
          below = below;
          unmarked = r.marks b below ∙ sym (knows_marked g array₀ st₀ agrees.stored agrees.knows b below)
              ∙ sym (ap (λ (z : List ℕ). bit_at z b) (ap (λ (z : State). z.marked) m.state_is ∙ marked_same)) ∙ is.unmarked;
          unlisted = cases (lists g (block_in g before table) b) (λ y. clash (r.listed b below y) is.valid) (λ f. f);
          off_table = λ e.
              ⊎_elim (λ z. off_held t table_held (sym z ∙ sym e)) (λ z. clash (ap (bit_at invalid) e ∙ z) is.valid) r.table_from;
          off_copies = λ l h e. off_held b (copy_held l b h (sym (r.copies l h) ∙ e)) refl;
        }

    fits : Labelled (table_copy n)
    fits = table_label n number_fits

    main_long : (i : ℕ) → i < g.pages → length (table_main g invalid i) ≡ g.main
    main_long i h = table_long g v invalid r.bits i

    main_bytes : (i : ℕ) → i < g.pages → Bytes (table_main g invalid i)
    main_bytes i h = table_bytes g v invalid r.bits i

    abbrev pages : ℕ → List ℕ
    pages i = copy_page g (table_copy n) i (table_main g invalid i)

    pub meant : Meant s before b (table_copy n) (table_source g invalid) pages
    meant =
        record {
          long = copy-long g v (table_copy n) fits (table_main g invalid) main_long main_bytes;
          bytes = copy_bytes g v (table_copy n) fits (table_main g invalid) main_long main_bytes;
          provides = λ i h. from_caller (table_main g invalid i);
        }

    p_called : Called s p.line
    p_called = m.sound.called (passed_answered p.outcome m.passed)

    -- a fill that ended so
    pub tried_so : (q : Progress) → Filled s p q b pages g.pages (fill_most g) → Touched s p q b pages → tries.Tried s p q table b pages
    tried_so q leaves touches = tries.tried_from s mask_bytes p table b r.stored r.table_is free (table_copy n) fits (table_main g invalid) main_long main_bytes q leaves touches

    -- the whole fill in one call
    plain_try : tries.Tried s p (table_filled s b (next_number st) invalid p) table b pages
    plain_try = tries.tried s mask_bytes p m.passed p_called m.high table b r.stored r.table_is free (table_copy n) fits (table_main g invalid) main_long main_bytes _ meant

    plain_long : Long (chip_size g) (table_filled s b (next_number st) invalid p)
    plain_long = filled_keeps s (Long (chip_size g)) (long_kept s (chip_size g)) b _ _ p m.long

    -- however the fill was carried out
    module _ (q : Progress) (try : tries.Tried s p q table b pages) (long : Long (chip_size g) q) where
      abbrev adds : List ArrayOperation
      adds = try.touched.adds

      abbrev after : List ℕ
      after = q.line.chip.array

      unfailed : failed_after failed₀ os b ≡ false
      unfailed = cases (failed_after failed₀ os b) (λ y. clash (r.failures b below y) is.valid) (λ f. f)

      spared_next : Spared g marked₀ failed₀ (os ++ adds)
      spared_next =
          spared_append g marked₀ failed₀ os adds r.spared (spared_steady g marked₀ (failed_after failed₀ os) adds (try.spares marked₀ (failed_after failed₀ os) (sym (marks₀ b below) ∙ sym (r.marks b below) ∙ free.unmarked) unfailed) try.touched.steady)

      abbrev more-invalid : List ℕ
      more-invalid = with_bit invalid b

      few : g.blocks ≤ 4096
      few = v.blocks_most

      more_set : (k : ℕ) → bit_at invalid k ≡ true → bit_at more-invalid k ≡ true
      more_set = still_set g.blocks invalid b few below r.bits

      here_set : bit_at more-invalid b ≡ true
      here_set = now_set g.blocks invalid b few below r.bits

      failures_next : (k : ℕ) → k < g.blocks → failed_after failed₀ (os ++ adds) k ≡ true → bit_at more-invalid k ≡ true
      failures_next k h y =
          cases (eqb k b)
          (λ e. ap (bit_at more-invalid) (eqb-true k b e) ∙ here_set)
          (λ e. more_set k (r.failures k h (sym (none_here k (eqb-false k b e)) ∙ y)))
        where
          none_here : (k : ℕ) → (k ≡ b → ⊥) → failed_after failed₀ (os ++ adds) k ≡ failed_after failed₀ os k
          none_here k other =
              failed_after-append failed₀ os adds k
              ∙ ap (cond (failed_after failed₀ os k) true) (try.touched.failures k ∙ ap (λ (z : Bool). cond z (is_failed q.outcome) false) (ne_eqb b k (λ e. other (sym e))))
              ∙ or_none (failed_after failed₀ os k)

      off_marked : (k : ℕ) → k < g.blocks → is_marked g (block_in g array₀ k) ≡ true → k ≡ b → ⊥
      off_marked k h y e = clash y (sym (r.marks k h) ∙ ap (λ (j : ℕ). is_marked g (block_in g before j)) e ∙ free.unmarked)

      -- the new copy stays
      off_block : d.block ≡ b → ⊥
      off_block = off_held d.block block_held

      -- what follows whether or not the block is complete
      rest_with : (now : ℕ) → Stored g after → current_table g after ≡ at now → (now ≡ t) ⊎ (bit_at more-invalid now ≡ true)
          → ((k : ℕ) → k < g.blocks → lists g (block_in g after now) k ≡ true → bit_at invalid k ≡ true) → MarksSame g before after → Below g after (n + 1)
          → ((l : ℕ) → l < g.logical → current_copy g after now l ≡ current_copy g before table l)
          → ((l : ℕ) → l < g.logical → kind_at g after (current_copy g after now l) ≡ kind_at g before (current_copy g before table l)) → ((l i : ℕ) → l < g.logical → i < g.pages → reading g after now l i ≡ reading g before table l i)
          → Rest (n + 1) more-invalid now after (os ++ adds)
      rest_with now stored table_is table_from listed marks numbers copies copy_kinds reads =
          record {
            stored = stored;
            table_is = table_is;
            table_from = table_from;
            listed = λ k h y. more_set k (listed k h y);
            marks = λ k h. marks k h ∙ r.marks k h;
            bits = bits_more g.blocks invalid b few below r.bits;
            numbers = numbers;
            copies = λ l h. copies l h ∙ r.copies l h;
            copy_kinds = λ l h. copy_kinds l h ∙ r.copy_kinds l h;
            valid = λ l k h e. still_clear g.blocks invalid b few below r.bits k (off_held k (copy_held l k h e)) (r.valid l k h e);
            table_valid = still_clear g.blocks invalid b few below r.bits t (off_held t table_held) r.table_valid;
            apart = λ k h y. still_clear g.blocks invalid b few below r.bits k (off_marked k h y) (r.apart k h y);
            reads = λ l i h j. reads l i h j ∙ r.reads l i h j;
            complete = ap (is_complete g) (try.leaves.others d.block d.below off_block) ∙ r.complete;
            sent = sent_elsewhere g v before after b try.leaves.others os adds try.elsewhere d.block off_block ∙ r.sent;
            failures = failures_next;
            spared = spared_next;
          }

      rest_quiet : tries.Quiet g before after table b adds → Rest (n + 1) more-invalid table after (os ++ adds)
      rest_quiet k =
          rest_with table k.calm.stored k.calm.table_is (⊎_elim inl (λ z. inr (more_set table z)) r.table_from)
          (λ j h y. r.listed j h (ap (λ (row : List ℕ). lists g row j) (sym k.calm.table_same) ∙ y))
          k.calm.marks (λ j h y. omega (arith, k.below n r.numbers j h y)) k.calm.copies k.calm.kinds k.calm.reads

      -- the block is complete
      module _ (k : tries.Made g before after b pages adds) where
        renewed : Listed g before after table b invalid × (bits_at g after b ≡ invalid) × Below g after (n + 1)
        renewed = (
          near_table g before after table b n r.stored r.table_is free r.numbers number_fits invalid r.bits k.after_new k.complete r.listed is.valid
              (λ l j h e. r.valid l j h (sym (r.copies l h) ∙ e)) (λ j h y. r.apart j h (sym (r.marks j h) ∙ y)),
          bits_are g before after table b n r.stored r.table_is free r.numbers number_fits invalid r.bits k.after_new k.complete,
          table_below g before after table b n r.stored r.table_is free r.numbers number_fits invalid r.bits k.after_new k.complete,
        )

        rest_made : Rest (n + 1) more-invalid b after (os ++ adds)
        rest_made =
            rest_with b renewed.0.stored renewed.0.table_is (inr here_set) (λ j h y. sym (renewed.0.lists_are j h) ∙ y) renewed.0.marks renewed.2 renewed.0.copies renewed.0.kinds renewed.0.reads

      came : ((is_passed q.outcome ≡ false) × tries.Quiet g before after table b adds) ⊎ tries.Made g before after b pages adds
      came = try.comes long

      -- a table is current, and the rest holds of it
      record Next : Type 0 where
        now : ℕ
        rest : Rest (n + 1) more-invalid now after q.started

      next : Next
      next =
          ⊎_elim
          (λ k. record { now = table; rest = subst (Rest (n + 1) more-invalid table after) (sym try.touched.started_is) (rest_quiet k.1) })
          (λ k. record { now = b; rest = subst (Rest (n + 1) more-invalid b after) (sym try.touched.started_is) (rest_made k) }) came

      pub table_failed : is_failed q.outcome ≡ true → Mid (with_invalid b (taken st)) (resumed q)
      unfolding is_passed is_illegal is_cut_off is_silent is_failed is_protected
      table_failed w =
          record {
            state_is = ap (λ (z : State). with_invalid b (taken z)) m.state_is;
            passed = refl;
            sound = record { legal = try.leaves.sound.legal; known = refl; unprotected = refl; used_up = λ e. clash e refl; silent_by = λ e. clash e refl; failed_by_fact = λ e. clash e refl; called = λ e. try.leaves.sound.called (failed_answered q.outcome w) };
            long = long;
            high = try.leaves.same_line ∙ m.high;
            table = next.now;
            rest = next.rest;
          }

      -- it was silent or cut
      pub table_stopped : is_passed q.outcome ≡ false → is_failed q.outcome ≡ false → Halted s c book marked₀ failed₀ (stop_answer q.outcome) q
      table_stopped y f =
          let which = stop_answer_lem q.outcome (unfailed_end q.outcome try.leaves.sound.known f try.leaves.sound.unprotected) y in
          record {
            answers = ⊎_elim (λ e. subst ChangeAnswer (sym e) is_silent_fact) (λ e. subst ChangeAnswer (sym e) is_cut) which;
            most = ⊎_elim (λ e. omega (arith, e)) (λ e. omega (arith, e)) which;
            legal = try.leaves.sound.legal;
            stored = next.rest.stored;
            table = next.now;
            table_is = next.rest.table_is;
            reads = λ l i h j. next.rest.reads l i h j ∙ ap (λ (z : Bool). cond z (entered g c book) book l i) (sym (has_some g after q.started d.block d.below next.rest.sent next.rest.complete));
            marks = λ k h. next.rest.marks k h ∙ marks₀ k h;
            spared = next.rest.spared;
            silent_by = λ e. try.leaves.sound.silent_by (stop_silent q.outcome e);
            used_up = λ e. try.leaves.sound.used_up (stop_cut q.outcome e);
          }

      -- it passed
      module _ (y : is_passed q.outcome ≡ true) where
        made : tries.Made g before after b pages adds
        made = ⊎_elim (λ k. clash y k.0) (λ k. k) came

        table_passed : Agrees g after (with_table b (taken st)) (entered g c book) (failed_after failed₀ q.started)
        table_passed =
            record {
              stored = (renewed made).0.stored;
              knows = record {
                status_one = ap (λ (z : State). z.status) m.state_is ∙ ap (λ (z : State). z.status) d.state_is ∙ agrees.knows.status_one;
                table_is = (renewed made).0.table_is;
                marked_is = ap (λ (z : State). z.marked) m.state_is ∙ marked_same ∙ agrees.knows.marked_is ∙ sym (marks_follow g array₀ after (λ k h. (renewed made).0.marks k h ∙ r.marks k h));
                invalid_is = sym (renewed made).1;
                map_is = ap (λ (z : State). z.map) m.state_is ∙ map_of after b (λ l h. (renewed made).0.copies l h ∙ r.copies l h);
                kinds_is = ap (λ (z : State). z.kinds) m.state_is ∙ kinds_of_fact after b (λ l h. (renewed made).0.kinds l h ∙ r.copy_kinds l h);
                last_below = below;
                numbers = (renewed made).2;
              };
              reads = λ l i h j. (renewed made).0.reads l i h j ∙ r.reads l i h j;
              failed_listed = λ k h z. r.failures k h (sym (same_failed k) ∙ z);
            }
          where
            same_failed : (k : ℕ) → failed_after failed₀ q.started k ≡ failed_after failed₀ os k
            same_failed k =
                ap (λ (z : List ArrayOperation). failed_after failed₀ z k) try.touched.started_is
                ∙ failed_after-append failed₀ os adds k
                ∙ ap (cond (failed_after failed₀ os k) true) (try.touched.failures k ∙ ap (λ (z : Bool). cond (eqb b k) z false) (passed_unfailed q.outcome y) ∙ and_none (eqb b k))
                ∙ or_none (failed_after failed₀ os k)

      -- acknowledged
      pub table_changed : is_passed q.outcome ≡ true → Changed s c book marked₀ failed₀ (tabled q 0 (with_table b (taken st)))
      table_changed y =
          record {
            answers = is_done;
            legal = try.leaves.sound.legal;
            stored = (table_passed y).stored;
            done = λ z. table_passed y;
            ready = λ z. (try.leaves.sound.called (passed_answered q.outcome y)).ready;
            stopped = λ z. absurd (z refl);
            kept = λ z. absurd (omega (arith, z));
            kept_ready = λ z. absurd (omega (arith, z));
            table = b;
            table_is = (table_passed y).knows.table_is;
            reads = λ z. absurd (z refl);
            marks = λ k h. next.rest.marks k h ∙ marks₀ k h;
            spared = next.rest.spared;
            silent_by = λ z. absurd (omega (arith, z));
            used_up = λ z. absurd (omega (arith, z));
          }

  -- no number or no block is left
  pub table_none : (answer : ℕ) → ChangeAnswer answer → 0 < answer → answer < 10 → (st : State) (p : Progress) → Mid st p → Changed s c book marked₀ failed₀ (tabled p answer (blank 2))
  table_none answer is some few st p m =
      halted_changed s c book marked₀ failed₀ answer p some
      (record {
        answers = is;
        most = omega (arith, few);
        legal = m.sound.legal;
        stored = m.rest.stored;
        table = m.table;
        table_is = m.rest.table_is;
        reads = λ l i h j. m.rest.reads l i h j ∙ ap (λ (z : Bool). cond z (entered g c book) book l i) (sym (has_some g p.line.chip.array p.started d.block d.below m.rest.sent m.rest.complete));
        marks = λ k h. m.rest.marks k h ∙ marks₀ k h;
        spared = m.rest.spared;
        silent_by = λ e. absurd (omega (arith, e, few));
        used_up = λ e. absurd (omega (arith, e, few));
      })

  tabling : Tabling s held Mid (Changed s c book marked₀ failed₀)
  tabling =
      record {
        last_below = λ st p m. omega (arith, ap (λ (z : State). z.last) m.state_is, ap (λ (z : State). z.last) d.state_is, d.below);
        spent = λ st p m h. table_none 9 is_spent (omega arith) (omega arith) st p m;
        worn = λ st p m h none. table_none 8 is_worn (omega arith) (omega arith) st p m;
        passed = λ st p m h b l may y. table_changed st p m h b l may (table_filled s b (next_number st) st.invalid p) (plain_try st p m h b l may) (plain_long st p m h b l may) y;
        failed = λ st p m h b l may w. table_failed st p m h b l may (table_filled s b (next_number st) st.invalid p) (plain_try st p m h b l may) (plain_long st p m h b l may) w;
        stopped = λ st p m h b l may n w.
            halted_changed s c book marked₀ failed₀ _ _ (omega (arith, stop_least (table_filled s b (next_number st) st.invalid p).outcome)) (table_stopped st p m h b l may (table_filled s b (next_number st) st.invalid p) (plain_try st p m h b l may) (plain_long st p m h b l may) n w);
      }

  -- table fills until one passes
  pub tables_change : Changed s c book marked₀ failed₀ (tables_filled s held (numbers_left st₁) st₁ p₁)
  tables_change = tables_end s held Mid (Changed s c book marked₀ failed₀) tabling (numbers_left st₁) st₁ p₁ mid_first refl

  bits_same : bits_at g array₀ t ≡ bits_at g array₁ t
  bits_same = ap (λ (row : List ℕ). put 0 (bitmap_of g.blocks (main_in g row 0)) (replicate 512 0)) (sym d.table_same)

  -- the state after the data fill, with the invalid blocks that the table on the chip lists
  abbrev listing : State
  listing =
      record { status = st₁.status; table = st₁.table; last = st₁.last; number = st₁.number; marked = st₁.marked; invalid = st₀.invalid; map = st₁.map; kinds = st₁.kinds }

  pub listing_knows : Knows g array₁ listing
  listing_knows =
      record {
        status_one = ap (λ (z : State). z.status) d.state_is ∙ agrees.knows.status_one;
        table_is = d.table_is ∙ ap at (sym table_same);
        marked_is = marked_same ∙ agrees.knows.marked_is ∙ sym (marks_follow g array₀ array₁ d.marks);
        invalid_is = agrees.knows.invalid_is ∙ bits_same ∙ ap (bits_at g array₁) (sym table_same);
        map_is = map_of array₁ t (λ l h. refl) ∙ ap (map_in g array₁) (sym table_same);
        kinds_is = kinds_of_fact array₁ t (λ l h. refl) ∙ ap (kinds_of g array₁) (sym table_same);
        last_below = omega (arith, ap (λ (z : State). z.last) d.state_is, d.below);
        numbers = d.numbers;
      }

  -- no block failed: the table on the chip lists all invalid blocks
  pub data_change : f₁ ≡ false → Changed s c book marked₀ failed₀ (tabled p₁ 0 st₁)
  data_change e =
      record {
        answers = is_done;
        legal = d.sound.legal;
        stored = d.stored;
        done = λ z.
            record {
              stored = d.stored;
              knows = subst (Knows g array₁) (listing_is e) listing_knows;
              reads = λ l i h j. ap (λ (k : ℕ). reading g array₁ k l i) table_same ∙ d.reads l i h j;
              failed_listed = d.failures;
            };
        ready = λ z. (d.sound.called (passed_answered p₁.outcome d.passed)).ready;
        stopped = λ z. absurd (z refl);
        kept = λ z. absurd (omega (arith, z));
        kept_ready = λ z. absurd (omega (arith, z));
        table = t;
        table_is = d.table_is;
        reads = λ z. absurd (z refl);
        marks = λ k h. d.marks k h ∙ marks₀ k h;
        spared = d.spared;
        silent_by = λ z. absurd (omega (arith, z));
        used_up = λ z. absurd (omega (arith, z));
      }
    where
      listing_is : f₁ ≡ false → listing ≡ st₁
      listing_is e = ap (λ (z : List ℕ). record { status = st₁.status; table = st₁.table; last = st₁.last; number = st₁.number; marked = st₁.marked; invalid = z; map = st₁.map; kinds = st₁.kinds }) (sym (d.clean e))
