-- Table fills forget no entry of the current table and spare bad blocks, wherever they are cut. Assumes nothing.
use Prim.Native.Nat.{ℕ, ◌+◌, ◌<◌}
use mathlib.Core.Bool.{Bool, true, false}
use mathlib.Core.List.{List}
use mathlib.Core.Logic.{◌⊎◌, inl, inr, ⊎_elim}
use mathlib.Core.Path.{◌≡◌, refl, sym, ap, ap₂, subst, ◌∙◌}
use native.Mathlib.Omega.{arith}
use borrow.Table.Steps.{cases}
use borrow.Author.Tests.{eqb-true}
use lib.Dec.{eqb}
use lib.ListN.{length}
use Rattle.geometry.specs.declared.Geometry.{Geometry}
use Rattle.geometry.specs.Limits.{Valid}
use Rattle.geometry.specs.Sizes.{page_size, chip_size}
use Rattle.cells.specs.Bytes.{Bytes}
use Rattle.bools.proofs.BoolLaws.{clash}
use Rattle.bitmaps.specs.Bitmap.{bit_at, with_bit}
use Rattle.bitmaps.proofs.BitLaws.{bit_kept}
use Rattle.bitmaps.proofs.BitmapLaws.{Bitmap, bits_more}
use Rattle.chip_array.specs.Device.{Device, Setting}
use Rattle.chip_laws.specs.Lengths.{SameLengths}
use Rattle.chip_laws.proofs.LengthLaws.{run_lengths}
use Rattle.bus_polling.specs.Outcomes.{is_passed, is_failed}
use Rattle.bus_polling.proofs.OutcomeLaws.{passed_unfailed}
use Rattle.operations.specs.Trace.{ArrayOperation}
use Rattle.pages.specs.Layout.{whole}
use Rattle.pages.proofs.LayoutLaws.{erased_not_whole}
use Rattle.copies.specs.Blocks.{SamePages, block_in, page_in, is_marked, is_complete}
use Rattle.copies.specs.Table.{lists}
use Rattle.copies.specs.Current.{current_table}
use Rattle.state_choose.specs.Choose.{permitted}
use Rattle.state.specs.State.{blank, next_number, number_end, numbers_left, taken, with_invalid, with_table}
use Rattle.state.specs.declared.State.{State}
use Rattle.progress.specs.Progress.{Progress, line_of}
use Rattle.progress.specs.Steps.{resumed}
use Rattle.fill.specs.Fill.{table_filled}
use Rattle.fill.proofs.KeepLaws.{filled_keeps}
use Rattle.fill_tables.specs.Tables.{Tabled, tabled, tables_filled}
use Rattle.damage.specs.Run.{failed_in, Sound, Filled, block_on, fill_most}
use Rattle.damage.specs.Touched.{Touch, TouchedBy, Touched}
use Rattle.damage.proofs.EachLaws.{each_map}
use Rattle.damage.proofs.TraceLaws.{unfailed-none}
use Rattle.copies.proofs.CompleteLaws.{complete_pages}
use Rattle.damage.proofs.ReplayLaws.{Leads, leads_kept}
use Rattle.format_laws.proofs.TableBlockLaws.{lists_invalid}
use Rattle.recovery_stored.specs.After.{After, Based, Below, MarksSame}
use Rattle.recovery_stored.specs.Remembered.{Remembers}
use Rattle.recovery_stored.proofs.AfterLaws.{after_old}
use Rattle.recovery_stored.proofs.BaseLaws as base
use Rattle.recovery_stored.proofs.RememberedLaws as remembered
use Rattle.recovery_stored.proofs.RememberedLaws.{remembers_based}
use Rattle.recovery.specs.Calls.{failed_after}
use Rattle.recovery.specs.Recovery.{SparesBad, SparedBy, Spared}
use Rattle.recovery.proofs.SparedLaws.{spared_append, spared_steady}
use Rattle.recovery_write.proofs.CopyLaws.{Permitted, permitted_so, now_set, still_set}
use Rattle.recovery_format.proofs.TableFill.{tables_by, table_pages, Fill, table_fill, resumed_sound}

module _ (s : Setting) (mask_bytes : Bytes s.mask) (keeps : ℕ → Bool) (held start : List ℕ) (d : Device) (long : length d.array ≡ chip_size s.geometry) where
  abbrev g : Geometry
  g = s.geometry

  -- the factory marks that the formatting found
  abbrev marked : ℕ → Bool
  marked b = is_marked g (block_in g d.array b)

  -- the state and the array while table u is current: it lists nothing but invalid blocks, and every complete block's number is below the next one
  pub record Good (st : State) (u : ℕ) (p : Progress) : Type 0 where
    pub passed : is_passed p.outcome ≡ true
    pub sound : Sound s p
    pub leads : Leads s d p
    pub remembers : Remembers g p.line.chip.array keeps u
    pub marks : (b : ℕ) → b < g.blocks → is_marked g (block_on s p b) ≡ bit_at st.marked b
    pub bits : Bitmap g.blocks st.invalid
    pub numbers : Below g p.line.chip.array (next_number st)
    pub listed : (b : ℕ) → b < g.blocks → lists g (block_on s p u) b ≡ true → bit_at st.invalid b ≡ true
    pub apart : (b : ℕ) → b < g.blocks → bit_at st.marked b ≡ true → bit_at st.invalid b ≡ false
    pub last_below : st.last < g.blocks
    pub high : line_of p ≡ 0
    pub origin : (b : ℕ) → b < g.blocks → marked b ≡ bit_at st.marked b
    pub spared : Spared g marked (λ b. false) p.started
    pub failures : (b : ℕ) → b < g.blocks → failed_in b p.started ≡ true → bit_at st.invalid b ≡ true

  -- blocks that are held are invalid only if they were so at the start
  abbrev pub HeldSame : State → Type 0
  HeldSame st = (b : ℕ) → b < g.blocks → bit_at held b ≡ true → bit_at st.invalid b ≡ bit_at start b

  -- the current table's block is held, or has failed
  pub record Filling (st : State) (p : Progress) : Type 0 where
    pub table : ℕ
    pub good : Good st table p
    pub from : (bit_at held table ≡ true) ⊎ (bit_at st.invalid table ≡ true)
    pub held_same : HeldSame st

  -- a fill passed
  pub record Done (t : Tabled) (table : ℕ) : Type 0 where
    pub good : Good t.state table t.progress
    pub table_is : table ≡ t.state.table
    pub below : table < g.blocks
    pub unheld : bit_at held table ≡ false
    pub held_same : HeldSame t.state

  pub record Ends (t : Tabled) : Type 0 where
    pub table : ℕ
    pub remembers : Remembers g t.progress.line.chip.array keeps table
    pub spared : Spared g marked (λ b. false) t.progress.started
    pub marks : MarksSame g d.array t.progress.line.chip.array
    pub done : t.answer ≡ 0 → Done t table

  module _ (st : State) (p : Progress) (x : Filling st p) (fits : next_number st < number_end) (b : ℕ) (below : b < g.blocks) (may : permitted st.marked st.invalid held b ≡ true) where
    abbrev u : ℕ
    u = x.table

    m : Good st u p
    m = x.good

    abbrev n : ℕ
    n = next_number st

    abbrev invalid : List ℕ
    invalid = st.invalid

    abbrev before : List ℕ
    before = p.line.chip.array

    v : Valid g
    v = m.remembers.is_valid

    free : Permitted st.marked invalid held b
    free = permitted_so st.marked invalid held b may

    off : b ≡ u → ⊥
    off e = ⊎_elim (λ z. clash (ap (bit_at held) e ∙ z) free.unheld) (λ z. clash (ap (bit_at invalid) e ∙ z) free.valid) x.from

    clear : is_marked g (block_on s p b) ≡ false
    clear = m.marks b below ∙ free.unmarked

    unfailed : failed_in b p.started ≡ false
    unfailed = cases (failed_in b p.started) (λ k. clash (m.failures b below k) free.valid) (λ f. f)

    unlisted : lists g (block_on s p u) b ≡ false
    unlisted = cases (lists g (block_on s p u) b) (λ y. clash (m.listed b below y) free.valid) (λ f. f)

    based : Based g before u b
    based = remembers_based g before keeps u b m.remembers below clear unlisted off

    abbrev pages : ℕ → List ℕ
    pages = table_pages g st

    abbrev q : Progress
    q = table_filled s b n invalid p

    abbrev after : List ℕ
    after = q.line.chip.array

    fill : Fill s st p q b
    fill = table_fill s mask_bytes st p m.passed m.sound m.high m.bits fits b below

    leaves : Filled s p q b pages g.pages (fill_most g)
    leaves = fill.leaves

    touches : Touched s p q b pages
    touches = fill.touches

    leads_next : Leads s d q
    leads_next = filled_keeps s (Leads s d) (leads_kept s d) b _ _ p m.leads

    after_long : length after ≡ chip_size g
    after_long = (subst (SameLengths d) leads_next (run_lengths s d q.cycles)).array ∙ long

    -- the array that an operation of this fill finds, on which nothing new is complete
    module _ (array : List ℕ) (y : ℕ → List ℕ) (r : After g before array b y) (same : is_complete g (block_in g array b) ≡ true → SamePages g (block_in g array b) (block_in g before b)) where
      spares_at : (o : ArrayOperation) → o.block ≡ b → o.before ≡ array → SparesBad g marked (failed_after (λ c. false) p.started) o
      spares_at o eb ex =
          record {
            below = omega (arith, eb, below);
            unmarked = ap marked eb ∙ m.origin b below ∙ free.unmarked;
            table = u;
            table_is = ap (current_table g) ex ∙ base.table_kept g before array u b y based r same;
            unlisted = ap₂ (λ (a : List ℕ) (k : ℕ). lists g (block_in g a u) k) ex eb ∙ ap (λ (row : List ℕ). lists g row b) (base.table_row g before array u b y based r) ∙ unlisted;
            unfailed = ap (failed_after (λ c. false) p.started) eb ∙ unfailed;
          }

    spares : (o : ArrayOperation) → Touch g before b pages o → SparesBad g marked (failed_after (λ c. false) p.started) o
    spares o k =
        let array = o.before in
        let array_long : length array ≡ chip_size g = k.long ∙ m.remembers.array_long in
        ⊎_elim
        (λ e.
        let old = after_old g before array u b s.mask based mask_bytes array_long k.others (inl e) in
        spares_at array (λ i. page_in g (block_in g before b) i) old (λ w i h. old.only i h ((complete_pages g (block_in g array b) w).is_whole i h)) o k.block_is refl)
        (λ e.
        spares_at array pages (fill.after array array_long k.others e.over)
        (λ w. clash ((complete_pages g (block_in g array b) w).is_whole e.page e.page_below) (ap (whole g.main) e.blank ∙ erased_not_whole g.main (page_size g))) o k.block_is refl)
        k.here

    spared_next : Spared g marked (λ c. false) q.started
    spared_next =
        let failed = failed_after (λ c. false) p.started in
        subst (Spared g marked (λ c. false)) (sym touches.started_is)
        (spared_append g marked (λ c. false) p.started touches.adds m.spared
        (spared_steady g marked failed touches.adds
        (each_map (TouchedBy g before b pages) (SparedBy g marked failed) (λ o k. ⊎_elim inl (λ z. inr (spares o z)) k) touches.adds touches.each) touches.steady))

    -- the blocks that failed: those before, and this one
    failed_next_fact : (c : ℕ) → failed_in c q.started ≡ true → (failed_in c p.started ≡ true) ⊎ (c ≡ b)
    failed_next_fact c k =
        let all = sym (leaves.failures c) ∙ k in
        cases (failed_in c p.started) inl
        (λ f.
        cases (eqb b c)
        (λ e. inr (sym (eqb-true b c e)))
        (λ e. clash all (rw (f, e))))

    failed_passed : is_failed q.outcome ≡ false → (c : ℕ) → failed_in c q.started ≡ failed_in c p.started
    failed_passed f = unfailed-none p q b f leaves.failures

    held_kept : (c : ℕ) → bit_at held c ≡ true → c ≡ b → ⊥
    held_kept c k e = clash (sym (ap (bit_at held) e) ∙ k) free.unheld

    -- either the table stays, or block b has become it
    pub record Came : Type 0 where
      pub now : ℕ
      pub remembers : Remembers g after keeps now
      pub numbers : Below g after (n + 1)
      pub listed : (c : ℕ) → c < g.blocks → lists g (block_in g after now) c ≡ true → bit_at invalid c ≡ true
      pub is_new : is_passed q.outcome ≡ true → now ≡ b
      pub is_either : (now ≡ u) ⊎ (now ≡ b)
      pub marks : (c : ℕ) → c < g.blocks → is_marked g (block_in g after c) ≡ bit_at st.marked c

    -- nothing new is complete
    module _ (y : ℕ → List ℕ) (r : After g before after b y) (same : is_complete g (block_in g after b) ≡ true → (i : ℕ) → i < g.pages → page_in g (block_in g after b) i ≡ page_in g (block_in g before b) i) (failed : is_passed q.outcome ≡ false) where
      calm : Came
      calm =
          record {
            now = u;
            remembers = remembered.remembers_calm g before after keeps u b y m.remembers based r same;
            numbers = λ c h w. let low = base.below_kept g before after u b y based r same n m.numbers c h w in omega (arith, low);
            listed = λ c h w. m.listed c h (sym (ap (λ (row : List ℕ). lists g row c) (base.table_row g before after u b y based r)) ∙ w);
            is_new = λ z. clash z failed;
            is_either = inl refl;
            marks = λ c h. base.marks g before after u b y based r c h ∙ m.marks c h;
          }

    module _ (r : After g before after b pages) where
      fresh : is_complete g (block_in g after b) ≡ true → Came
      fresh w =
          let still : (c : ℕ) → c < g.blocks → lists g (block_in g before u) c ≡ true → bit_at invalid c ≡ true = λ c h k. m.listed c h k in
          let spared : (c : ℕ) → c < g.blocks → is_marked g (block_in g before c) ≡ true → bit_at invalid c ≡ false = λ c h k. m.apart c h (sym (m.marks c h) ∙ k) in
          let now-pages : (i : ℕ) → i < g.pages → page_in g (block_in g after b) i ≡ pages i = λ i h. r.only i h ((complete_pages g (block_in g after b) w).is_whole i h) in
          record {
            now = b;
            remembers = remembered.remembers_new g before after keeps u b n invalid m.bits fits m.remembers based m.numbers r w still free.valid spared;
            numbers = remembered.below_new g before after keeps u b n invalid m.bits fits m.remembers based m.numbers r w still free.valid spared;
            listed = λ c h z. sym (lists_invalid g v invalid m.bits n fits (block_in g after b) now-pages c h) ∙ z;
            is_new = λ z. refl;
            is_either = inr refl;
            marks = λ c h. base.marks g before after u b pages based r c h ∙ m.marks c h;
          }

      unpassed : is_complete g (block_in g after b) ≡ false → is_passed q.outcome ≡ false
      unpassed f =
          cases (is_passed q.outcome)
          (λ y. clash (fill.complete y) f)
          (λ k. k)

      since : Came
      since = cases (is_complete g (block_in g after b)) fresh (λ f. calm pages r (λ w. clash w f) (unpassed f))

    came : Came
    came =
        ⊎_elim
        (λ k.
        let old = after_old g before after u b s.mask based mask_bytes after_long leaves.others k.block_was in
        calm (λ i. page_in g (block_in g before b) i) old (λ w i h. old.only i h ((complete_pages g (block_in g after b) w).is_whole i h)) k.unpassed)
        (λ k. since (fill.after after after_long leaves.others k.over))
        touches.here

    marks_next : MarksSame g d.array after
    marks_next c h = came.marks c h ∙ sym (m.origin c h)

    -- it passed: the new table is current
    passes : is_passed q.outcome ≡ true → Ends (tabled q 0 (with_table b (taken st)))
    passes y =
        let c = came in
        let is = c.is_new y in
        record {
          table = b;
          remembers = subst (Remembers g after keeps) is c.remembers;
          spared = spared_next;
          marks = marks_next;
          done = λ z. record {
            good = record {
              passed = y;
              sound = leaves.sound;
              leads = leads_next;
              remembers = subst (Remembers g after keeps) is c.remembers;
              marks = c.marks;
              bits = m.bits;
              numbers = c.numbers;
              listed = subst (λ (k : ℕ). (j : ℕ) → j < g.blocks → lists g (block_in g after k) j ≡ true → bit_at invalid j ≡ true) is c.listed;
              apart = m.apart;
              last_below = below;
              high = fill.high;
              origin = m.origin;
              spared = spared_next;
              failures = λ k h f. m.failures k h (sym (failed_passed (passed_unfailed q.outcome y) k) ∙ f);
            };
            table_is = refl;
            below = below;
            unheld = free.unheld;
            held_same = x.held_same;
          };
        }

    -- it failed: its block is invalid
    now_invalid : bit_at (with_bit invalid b) b ≡ true
    now_invalid = now_set g.blocks invalid b v.blocks_most below m.bits

    more_bits : (c : ℕ) → bit_at invalid c ≡ true → bit_at (with_bit invalid b) c ≡ true
    more_bits = still_set g.blocks invalid b v.blocks_most below m.bits

    fails : is_failed q.outcome ≡ true → Filling (with_invalid b (taken st)) (resumed q)
    unfolding is_passed
    fails w =
        let c = came in
        record {
          table = c.now;
          good = record {
            passed = refl;
            sound = resumed_sound s q leaves.sound w;
            leads = leads_next;
            remembers = c.remembers;
            marks = c.marks;
            bits = bits_more g.blocks invalid b v.blocks_most below m.bits;
            numbers = c.numbers;
            listed = λ k h z. more_bits k (c.listed k h z);
            apart = λ k h z. bit_kept invalid b k (λ e. clash (sym (ap (bit_at st.marked) e) ∙ z) free.unmarked) ∙ m.apart k h z;
            last_below = m.last_below;
            high = fill.high;
            origin = m.origin;
            spared = spared_next;
            failures = λ k h f. ⊎_elim (λ z. more_bits k (m.failures k h z)) (λ e. ap (bit_at (with_bit invalid b)) e ∙ now_invalid) (failed_next_fact k f);
          };
          held_same = λ k h z. bit_kept invalid b k (held_kept k z) ∙ x.held_same k h z;
          from = ⊎_elim
              (λ e. ⊎_elim (λ z. inl (ap (bit_at held) e ∙ z)) (λ z. inr (more_bits c.now (ap (bit_at invalid) e ∙ z))) x.from)
              (λ e. inr (ap (bit_at (with_bit invalid b)) e ∙ now_invalid)) c.is_either;
        }

    stops : (a : ℕ) → (a ≡ 0 → ⊥) → Ends (tabled q a (blank 2))
    stops a k = record { table = came.now; remembers = came.remembers; spared = spared_next; marks = marks_next; done = λ z. absurd (k z) }

  none_filled : (st : State) (p : Progress) → Filling st p → (a : ℕ) → (a ≡ 0 → ⊥) → Ends (tabled p a (blank 2))
  none_filled st p x a k = record { table = x.table; remembers = x.good.remembers; spared = x.good.spared; marks = λ c h. x.good.marks c h ∙ sym (x.good.origin c h); done = λ z. absurd (k z) }

  pub tables_remember : (st : State) (p : Progress) → Filling st p → Ends (tables_filled s held (numbers_left st) st p)
  tables_remember =
      tables_by s held Filling Ends (record { last_below = λ st p x. x.good.last_below; unfilled = none_filled; passed = passes; failed = fails; stopped = stops })
