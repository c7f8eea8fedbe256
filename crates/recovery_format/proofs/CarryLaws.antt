-- On any chip of bytes a formatting leaves the blocks carried over as they are, and touches no block that a complete table of its own lists. Assumes nothing.
use Prim.Native.Nat.{ℕ, zero, suc, ◌≤◌, ◌<◌}
use mathlib.Core.Bool.{true, false, cond}
use mathlib.Core.List.{List}
use mathlib.Core.Path.{◌≡◌, refl, sym, ap, subst, ◌∙◌}
use native.Mathlib.Omega.{arith}
use borrow.Table.Steps.{cases}
use borrow.Author.Tests.{lt-ltb}
use lib.ListN.{length, replicate}
use Rattle.geometry.specs.declared.Geometry.{Geometry}
use Rattle.geometry.specs.Limits.{Valid}
use Rattle.geometry.specs.Sizes.{block_size, chip_size}
use Rattle.cells.specs.Bytes.{Bytes}
use Rattle.bools.proofs.BoolLaws.{clash, or_none}
use Rattle.bitmaps.specs.Bitmap.{bit_at}
use Rattle.bitmaps.proofs.BitmapLaws.{bits_more}
use Rattle.chip_array.specs.Device.{Device, Setting}
use Rattle.bus_polling.specs.Outcomes.{is_passed, is_failed}
use Rattle.bus_polling.proofs.OutcomeLaws.{passed_answered, passed_read_end}
use Rattle.operations.specs.Ends.{Called}
use Rattle.operations.specs.Trace.{ArrayOperation}
use Rattle.copies.specs.Blocks.{block_in, is_marked, is_table}
use Rattle.copies.specs.Carried.{is_carried}
use Rattle.copies.specs.Table.{lists}
use Rattle.scan_block.proofs.KeepLaws.{pages_reads}
use Rattle.state.specs.State.{none, held_bits, with_invalid}
use Rattle.state.specs.declared.State.{State}
use Rattle.state.proofs.HeldLaws.{held_table, free_table}
use Rattle.request.specs.Call.{sized_for, call_line, result_of, started_in}
use Rattle.request.proofs.CallLaws.{sizes}
use Rattle.progress.specs.Progress.{Progress, line_of}
use Rattle.progress.specs.Steps.{erase_on, resumed}
use Rattle.progress.proofs.WordLaws.{line_kept}
use Rattle.fill_tables.specs.Tables.{Tabled, tabled}
use Rattle.format_erase.specs.Round.{after_erase, block_erased, erased_to}
use Rattle.format_erase.proofs.KeepLaws.{round_keeps}
use Rattle.format_scan.specs.Survey.{surveyed, passed_over}
use Rattle.format_scan.specs.declared.Survey.{Survey}
use Rattle.damage.specs.Run.{Erased, block_on}
use Rattle.damage.proofs.EachLaws.{each_map}
use Rattle.damage.proofs.EraseLaws.{erase_leaves}
use Rattle.damage.proofs.ReplayLaws.{Leads, leads_kept}
use Rattle.format_laws.proofs.RoundLaws.{Rounded, round_leaves}
use Rattle.recovery_write.proofs.CopyLaws.{Permitted, now_set, still_set, was_clear}
use Rattle.recovery_format.specs.Carries.{programmed_in, LeavesListed, LeftAlone, Carries}
use Rattle.format.specs.Format.{first_state, tables_from, round_run, format_run, format_request}
use Rattle.format_scan.proofs.UnionLaws.{union_bit, union_bits, union_first, union_neither}
use Rattle.format_laws.proofs.SurveyedLaws as survey
use Rattle.recovery_format.proofs.RunLaws.{Idle, Begun, Ways, round_of, invalid_of, first_of, tables_of, late_of, round_by, format_by, sized-valid}
use Rattle.recovery_format.proofs.EraseTouches.{Erases, EraseTouched, erase_touches}
use Rattle.recovery_format.proofs.LeftLaws.{programmed-append, none-programmed, left_append, left_erases, left_reads, Unfilled, unfilled-append, read_unfilled}
use Rattle.recovery_format.proofs.TableFill.{resumed_sound}
use Rattle.recovery_format.proofs.CarryTables.{held_only, Carrying, Filling, Done, Ends, tables_carry}

-- how a formatting ends: the blocks carried over as they were, and a trace that leaves listed blocks alone
pub record Ended (s : Setting) (array : List ℕ) (x : Tabled) : Type 0 where
  pub kept : (b : ℕ) → b < s.geometry.blocks → is_carried s.geometry array b ≡ true → block_on s x.progress b ≡ block_in s.geometry array b
  pub left : LeftAlone s.geometry array (λ b. false) x.progress.started

module _ (s : Setting) (mask_bytes : Bytes s.mask) (d : Device) (bytes : Bytes d.array) (fits : sized_for s d ≡ true) (n : ℕ) where
  abbrev g : Geometry
  g = s.geometry

  abbrev array : List ℕ
  array = d.array

  abbrev chip : Device
  chip = (call_line d n).chip

  v : Valid g
  v = sized-valid s d n fits

  long : length array ≡ chip_size g
  long = (sizes g (length d.array) (length d.register) (length d.history) (length s.mask) fits).chip_fits.array_long

  abbrev found : Survey
  found = surveyed g array

  abbrev skip : List ℕ
  skip = passed_over g found

  unread : (p : Progress) (a : ℕ) (st : State) → Idle s d n p → Ended s array (tabled p a st)
  unread p a st i =
      record {
        kept = λ b h k. ap (λ (x : List ℕ). block_in g x b) i.same_array;
        left = left_reads g array (λ b. false) p.started i.reads;
      }

  module _ (p : Progress) (x : Begun s d n p) where
    same : p.line.chip.array ≡ array
    same = x.idle.same_array

    rounded_to : (k : ℕ) → k ≤ g.blocks → Rounded s skip p k (erased_to s skip k p)
    rounded_to =
        round_leaves s v mask_bytes skip p (λ b h f. ap (λ (y : List ℕ). is_marked g (block_in g y b)) same ∙ survey.due_unmarked g v array long b h f)
        x.sound (passed_read_end p.outcome x.passed) x.none_failed x.high

    -- one erase of the first round
    module _ (k : ℕ) (below : k < g.blocks) (q : Progress) (y : is_passed q.outcome ≡ true) (called : Called s q.line) (high : line_of q ≡ 0) (due : bit_at skip k ≡ false) where
      erase_leaves_listed : (o : ArrayOperation) → Erases q.line.chip.array k o → LeavesListed g array (λ b. false) o
      erase_leaves_listed o e =
          record {
            below = omega (arith, e.block_is, below);
            unmarked = ap (λ (c : ℕ). is_marked g (block_in g array c)) e.block_is ∙ survey.due_unmarked g v array long k below due;
            uncarried = ap (is_carried g array) e.block_is ∙ survey.due_uncarried g v array long k below due;
            unlisted = λ u h f t. clash f refl;
          }

      erase_unfilled : Unfilled g array q → Unfilled g array (erase_on s k q)
      erase_unfilled w =
          let e = erase_touches s q k below y called high in
          unfilled-append g array q w e.adds (left_erases g array (λ b. false) q.line.chip.array k erase_leaves_listed e.adds e.each)
          (λ b. none-programmed 3 (λ z. omega (arith, z)) b e.adds (each_map (Erases q.line.chip.array k) (λ o. o.kind ≡ 3) (λ o z. z.kind_is) e.adds e.each)) (erase_on s k q) e.started_is

      block_unfilled : Unfilled g array q → Unfilled g array (after_erase s k (erase_on s k q))
      unfolding after_erase
      block_unfilled w =
          cases (is_failed (erase_on s k q).outcome)
          (λ f. rw f (pages_reads s (Unfilled g array) (read_unfilled g array s) k g.pages (resumed (erase_on s k q)) (again (erase_unfilled w))))
          (λ f. rw f (erase_unfilled w))
        where
          again : Unfilled g array (erase_on s k q) → Unfilled g array (resumed (erase_on s k q))
          again z = record { left = z.left; none = z.none }

    first_unfilled : Unfilled g array p
    first_unfilled =
        record { left = left_reads g array (λ b. false) p.started x.idle.reads; none = λ b. none-programmed 1 (λ z. omega (arith, z)) b p.started x.idle.reads }

    -- the first k blocks of the round
    round_unfilled : (k : ℕ) → k ≤ g.blocks → Unfilled g array (erased_to s skip k p).progress
    unfolding erased_to block_erased
    round_unfilled zero h = first_unfilled
    round_unfilled (suc k) h =
        let q = (erased_to s skip k p).progress in
        let less = round_unfilled k (omega (arith, h)) in
        cases (is_passed q.outcome)
        (λ y.
        cases (bit_at skip k)
        (λ u. rw (y, u) less)
        (λ u.
        rw (y, u)
        (block_unfilled k (omega (arith, h)) q y ((rounded_to k (omega (arith, h))).sound.called (passed_answered q.outcome y))
        (round_keeps s (λ z. line_of z ≡ 0) (line_kept s 0) skip k p x.high) u less)))
        (λ f. rw f less)

    abbrev r : Progress
    r = (round_of s found p).progress

    rounded : Rounded s skip p g.blocks (round_of s found p)
    rounded = rounded_to g.blocks (omega arith)

    unfilled : Unfilled g array r
    unfilled = round_unfilled g.blocks (omega arith)

    kept_round : (b : ℕ) → b < g.blocks → is_carried g array b ≡ true → block_on s r b ≡ block_in g array b
    kept_round b h k = rounded.kept b h (survey.over_carried g v array long b h k) ∙ ap (λ (y : List ℕ). block_in g y b) same

    after_round : (a : ℕ) (st : State) → Ended s array (tabled r a st)
    after_round a st = record { kept = kept_round; left = unfilled.left }

    abbrev invalid : List ℕ
    invalid = invalid_of s found p

    abbrev first : State
    first = first_of s found p

    abbrev held : List ℕ
    held = held_bits first g.logical

    abbrev old : ℕ
    old = found.old

    carried_long : length found.carried ≡ 512
    carried_long = (survey.carried_bits g v array long bytes).long

    held_old : old < g.blocks → bit_at held old ≡ true
    unfolding first_state
    held_old h = held_table first g.logical (omega (arith, h, v.blocks_most))

    valid_old : old < g.blocks → bit_at invalid old ≡ false
    valid_old h =
        union_bit found.carried (round_of s found p).invalid g.blocks old v.blocks_most carried_long
        ∙ rw (lt-ltb old g.blocks h, survey.carried_bit g v array long old h, survey.old_unlisted g v array long h) (rounded.apart old h (survey.over_old g v array long old h refl))

    module _ (y : is_passed r.outcome ≡ true) where
      first_erased : (b : ℕ) → b < g.blocks → Permitted found.marked invalid held b → block_on s r b ≡ replicate (block_size g) 255
      unfolding first_state
      first_erased b h z =
          let parts = union_neither found.carried (round_of s found p).invalid g.blocks b v.blocks_most carried_long h z.valid in
          rounded.erased y b h
          (survey.due_so g v array long b h (sym (survey.marked_bit g v array long b h) ∙ z.unmarked) (sym (survey.carried_bit g v array long b h) ∙ parts.0)
          (free_table first g.logical b (omega (arith, h, v.blocks_most)) z.unheld))
          parts.1

      filling : Filling s mask_bytes chip long old false held first r
      unfolding first_state
      filling =
          record {
            carrying = record {
              passed = y;
              sound = rounded.sound;
              leads = round_keeps s (Leads s chip) (leads_kept s chip) skip g.blocks p x.idle.leads;
              high = round_keeps s (λ z. line_of z ≡ 0) (line_kept s 0) skip g.blocks p x.high;
              bits = union_bits found.carried (round_of s found p).invalid g.blocks g.blocks v.blocks_most (omega arith) (survey.carried_bits g v array long bytes);
              last_below = omega (arith, v.blocks_least);
              map_blank = refl;
              origin = λ b h. sym (survey.marked_bit g v array long b h);
              carried = λ b h k. union_first found.carried (round_of s found p).invalid g.blocks b v.blocks_most carried_long (survey.carried_bit g v array long b h ∙ k);
              kept = kept_round;
              listed = λ u h f. clash f (unfilled.none u);
              off_old = λ u f. clash f (unfilled.none u);
              old_bit = valid_old;
              left = unfilled.left;
            };
            erased = first_erased;
            barred = λ h z. clash (held_old h) z.unheld;
          }

      abbrev T : Tabled
      T = tables_of s found p

      ends : Ends s mask_bytes chip long old false held T
      ends = tables_carry s mask_bytes chip long old false held first r filling

      first_tables : Ended s array T
      first_tables = record { kept = ends.kept; left = ends.left }

      -- the late erase
      module _ (z : T.answer ≡ 0) (below : old < g.blocks) where
        abbrev e : Progress
        e = late_of s found p

        done : Done s mask_bytes chip long old false held T
        done = ends.done z

        m : Carrying s mask_bytes chip long old false held T.state T.progress
        m = done.carrying

        called : Called s T.progress.line
        called = m.sound.called (passed_answered T.progress.outcome m.passed)

        left_over : Erased s T.progress e old
        left_over = erase_leaves s T.progress old below m.passed called m.high

        touched : EraseTouched s T.progress e old
        touched = erase_touches s T.progress old below m.passed called m.high

        late_leaves : (o : ArrayOperation) → Erases T.progress.line.chip.array old o → LeavesListed g array (λ b. programmed_in b T.progress.started) o
        late_leaves o k =
            record {
              below = omega (arith, k.block_is, below);
              unmarked = ap (λ (c : ℕ). is_marked g (block_in g array c)) k.block_is ∙ survey.old_unmarked g v array long below;
              uncarried = ap (is_carried g array) k.block_is ∙ survey.old_unlisted g v array long below;
              unlisted = λ u h f t.
                  let row = ap (λ (a : List ℕ). block_in g a u) k.before_is in
                  ap (lists g (block_in g o.before u)) k.block_is
                  ∙ cases (lists g (block_in g o.before u) old)
                  (λ l. clash (m.listed u h f (sym (ap (is_table g) row) ∙ t) old below (sym (ap (λ (w : List ℕ). lists g w old) row) ∙ l)) (m.old_bit below))
                  (λ l. l);
            }

        left_next : LeftAlone g array (λ b. false) e.started
        left_next =
            subst (LeftAlone g array (λ b. false)) (sym touched.started_is)
            (left_append g array (λ b. false) T.progress.started touched.adds m.left
            (left_erases g array (λ b. programmed_in b T.progress.started) T.progress.line.chip.array old late_leaves touched.adds touched.each))

        programmed_same : (u : ℕ) → programmed_in u e.started ≡ programmed_in u T.progress.started
        programmed_same u =
            ap (programmed_in u) touched.started_is ∙ programmed-append u T.progress.started touched.adds
            ∙ ap (cond (programmed_in u T.progress.started) true)
            (none-programmed 3 (λ k. omega (arith, k)) u touched.adds (each_map (Erases T.progress.line.chip.array old) (λ o. o.kind ≡ 3) (λ o k. k.kind_is) touched.adds touched.each))
            ∙ or_none (programmed_in u T.progress.started)

        kept_next : (b : ℕ) → b < g.blocks → is_carried g array b ≡ true → block_on s e b ≡ block_in g array b
        kept_next b h k = left_over.others b h (λ o. clash (sym (ap (is_carried g array) o) ∙ k) (survey.old_unlisted g v array long below)) ∙ m.kept b h k

        after_late_fact : (a : ℕ) (st : State) → Ended s array (tabled e a st)
        after_late_fact a st = record { kept = kept_next; left = left_next }

        -- it failed: more table fills, with the new table held
        module _ (w : is_failed e.outcome ≡ true) where
          abbrev st : State
          st = with_invalid old T.state

          abbrev holds : List ℕ
          holds = held_bits st g.logical

          more_bits : (b : ℕ) → bit_at T.state.invalid b ≡ true → bit_at st.invalid b ≡ true
          more_bits = still_set g.blocks T.state.invalid old v.blocks_most below m.bits

          was_valid : (b : ℕ) → Permitted st.marked st.invalid holds b → (bit_at T.state.invalid b ≡ false) × (b ≡ old → ⊥)
          was_valid b k = was_clear g.blocks T.state.invalid old v.blocks_most below m.bits b k.valid

          -- a block that is permitted now was so before
          was_unheld : (b : ℕ) → Permitted st.marked st.invalid holds b → bit_at held b ≡ false
          unfolding first_state
          was_unheld b k =
              cases (bit_at held b) (λ t. absurd ((was_valid b k).1 (held_only first refl g.logical (omega (arith, v.logical_most, v.blocks_most)) b t))) (λ f. f)

          still_free : (b : ℕ) → Permitted st.marked st.invalid holds b → Permitted T.state.marked T.state.invalid held b
          still_free b k = record { unmarked = k.unmarked; valid = (was_valid b k).0; unheld = was_unheld b k }

          off_table : (b : ℕ) → b < g.blocks → Permitted st.marked st.invalid holds b → b ≡ T.state.table → ⊥
          off_table b h k o = free_table st g.logical b (omega (arith, h, v.blocks_most)) k.unheld o

          refilling : Filling s mask_bytes chip long old true holds st (resumed e)
          unfolding is_passed
          refilling =
              record {
                carrying = record {
                  passed = refl;
                  sound = resumed_sound s e left_over.sound w;
                  leads = (leads_kept s chip).erase old T.progress m.leads;
                  high = (line_kept s 0).erase old T.progress m.high;
                  bits = bits_more g.blocks T.state.invalid old v.blocks_most below m.bits;
                  last_below = m.last_below;
                  map_blank = m.map_blank;
                  origin = m.origin;
                  carried = λ b h k. more_bits b (m.carried b h k);
                  kept = kept_next;
                  listed = λ u h f t c k l.
                      let was = sym (programmed_same u) ∙ f in
                      let row = left_over.others u h (m.off_old u was) in
                      more_bits c (m.listed u h was (sym (ap (is_table g) row) ∙ t) c k (sym (ap (λ (a : List ℕ). lists g a c) row) ∙ l));
                  off_old = λ u f. m.off_old u (sym (programmed_same u) ∙ f);
                  old_bit = λ h. now_set g.blocks T.state.invalid old v.blocks_most below m.bits;
                  left = left_next;
                };
                erased = λ b h k. left_over.others b h (was_valid b k).1 ∙ done.erased b h (off_table b h k) (still_free b k);
                barred = λ h k. (was_valid old k).1 refl;
              }

          late_tables : Ended s array (tables_from s st (resumed e))
          late_tables =
              let more = tables_carry s mask_bytes chip long old true holds st (resumed e) refilling in
              record { kept = more.kept; left = more.left }

    ways : Ways s found p (Ended s array)
    ways =
        record {
          round-stopped = λ f. after_round _ _;
          few_blocks = λ y. after_round _ _;
          tables_stopped = λ y z. first_tables y;
          none_carried = λ y z h. first_tables y;
          late_passed = λ l y. after_late_fact l.round_passed l.tables_done l.old_below _ _;
          late_failed = λ l w. late_tables l.round_passed l.tables_done l.old_below w;
          late_stopped = λ l f w. after_late_fact l.round_passed l.tables_done l.old_below _ _;
        }

    round_carries : Ended s array (round_run s found p)
    round_carries = round_by s found p (Ended s array) ways

  pub format_ended : (state : State) → Ended s array (format_run s d n state)
  format_ended state = format_by s d n fits state (Ended s array) unread round_carries

-- refused, it leaves all as it was
pub format_carries : (s : Setting) → Bytes s.mask → (d : Device) → Bytes d.array → (n : ℕ) (state : State) → Carries s.geometry d.array (format_request s d n state)
unfolding format_request result_of started_in LeftAlone
format_carries s mask_bytes d bytes n state =
    cases (sized_for s d)
    (λ t. rw t (let x = format_ended s mask_bytes d bytes t n state in record { kept = x.kept; left = x.left }))
    (λ f. rw f (record { kept = λ b h k. refl; left = tt }))
