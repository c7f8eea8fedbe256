-- A formatting forgets no entry of the current table and spares bad blocks, whatever fails and wherever it is cut. Assumes nothing.
use Prim.Native.Nat.{ℕ, ◌+◌, ◌<◌}
use mathlib.Core.Bool.{Bool, true, false, cond}
use mathlib.Core.List.{List}
use mathlib.Core.Logic.{inl}
use mathlib.Core.Path.{◌≡◌, refl, sym, ap, subst, ◌∙◌}
use native.Mathlib.Omega.{arith}
use borrow.Table.Steps.{cases}
use borrow.Author.Tests.{eqb-true, lt-ltb}
use lib.Dec.{eqb}
use lib.ListN.{length}
use Rattle.geometry.specs.declared.Geometry.{Geometry}
use Rattle.geometry.specs.Limits.{Valid}
use Rattle.geometry.specs.Sizes.{chip_size}
use Rattle.cells.specs.Bytes.{Bytes}
use Rattle.bools.proofs.BoolLaws.{clash}
use Rattle.bitmaps.specs.Bitmap.{bit_at}
use Rattle.bitmaps.proofs.BitLaws.{bit_kept}
use Rattle.bitmaps.proofs.BitmapLaws.{bits_more}
use Rattle.chip_array.specs.Device.{Device, Setting}
use Rattle.chip_laws.specs.Lengths.{SameLengths}
use Rattle.chip_laws.proofs.LengthLaws.{run_lengths}
use Rattle.bus_polling.specs.Outcomes.{is_passed, is_failed}
use Rattle.bus_polling.proofs.OutcomeLaws.{passed_answered, passed_read_end}
use Rattle.operations.specs.Ends.{Called}
use Rattle.copies.specs.Blocks.{block_in, is_marked}
use Rattle.copies.specs.Carried.{carried_table, listed_by, is_carried}
use Rattle.copies.specs.Pick.{Pick, at}
use Rattle.copies.specs.Table.{lists}
use Rattle.copies.proofs.CompleteLaws.{complete_pages, table_complete, complete_number}
use Rattle.copies.proofs.NumberLaws.{greatest_in}
use Rattle.scan_found.specs.Contents.{entry_of}
use Rattle.state.specs.State.{held_bits, next_number, with_invalid}
use Rattle.state.specs.declared.State.{State}
use Rattle.state.proofs.HeldLaws.{held_table}
use Rattle.request.specs.Call.{sized_for, call_line, result_of}
use Rattle.progress.specs.Progress.{Progress}
use Rattle.progress.specs.Steps.{resumed}
use Rattle.progress.proofs.WordLaws.{line_kept}
use Rattle.fill_tables.specs.Tables.{Tabled, tabled}
use Rattle.format_scan.specs.Survey.{surveyed, passed_over}
use Rattle.format_scan.specs.declared.Survey.{Survey}
use Rattle.damage.specs.Run.{failed_in, Erased, block_on}
use Rattle.damage.proofs.EraseLaws.{erase_leaves}
use Rattle.damage.proofs.ReplayLaws.{Leads, leads_kept}
use Rattle.format_laws.proofs.RoundLaws.{Rounded, round_leaves}
use Rattle.recovery_stored.specs.After.{Based, Below, MarksSame}
use Rattle.recovery_stored.specs.Remembered.{Remembers}
use Rattle.recovery_stored.proofs.RememberedLaws.{remembers_based}
use Rattle.recovery.specs.Recovery.{Spared}
use Rattle.recovery.proofs.SparedLaws.{spared_reads}
use Rattle.format.specs.Format.{first_state, tables_from, round_run, format_run, format_request, formatting}
use Rattle.format_scan.proofs.UnionLaws.{union_bit, union_bits, union_first, union_second}
use Rattle.format_laws.proofs.SurveyedLaws as survey
use Rattle.format_laws.proofs.SurveyedLaws.{Carried, carried_at, at_carried}
use Rattle.recovery_write.proofs.CopyLaws.{now_set, still_set}
use Rattle.recovery_format.proofs.RunLaws.{Idle, Begun, Ways, round_of, invalid_of, first_of, tables_of, late_of, round_by, format_by}
use Rattle.recovery_format.proofs.RoundKeeps.{Open, Mid, round_remembers, erase_remembers, erase_marks, erase_row, erase_below, erase_spares}
use Rattle.recovery_format.proofs.TableFill.{resumed_sound}
use Rattle.recovery_format.proofs.TablesKeep.{Good, Filling, Done, Ends, tables_remember}

-- on such a chip the list of its table is the one carried over
pub remembers_carried : (g : Geometry) (array : List ℕ) (keeps : ℕ → Bool) (t : ℕ) → Remembers g array keeps t → carried_table g array ≡ at t
remembers_carried g array keeps t m = at_carried g array t m.table_is m.laid m.own

-- how a formatting of an array ends: a table that is current and remembers, a trace that spares bad blocks, and the same factory marks
pub record Keeps (g : Geometry) (array : List ℕ) (keeps : ℕ → Bool) (x : Tabled) : Type 0 where
  pub table : ℕ
  pub remembers : Remembers g x.progress.line.chip.array keeps table
  pub spared : Spared g (λ b. is_marked g (block_in g array b)) (λ b. false) x.progress.started
  pub marks : MarksSame g array x.progress.line.chip.array

module _ (s : Setting) (mask_bytes : Bytes s.mask) (d : Device) (bytes : Bytes d.array) (fits : sized_for s d ≡ true) (keeps : ℕ → Bool) (t : ℕ) (m : Remembers s.geometry d.array keeps t) (n : ℕ) where
  abbrev g : Geometry
  g = s.geometry

  abbrev array : List ℕ
  array = d.array

  abbrev chip : Device
  chip = (call_line d n).chip

  abbrev marked : ℕ → Bool
  marked b = is_marked g (block_in g array b)

  v : Valid g
  v = m.is_valid

  long : length array ≡ chip_size g
  long = m.array_long

  abbrev found : Survey
  found = surveyed g array

  abbrev skip : List ℕ
  skip = passed_over g found

  carried_is : carried_table g array ≡ at t
  carried_is = remembers_carried g array keeps t m

  c : Carried g array t
  c = carried_at g array t carried_is

  old_is : found.old ≡ t
  unfolding entry_of
  old_is = ap entry_of carried_is

  listed_is : (b : ℕ) → is_carried g array b ≡ lists g (block_in g array t) b
  unfolding listed_by
  listed_is b = ap (λ (o : Pick). listed_by g array o b) carried_is

  old_below : found.old < g.blocks
  old_below = omega (arith, old_is, c.below)

  old_unmarked : marked found.old ≡ false
  old_unmarked = ap marked old_is ∙ (complete_pages g (block_in g array t) (table_complete g (block_in g array t) c.is_table_fact)).unmarked

  unread : (p : Progress) (a : ℕ) (st : State) → Idle s d n p → Keeps g array keeps (tabled p a st)
  unread p a st i =
      record {
        table = t;
        remembers = subst (λ (x : List ℕ). Remembers g x keeps t) (sym i.same_array) m;
        spared = spared_reads g marked (λ b. false) p.started i.reads;
        marks = λ b h. ap (λ (x : List ℕ). is_marked g (block_in g x b)) i.same_array;
      }

  -- the first round
  due : Open s mask_bytes keeps t skip chip array long
  due =
      record {
        unmarked = λ b h f. survey.due_unmarked g v array long b h f;
        unlisted = λ b h f. sym (listed_is b) ∙ survey.due_uncarried g v array long b h f;
        off_table = λ b h f e. survey.due_off_old g v array long b h f (e ∙ sym old_is);
      }

  module _ (p : Progress) (x : Begun s d n p) where
    same : p.line.chip.array ≡ array
    same = x.idle.same_array

    first_mid : Mid s mask_bytes keeps t skip chip array long 0 p
    first_mid =
        record {
          sound = x.sound;
          ends = passed_read_end p.outcome x.passed;
          leads = x.idle.leads;
          remembers = subst (λ (y : List ℕ). Remembers g y keeps t) (sym same) m;
          marks = λ b h. ap (λ (y : List ℕ). is_marked g (block_in g y b)) same;
          row = ap (λ (y : List ℕ). block_in g y t) same;
          numbers = λ k low. subst (λ (y : List ℕ). Below g y k) (sym same) low;
          high = x.high;
          spared = spared_reads g marked (λ b. false) p.started x.idle.reads;
          ahead = λ b h. x.none_failed b;
        }

    abbrev r : Progress
    r = (round_of s found p).progress

    mid : Mid s mask_bytes keeps t skip chip array long g.blocks r
    mid = round_remembers s mask_bytes keeps t skip chip array long due g.blocks (omega arith) p first_mid

    rounded : Rounded s skip p g.blocks (round_of s found p)
    rounded =
        round_leaves s v mask_bytes skip p (λ b h f. ap (λ (y : List ℕ). is_marked g (block_in g y b)) same ∙ survey.due_unmarked g v array long b h f)
        x.sound (passed_read_end p.outcome x.passed) x.none_failed x.high g.blocks (omega arith)

    after_round : (a : ℕ) (st : State) → Keeps g array keeps (tabled r a st)
    after_round a st = record { table = t; remembers = mid.remembers; spared = mid.spared; marks = mid.marks }

    abbrev invalid : List ℕ
    invalid = invalid_of s found p

    abbrev first : State
    first = first_of s found p

    abbrev held : List ℕ
    held = held_bits first g.logical

    carried_long : length found.carried ≡ 512
    carried_long = (survey.carried_bits g v array long bytes).long

    invalid_carried : (b : ℕ) → b < g.blocks → is_carried g array b ≡ true → bit_at invalid b ≡ true
    invalid_carried b h k = union_first found.carried (round_of s found p).invalid g.blocks b v.blocks_most carried_long (survey.carried_bit g v array long b h ∙ k)

    -- a block is invalid if it is carried over, or if its erase failed
    invalid_is : (b : ℕ) → b < g.blocks → bit_at invalid b ≡ cond (is_carried g array b) true (bit_at (round_of s found p).invalid b)
    invalid_is b h =
        union_bit found.carried (round_of s found p).invalid g.blocks b v.blocks_most carried_long
        ∙ rw (lt-ltb b g.blocks h, survey.carried_bit g v array long b h)

    passed_over_valid : (b : ℕ) → b < g.blocks → bit_at skip b ≡ true → is_carried g array b ≡ false → bit_at invalid b ≡ false
    passed_over_valid b h k f = invalid_is b h ∙ rw f (rounded.apart b h k)

    complete_below : Below g array (found.greatest + 1)
    complete_below b h w =
        omega (arith, complete_number g v (block_in g array b) w, greatest_in g array g.blocks b h)

    held_old : bit_at held found.old ≡ true
    unfolding first_state
    held_old = held_table first g.logical (omega (arith, old_below, v.blocks_most))

    -- the first table fills
    module _ (y : is_passed r.outcome ≡ true) where
      filling : Filling s mask_bytes keeps held invalid chip long first r
      unfolding first_state
      filling =
          record {
            table = t;
            good = record {
              passed = y;
              sound = mid.sound;
              leads = mid.leads;
              remembers = mid.remembers;
              marks = λ b h. mid.marks b h ∙ sym (survey.marked_bit g v array long b h);
              bits = union_bits found.carried (round_of s found p).invalid g.blocks g.blocks v.blocks_most (omega arith) (survey.carried_bits g v array long bytes);
              numbers = λ b h w. let low = mid.numbers (found.greatest + 1) complete_below b h w in omega (arith, low);
              listed = λ b h k. invalid_carried b h (listed_is b ∙ sym (ap (λ (row : List ℕ). lists g row b) mid.row) ∙ k);
              apart = λ b h k.
                  let is = sym (survey.marked_bit g v array long b h) ∙ k in
                  passed_over_valid b h (survey.over_marked g v array long b h is) (survey.carried_apart g v array long b h is);
              last_below = omega (arith, v.blocks_least);
              high = mid.high;
              origin = λ b h. sym (survey.marked_bit g v array long b h);
              spared = mid.spared;
              failures = λ b h k.
                  union_second found.carried (round_of s found p).invalid g.blocks b v.blocks_most carried_long h (sym (rounded.failures b h) ∙ k);
            };
            from = inl (ap (bit_at held) (sym old_is) ∙ held_old);
            held_same = λ b h k. refl;
          }

      abbrev T : Tabled
      T = tables_of s found p

      ends : Ends s mask_bytes keeps held invalid chip long T
      ends = tables_remember s mask_bytes keeps held invalid chip long first r filling

      first_tables : Keeps g array keeps T
      first_tables = record { table = ends.table; remembers = ends.remembers; spared = ends.spared; marks = ends.marks }

      -- the late erase
      module _ (z : T.answer ≡ 0) where
        abbrev old : ℕ
        old = found.old

        abbrev u : ℕ
        u = ends.table

        abbrev e : Progress
        e = late_of s found p

        done : Done s mask_bytes keeps held invalid chip long T u
        done = ends.done z

        good : Good s mask_bytes keeps held invalid chip long T.state u T.progress
        good = done.good

        called : Called s T.progress.line
        called = good.sound.called (passed_answered T.progress.outcome good.passed)

        off_table : old ≡ u → ⊥
        off_table k = clash (ap (bit_at held) (sym k) ∙ held_old) done.unheld

        valid_old : bit_at T.state.invalid old ≡ false
        valid_old =
            done.held_same old old_below held_old
            ∙ passed_over_valid old old_below (survey.over_old g v array long old old_below refl) (ap (is_carried g array) old_is ∙ listed_is t ∙ c.own)

        unlisted : lists g (block_on s T.progress u) old ≡ false
        unlisted = cases (lists g (block_on s T.progress u) old) (λ k. clash (good.listed old old_below k) valid_old) (λ f. f)

        unmarked_bit : bit_at T.state.marked old ≡ false
        unmarked_bit = sym (good.origin old old_below) ∙ old_unmarked

        unfailed : failed_in old T.progress.started ≡ false
        unfailed = cases (failed_in old T.progress.started) (λ k. clash (good.failures old old_below k) valid_old) (λ f. f)

        based : Based g T.progress.line.chip.array u old
        based = remembers_based g T.progress.line.chip.array keeps u old good.remembers old_below (good.marks old old_below ∙ unmarked_bit) unlisted off_table

        left : Erased s T.progress e old
        left = erase_leaves s T.progress old old_below good.passed called good.high

        leads_next : Leads s chip e
        leads_next = (leads_kept s chip).erase old T.progress good.leads

        after_long : length e.line.chip.array ≡ chip_size g
        after_long = (subst (SameLengths chip) leads_next (run_lengths s chip e.cycles)).array ∙ long

        remembers_next : Remembers g e.line.chip.array keeps u
        remembers_next = erase_remembers s mask_bytes keeps u old T.progress good.remembers based left after_long

        spared_next : Spared g marked (λ b. false) e.started
        spared_next = erase_spares s T.progress u old based unlisted good.passed called good.high marked old_unmarked unfailed good.spared

        marks_next : (b : ℕ) → b < g.blocks → is_marked g (block_on s e b) ≡ bit_at T.state.marked b
        marks_next b h = erase_marks s mask_bytes keeps u old T.progress good.remembers based left after_long b h ∙ good.marks b h

        after_late_fact : (a : ℕ) (st : State) → Keeps g array keeps (tabled e a st)
        after_late_fact a st = record { table = u; remembers = remembers_next; spared = spared_next; marks = λ b h. marks_next b h ∙ sym (good.origin b h) }

        -- it failed: more table fills, with the new table held
        module _ (w : is_failed e.outcome ≡ true) where
          abbrev st : State
          st = with_invalid old T.state

          more_bits : (b : ℕ) → bit_at T.state.invalid b ≡ true → bit_at st.invalid b ≡ true
          more_bits = still_set g.blocks T.state.invalid old v.blocks_most old_below good.bits

          failed_listed : (b : ℕ) → b < g.blocks → failed_in b e.started ≡ true → bit_at st.invalid b ≡ true
          failed_listed b h k =
              cases (failed_in b T.progress.started)
              (λ f. more_bits b (good.failures b h f))
              (λ f.
              cases (eqb old b)
              (λ o. subst (λ (j : ℕ). bit_at st.invalid j ≡ true) (eqb-true old b o) (now_set g.blocks T.state.invalid old v.blocks_most old_below good.bits))
              (λ o. clash (sym (left.failures b) ∙ k) (rw (f, o))))

          refilling : Filling s mask_bytes keeps (held_bits st g.logical) st.invalid chip long st (resumed e)
          unfolding is_passed
          refilling =
              record {
                table = u;
                good = record {
                  passed = refl;
                  sound = resumed_sound s e left.sound w;
                  leads = leads_next;
                  remembers = remembers_next;
                  marks = marks_next;
                  bits = bits_more g.blocks T.state.invalid old v.blocks_most old_below good.bits;
                  numbers = erase_below s mask_bytes keeps u old T.progress good.remembers based left after_long (next_number T.state) good.numbers;
                  listed = λ b h k.
                      more_bits b (good.listed b h (sym (ap (λ (row : List ℕ). lists g row b) (erase_row s mask_bytes keeps u old T.progress good.remembers based left after_long)) ∙ k));
                  apart = λ b h k. bit_kept T.state.invalid old b (λ o. clash (sym (ap (bit_at T.state.marked) o) ∙ k) unmarked_bit) ∙ good.apart b h k;
                  last_below = good.last_below;
                  high = (line_kept s 0).erase old T.progress good.high;
                  origin = good.origin;
                  spared = spared_next;
                  failures = failed_listed;
                };
                from = inl (ap (bit_at (held_bits st g.logical)) done.table_is ∙ held_table st g.logical (omega (arith, done.table_is, done.below, v.blocks_most)));
                held_same = λ b h k. refl;
              }

          late_tables : Keeps g array keeps (tables_from s st (resumed e))
          late_tables =
              let more = tables_remember s mask_bytes keeps (held_bits st g.logical) st.invalid chip long st (resumed e) refilling in
              record { table = more.table; remembers = more.remembers; spared = more.spared; marks = more.marks }

    ways : Ways s found p (Keeps g array keeps)
    ways =
        record {
          round-stopped = λ f. after_round _ _;
          few_blocks = λ y. after_round _ _;
          tables_stopped = λ y z. first_tables y;
          none_carried = λ y z h. first_tables y;
          late_passed = λ l y. after_late_fact l.round_passed l.tables_done _ _;
          late_failed = λ l w. late_tables l.round_passed l.tables_done w;
          late_stopped = λ l f w. after_late_fact l.round_passed l.tables_done _ _;
        }

    round_kept : Keeps g array keeps (round_run s found p)
    round_kept = round_by s found p (Keeps g array keeps) ways

  pub format_keeps : (state : State) → Keeps g array keeps (format_run s d n state)
  format_keeps state = format_by s d n fits state (Keeps g array keeps) unread round_kept

-- after any formatting a table is current that is rightly laid out, does not list its own block and lists every block of these
pub format_remembers : (s : Setting) → Bytes s.mask → (d : Device) → Bytes d.array → (keeps : ℕ → Bool) (t : ℕ) → Remembers s.geometry d.array keeps t → (n : ℕ) (state : State)
    → (u : ℕ) × Remembers s.geometry (formatting s d n state).chip.array keeps u
unfolding format_request result_of
format_remembers s mask_bytes d bytes keeps t m n state =
    cases (sized_for s d)
    (λ f. rw f (let k = format_keeps s mask_bytes d bytes f keeps t m n state in (k.table, k.remembers)))
    (λ f. rw f (t, m))

-- and the factory marks are the same
pub format_marks : (s : Setting) → Bytes s.mask → (d : Device) → Bytes d.array → (keeps : ℕ → Bool) (t : ℕ) → Remembers s.geometry d.array keeps t → (n : ℕ) (state : State)
    → MarksSame s.geometry d.array (formatting s d n state).chip.array
unfolding format_request result_of
format_marks s mask_bytes d bytes keeps t m n state =
    cases (sized_for s d) (λ f. rw f (format_keeps s mask_bytes d bytes f keeps t m n state).marks) (λ f. rw f (λ b h. refl))
