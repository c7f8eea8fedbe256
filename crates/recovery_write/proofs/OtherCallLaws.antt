-- A request that stands open between two calls stands so for the next call, with another mask, other fate words, another
-- interface, page register and allowance, while array and program history are the same. Assumes nothing.
use Prim.Native.Nat.{ℕ, ◌<◌}
use mathlib.Core.Bool.{Bool, true}
use mathlib.Core.List.{List}
use mathlib.Core.Path.{◌≡◌, refl, sym, ap, subst, ◌∙◌}
use native.Mathlib.Omega.{arith}
use Rattle.geometry.specs.declared.Geometry.{Geometry}
use Rattle.cells.specs.Bytes.{Bytes}
use Rattle.chip_array.specs.Device.{Setting, setting}
use Rattle.chip.specs.Chip.{Cycle}
use Rattle.bus.specs.Line.{Line}
use Rattle.bus_polling.specs.Outcomes.{is_passed, is_failed, is_illegal, is_cut_off, is_silent, is_protected}
use Rattle.bus_polling.specs.declared.Outcome.TheVariants.{Passed}
use Rattle.operations.specs.Ends.{Called}
use Rattle.operations.specs.Trace.{ArrayOperation}
use Rattle.state.specs.State.{next_number}
use Rattle.state.specs.declared.State.{State}
use Rattle.progress.specs.Progress.{Progress, progress}
use Rattle.fill_cursor.specs.declared.Running.{Running}
use Rattle.damage.specs.Run.{Sound}
use Rattle.bools.proofs.BoolLaws.{clash}
use Rattle.recovery.specs.Book.{Book, Change}
use Rattle.fill_paused.specs.Paused.{Paused}
use Rattle.fill_paused.proofs.ChipLaws.{paused_chip}
use Rattle.recovery_write.specs.Changed.{Agrees, MarkedBy, Proper}
use Rattle.recovery_write.proofs.HoldingLaws.{holding, standing, standing_sound}
use Rattle.recovery_write.proofs.DataLaws as phase
use Rattle.recovery_write.proofs.TableLaws as tables
use Rattle.recovery_write.proofs.ActLaws as act
use Rattle.recovery_write.proofs.ActLaws.At.{before_data, erase_data, in_data, before_table, erase_table, in_table_fact, has_ended}

module _ (g : Geometry) (mask fates : List ℕ) (mask_bytes : Bytes mask) (first : Line) (called : Called (setting g mask fates) first) (st₀ : State) (c : Change) (book : Book) (marked₀ failed₀ : ℕ → Bool)
    (marks₀ : MarkedBy g first.chip.array marked₀) (agrees : Agrees g first.chip.array st₀ book failed₀) (proper : Proper g c)
    (mask' fates' : List ℕ) (mask_bytes' : Bytes mask') (l' : Line) (called' : Called (setting g mask' fates') l') (high' : l'.chip.interface.protected ≡ 0) (first-called' : Called (setting g mask' fates') (holding l' first.chip.array)) where
  -- the call before, and this one
  abbrev s : Setting
  s = setting g mask fates

  abbrev s' : Setting
  s' = setting g mask' fates'

  pub rest_any : (n : ℕ) (invalid array : List ℕ) (os : List ArrayOperation) → phase.Rest s mask_bytes first called st₀ c book marked₀ failed₀ marks₀ agrees proper n invalid array os → phase.Rest s' mask_bytes' (holding l' first.chip.array) first-called' st₀ c book marked₀ failed₀ marks₀ agrees proper n invalid array os
  rest_any n invalid array os r =
      record {
        stored = r.stored;
        table_is = r.table_is;
        kept = r.kept;
        marks = r.marks;
        bits = r.bits;
        more = r.more;
        numbers = r.numbers;
        copies = r.copies;
        copy_kinds = r.copy_kinds;
        copy_from = r.copy_from;
        valid = r.valid;
        apart = r.apart;
        reads = r.reads;
        untried = r.untried;
        failures = r.failures;
        spared = r.spared;
      }

  -- a data fill that passed in the call before
  pub done_any : (st : State) (f : Bool) (p : Progress) → phase.Done s mask_bytes first called st₀ c book marked₀ failed₀ marks₀ agrees proper st f p → phase.Done s' mask_bytes' (holding l' first.chip.array) first-called' st₀ c book marked₀ failed₀ marks₀ agrees proper st f (standing l' p.line.chip.array p.started)
  unfolding is_passed
  done_any st f p d =
      record {
        block = d.block;
        below = d.below;
        state_is = d.state_is;
        passed = refl;
        sound = standing_sound s' l' called' p.line.chip.array d.long p.started;
        long = d.long;
        high = high';
        stored = d.stored;
        table_is = d.table_is;
        table_same = d.table_same;
        marks = d.marks;
        bits = d.bits;
        more = d.more;
        numbers = d.numbers;
        copies = d.copies;
        copy_kinds = d.copy_kinds;
        copy_is = d.copy_is;
        kind_is = d.kind_is;
        valid = d.valid;
        block_valid = d.block_valid;
        apart = d.apart;
        reads = d.reads;
        complete = d.complete;
        sent = d.sent;
        failures = d.failures;
        spared = d.spared;
        clean = d.clean;
      }

  pub table_rest_any : (st₁ : State) (f₁ : Bool) (p₁ : Progress) (d : phase.Done s mask_bytes first called st₀ c book marked₀ failed₀ marks₀ agrees proper st₁ f₁ p₁) (n : ℕ) (invalid : List ℕ) (table : ℕ) (array : List ℕ) (os : List ArrayOperation)
      → tables.Rest s mask_bytes first called st₀ c book marked₀ failed₀ marks₀ agrees proper st₁ f₁ p₁ d n invalid table array os
      → tables.Rest s' mask_bytes' (holding l' first.chip.array) first-called' st₀ c book marked₀ failed₀ marks₀ agrees proper st₁ f₁ (standing l' p₁.line.chip.array p₁.started) (done_any st₁ f₁ p₁ d) n invalid table array os
  unfolding done_any
  table_rest_any st₁ f₁ p₁ d n invalid table array os r =
      record {
        stored = r.stored;
        table_is = r.table_is;
        table_from = r.table_from;
        listed = r.listed;
        marks = r.marks;
        bits = r.bits;
        numbers = r.numbers;
        copies = r.copies;
        copy_kinds = r.copy_kinds;
        valid = r.valid;
        table_valid = r.table_valid;
        apart = r.apart;
        reads = r.reads;
        complete = r.complete;
        sent = r.sent;
        failures = r.failures;
        spared = r.spared;
      }

  -- array and history are as the call before left them
  module _ (p : Progress) (same : l'.chip.array ≡ p.line.chip.array) (history : l'.chip.history ≡ p.line.chip.history) (cs : List Cycle) where
    abbrev here : Progress
    here = progress l' Passed cs p.started

    here_sound : Sound s' here
    unfolding is_illegal is_cut_off is_silent is_failed is_protected
    here_sound = record { legal = called'.legal; known = refl; unprotected = refl; used_up = λ e. clash e refl; silent_by = λ e. clash e refl; failed_by_fact = λ e. clash e refl; called = λ y. called' }

    mid_any : (st : State) (f : Bool) → phase.Mid s mask_bytes first called st₀ c book marked₀ failed₀ marks₀ agrees proper st f p → phase.Mid s' mask_bytes' (holding l' first.chip.array) first-called' st₀ c book marked₀ failed₀ marks₀ agrees proper st f here
    unfolding is_passed
    mid_any st f m =
        record {
          state_is = m.state_is;
          passed = refl;
          sound = here_sound;
          long = called'.array_long;
          high = high';
          rest = subst (λ (a : List ℕ). phase.Rest s' mask_bytes' (holding l' first.chip.array) first-called' st₀ c book marked₀ failed₀ marks₀ agrees proper (next_number st) st.invalid a p.started) (sym same) (rest_any (next_number st) st.invalid p.line.chip.array p.started m.rest);
          clean = m.clean;
        }

    table_mid_any : (st₁ : State) (f₁ : Bool) (p₁ : Progress) (d : phase.Done s mask_bytes first called st₀ c book marked₀ failed₀ marks₀ agrees proper st₁ f₁ p₁) (st : State) → tables.Mid s mask_bytes first called st₀ c book marked₀ failed₀ marks₀ agrees proper st₁ f₁ p₁ d st p
        → tables.Mid s' mask_bytes' (holding l' first.chip.array) first-called' st₀ c book marked₀ failed₀ marks₀ agrees proper st₁ f₁ (standing l' p₁.line.chip.array p₁.started) (done_any st₁ f₁ p₁ d) st here
    unfolding is_passed
    table_mid_any st₁ f₁ p₁ d st m =
        record {
          state_is = m.state_is;
          passed = refl;
          sound = here_sound;
          long = called'.array_long;
          high = high';
          table = m.table;
          rest = subst (λ (a : List ℕ). tables.Rest s' mask_bytes' (holding l' first.chip.array) first-called' st₀ c book marked₀ failed₀ marks₀ agrees proper st₁ f₁ (standing l' p₁.line.chip.array p₁.started) (done_any st₁ f₁ p₁ d) (next_number st) st.invalid m.table a p.started) (sym same)
              (table_rest_any st₁ f₁ p₁ d (next_number st) st.invalid m.table p.line.chip.array p.started m.rest);
        }

    -- wherever an open request stands
    pub at_any : {r : Running} → act.At s mask_bytes first called st₀ c book marked₀ failed₀ marks₀ agrees proper r p → r.cursor.phase < 2 → act.At s' mask_bytes' (holding l' first.chip.array) first-called' st₀ c book marked₀ failed₀ marks₀ agrees proper r here
    at_any (before_data w) h = before_data (record { st = w.st; failed = w.failed; mid = mid_any w.st w.failed w.mid; r_is = w.r_is })
    at_any (erase_data w) h =
        erase_data (record { st = w.st; failed = w.failed; mid = mid_any w.st w.failed w.mid; fits = w.fits; block = w.block; below = w.below; may = w.may; r_is = w.r_is })
    at_any (in_data w) h =
        in_data (record {
          st = w.st;
          failed = w.failed;
          fits = w.fits;
          A = w.A;
          long_A = w.long_A;
          before = w.before;
          state_is = w.state_is;
          rest = rest_any (next_number w.st) w.st.invalid w.A w.before w.rest;
          clean = w.clean;
          block = w.block;
          below = w.below;
          may = w.may;
          page = w.page;
          page_below = w.page_below;
          line = l';
          line_called = called';
          line_high = high';
          cycles = cs;
          started = p.started;
          stands = subst (Paused g w.A w.before w.block (act.data_pages s' mask_bytes' (holding l' first.chip.array) first-called' st₀ c book marked₀ failed₀ marks₀ agrees proper (next_number w.st)) w.page l'.chip) (sym (ap (λ (z : Progress). z.started) w.p_is))
              (paused_chip g w.A w.before w.block (act.data_pages s' mask_bytes' (holding l' first.chip.array) first-called' st₀ c book marked₀ failed₀ marks₀ agrees proper (next_number w.st)) w.page w.line.chip l'.chip w.started
              (same ∙ ap (λ (z : Progress). z.line.chip.array) w.p_is) (history ∙ ap (λ (z : Progress). z.line.chip.history) w.p_is) w.stands);
          r_is = w.r_is;
          p_is = refl;
        })
    at_any (before_table st₁ p₁ d w) h =
        before_table st₁ (standing l' p₁.line.chip.array p₁.started) (done_any st₁ true p₁ d) (record { st = w.st; mid = table_mid_any st₁ true p₁ d w.st w.mid; r_is = w.r_is })
    at_any (erase_table st₁ p₁ d w) h =
        erase_table st₁ (standing l' p₁.line.chip.array p₁.started) (done_any st₁ true p₁ d)
        (record { st = w.st; mid = table_mid_any st₁ true p₁ d w.st w.mid; fits = w.fits; block = w.block; below = w.below; may = w.may; r_is = w.r_is })
    at_any (in_table_fact st₁ p₁ d w) h =
        in_table_fact st₁ (standing l' p₁.line.chip.array p₁.started) (done_any st₁ true p₁ d) (record {
          st = w.st;
          fits = w.fits;
          A = w.A;
          long_A = w.long_A;
          before = w.before;
          state_is = w.state_is;
          table = w.table;
          rest = table_rest_any st₁ true p₁ d (next_number w.st) w.st.invalid w.table w.A w.before w.rest;
          block = w.block;
          below = w.below;
          may = w.may;
          page = w.page;
          page_below = w.page_below;
          line = l';
          line_called = called';
          line_high = high';
          cycles = cs;
          started = p.started;
          stands = subst (Paused g w.A w.before w.block (act.table_pages s' mask_bytes' (holding l' first.chip.array) first-called' st₀ c book marked₀ failed₀ marks₀ agrees proper (next_number w.st) w.st.invalid) w.page l'.chip) (sym (ap (λ (z : Progress). z.started) w.p_is))
              (paused_chip g w.A w.before w.block (act.table_pages s' mask_bytes' (holding l' first.chip.array) first-called' st₀ c book marked₀ failed₀ marks₀ agrees proper (next_number w.st) w.st.invalid) w.page w.line.chip l'.chip w.started
              (same ∙ ap (λ (z : Progress). z.line.chip.array) w.p_is) (history ∙ ap (λ (z : Progress). z.line.chip.history) w.p_is) w.stands);
          r_is = w.r_is;
          p_is = refl;
        })
    at_any (has_ended w) h = absurd (omega (arith, h, ap (λ (x : Running). x.cursor.phase) w.r_is))
