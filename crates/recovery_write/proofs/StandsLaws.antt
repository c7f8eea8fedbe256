-- An open request between two calls, told without a call: it stands so on a chip, after the operations of all its calls.
-- Any call can take it up, and leaves it open again, or ended as a plain request ends. Assumes nothing.
use Prim.Native.Nat.{ℕ, ◌≤◌, ◌<◌}
use mathlib.Core.Bool.{Bool, true, cond}
use mathlib.Core.List.{List, [], ◌++◌, append-nil}
use mathlib.Core.Path.{◌≡◌, refl, sym, ap, subst, ◌∙◌}
use native.Mathlib.Omega.{arith}
use borrow.Table.Steps.{cases}
use borrow.Author.Tests.{eqb-true, eqb-false}
use lib.Dec.{eqb}
use lib.ListN.{length, get_or}
use Rattle.geometry.specs.declared.Geometry.{Geometry}
use Rattle.geometry.specs.Sizes.{chip_size}
use Rattle.cells.specs.Bytes.{Bytes}
use Rattle.chip_array.specs.Device.{Device, Setting, setting}
use Rattle.chip.specs.Chip.{Cycle}
use Rattle.bus.specs.Line.{Line}
use Rattle.bus_polling.specs.declared.Outcome.TheVariants.{Passed}
use Rattle.bus_polling.proofs.OutcomeLaws.{passed_answered}
use Rattle.operations.specs.Ends.{Called}
use Rattle.operations.specs.Trace.{ArrayOperation}
use Rattle.state.specs.State.{mounted}
use Rattle.state.specs.declared.State.{State}
use Rattle.progress.specs.Progress.{Progress, progress}
use Rattle.fill_tables.specs.Tables.{tabled}
use Rattle.fill_cursor.specs.Cursor.{running, first_cursor, actions_most}
use Rattle.fill_cursor.specs.declared.Running.{Running}
use Rattle.fill_driver.specs.Driver.{Ran, ran}
use Rattle.write_changes.specs.Changes.{Update}
use Rattle.recovery.specs.Book.{Book, Change, entered}
use Rattle.recovery.specs.Copy.{last_passed}
use Rattle.recovery_write.specs.Changed.{Agrees, MarkedBy, Proper, update_of, Changed}
use Rattle.recovery_write.proofs.HoldingLaws.{holding, holding_called}
use Rattle.recovery_write.proofs.ActLaws as act
use Rattle.recovery_write.proofs.ActLaws.At.{before_data, erase_data, in_data, before_table, erase_table, in_table_fact, has_ended}
use Rattle.recovery_write.proofs.OtherCallLaws.{at_any}
use Rattle.recovery_write.proofs.ShownLaws.{Shown, at_shown}
use Rattle.recovery_write.proofs.TraceLaws.{after, ran_after, ran_after_fact}
use Rattle.recovery_write.proofs.LastLaws.{LastAt, last_first, run_last}
use Rattle.recovery_write.proofs.EntryLaws.{EntryReads, at_reads}
use Rattle.recovery_write.proofs.BetweenLaws as between
use Rattle.recovery_write.proofs.BetweenLaws.{Resting, Words, run_rests}

-- the chip takes the next command wherever an open request stands
module _ (s : Setting) (mask_bytes : Bytes s.mask) (first : Line) (called : Called s first) (st₀ : State) (c : Change) (book : Book) (marked₀ failed₀ : ℕ → Bool)
    (marks₀ : MarkedBy s.geometry first.chip.array marked₀) (agrees : Agrees s.geometry first.chip.array st₀ book failed₀) (proper : Proper s.geometry c) where
  pub at_called : {r : Running} {p : Progress} → act.At s mask_bytes first called st₀ c book marked₀ failed₀ marks₀ agrees proper r p → r.cursor.phase < 2 → Called s p.line
  at_called {r} {p} (before_data w) h = w.mid.sound.called (passed_answered p.outcome w.mid.passed)
  at_called {r} {p} (erase_data w) h = w.mid.sound.called (passed_answered p.outcome w.mid.passed)
  at_called (in_data w) h = subst (λ (x : Progress). Called s x.line) (sym w.p_is) w.line_called
  at_called {r} {p} (before_table st₁ p₁ d w) h = w.mid.sound.called (passed_answered p.outcome w.mid.passed)
  at_called {r} {p} (erase_table st₁ p₁ d w) h = w.mid.sound.called (passed_answered p.outcome w.mid.passed)
  at_called (in_table_fact st₁ p₁ d w) h = subst (λ (x : Progress). Called s x.line) (sym w.p_is) w.line_called
  at_called (has_ended w) h = absurd (omega (arith, h, ap (λ (x : Running). x.cursor.phase) w.r_is))

-- the request was opened on array₀, when the state was st₀
module _ (g : Geometry) (array₀ : List ℕ) (long₀ : length array₀ ≡ chip_size g) (st₀ : State) (c : Change) (book : Book) (marked₀ failed₀ : ℕ → Bool)
    (marks₀ : MarkedBy g array₀ marked₀) (agrees : Agrees g array₀ st₀ book failed₀) (proper : Proper g c) where
  abbrev u : Update
  u = update_of st₀ c

  pub record Stands (r : Running) (d : Device) (os : List ArrayOperation) : Type 0 where
    pub mask' : List ℕ
    pub fates' : List ℕ
    pub mask_bytes' : Bytes mask'
    pub l' : Line
    pub called' : Called (setting g mask' fates') l'
    pub p : Progress
    pub is_at : act.At (setting g mask' fates') mask_bytes' (holding l' array₀) (holding_called (setting g mask' fates') l' called' array₀ long₀) st₀ c book marked₀ failed₀ marks₀ agrees proper r p
    pub unended : r.cursor.phase < 2
    pub array_is : p.line.chip.array ≡ d.array
    pub history_is : p.line.chip.history ≡ d.history
    pub started_is : p.started ≡ os
    pub last : LastAt g r.cursor.phase os
    pub rests : Resting r.cursor

  -- what a mount would find there
  pub stands_shown : {r : Running} {d : Device} {os : List ArrayOperation} → Stands r d os → Shown g c book marked₀ failed₀ d.array os
  stands_shown {r} {d} {os} w =
      subst (λ (x : List ArrayOperation). Shown g c book marked₀ failed₀ d.array x) w.started_is
      (subst (λ (a : List ℕ). Shown g c book marked₀ failed₀ a w.p.started) w.array_is
      (at_shown (setting g w.mask' w.fates') w.mask_bytes' (holding w.l' array₀) (holding_called (setting g w.mask' w.fates') w.l' w.called' array₀ long₀) st₀ c book marked₀ failed₀ marks₀ agrees proper w.is_at w.unended))

  -- what a read of a logical block by the state's map and kinds gives there: the new bytes once the new copy is filled
  pub stands_reads : {r : Running} {d : Device} {os : List ArrayOperation} → Stands r d os → (l : ℕ) → l < g.logical → EntryReads g d.array (get_or r.state.map l 0) (get_or r.state.kinds l 0) (cond (last_passed g os) (entered g c book) book l)
  stands_reads {r} {d} {os} w l h =
      let reads = at_reads (setting g w.mask' w.fates') w.mask_bytes' (holding w.l' array₀) (holding_called (setting g w.mask' w.fates') w.l' w.called' array₀ long₀) st₀ c book marked₀ failed₀ marks₀ agrees proper l h w.is_at w.unended in
      subst (λ (a : List ℕ). EntryReads g a (get_or r.state.map l 0) (get_or r.state.kinds l 0) (cond (last_passed g os) (entered g c book) book l)) w.array_is
      (cases (eqb r.cursor.phase 0)
      (λ z. rw (w.last.unfilled (eqb-true r.cursor.phase 0 z)) (rw z at reads))
      (λ z. rw (w.last.filled (omega (arith, w.unended, eqb-false r.cursor.phase 0 z))) (rw z at reads)))

  -- its state counts as mounted, and its words are in the geometry
  pub stands_mounted : {r : Running} {d : Device} {os : List ArrayOperation} → Stands r d os → mounted r.state g.blocks g.logical ≡ true
  stands_mounted w = between.at_mounted (setting g w.mask' w.fates') w.mask_bytes' (holding w.l' array₀) (holding_called (setting g w.mask' w.fates') w.l' w.called' array₀ long₀) st₀ c book marked₀ failed₀ marks₀ agrees proper w.is_at w.unended

  pub stands_words : {r : Running} {d : Device} {os : List ArrayOperation} → Stands r d os → Words g u.first u.count r.cursor
  stands_words w = between.at_words (setting g w.mask' w.fates') w.mask_bytes' (holding w.l' array₀) (holding_called (setting g w.mask' w.fates') w.l' w.called' array₀ long₀) st₀ c book marked₀ failed₀ marks₀ agrees proper w.is_at w.unended

  -- a call
  module _ (mask' fates' : List ℕ) (mask_bytes' : Bytes mask') (l' : Line) (called' : Called (setting g mask' fates') l') (high' : l'.chip.interface.protected ≡ 0) (cs : List Cycle) where
    abbrev s' : Setting
    s' = setting g mask' fates'

    abbrev At' : Running → Progress → Type 0
    At' = act.At (setting g mask' fates') mask_bytes' (holding l' array₀) (holding_called (setting g mask' fates') l' called' array₀ long₀) st₀ c book marked₀ failed₀ marks₀ agrees proper

    -- the opening
    pub stands_first : l'.chip.array ≡ array₀ → Stands (running (first_cursor 0 u.logical u.first u.count u.old) st₀) l'.chip []
    stands_first e =
        record {
          mask' = mask';
          fates' = fates';
          mask_bytes' = mask_bytes';
          l' = l';
          called' = called';
          p = progress (holding l' array₀) Passed [] [];
          is_at = act.at_first (setting g mask' fates') mask_bytes' (holding l' array₀) (holding_called (setting g mask' fates') l' called' array₀ long₀) st₀ c book marked₀ failed₀ marks₀ agrees proper high';
          unended = omega arith;
          array_is = sym e;
          history_is = refl;
          started_is = refl;
          last = last_first g;
          rests = record { step_most = omega arith; no_erase = λ h e. omega (arith, e) };
        }

    -- it takes up a request that stands open on its chip
    module _ (r : Running) (os : List ArrayOperation) (w : Stands r l'.chip os) where
      pub stands_at : At' r (progress l' Passed cs os)
      stands_at =
          subst (λ (x : List ArrayOperation). At' r (progress l' Passed cs x)) w.started_is
          (at_any g w.mask' w.fates' w.mask_bytes' (holding w.l' array₀) (holding_called (setting g w.mask' w.fates') w.l' w.called' array₀ long₀) st₀ c book marked₀ failed₀ marks₀ agrees proper
          mask' fates' mask_bytes' l' called' high' (holding_called s' l' called' array₀ long₀) w.p (sym w.array_is) (sym w.history_is) cs w.is_at w.unended)

      -- at most so many page programs in this call, which has a trace of its own
      module _ (left : ℕ) where
        abbrev pub own : Ran
        own = ran s' u.bytes (actions_most left r) left r (progress l' Passed cs [])

        came : Ran
        came = ran s' u.bytes (actions_most left r) left r (progress l' Passed cs os)

        came_own : came ≡ ran_after os own
        unfolding came
        came_own =
            ap (λ (xs : List ArrayOperation). ran s' u.bytes (actions_most left r) left r (progress l' Passed cs xs)) (sym (append-nil os))
            ∙ ran_after_fact s' os u.bytes (actions_most left r) left r (progress l' Passed cs [])

        came_at : At' came.running came.progress
        unfolding came
        came_at = act.run_keeps (setting g mask' fates') mask_bytes' (holding l' array₀) (holding_called (setting g mask' fates') l' called' array₀ long₀) st₀ c book marked₀ failed₀ marks₀ agrees proper (actions_most left r) left r (progress l' Passed cs os) stands_at

        own_at : At' own.running (after os own.progress)
        own_at = subst (λ (x : Ran). At' x.running x.progress) came_own came_at

        own_last : LastAt g own.running.cursor.phase (os ++ own.progress.started)
        unfolding came
        own_last =
            subst (λ (x : Ran). LastAt g x.running.cursor.phase x.progress.started) came_own
            (run_last (setting g mask' fates') mask_bytes' (holding l' array₀) (holding_called (setting g mask' fates') l' called' array₀ long₀) st₀ c book marked₀ failed₀ marks₀ agrees proper (actions_most left r) left r (progress l' Passed cs os) stands_at w.last)

        -- it has ended in this call, as a plain request ends
        pub advance_ends : 2 ≤ own.running.cursor.phase → Changed s' c book marked₀ failed₀ (tabled (after os own.progress) own.running.cursor.answer own.running.state)
        advance_ends h = act.at_ended (setting g mask' fates') mask_bytes' (holding l' array₀) (holding_called (setting g mask' fates') l' called' array₀ long₀) st₀ c book marked₀ failed₀ marks₀ agrees proper own_at h

        pub advance_unprotected : 2 ≤ own.running.cursor.phase → own.running.cursor.answer ≡ 13 → ⊥
        advance_unprotected = act.at_unprotected (setting g mask' fates') mask_bytes' (holding l' array₀) (holding_called (setting g mask' fates') l' called' array₀ long₀) st₀ c book marked₀ failed₀ marks₀ agrees proper own_at

        -- it stands open again, and the chip takes the next command
        pub advance_stands : own.running.cursor.phase < 2 → Stands own.running own.progress.line.chip (os ++ own.progress.started)
        advance_stands h =
            record {
              mask' = mask';
              fates' = fates';
              mask_bytes' = mask_bytes';
              l' = l';
              called' = called';
              p = after os own.progress;
              is_at = own_at;
              unended = h;
              array_is = refl;
              history_is = refl;
              started_is = refl;
              last = own_last;
              rests = run_rests s' u.bytes (actions_most left r) left r (progress l' Passed cs []) w.rests.step_most (omega arith) (λ z. w.rests.no_erase w.unended);
            }

        pub advance_called : own.running.cursor.phase < 2 → Called s' own.progress.line
        advance_called h = at_called (setting g mask' fates') mask_bytes' (holding l' array₀) (holding_called (setting g mask' fates') l' called' array₀ long₀) st₀ c book marked₀ failed₀ marks₀ agrees proper own_at h

  -- reads in between leave array and history
  pub stands_still : {r : Running} {d : Device} {os : List ArrayOperation} (d' : Device) → d'.array ≡ d.array → d'.history ≡ d.history → Stands r d os → Stands r d' os
  stands_still d' same history w =
      record {
        mask' = w.mask';
        fates' = w.fates';
        mask_bytes' = w.mask_bytes';
        l' = w.l';
        called' = w.called';
        p = w.p;
        is_at = w.is_at;
        unended = w.unended;
        array_is = w.array_is ∙ sym same;
        history_is = w.history_is ∙ sym history;
        started_is = w.started_is;
        last = w.last;
        rests = w.rests;
      }
