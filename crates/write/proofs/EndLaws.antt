-- How the code ends a write and an erase, told by the definitions: refused, or run to the end. Assumes nothing.
use Prim.Native.Nat.{ℕ, ◌≤◌, ◌<◌}
use mathlib.Core.Bool.{true, false≢true}
use mathlib.Core.List.{List}
use mathlib.Core.Path.{◌≡◌, refl, sym, ap, subst, ◌∙◌}
use native.Mathlib.Omega.{arith}
use borrow.Table.Steps.{cases}
use borrow.Author.Tests.{eq-eqb, ne_eqb, eqb-true}
use lib.Dec.{eqb}
use lib.ListN.{length, get_or}
use Rattle.geometry.specs.Limits.{Valid}
use Rattle.chip_array.specs.Device.{Device, Setting}
use Rattle.chip.specs.Chip.{Cycle}
use Rattle.bus.specs.Line.{Line, send_all}
use Rattle.bus.proofs.LineLaws.{sent_counts}
use Rattle.bus_polling.specs.Outcomes.{is_passed}
use Rattle.bus_polling.specs.Polling.{ended_as}
use Rattle.bus_polling.specs.declared.Outcome.{Outcome}
use Rattle.bus_polling.specs.declared.Outcome.TheVariants.{Passed}
use Rattle.bus_sequences.specs.Cycles.{status_cycles}
use Rattle.operations.specs.Ends.{Lent, status_end}
use Rattle.operations.specs.Trace.{ArrayOperation}
use Rattle.progress.specs.Progress.{progress}
use Rattle.state.specs.declared.State.{State}
use Rattle.state.proofs.MountedLaws.{mounted_facts}
use Rattle.request.specs.Call.{Result, result_with, sized_for, call_line, end_at, result_of}
use Rattle.request.proofs.CallLaws.{sizes}
use Rattle.request_refusals.specs.Refusals.{refusal, refusal_of}
use Rattle.request_refusals.proofs.RefusalLaws.{Accepted, accepts}
use Rattle.fill_tables.specs.Tables.{end_of_run}
use Rattle.write_changes.specs.Changes.{Update, erase_update, erase_refusal, change_run, changing, write_request, writing, erase_request, erasing_logical}
use Rattle.fill_cursor.specs.Cursor.{running}
use Rattle.fill_cursor.specs.declared.Cursor.{Cursor}
use Rattle.fill_cursor.specs.declared.Running.{Running}
use Rattle.fill_driver.specs.Driver.{Ran, RanAs}
use Rattle.fill_laws.proofs.ChangeLaws.{update_cursor, change_ran}
use Rattle.fill_laws.proofs.KeepLaws.{run-left}
use Rattle.write.specs.Update.{update}

-- the chip of a call that is not refused
module _ (s : Setting) (d : Device) (n : ℕ) (fits : sized_for s d ≡ true) where
  pub call_lent : Lent s (call_line d n)
  call_lent =
      let z = sizes s.geometry (length d.array) (length d.register) (length d.history) (length s.mask) fits in
      record {
        is_valid = z.chip_fits.is_valid;
        array_long = z.chip_fits.array_long;
        register_long = z.chip_fits.register_long;
        history_long = z.chip_fits.history_long;
        mask_long = z.mask_long;
        legal = refl;
        uncut = refl;
      }

-- its status read, to line m with outcome o
module _ (s : Setting) (l m : Line) (o : Outcome) (e : m ≡ send_all s l status_cycles) (q : o ≡ status_end m) where
  pub status_left : m.left ≤ l.left
  status_left = omega (arith, sent_counts s l status_cycles, ap (λ (x : Line). x.left) e)

  -- the chip may be written: no cycle was refused or cut
  ended : is_passed o ≡ true → is_passed (ended_as m) ≡ true
  unfolding status_end
  ended t = cases (is_passed (ended_as m)) (λ y. y) (λ y. absurd (false≢true (sym y ∙ sym (ap is_passed (q ∙ rw y)) ∙ t)))

  pub status_lent : is_passed o ≡ true → Lent s l → length m.chip.array ≡ length l.chip.array → length m.chip.register ≡ length l.chip.register
      → length m.chip.history ≡ length l.chip.history → Lent s m
  unfolding ended_as is_passed
  status_lent t c arrays registers histories =
      let y = ended t in
      let uncut : eqb m.cut 0 ≡ true = cases (eqb m.cut 0) (λ k. k) (λ k. absurd (false≢true (rw k at y))) in
      let legal : eqb m.chip.interface.illegal 0 ≡ true = cases (eqb m.chip.interface.illegal 0) (λ k. k) (λ k. absurd (false≢true (rw (uncut, k) at y))) in
      record {
        is_valid = c.is_valid;
        array_long = arrays ∙ c.array_long;
        register_long = registers ∙ c.register_long;
        history_long = histories ∙ c.history_long;
        mask_long = c.mask_long;
        legal = eqb-true m.chip.interface.illegal 0 legal;
        uncut = eqb-true m.cut 0 uncut;
      }

-- its fills to the end, from the line that the status read left
module _ (s : Setting) (n : ℕ) (st : State) (u : Update) (c : Cursor) (start : c ≡ update_cursor u) (l m : Line) (r : Running) (most : ℕ) (run : RanAs s u.bytes most (running c st) l m r) where
  pub fill_left : m.left ≤ l.left
  fill_left = omega (arith, run-left s u.bytes most (running c st) l m r run)

  pub fill_ends : Valid s.geometry → length st.invalid ≡ 512 → st.last < s.geometry.blocks → 524288 < most → (cs : List Cycle) (os : List ArrayOperation)
      → end_at n r.cursor.answer r.state m ≡ end_of_run n (change_run s st u (progress l Passed cs os))
  fill_ends v size last enough cs os =
      let whole = change_ran s v u st (progress l Passed cs os) most size last (omega (arith, v.blocks_most, enough)) in
      let from = subst (λ (x : Cursor). RanAs s u.bytes most (running x st) l m r) start run in
      let line_is = from.line_is cs os ∙ ap (λ (x : Ran). x.progress.line) whole in
      let running_is = from.running_is cs os ∙ ap (λ (x : Ran). x.running) whole in
      λ i. end_at n (running_is i).cursor.answer (running_is i).state (line_is i)

-- what holds where there is no refusal
module _ (s : Setting) (d : Device) (st : State) (logical page long : ℕ) (none : refusal s.geometry (sized_for s d) st logical page long ≡ 0) where
  pub not_refused : Accepted s.geometry (sized_for s d) st logical page long
  not_refused = accepts s.geometry (sized_for s d) st logical page long none

  is_valid : Valid s.geometry
  is_valid = (sizes s.geometry (length d.array) (length d.register) (length d.history) (length s.mask) not_refused.sizes_fit).chip_fits.is_valid

  pub last_below : st.last < s.geometry.blocks
  last_below =
      (mounted_facts st s.geometry.blocks s.geometry.logical is_valid.blocks_most not_refused.is_mounted).last_below

  pub in_map : logical < 4096
  in_map = omega (arith, not_refused.logical_below, is_valid.logical_most, is_valid.blocks_most)

module _ (s : Setting) (d : Device) (n : ℕ) (st : State) (logical page : ℕ) (bytes : List ℕ) (k : ℕ) (told : k ≡ refusal_of s d st logical page bytes) where
  pub write_refused : {r : Result} → (k ≡ 0 → ⊥) → r ≡ result_with k st d 0 → r ≡ writing s d n st logical page bytes
  unfolding result_of write_request
  write_refused x f =
      rw (ne_eqb (refusal_of s d st logical page bytes) 0 (λ z. x (told ∙ z)))
      (f ∙ ap (λ (y : ℕ). result_with y st d 0) told)

  pub write_ends : {r : Result} → k ≡ 0 → (old : ℕ) → old ≡ get_or st.map logical 0 → r ≡ changing s d n st (update logical old page 1 bytes) → r ≡ writing s d n st logical page bytes
  unfolding result_of write_request
  write_ends z old e f =
      rw (eq-eqb (refusal_of s d st logical page bytes) 0 (sym told ∙ z))
      (f ∙ ap (λ (b : ℕ). changing s d n st (update logical b page 1 bytes)) e)

module _ (s : Setting) (d : Device) (n : ℕ) (st : State) (logical : ℕ) (k : ℕ) (told : k ≡ erase_refusal s d st logical) where
  pub erase_refused : {r : Result} → (k ≡ 0 → ⊥) → r ≡ result_with k st d 0 → r ≡ erasing_logical s d n st logical
  unfolding result_of erase_request
  erase_refused x f =
      rw (ne_eqb (erase_refusal s d st logical) 0 (λ z. x (told ∙ z)))
      (f ∙ ap (λ (y : ℕ). result_with y st d 0) told)

  pub erase_ends : {r : Result} → k ≡ 0 → r ≡ changing s d n st (erase_update logical) → r ≡ erasing_logical s d n st logical
  unfolding result_of erase_request
  erase_ends z f = rw (eq-eqb (erase_refusal s d st logical) 0 (sym told ∙ z)) f
