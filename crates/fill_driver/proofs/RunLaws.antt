-- A request on its way, action after action. Assumes nothing.
use Prim.Native.Nat.{ℕ, zero, suc, ◌-◌, ◌*◌, ◌≤◌, ◌<◌}
use mathlib.Core.Bool.{true, false, true≢false, false≢true}
use mathlib.Core.List.{List}
use mathlib.Core.Path.{◌≡◌, refl, sym, ap, ap₂, subst, ◌∙◌}
use native.Mathlib.Omega.{arith}
use borrow.Table.Steps.{cases}
use borrow.Author.Tests.{eq-eqb, ne_eqb, ltb-true}
use lib.Dec.{eqb}
use lib.ListN.{length}
use Rattle.geometry.specs.declared.Geometry.{Geometry}
use Rattle.geometry.specs.Limits.{Valid}
use Rattle.chip_array.specs.Device.{Setting}
use Rattle.chip.specs.Chip.{Cycle}
use Rattle.bus.specs.Line.{Line}
use Rattle.bus_polling.specs.Outcomes.{is_failed, answered, is_protected}
use Rattle.bus_polling.specs.declared.Outcome.{Outcome}
use Rattle.bus_polling.specs.declared.Outcome.TheVariants.{Passed, Failed, Silent, Cut, Illegal, Protected}
use Rattle.operations.specs.Ends.{Called, Lent}
use Rattle.operations.specs.Trace.{ArrayOperation}
use Rattle.operations.proofs.UnreadyLaws.{called_lent}
use Rattle.progress.specs.Progress.{Progress, progress}
use Rattle.progress.specs.Steps.{ComesTo}
use Rattle.state.specs.declared.State.{State}
use Rattle.fill_cursor.specs.Cursor.{Fits, running, first_cursor, prepared, after_action, settled, after_due, programs, is_open_now, actions_most}
use Rattle.fill_cursor.specs.declared.Cursor.{Cursor}
use Rattle.fill_cursor.specs.declared.Running.{Running}
use Rattle.fill_cursor.proofs.FitLaws.{prepared_goes, after_goes, prepared_less, after_less}
use Rattle.fill_cursor.proofs.EndLaws.{prepared_unfinished, after_finished}
use Rattle.fill_driver.specs.Driver.{form_now, performed, Ran, ran_to, gone, gone_on, acted, ran, run_for, RanAs}

pub gone_on_lem : (o : Outcome) → answered o ≡ true → is_protected o ≡ false → gone o ≡ Passed
unfolding gone answered is_failed is_protected
gone_on_lem Passed t u = refl
gone_on_lem Failed t u = refl
gone_on_lem Silent t u = absurd (false≢true t)
gone_on_lem Cut t u = absurd (false≢true t)
gone_on_lem Illegal t u = absurd (false≢true t)
gone_on_lem Protected t u = absurd (true≢false u)

-- something is due
pub open_left : (c : Cursor) (left : ℕ) → is_open_now c left ≡ true → left ≡ 0 → ⊥
unfolding is_open_now
open_left c left t z = false≢true (sym (rw (eq-eqb left 0 z)) ∙ t)

pub open_phase : (c : Cursor) (left : ℕ) → is_open_now c left ≡ true → c.phase < 2
unfolding is_open_now
open_phase c left t =
    cases (eqb left 0) (λ e. absurd (false≢true (sym (rw e) ∙ t))) (λ e. ltb-true c.phase 2 (sym (rw e) ∙ t))

pub programs-most : (c : Cursor) (left : ℕ) → is_open_now c left ≡ true → programs c ≤ left
unfolding programs
programs-most c left t =
    let some = open_left c left t in
    cases (eqb c.step 2) (λ e. rw e (omega (arith, some))) (λ e. rw e (omega arith))

pub no_programs : (c : Cursor) → c.step ≡ 0 → programs c ≡ 0
unfolding programs
no_programs c z = rw z

-- one action
module _ (s : Setting) (bytes : List ℕ) (r : Running) (p : Progress) where
  pub acted_prepared : r.cursor.step ≡ 0 → acted s bytes r p ≡ ran_to p (prepared s.geometry r.cursor r.state)
  unfolding acted
  acted_prepared z = rw (eq-eqb r.cursor.step 0 z)

  pub acted_performed : (r.cursor.step ≡ 0 → ⊥)
      → acted s bytes r p ≡ ran_to (gone_on (performed s r.cursor (form_now r) r.state.invalid bytes p)) (after_due s.geometry.pages r (performed s r.cursor (form_now r) r.state.invalid bytes p).outcome)
  unfolding acted
  acted_performed n = rw (ne_eqb r.cursor.step 0 n)

  pub ran_acted : (n left : ℕ) → is_open_now r.cursor left ≡ true
      → ran s bytes (suc n) left r p ≡ ran s bytes n (left - programs r.cursor) (acted s bytes r p).running (acted s bytes r p).progress
  unfolding ran
  ran_acted n left t = rw t

  -- none after the end
  pub ran_over : (n left : ℕ) → is_open_now r.cursor left ≡ false → ran s bytes n left r p ≡ ran_to p r
  unfolding ran
  ran_over zero left f = refl
  ran_over (suc n) left f = rw f

-- the state is settled unless the next page of the same fill is due
module _ (pages : ℕ) (c : Cursor) (st : State) (o : Outcome) (next : Cursor) (e : next ≡ after_action pages c o) where
  pub after_settled : (next.step ≡ 2 → ⊥) → (s : State) → s ≡ settled c st o → running next s ≡ after_due pages (running c st) o
  after_settled n s h =
      let f : eqb (after_action pages c o).step 2 ≡ false = ne_eqb (after_action pages c o).step 2 (λ z. n (ap (λ (x : Cursor). x.step) e ∙ z)) in
      ap₂ running e h ∙ sym (rw f)

  pub after_kept : next.step ≡ 2 → running next st ≡ after_due pages (running c st) o
  after_kept z =
      let t : eqb (after_action pages c o).step 2 ≡ true = eq-eqb (after_action pages c o).step 2 (sym (ap (λ (x : Cursor). x.step) e) ∙ z) in
      ap (λ (x : Cursor). running x st) e ∙ sym (rw t)

-- a request that starts: a number and a block are due
pub first_fits : (g : Geometry) → Valid g → (phase logical first count old : ℕ) (c : Cursor) → c ≡ first_cursor phase logical first count old → logical < g.logical → (long : ℕ) → long ≡ count * g.main → Fits g long c
first_fits g v phase logical first count old c e h long k =
    subst (Fits g long) (sym e)
    (record { step_most = omega arith; logical_below = h; bytes_long = k; page_below = omega (arith, v.pages_least); block_below = λ z. absurd (omega (arith, z)) })

-- a request that goes on
pub record Open (s : Setting) (long : ℕ) (r : Running) (m : Line) (o : Outcome) : Type 0 where
  pub lent : Lent s m
  pub passed : o ≡ Passed
  pub fits : Fits s.geometry long r.cursor
  pub last_below : r.state.last < s.geometry.blocks

-- on the way: with left page programs the request from r at line m ends as that from the start
pub record Going (s : Setting) (bytes : List ℕ) (most : ℕ) (start : Running) (l : Line) (left : ℕ) (r : Running) (m : Line) : Type 0 where
  pub fuel : ℕ
  pub enough : actions_most left r ≤ fuel
  pub outcome : Outcome
  pub cycles : List Cycle → List ArrayOperation → List Cycle
  pub started : List Cycle → List ArrayOperation → List ArrayOperation
  pub going : (cs : List Cycle) (os : List ArrayOperation) → ran s bytes fuel left r (progress m outcome (cycles cs os) (started cs os)) ≡ run_for s bytes most start (progress l Passed cs os)
  pub opened : r.cursor.phase < 2 → Open s (length bytes) r m outcome
  pub next_called : start.cursor.phase < 2 → (r.cursor.phase < 2 → ⊥) → r.cursor.answer ≡ 0 → Called s m × (r.state.last < s.geometry.blocks)

pub run_begins : (s : Setting) (bytes : List ℕ) (most : ℕ) (start : Running) (l : Line) → Lent s l → (start.cursor.phase < 2 → Fits s.geometry (length bytes) start.cursor) → (start.cursor.phase < 2 → start.state.last < s.geometry.blocks)
    → Going s bytes most start l most start l
run_begins s bytes most start l lent fits last =
    record {
      fuel = actions_most most start;
      enough = omega arith;
      outcome = Passed;
      cycles = λ cs os. cs;
      started = λ cs os. os;
      going = λ cs os. refl;
      opened = λ h. record { lent = lent; passed = refl; fits = fits h; last_below = last h };
      next_called = λ h n. absurd (n h);
    }

module _ (s : Setting) (bytes : List ℕ) (most : ℕ) (start : Running) (l : Line) (left : ℕ) (r : Running) (m : Line) (w : Going s bytes most start l left r m) where
  -- nothing is due
  pub run_over : is_open_now r.cursor left ≡ false → RanAs s bytes most start l m r
  run_over f =
      let all : (cs : List Cycle) (os : List ArrayOperation) → ran_to (progress m w.outcome (w.cycles cs os) (w.started cs os)) r ≡ run_for s bytes most start (progress l Passed cs os) =
      λ cs os. sym (ran_over s bytes r _ w.fuel left f) ∙ w.going cs os in
      record { line_is = λ cs os. ap (λ (x : Ran). x.progress.line) (all cs os); running_is = λ cs os. ap (λ (x : Ran). x.running) (all cs os); next_called = w.next_called }

  module _ (t : is_open_now r.cursor left ≡ true) where
    pub is_open : Open s (length bytes) r m w.outcome
    is_open = w.opened (open_phase r.cursor left t)

    abbrev here : List Cycle → List ArrayOperation → Progress
    here cs os = progress m w.outcome (w.cycles cs os) (w.started cs os)

    -- one action more
    one_more : (n : ℕ) → w.fuel ≡ suc n → (cs : List Cycle) (os : List ArrayOperation) (a : Ran) → a ≡ acted s bytes r (here cs os)
        → ran s bytes n (left - programs r.cursor) a.running a.progress ≡ run_for s bytes most start (progress l Passed cs os)
    one_more n e cs os a h =
        ap (λ (x : Ran). ran s bytes n (left - programs r.cursor) x.running x.progress) h
        ∙ sym (ran_acted s bytes r (here cs os) n left t)
        ∙ ap (λ (x : ℕ). ran s bytes x left r (here cs os)) (sym e)
        ∙ w.going cs os

    -- a number and a block were taken
    module _ (z : r.cursor.step ≡ 0) where
      pub prepare_less : actions_most left (prepared s.geometry r.cursor r.state) < actions_most left r
      prepare_less = prepared_less left r.cursor r.state (open_phase r.cursor left t) s.geometry z

      pub run_prepared : Going s bytes most start l left (prepared s.geometry r.cursor r.state) m
      run_prepared =
          let a = is_open in
          let g = s.geometry in
          let less = prepare_less in
          let same : left - programs r.cursor ≡ left = omega (arith, no_programs r.cursor z) in
          let next : w.fuel ≡ suc (w.fuel - 1) = omega (arith, less, w.enough) in
          record {
            fuel = w.fuel - 1;
            enough = omega (arith, less, w.enough);
            outcome = w.outcome;
            cycles = w.cycles;
            started = w.started;
            going = λ cs os.
                ap (λ (x : ℕ). ran s bytes (w.fuel - 1) x (prepared g r.cursor r.state) (here cs os)) (sym same)
                ∙ one_more (w.fuel - 1) next cs os (ran_to (here cs os) (prepared g r.cursor r.state)) (sym (acted_prepared s bytes r (here cs os) z));
            opened = λ h.
                let x = prepared_goes g (length bytes) r.cursor r.state (omega (arith, a.lent.is_valid.pages_least)) a.fits a.last_below h in
                record {
                  lent = a.lent;
                  passed = a.passed;
                  fits = x.0.fits;
                  last_below = x.0.last_below;
                };
            next_called = λ h n z. absurd (prepared_unfinished g r.cursor r.state (open_phase r.cursor left t) n z);
          }

    -- the erase or the page that was due comes to line m' with outcome o
    module _ (some : r.cursor.step ≡ 0 → ⊥) (m' : Line) (o : Outcome) (q : ComesTo s (performed s r.cursor (form_now r) r.state.invalid bytes) m m' o) where
      pub perform_less : actions_most (left - programs r.cursor) (after_due s.geometry.pages r o) < actions_most left r
      perform_less =
          after_less left r.cursor r.state (open_phase r.cursor left t) s.geometry.pages (open_left r.cursor left t) o (omega (arith, some)) is_open.fits.step_most

      pub run_performed : Going s bytes most start l (left - programs r.cursor) (after_due s.geometry.pages r o) m'
      run_performed =
          let a = is_open in
          let g = s.geometry in
          let less = perform_less in
          let next : w.fuel ≡ suc (w.fuel - 1) = omega (arith, less, w.enough) in
          let from : List Cycle → List ArrayOperation → Progress = λ cs os. progress m Passed (w.cycles cs os) (w.started cs os) in
          let done : List Cycle → List ArrayOperation → Progress = λ cs os. performed s r.cursor (form_now r) r.state.invalid bytes (from cs os) in
          let same : (cs : List Cycle) (os : List ArrayOperation) → from cs os ≡ here cs os = λ cs os. ap (λ (x : Outcome). progress m x (w.cycles cs os) (w.started cs os)) (sym a.passed) in
          record {
            fuel = w.fuel - 1;
            enough = omega (arith, less, w.enough);
            outcome = gone o;
            cycles = λ cs os. (done cs os).cycles;
            started = λ cs os. (done cs os).started;
            going = λ cs os.
                one_more (w.fuel - 1) next cs os (ran_to (progress m' (gone o) (done cs os).cycles (done cs os).started) (after_due g.pages r o))
                ((λ i. ran_to (progress (q.line_is (w.cycles cs os) (w.started cs os) i) (gone (q.outcome_is (w.cycles cs os) (w.started cs os) i)) (done cs os).cycles (done cs os).started) (after_due g.pages r (q.outcome_is (w.cycles cs os) (w.started cs os) i)))
                ∙ sym (acted_performed s bytes r (from cs os) some)
                ∙ ap (acted s bytes r) (same cs os));
            opened = λ h.
                let x = after_goes g (length bytes) r.cursor r.state (omega (arith, a.lent.is_valid.pages_least)) a.fits a.last_below (omega (arith, some)) o h in
                let called = q.next_called x.1 in
                record {
                  lent = called_lent called;
                  passed = gone_on_lem o x.1 x.3;
                  fits = x.0.fits;
                  last_below = x.0.last_below;
                };
            next_called = λ h n z.
                let x = after_finished g.pages g.blocks r.cursor r.state (open_phase r.cursor left t) (a.fits.block_below (omega (arith, some))) o n z in
                (q.next_called x.0, x.1);
          }

      -- the same of a cursor and state that equal the next
      pub run_goes : (x : Running) → x ≡ after_due s.geometry.pages r o → (k : ℕ) → k ≡ programs r.cursor → Going s bytes most start l (left - k) x m'
      run_goes x e k h = subst (λ (y : Running). Going s bytes most start l (left - k) y m') (sym e) (subst (λ (n : ℕ). Going s bytes most start l (left - n) (after_due s.geometry.pages r o) m') (sym h) run_performed)

      pub run_less : (x : Running) → x ≡ after_due s.geometry.pages r o → (k : ℕ) → k ≡ programs r.cursor → actions_most (left - k) x < actions_most left r
      run_less x e k h = subst (λ (y : Running). actions_most (left - k) y < actions_most left r) (sym e) (subst (λ (n : ℕ). actions_most (left - n) (after_due s.geometry.pages r o) < actions_most left r) (sym h) perform_less)
