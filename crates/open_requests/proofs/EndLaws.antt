-- How the code ends an opening and an advance, told by the definitions. Assumes nothing.
use Prim.Native.Nat.{ℕ, ◌≤◌, ◌<◌}
use mathlib.Core.Bool.{Bool, true, false, cond, not}
use mathlib.Core.List.{List, [], ◌++◌}
use mathlib.Core.Path.{◌≡◌, refl, sym, ap, transport, ◌∙◌}
use native.Mathlib.Nat.{one-mul}
use native.Mathlib.Omega.{arith}
use borrow.Table.Steps.{cases}
use borrow.Author.Tests.{eq-eqb, ne_eqb, eqb-true, eqb-false, lt-ltb, le-ltb, ltb-true}
use lib.Dec.{eqb, ltb}
use lib.ListN.{length, take, get_or, replicate}
use Rattle.geometry.specs.declared.Geometry.{Geometry}
use Rattle.geometry.specs.Limits.{Valid}
use Rattle.bools.proofs.BoolLaws.{both}
use Rattle.chip_array.specs.Device.{Device, Setting}
use Rattle.chip.specs.Chip.{Cycle}
use Rattle.bus.specs.Line.{Line, send_all, sent}
use Rattle.bus_polling.specs.Outcomes.{is_passed}
use Rattle.bus_polling.specs.declared.Outcome.{Outcome}
use Rattle.bus_sequences.specs.Cycles.{status_cycles}
use Rattle.operations.specs.Ends.{status_end}
use Rattle.operations.specs.Trace.{ArrayOperation}
use Rattle.progress.specs.Progress.{progress, status_on}
use Rattle.state.specs.State.{mounted}
use Rattle.state.specs.declared.State.{State}
use Rattle.request.specs.Call.{Result, result_with, end_at, sized_for, call_line, result_of, status_answer, status_state}
use Rattle.request_refusals.specs.Refusals.{refusal, refusal_of}
use Rattle.request_refusals.proofs.RefusalLaws.{Accepted, accepts}
use Rattle.write_changes.specs.Changes.{change_first}
use Rattle.fill_cursor.specs.Cursor.{Fits, running, first_cursor}
use Rattle.fill_cursor.specs.declared.Cursor.{Cursor}
use Rattle.fill_cursor.specs.declared.Running.{Running}
use Rattle.fill_driver.specs.Driver.{ran_to, RanAs}
use Rattle.open_write.specs.declared.OpenWrite.{OpenWrite}
use Rattle.open_write.specs.Open.{OpenState, open_state, is_opened, cursor_of, words_of, no_write, kept_page, words_fit, open_fits}
use Rattle.open_write.specs.Requests.{OpenResult, open_result, stops, open_refusal, open_end, open_request, opening_write, Advanced, advanced, advance_run, advance_end, advance_request, advancing_write}
use Rattle.open_requests.specs.Opening.{opening_refusal}

-- 15 while one is open, whatever the address and the length
pub opened-first : (g : Geometry) (x : OpenState) (logical page long : ℕ) → mounted x.state g.blocks g.logical ≡ true → open_fits g x ≡ true → is_opened x ≡ true → opening_refusal g true x logical page long ≡ 15
unfolding opening_refusal open_refusal
opened-first g x logical page long m f o = rw (m, f, o) refl

-- the refusals, by the tests that the code makes
module _ (g : Geometry) (fits : Bool) (x : OpenState) (barred : Bool) where
  pub refused_geometry : fits ≡ false → 1 ≡ open_refusal g fits x barred
  unfolding open_refusal
  refused_geometry f = rw f

  pub refused_unmounted : fits ≡ true → mounted x.state g.blocks g.logical ≡ false → 7 ≡ open_refusal g fits x barred
  unfolding open_refusal
  refused_unmounted t f = rw (t, f)

  pub refused_outside : fits ≡ true → mounted x.state g.blocks g.logical ≡ true → open_fits g x ≡ false → 7 ≡ open_refusal g fits x barred
  unfolding open_refusal
  refused_outside t m f = rw (t, m, f)

  pub refused_barred : fits ≡ true → mounted x.state g.blocks g.logical ≡ true → open_fits g x ≡ true → barred ≡ true → 15 ≡ open_refusal g fits x barred
  unfolding open_refusal
  refused_barred t m f b = rw (t, m, f, b)

  pub unrefused : fits ≡ true → mounted x.state g.blocks g.logical ≡ true → open_fits g x ≡ true → barred ≡ false → 0 ≡ open_refusal g fits x barred
  unfolding open_refusal
  unrefused t m f b = rw (t, m, f, b)

  -- what holds where there is none
  pub record Admitted : Type 0 where
    pub sizes_fit : fits ≡ true
    pub is_mounted : mounted x.state g.blocks g.logical ≡ true
    pub is_inside : open_fits g x ≡ true
    pub not_barred : barred ≡ false

  pub admits : open_refusal g fits x barred ≡ 0 → Admitted
  unfolding open_refusal
  admits z =
      cases fits
      (λ t. cases (mounted x.state g.blocks g.logical)
      (λ m. cases (open_fits g x)
      (λ f. cases barred
      (λ b. absurd (omega (arith, refused_barred t m f b ∙ z)))
      (λ b. record { sizes_fit = t; is_mounted = m; is_inside = f; not_barred = b }))
      (λ f. absurd (omega (arith, refused_outside t m f ∙ z))))
      (λ m. absurd (omega (arith, refused_unmounted t m ∙ z))))
      (λ t. absurd (omega (arith, refused_geometry t ∙ z)))

-- a write that is open and inside has its page, and what is due in it can be performed
module _ (g : Geometry) (v : Valid g) (x : OpenState) (inside : open_fits g x ≡ true) where
  pub page_kept : length x.page ≡ 4096
  unfolding open_fits
  page_kept = eqb-true (length x.page) 4096 (both (eqb (length x.page) 4096) _ inside).0

  inside_words : (x.write.opened ≡ 0 → ⊥) → words_fit g x.write ≡ true
  unfolding open_fits
  inside_words some =
      let all : cond (eqb x.write.opened 0) true (words_fit g x.write) ≡ true = (both (eqb (length x.page) 4096) _ inside).1 in
      sym (rw (ne_eqb x.write.opened 0 some)) ∙ all

  pub words_inside : (x.write.opened ≡ 0 → ⊥) → Fits g g.main (cursor_of x.write)
  unfolding words_fit
  words_inside some =
      let w = inside_words some in
      let a = both (ltb x.write.logical g.logical) _ w in
      let b = both (ltb x.write.first g.pages) _ a.1 in
      let d = both (ltb x.write.block g.blocks) _ b.1 in
      record {
        step_most = cases (eqb x.write.step 0) (λ t. rw t (omega arith)) (λ t. rw t (omega arith));
        logical_below = ltb-true x.write.logical g.logical a.0;
        bytes_long = sym (one-mul g.main);
        page_below = ltb-true x.write.page g.pages d.1;
        block_below = λ z. ltb-true x.write.block g.blocks d.0;
      }

-- a run told of other bytes, another start and another line that equal the first
pub ran_as : {s : Setting} {xs ys : List ℕ} {most : ℕ} {a b : Running} {l k m : Line} {r : Running} → xs ≡ ys → a ≡ b → l ≡ k → RanAs s xs most a l m r → RanAs s ys most b k m r
ran_as {s} {most = most} {m = m} {r = r} e f g run = transport (λ i. RanAs s (e i) most (f i) (g i) m r) run

-- an opening
pub turned : (b : Bool) → not b ≡ cond b false true
turned true = refl
turned false = refl

module _ (g : Geometry) (fits : Bool) (x : OpenState) (logical page long k : ℕ) (told : k ≡ open_refusal g fits x (is_opened x)) where
  pub opening_held : (k ≡ 0 → ⊥) → k ≡ opening_refusal g fits x logical page long
  unfolding opening_refusal
  opening_held some = rw (ne_eqb (open_refusal g fits x (is_opened x)) 0 (λ z. some (told ∙ z))) told

  pub opening_goes : k ≡ 0 → (m : ℕ) → m ≡ refusal g fits x.state logical page long → m ≡ opening_refusal g fits x logical page long
  unfolding opening_refusal
  opening_goes z m e = rw (eq-eqb (open_refusal g fits x (is_opened x)) 0 (sym told ∙ z)) e

module _ (s : Setting) (d : Device) (n : ℕ) (x : OpenState) (logical page : ℕ) (bytes : List ℕ) (k : ℕ) (told : k ≡ opening_refusal s.geometry (sized_for s d) x logical page (length bytes)) where
  abbrev held : ℕ
  held = open_refusal s.geometry (sized_for s d) x (is_opened x)

  pub open_refused : {r : Result} → (k ≡ 0 → ⊥) → r ≡ result_with k x.state d 0 → open_result r.answer (open_state r.state x.write x.page) r.chip r.sent ≡ opening_write s d n x logical page bytes
  unfolding result_of open_request opening_refusal
  open_refused some e =
      (λ i. open_result (e i).answer (open_state (e i).state x.write x.page) (e i).chip (e i).sent)
      ∙ cases (eqb held 0)
      (λ t.
      let is : k ≡ refusal_of s d x.state logical page bytes = told ∙ rw t in
      rw (t, ne_eqb (refusal_of s d x.state logical page bytes) 0 (λ z. some (is ∙ z))) (ap (λ (a : ℕ). open_result a x d 0) is))
      (λ f. let is : k ≡ held = told ∙ rw f in rw f (ap (λ (a : ℕ). open_result a x d 0) is))

  module _ (z : k ≡ 0) where
    none_held : held ≡ 0
    unfolding opening_refusal
    none_held =
        cases (eqb held 0) (λ t. eqb-true held 0 t)
        (λ f. absurd (eqb-false held 0 f (sym (rw f) ∙ sym told ∙ z)))

    none_refused : refusal_of s d x.state logical page bytes ≡ 0
    unfolding opening_refusal
    none_refused = sym (rw (eq-eqb held 0 none_held)) ∙ sym told ∙ z

    pub open_accepted : Accepted s.geometry (sized_for s d) x.state logical page (length bytes)
    open_accepted = accepts s.geometry (sized_for s d) x.state logical page (length bytes) none_refused

    pub open_inside : open_fits s.geometry x ≡ true
    open_inside = (admits s.geometry (sized_for s d) x (is_opened x) none_held).is_inside

    -- its status read, to line m with outcome o
    pub open_ends : (m : Line) (o : Outcome) → m ≡ send_all s (call_line d n) status_cycles → o ≡ status_end m → (r : OpenResult) → ((cs : List Cycle) (os : List ArrayOperation) → r ≡ open_end n x logical page bytes (progress m o cs os)) → r ≡ opening_write s d n x logical page bytes
    unfolding result_of open_request status_on is_passed
    open_ends m o e q r ends =
        let shown : progress m o ([] ++ sent s (call_line d n) status_cycles) [] ≡ change_first s d n = λ i. progress (e i) ((q ∙ ap status_end e) i) ([] ++ sent s (call_line d n) status_cycles) [] in
        rw (eq-eqb held 0 none_held, eq-eqb (refusal_of s d x.state logical page bytes) 0 none_refused)
        (ends ([] ++ sent s (call_line d n) status_cycles) [] ∙ ap (open_end n x logical page bytes) shown)

module _ (n : ℕ) (x : OpenState) (logical page : ℕ) (bytes : List ℕ) (l : Line) (o : Outcome) (cs : List Cycle) (os : List ArrayOperation) where
  -- the chip may not be written, or the status read was cut
  module _ (f : is_passed o ≡ false) {r : Result} (e : r ≡ end_at n (status_answer o) (status_state o x.state) l) where
    pub stop_kept : stops (status_answer o) ≡ false → open_result r.answer (open_state r.state x.write x.page) r.chip r.sent ≡ open_end n x logical page bytes (progress l o cs os)
    stop_kept t = rw (f, t) (λ i. open_result (e i).answer (open_state (e i).state x.write x.page) (e i).chip (e i).sent)

    pub stop_closed : stops (status_answer o) ≡ true → {w : OpenWrite} {p : List ℕ} → w ≡ no_write → p ≡ replicate (length x.page) 0
        → open_result r.answer (open_state r.state w p) r.chip r.sent ≡ open_end n x logical page bytes (progress l o cs os)
    stop_closed t a b = rw (f, t) (λ i. open_result (e i).answer (open_state (e i).state (a i) (b i)) (e i).chip (e i).sent)

  pub open_kept : is_passed o ≡ true → {r : Result} → r ≡ end_at n 0 x.state l → {w : OpenWrite} {c : Cursor} {p : List ℕ} → w ≡ words_of c → c ≡ first_cursor 0 logical page 1 (get_or x.state.map logical 0) → p ≡ kept_page bytes x.page
      → open_result r.answer (open_state r.state w p) r.chip r.sent ≡ open_end n x logical page bytes (progress l o cs os)
  open_kept t e a c b = rw t (λ i. open_result (e i).answer (open_state (e i).state ((a ∙ ap words_of c) i) (b i)) (e i).chip (e i).sent)

-- an advance that has come to line l
module _ (n : ℕ) (x : OpenState) (c : Cursor) (st : State) (l : Line) (o : Outcome) (cs : List Cycle) (os : List ArrayOperation) where
  pub leave_open : c.phase < 2 → {r : Result} → r ≡ end_at n 0 st l → {w : OpenWrite} → w ≡ words_of c
      → advanced (open_result r.answer (open_state r.state w x.page) r.chip r.sent) 0 ≡ advance_end n x (ran_to (progress l o cs os) (running c st))
  unfolding advance_end
  leave_open h e a = rw (lt-ltb c.phase 2 h) (λ i. advanced (open_result (e i).answer (open_state (e i).state (a i) x.page) (e i).chip (e i).sent) 0)

  pub leave_closed : 2 ≤ c.phase → {r : Result} → r ≡ end_at n c.answer st l → {w : OpenWrite} {p : List ℕ} {k : ℕ} → w ≡ no_write → p ≡ replicate (length x.page) 0 → k ≡ cond (eqb c.answer 0) 1 0
      → advanced (open_result r.answer (open_state r.state w p) r.chip r.sent) k ≡ advance_end n x (ran_to (progress l o cs os) (running c st))
  unfolding advance_end
  leave_closed h e a b f = rw (le-ltb c.phase 2 h) (λ i. advanced (open_result (e i).answer (open_state (e i).state (a i) (b i)) (e i).chip (e i).sent) (f i))

module _ (s : Setting) (d : Device) (n : ℕ) (x : OpenState) (most k : ℕ) (told : k ≡ open_refusal s.geometry (sized_for s d) x (eqb x.write.opened 0)) where
  pub advance-refused : {r : Result} → (k ≡ 0 → ⊥) → r ≡ result_with k x.state d 0 → advanced (open_result r.answer (open_state r.state x.write x.page) r.chip r.sent) 0 ≡ advancing_write s d n x most
  unfolding result_of advance_request
  advance-refused some e =
      (λ i. advanced (open_result (e i).answer (open_state (e i).state x.write x.page) (e i).chip (e i).sent) 0)
      ∙ rw (ne_eqb (open_refusal s.geometry (sized_for s d) x (eqb x.write.opened 0)) 0 (λ z. some (told ∙ z))) (ap (λ (a : ℕ). advanced (open_result a x d 0) 0) told)

  pub advance_admitted : k ≡ 0 → Admitted s.geometry (sized_for s d) x (eqb x.write.opened 0)
  advance_admitted z = admits s.geometry (sized_for s d) x (eqb x.write.opened 0) (sym told ∙ z)

  pub advance_ends : k ≡ 0 → (m : Line) (r : Running) → RanAs s (take s.geometry.main x.page) most (running (cursor_of x.write) x.state) (call_line d n) m r
      → (a : Advanced) → ((o : Outcome) (cs : List Cycle) (os : List ArrayOperation) → a ≡ advance_end n x (ran_to (progress m o cs os) r)) → a ≡ advancing_write s d n x most
  unfolding result_of advance_request
  advance_ends z m r run a ends =
      let t = advance_run s d n x most in
      let came : ran_to (progress m t.progress.outcome t.progress.cycles t.progress.started) r ≡ t = λ i. ran_to (progress (run.line_is [] [] i) t.progress.outcome t.progress.cycles t.progress.started) (run.running_is [] [] i) in
      rw (eq-eqb (open_refusal s.geometry (sized_for s d) x (eqb x.write.opened 0)) 0 (sym told ∙ z))
      (ends _ _ _ ∙ ap (advance_end n x) came)
