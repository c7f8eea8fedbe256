-- How the code ends requests on the journal, told by the definitions. Assumes nothing.
use Prim.Native.Nat.{ℕ, suc, ◌-◌, ◌/◌, ◌%◌, ◌≤◌, ◌<◌}
use mathlib.Core.Bool.{Bool, true, false, not}
use mathlib.Core.List.{List, []}
use mathlib.Core.Path.{◌≡◌, sym, ap, ap₂, subst, ◌∙◌}
use native.Mathlib.Nat.{div-lt_iff_lt-mul}
use native.Mathlib.Omega.{arith}
use borrow.Table.Steps.{cases}
use borrow.Author.Tests.{eq-eqb, ne_eqb, le-leb, lt-leb, lt-ltb, le-ltb, ltb-true}
use lib.Dec.{eqb, ltb}
use lib.ListN.{length, take, drop, replicate, length-replicate}
use Rattle.geometry.specs.declared.Geometry.{Geometry}
use Rattle.geometry.specs.Limits.{Valid}
use Rattle.cells.proofs.PartLaws.{length_part}
use Rattle.bitmaps.specs.Bitmap.{bit_at}
use Rattle.chip_array.specs.Device.{Device, Setting}
use Rattle.chip.specs.Chip.{Cycle}
use Rattle.bus.specs.Line.{Line}
use Rattle.bus_polling.specs.Outcomes.{is_passed}
use Rattle.bus_polling.specs.declared.Outcome.{Outcome}
use Rattle.bus_polling.specs.declared.Outcome.TheVariants.{Passed}
use Rattle.bus_polling.proofs.OutcomeLaws.{is_passed_lem}
use Rattle.operations.specs.Trace.{ArrayOperation}
use Rattle.progress.specs.Progress.{Progress, progress}
use Rattle.state.specs.State.{blank, mounted}
use Rattle.state.specs.declared.State.{State}
use Rattle.state.proofs.MountedLaws.{mounted_facts}
use Rattle.request.specs.Call.{Result, result_with, result_of, call_line, stop_answer, end_at}
use Rattle.fill_tables.specs.Tables.{Tabled, end_of_run}
use Rattle.write_changes.specs.Changes.{write_update}
use Rattle.write.specs.Update.{change_from}
use Rattle.journal.specs.Records.{Pages, sale_bytes, room, records}
use Rattle.journal.proofs.EndLaws.{records_end, room_within}
use Rattle.journal.specs.Takings.{targets, replaced_by, in_force, takings}
use Rattle.journal.specs.declared.Sale.{Sale}
use Rattle.journal_read.specs.Reads.{pages_by, amounts_on}
use Rattle.journal_read.specs.Found.{Mapped, Told, Counted, Totalled}
use Rattle.journal_read.proofs.RanLaws.{amounts-still}
use Rattle.journal_requests.specs.Requests.{journal_refusal, journal_refusal_of, journal_pages, records_in, pass_run, TakingsResult, takings_result, takings_end, takings_run, takings_request, telling_takings, Appended, appended, may_replace, append_refusal, sale_update, sale_end, sale_refusal, append_run, append_request, appending}

-- the tests before the reads
module _ (g : Geometry) (fits : Bool) (st : State) where
  pub refused_geometry : fits ≡ false → 1 ≡ journal_refusal g fits st
  unfolding journal_refusal
  refused_geometry f = rw f

  pub refused_unmounted : fits ≡ true → mounted st g.blocks g.logical ≡ false → 7 ≡ journal_refusal g fits st
  unfolding journal_refusal
  refused_unmounted t f = rw (t, f)

  pub not_refused : fits ≡ true → mounted st g.blocks g.logical ≡ true → 0 ≡ journal_refusal g fits st
  unfolding journal_refusal
  not_refused t u = rw (t, u)

  pub accepted : journal_refusal g fits st ≡ 0 → (fits ≡ true) × (mounted st g.blocks g.logical ≡ true)
  unfolding journal_refusal
  accepted e =
      cases fits
      (λ t. cases (mounted st g.blocks g.logical) (λ u. (t, u)) (λ u. absurd (omega (arith, rw (t, u) at e))))
      (λ t. absurd (omega (arith, rw t at e)))

-- the map and the kinds of a mounted state
pub mapped : (g : Geometry) (st : State) → Valid g → length st.map ≡ 4096 → length st.kinds ≡ 4096 → mounted st g.blocks g.logical ≡ true → Mapped g st.map st.kinds
mapped g st v long kinds_long t = record { long = long; kinds_long = kinds_long; below = (mounted_facts st g.blocks g.logical v.blocks_most t).copy_below }

pub last_below : (g : Geometry) (st : State) → Valid g → mounted st g.blocks g.logical ≡ true → st.last < g.blocks
last_below g st v t = (mounted_facts st g.blocks g.logical v.blocks_most t).last_below

-- the tests after the reads
module _ (bits : List ℕ) (e t : ℕ) (fits : t < 65536) (pages : Pages) (told : Told pages e bits) where
  pub may_none : t ≡ 0 → true ≡ may_replace pages e t
  unfolding may_replace
  may_none z = rw (eq-eqb t 0 z)

  pub may_absent : (t ≡ 0 → ⊥) → e < t → false ≡ may_replace pages e t
  unfolding may_replace in_force
  may_absent x h = rw (ne_eqb t 0 x, lt-leb t e h)

  pub may_one : (t ≡ 0 → ⊥) → t ≤ e → not (bit_at bits t) ≡ may_replace pages e t
  unfolding may_replace in_force
  may_one x h =
      rw (ne_eqb t 0 x, le-leb t e h, told t fits)
      (cases (replaced_by (targets pages) e t) (λ y. rw y) (λ y. rw y))

  pub late_force : (most : ℕ) → may_replace pages e t ≡ false → 16 ≡ append_refusal pages most e t
  unfolding append_refusal
  late_force most f = rw f

  pub late_none : (most : ℕ) → may_replace pages e t ≡ true → e < most → 0 ≡ append_refusal pages most e t
  unfolding append_refusal
  late_none most y h = rw (y, lt-ltb e most h)

  pub late_room : (most : ℕ) → may_replace pages e t ≡ true → most ≤ e → 2 ≡ append_refusal pages most e t
  unfolding append_refusal
  late_room most y h = rw (y, le-ltb e most h)

-- there is room for a record that is not refused
pub has_room : (pages : Pages) (most e t : ℕ) → append_refusal pages most e t ≡ 0 → e < most
unfolding append_refusal
has_room pages most e t z =
    cases (may_replace pages e t)
    (λ y. cases (ltb e most) (λ h. ltb-true e most h) (λ h. absurd (omega (arith, rw (y, h) at z))))
    (λ y. absurd (omega (arith, rw y at z)))

-- the part of a page buffer that is lent
pub lent_main : (n : ℕ) → n ≤ 4096 → length (take (n - 0) (drop 0 (replicate {A = ℕ} 4096 0))) ≡ n
lent_main n h = length_part 0 (n - 0) (replicate {A = ℕ} 4096 0) (omega (arith, h, length-replicate {A = ℕ} 4096 0)) ∙ omega arith

-- a record is written to a page of a logical block
pub logical_below : (g : Geometry) → Valid g → (e : ℕ) → e < room g → e / g.pages < g.logical
logical_below g v e h = (div-lt_iff_lt-mul {k = g.pages} {x = e} {y = g.logical} (omega (arith, v.pages_least))).1 (omega (arith, h, room_within g))

pub update_is : (g : Geometry) (st : State) (e : ℕ) (sale : Sale) {logical place number long : ℕ} {page : List ℕ} → logical ≡ e / g.pages → place ≡ e % g.pages → page ≡ sale_bytes long number sale → long ≡ g.main → number ≡ suc e
    → write_update st logical place page ≡ sale_update g st e sale
update_is g st e sale a b c l k = ap (write_update st _ _) (c ∙ λ i. sale_bytes (l i) (k i) sale) ∙ (λ i. write_update st (a i) (b i) (sale_bytes g.main (suc e) sale))

-- how its write ends
pub sale-ended : (n e : ℕ) (t : Tabled) {r : Result} → r ≡ end_of_run n t → (r.answer ≡ 0 → ⊥) → appended r 0 ≡ sale_end n e t
sale-ended n e t a x = rw (ne_eqb t.answer 0 (λ z. x (ap (λ (y : Result). y.answer) a ∙ z))) (ap (λ (y : Result). appended y 0) a)

pub sale_done : (n e k : ℕ) (t : Tabled) {r : Result} → r ≡ end_of_run n t → r.answer ≡ 0 → k ≡ suc e → appended r k ≡ sale_end n e t
sale_done n e k t a z h = rw (eq-eqb t.answer 0 (sym (ap (λ (y : Result). y.answer) a) ∙ z)) (ap₂ appended a h)

-- pages are told by the array, which the reads leave
pub told_here : (g : Geometry) (map kinds : List ℕ) {a b : List ℕ} (e : ℕ) (bits : List ℕ) → b ≡ a → Told (pages_by g a map kinds) e bits → Told (pages_by g b map kinds) e bits
told_here g map kinds e bits z t = subst (λ (x : List ℕ). Told (pages_by g x map kinds) e bits) (sym z) t

pub summed_here : (s : Setting) (n : ℕ) (st : State) (e : ℕ) (m : Line) {a b : List ℕ} {r : TakingsResult} → b ≡ a
    → ((cs : List Cycle) (os : List ArrayOperation) → r ≡ takings_end n st (takings (pages_by s.geometry b st.map st.kinds) e) (amounts_on s st.map (pages_by s.geometry b st.map st.kinds) e e (progress m Passed cs os)))
    → (cs : List Cycle) (os : List ArrayOperation) → r ≡ takings_end n st (takings (pages_by s.geometry a st.map st.kinds) e) (amounts_on s st.map (pages_by s.geometry a st.map st.kinds) e e (progress m Passed cs os))
summed_here s n st e m {a} {b} {r} z f cs os =
    f cs os ∙ ap (λ (x : List ℕ). takings_end n st (takings (pages_by s.geometry x st.map st.kinds) e) (amounts_on s st.map (pages_by s.geometry x st.map st.kinds) e e (progress m Passed cs os))) z

-- no more records than there is room for
pub records-most : (pages : Pages) (most e : ℕ) → e ≡ records pages most → e ≤ most
records-most pages most e z = omega (arith, z, (records_end pages most).within)

-- the same reads, from a line told otherwise
pub counted-from : {s : Setting} {map : List ℕ} {pages : Pages} {l l' m : Line} {o : Outcome} {e : ℕ} {bits : List ℕ} → l ≡ l' → Counted s map pages l m o e bits → Counted s map pages l' m o e bits
counted-from {s} {map} {pages} {l} {l'} {m} {o} {e} {bits} z c = subst (λ (x : Line). Counted s map pages x m o e bits) z c

-- the amounts were read from line l on
module _ (s : Setting) (map : List ℕ) (pages : Pages) (n : ℕ) (st : State) (l m : Line) (o : Outcome) (e sum : ℕ) (c : Totalled s map pages l m o e sum) where
  pub sum_stopped : {r : Result} → is_passed o ≡ false → r ≡ end_at n (stop_answer o) (blank 2) m
      → (cs : List Cycle) (os : List ArrayOperation) → takings_result r 0 ≡ takings_end n st (takings pages e) (amounts_on s map pages e e (progress l Passed cs os))
  sum_stopped f a cs os =
      let q = amounts_on s map pages e e (progress l Passed cs os) in
      let y : is_passed q.outcome ≡ false = sym (ap is_passed (c.ran.outcome_is cs os)) ∙ f in
      rw y (ap (λ (x : Result). takings_result x 0) (a ∙ λ i. end_at n (stop_answer (c.ran.outcome_is cs os i)) (blank 2) (c.ran.line_is cs os i)))

  pub sum_told : {r : Result} → is_passed o ≡ true → r ≡ end_at n 0 st m
      → (cs : List Cycle) (os : List ArrayOperation) → takings_result r sum ≡ takings_end n st (takings pages e) (amounts_on s map pages e e (progress l Passed cs os))
  sum_told t a cs os =
      let q = amounts_on s map pages e e (progress l Passed cs os) in
      let y : is_passed q.outcome ≡ true = sym (ap is_passed (c.ran.outcome_is cs os)) ∙ t in
      rw y (ap₂ takings_result (a ∙ ap (end_at n 0 st) (c.ran.line_is cs os)) (c.sum_is t))

module _ (s : Setting) (d : Device) (n : ℕ) (st : State) (k : ℕ) (told : k ≡ journal_refusal_of s d st) where
  abbrev g : Geometry
  g = s.geometry

  pub append_refused : (sale : Sale) {r : Result} → (k ≡ 0 → ⊥) → r ≡ result_with k st d 0 → appended r 0 ≡ appending s d n st sale
  unfolding result_of append_request
  append_refused sale x f =
      rw (ne_eqb (journal_refusal_of s d st) 0 (λ z. x (told ∙ z)))
      (ap (λ (y : Result). appended y 0) (f ∙ ap (λ (y : ℕ). result_with y st d 0) told))

  pub takings_refused : {r : Result} → (k ≡ 0 → ⊥) → r ≡ result_with k st d 0 → takings_result r 0 ≡ telling_takings s d n st
  unfolding result_of takings_request
  takings_refused x f =
      rw (ne_eqb (journal_refusal_of s d st) 0 (λ z. x (told ∙ z)))
      (ap (λ (y : Result). takings_result y 0) (f ∙ ap (λ (y : ℕ). result_with y st d 0) told))

  -- the journal was read to its end
  module _ (none : k ≡ 0) (m : Line) (o : Outcome) (e : ℕ) (bits : List ℕ) (c : Counted s st.map (journal_pages s d st) (call_line d n) m o e bits) where
    zero : eqb (journal_refusal_of s d st) 0 ≡ true
    zero = eq-eqb (journal_refusal_of s d st) 0 (sym told ∙ none)

    line_is : m ≡ (pass_run s d n st).line
    line_is = c.ran.line_is [] []

    outcome_is : o ≡ (pass_run s d n st).outcome
    outcome_is = c.ran.outcome_is [] []

    pub left_most : m.left ≤ n
    left_most = c.ran.left_most

    pub append_stops : (sale : Sale) {r : Result} → is_passed o ≡ false → r ≡ end_at n (stop_answer o) (blank 2) m → appended r 0 ≡ appending s d n st sale
    unfolding result_of append_request append_run
    append_stops sale f a =
        let y : is_passed (pass_run s d n st).outcome ≡ false = sym (ap is_passed outcome_is) ∙ f in
        rw (zero, y)
        (ap (λ (x : Result). appended x 0)
        (a ∙ λ i. end_at n (stop_answer (outcome_is i)) (blank 2) (line_is i)))

    module _ (t : is_passed o ≡ true) where
      passed : is_passed (pass_run s d n st).outcome ≡ true
      passed = sym (ap is_passed outcome_is) ∙ t

      records_is : e ≡ records_in s d st
      records_is = c.records_are t

      module _ (sale : Sale) (j : ℕ) (late : j ≡ append_refusal (journal_pages s d st) (room g) e sale.replaces) where
        late_is : j ≡ sale_refusal s d st sale
        late_is = late ∙ ap (λ (x : ℕ). append_refusal (journal_pages s d st) (room g) x sale.replaces) records_is

        pub append_late : {r : Result} → (j ≡ 0 → ⊥) → r ≡ end_at n j st m → appended r 0 ≡ appending s d n st sale
        unfolding result_of append_request append_run
        append_late x a =
            rw (zero, passed, ne_eqb (sale_refusal s d st sale) 0 (λ z. x (late_is ∙ z)))
            (ap (λ (x : Result). appended x 0) (a ∙ λ i. end_at n (late_is i) st (line_is i)))

        pub append_ends : (j ≡ 0) → {r : Appended} → ((cs : List Cycle) (os : List ArrayOperation) → r ≡ sale_end n e (change_from s st (sale_update g st e sale) (progress m Passed cs os))) → r ≡ appending s d n st sale
        unfolding result_of append_request append_run
        append_ends z a =
            rw (zero, passed, eq-eqb (sale_refusal s d st sale) 0 (sym late_is ∙ z))
            (a (pass_run s d n st).cycles []
            ∙ ap₂ (λ (x : ℕ) (l : Line). sale_end n x (change_from s st (sale_update g st x sale) (progress l Passed (pass_run s d n st).cycles []))) records_is line_is)

      pub takings_ends : {r : TakingsResult} → ((cs : List Cycle) (os : List ArrayOperation) → r ≡ takings_end n st (takings (journal_pages s d st) e) (amounts_on s st.map (journal_pages s d st) e e (progress m Passed cs os))) → r ≡ telling_takings s d n st
      unfolding result_of takings_request takings_run
      takings_ends a =
          let same : progress m Passed (pass_run s d n st).cycles (pass_run s d n st).started ≡ pass_run s d n st =
          λ i. progress (line_is i) ((sym (is_passed_lem o t) ∙ outcome_is) i) (pass_run s d n st).cycles (pass_run s d n st).started in
          rw zero
          (a (pass_run s d n st).cycles (pass_run s d n st).started
          ∙ ap₂ (λ (x : ℕ) (p : Progress). takings_end n st (takings (journal_pages s d st) x) (amounts_on s st.map (journal_pages s d st) x x p)) records_is same)

    pub takings_stops : {r : Result} → is_passed o ≡ false → r ≡ end_at n (stop_answer o) (blank 2) m → takings_result r 0 ≡ telling_takings s d n st
    unfolding result_of takings_request takings_run
    takings_stops f a =
        let y : is_passed (pass_run s d n st).outcome ≡ false = sym (ap is_passed outcome_is) ∙ f in
        let still = amounts-still s st.map (journal_pages s d st) (records_in s d st) (records_in s d st) (pass_run s d n st) y in
        rw (zero, still, y)
        (ap (λ (x : Result). takings_result x 0)
        (a ∙ λ i. end_at n (stop_answer (outcome_is i)) (blank 2) (line_is i)))
