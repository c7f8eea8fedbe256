-- Whether the last page of the new copy has passed, by where a request stands: not in the data phase, and so in the table phase. Assumes
-- nothing.
use Prim.Native.Nat.{ℕ, zero, suc, ◌+◌, ◌-◌, ◌%◌, ◌<◌}
use mathlib.Core.Bool.{Bool, true, false, cond}
use mathlib.Core.List.{List, [], ◌∷◌, ◌++◌, append_assoc}
use mathlib.Core.Logic.{◌⊎◌, inl, inr, ⊎_elim}
use mathlib.Core.Path.{◌≡◌, refl, sym, ap, subst, ◌∙◌}
use native.Mathlib.Omega.{arith}
use borrow.Table.Steps.{cases}
use borrow.Author.Tests.{eq-eqb, ne_eqb, eqb-true, eqb-false, lt-ltb, ltb-true, ltb-false}
use lib.Dec.{eqb, ltb}
use Rattle.std.specs.Prelude.{Option}
use Rattle.geometry.specs.declared.Geometry.{Geometry}
use Rattle.geometry.specs.Limits.{Valid}
use Rattle.geometry.specs.Sizes.{row_of}
use Rattle.geometry.proofs.SizeLaws.{page_of_row}
use Rattle.bools.proofs.BoolLaws.{clash, unless, one_true, and_none}
use Rattle.cells.specs.Bytes.{Bytes}
use Rattle.chip_interface.specs.Interface.{status_code, program_confirm, erase_confirm}
use Rattle.chip_array.specs.Device.{Device, Setting}
use Rattle.chip.specs.Chip.{Cycle}
use Rattle.chip.specs.Chip.Cycle.{command}
use Rattle.bus.specs.Line.{Line, send_all, goes_on}
use Rattle.bus.proofs.LineLaws.{send_all_append, send_all_stopped}
use Rattle.bus_polling.specs.Outcomes.{is_passed, is_failed, guarded}
use Rattle.bus_polling.specs.Polling.{outcome_of, answer_of, status_reads}
use Rattle.bus_polling.specs.declared.Outcome.{Outcome}
use Rattle.bus_sequences.specs.Cycles.{program_data, program_cycles, erase_address, confirmed_cycles}
use Rattle.operations.specs.Ends.{Called}
use Rattle.operations.specs.Trace.{ArrayOperation, started_by, read_starts, program_starts, erase_starts}
use Rattle.pages.specs.Layout.{kind_of, is_data_kind, data_kind}
use Rattle.pages.proofs.LayoutLaws.{data_is}
use Rattle.copies.specs.Blocks.{main_in, formed}
use Rattle.state.specs.State.{next_number, spent, taken}
use Rattle.state.specs.declared.State.{State}
use Rattle.state_choose.proofs.ChooseLaws.{by_choice}
use Rattle.progress.specs.Progress.{Progress, progress, read_on, reset_on}
use Rattle.progress.specs.Steps.{erase_on, program_on}
use Rattle.progress.specs.Kept.{Kept}
use Rattle.fill.specs.Fill.{Copy, copy, Source, given, kept, copy_page, main_of, main_read, page_filled}
use Rattle.fill.proofs.KeepLaws.{page_keeps}
use Rattle.fill_cursor.specs.Cursor.{running, on_page, filling, on_block, choice_of, prepared, page_after, filled_whole, unfilled, after_action, programs, is_open_now}
use Rattle.fill_cursor.specs.declared.Cursor.{Cursor}
use Rattle.fill_cursor.specs.declared.Running.{Running}
use Rattle.fill_driver.specs.Driver.{copy_of, source_of, performed, acted, ran, form_now}
use Rattle.damage.specs.Run.{Provides, from_caller, from_copy}
use Rattle.damage.specs.Touched.{Each}
use Rattle.damage.proofs.TraceLaws.{or_assoc}
use Rattle.damage.proofs.EachLaws.{each_map}
use Rattle.damage.proofs.TouchLaws.{reads_only}
use Rattle.fill_paused.specs.Paused.{Paused}
use Rattle.write_changes.specs.Changes.{Update, update_source}
use Rattle.recovery_stored.proofs.RenewedLaws.{data_label}
use Rattle.recovery.specs.Book.{Book, Change, entered}
use Rattle.recovery.specs.Copy.{is_last_passed, last_passed}
use Rattle.recovery_write.specs.Changed.{Agrees, MarkedBy, Proper, update_of}
use Rattle.recovery_write.proofs.ContentLaws as content
use Rattle.recovery_write.proofs.CopyLaws.{page_kind}
use Rattle.recovery_write.proofs.ActLaws as act
use Rattle.recovery_write.proofs.ActLaws.At.{before_data, erase_data, in_data, before_table, erase_table, in_table_fact, has_ended}
use Rattle.recovery_write.proofs.PauseLaws as pause

pub last_append : (g : Geometry) (xs ys : List ArrayOperation) → last_passed g (xs ++ ys) ≡ cond (last_passed g xs) true (last_passed g ys)
unfolding last_passed
last_append g [] ys = refl
last_append g (x ∷ xs) ys = rw (last_append g xs ys) (sym (or_assoc (is_last_passed g x) (last_passed g xs) (last_passed g ys)))

last_none : (g : Geometry) (os : List ArrayOperation) → Each (λ o. o.kind ≡ 2 → ⊥) os → last_passed g os ≡ false
unfolding last_passed is_last_passed Each
last_none g [] a = refl
last_none g (o ∷ os) a = rw (ne_eqb o.kind 2 a.0, last_none g os a.1)

-- a trace that goes on
last_more : (g : Geometry) (xs ys : List ArrayOperation) → last_passed g xs ≡ true → last_passed g (xs ++ ys) ≡ true
last_more g xs ys t = last_append g xs ys ∙ rw t

last_still : (g : Geometry) (xs ys : List ArrayOperation) → last_passed g xs ≡ false → last_passed g ys ≡ false → last_passed g (xs ++ ys) ≡ false
last_still g xs ys t u = last_append g xs ys ∙ rw (t, u)

-- what a read and an erase start
reads_last : (s : Setting) (l : Line) (row column : ℕ) → last_passed s.geometry (read_starts s l row column) ≡ false
reads_last s l row column =
    last_none s.geometry (read_starts s l row column) (each_map (λ o. o.kind ≡ 1) (λ o. o.kind ≡ 2 → ⊥) (λ o e f. omega (arith, e, f)) _ (reads_only s l row column))

erases_last : (s : Setting) (l : Line) (row : ℕ) → last_passed s.geometry (erase_starts s l row) ≡ false
unfolding started_by last_passed is_last_passed
erases_last s l row = cases (goes_on (send_all s l (erase_address row ++ (command erase_confirm ∷ [])))) (λ t. rw t) (λ t. rw t)

-- the confirm cycle of a program that passed was sent
passed_goes : (m : Line) → is_passed (answer_of m) ≡ true → goes_on m ≡ true
unfolding outcome_of goes_on is_passed guarded
passed_goes m y =
    cases (eqb m.cut 0)
    (λ t.
    cases (eqb m.chip.interface.illegal 0)
    (λ u. rw (t, u))
    (λ u. let no : is_passed (answer_of m) ≡ false = cases (eqb m.chip.interface.protected 0) (λ h. rw (t, u, h)) (λ h. rw (t, u, h)) in clash y no))
    (λ t. let no : is_passed (answer_of m) ≡ false = cases (eqb m.chip.interface.protected 0) (λ h. rw (t, h)) (λ h. rw (t, h)) in clash y no)

went_on : (s : Setting) (l : Line) (xs ys : List Cycle) → goes_on (send_all s l (xs ++ ys)) ≡ true → goes_on (send_all s l xs) ≡ true
went_on s l xs ys y =
    cases (goes_on (send_all s l xs)) (λ t. t)
    (λ f. clash y (ap goes_on (send_all_append s l xs ys ∙ send_all_stopped s (send_all s l xs) ys f) ∙ f))

confirm_sent : (s : Setting) (l : Line) (first : List Cycle) (code : ℕ) → is_passed (answer_of (send_all s l (confirmed_cycles s l first code))) ≡ true → goes_on (send_all s l (first ++ (command code ∷ []))) ≡ true
confirm_sent s l first code y =
    let reads = status_reads s (send_all s l (first ++ (command code ∷ command status_code ∷ []))).chip in
    let same : confirmed_cycles s l first code ≡ (first ++ (command code ∷ [])) ++ (command status_code ∷ reads) =
    append_assoc first (command code ∷ command status_code ∷ []) reads ∙ sym (append_assoc first (command code ∷ []) (command status_code ∷ reads)) in
    went_on s l (first ++ (command code ∷ [])) (command status_code ∷ reads) (passed_goes _ (subst (λ (cs : List Cycle). is_passed (answer_of (send_all s l cs)) ≡ true) same y))

-- what a program of page n starts
module _ (s : Setting) (v : Valid s.geometry) (l : Line) (b n : ℕ) (below : n < s.geometry.pages) (bytes : List ℕ) where
  abbrev row : ℕ
  row = row_of s.geometry b n

  abbrev told : Outcome
  told = answer_of (send_all s l (program_cycles s l row bytes))

  program_last : is_passed told ≡ true → suc n ≡ s.geometry.pages → is_data_kind (kind_of s.geometry.main bytes) ≡ true → last_passed s.geometry (program_starts s l row bytes) ≡ true
  unfolding started_by last_passed is_last_passed
  program_last y e k =
      rw (confirm_sent s l (program_data row bytes) program_confirm y, eq-eqb (row % s.geometry.pages + 1) s.geometry.pages (omega (arith, page_of_row s.geometry v b n below, e)), k, y)

  program_still : (is_passed told ≡ true → suc n ≡ s.geometry.pages → ⊥) → last_passed s.geometry (program_starts s l row bytes) ≡ false
  unfolding started_by last_passed is_last_passed
  program_still x =
      cases (goes_on (send_all s l (program_data row bytes ++ (command program_confirm ∷ []))))
      (λ t.
      cases (eqb (row % s.geometry.pages + 1) s.geometry.pages)
      (λ e.
      let last : suc n ≡ s.geometry.pages = omega (arith, page_of_row s.geometry v b n below, eqb-true (row % s.geometry.pages + 1) s.geometry.pages e) in
      let no : is_passed told ≡ false = cases (is_passed told) (λ y. absurd (x y last)) (λ f. f) in
      rw (t, e, no) (ap (λ (z : Bool). cond z true false) (and_none (is_data_kind (kind_of s.geometry.main bytes)))))
      (λ e. rw (t, e)))
      (λ t. rw t)

main_still : (s : Setting) (n : ℕ) (source : Source) (p : Progress) → last_passed s.geometry p.started ≡ false → last_passed s.geometry (main_read s n source p).started ≡ false
unfolding main_read read_on
main_still s n (given main) p f = f
main_still s n (kept old form) p f =
    cases (is_passed p.outcome)
    (λ t. rw t (last_still s.geometry p.started _ f (reads_last s p.line (row_of s.geometry old n) 0)))
    (λ t. rw t f)

erase_still : (s : Setting) (b : ℕ) (p : Progress) → last_passed s.geometry p.started ≡ false → last_passed s.geometry (erase_on s b p).started ≡ false
unfolding erase_on
erase_still s b p f =
    cases (is_passed p.outcome)
    (λ t. rw t (last_still s.geometry p.started _ f (erases_last s p.line (row_of s.geometry b 0))))
    (λ t. rw t f)

-- once passed, it stays so
last_kept : (s : Setting) → Kept s (λ p. last_passed s.geometry p.started ≡ true)
unfolding reset_on read_on erase_on program_on
last_kept s =
    record {
      reset = λ p t. cases (is_passed p.outcome) (λ y. rw y t) (λ y. rw y t);
      read = λ row column n p t. cases (is_passed p.outcome) (λ y. rw y (last_more s.geometry p.started _ t)) (λ y. rw y t);
      erase = λ block p t. cases (is_passed p.outcome) (λ y. rw y (last_more s.geometry p.started _ t)) (λ y. rw y t);
      program = λ block page bytes p t. cases (is_passed p.outcome) (λ y. rw y (last_more s.geometry p.started _ t)) (λ y. rw y t);
      resume = λ p f t. t;
    }

-- page n is filled
module _ (s : Setting) (v : Valid s.geometry) (b : ℕ) (c : Copy) (n : ℕ) (below : n < s.geometry.pages) (source : Source) (p : Progress) where
  abbrev bytes : List ℕ
  bytes = copy_page s.geometry c n (main_of s.geometry p.line.chip.array n source)

  abbrev fetched : Progress
  fetched = main_read s n source p

  abbrev next : Progress
  next = page_filled s b c n source p

  page_still : (is_passed next.outcome ≡ true → suc n ≡ s.geometry.pages → ⊥) → last_passed s.geometry p.started ≡ false → last_passed s.geometry next.started ≡ false
  unfolding page_filled program_on
  page_still x f =
      cases (is_passed fetched.outcome)
      (λ t. rw t (last_still s.geometry fetched.started _ (main_still s n source p f) (program_still s v fetched.line b n below bytes (λ y. x (rw t y)))))
      (λ t. rw t (main_still s n source p f))

  page_passed : is_passed next.outcome ≡ true → suc n ≡ s.geometry.pages → is_data_kind (kind_of s.geometry.main bytes) ≡ true → last_passed s.geometry next.started ≡ true
  unfolding page_filled program_on
  page_passed y e k =
      cases (is_passed fetched.outcome)
      (λ t.
      rw t
      (last_append s.geometry fetched.started _
      ∙ ap (cond (last_passed s.geometry fetched.started) true) (program_last s v fetched.line b n below bytes (rw t at y) e k) ∙ one_true (last_passed s.geometry fetched.started)))
      (λ t. let no : is_passed next.outcome ≡ false = rw t t in clash y no)

  page_more : last_passed s.geometry p.started ≡ true → last_passed s.geometry next.started ≡ true
  page_more = page_keeps s (λ x. last_passed s.geometry x.started ≡ true) (last_kept s) b c n source p

-- a request in a phase, after these operations
pub record LastAt (g : Geometry) (phase : ℕ) (os : List ArrayOperation) : Type 0 where
  pub unfilled : phase ≡ 0 → last_passed g os ≡ false
  pub filled : phase ≡ 1 → last_passed g os ≡ true

pub last_first : (g : Geometry) → LastAt g 0 []
unfolding last_passed
last_first g = record { unfilled = λ e. refl; filled = λ e. absurd (omega (arith, e)) }

follows : {g : Geometry} {a b : ℕ} {xs ys : List ArrayOperation} → (b ≡ a) ⊎ (b ≡ 2) → LastAt g a xs → (last_passed g xs ≡ false → last_passed g ys ≡ false) → (last_passed g xs ≡ true → last_passed g ys ≡ true) → LastAt g b ys
follows e w f t =
    ⊎_elim
    (λ z. record { unfilled = λ x. f (w.unfilled (sym z ∙ x)); filled = λ x. t (w.filled (sym z ∙ x)) })
    (λ z. record { unfilled = λ x. absurd (omega (arith, x, z)); filled = λ x. absurd (omega (arith, x, z)) })
    e

-- the phase after an action
prepared_phase : (g : Geometry) (c : Cursor) (st : State) → ((prepared g c st).cursor.phase ≡ c.phase) ⊎ ((prepared g c st).cursor.phase ≡ 2)
unfolding prepared on_block
prepared_phase g c st =
    cases (spent st)
    (λ t. inr (rw t))
    (λ t.
    by_choice (choice_of g st)
    (λ e. inr (rw t (ap (λ (x : Option ℕ). (on_block c st x).cursor.phase) e)))
    (λ b e. inl (rw t (ap (λ (x : Option ℕ). (on_block c st x).cursor.phase) e))))

module _ (pages : ℕ) (c : Cursor) (o : Outcome) where
  goes_phase : is_passed o ≡ true → ltb (page_after c) pages ≡ true → (after_action pages c o).phase ≡ c.phase
  unfolding after_action
  goes_phase t u = rw (t, u)

  fails_phase : is_passed o ≡ false → is_failed o ≡ true → (after_action pages c o).phase ≡ c.phase
  unfolding after_action unfilled
  fails_phase t u = rw (t, u)

  stops_phase : is_passed o ≡ false → is_failed o ≡ false → (after_action pages c o).phase ≡ 2
  unfolding after_action unfilled
  stops_phase t u = rw (t, u)

  whole_phase : is_passed o ≡ true → ltb (page_after c) pages ≡ false → (after_action pages c o).phase ≡ cond (eqb c.phase 0) (cond (eqb c.failed 0) 2 1) 2
  unfolding after_action filled_whole
  whole_phase t u =
      cases (eqb c.phase 0)
      (λ e. cases (eqb c.failed 0) (λ f. rw (t, u, e, f)) (λ f. rw (t, u, e, f)))
      (λ e. rw (t, u, e))

  whole_table : is_passed o ≡ true → ltb (page_after c) pages ≡ false → (after_action pages c o).phase ≡ 0 → ⊥
  whole_table t u z =
      cases (eqb c.phase 0)
      (λ e.
      cases (eqb c.failed 0)
      (λ f. let two : (after_action pages c o).phase ≡ 2 = whole_phase t u ∙ rw (e, f) in omega (arith, z, two))
      (λ f. let one : (after_action pages c o).phase ≡ 1 = whole_phase t u ∙ rw (e, f) in omega (arith, z, one)))
      (λ e. let two : (after_action pages c o).phase ≡ 2 = whole_phase t u ∙ rw e in omega (arith, z, two))

  -- in the table phase it stays, or ends
  table_phase : c.phase ≡ 1 → (after_action pages c o).phase ≡ 0 → ⊥
  table_phase one z =
      cases (is_passed o)
      (λ t. cases (ltb (page_after c) pages) (λ u. omega (arith, z, one, goes_phase t u)) (λ u. whole_table t u z))
      (λ t. cases (is_failed o) (λ u. omega (arith, z, one, fails_phase t u)) (λ u. omega (arith, z, stops_phase t u)))

-- one action
module _ (s : Setting) (v : Valid s.geometry) (bytes : List ℕ) (r : Running) (p : Progress) where
  abbrev c : Cursor
  c = r.cursor

  abbrev source : Source
  source = source_of s.geometry c (form_now r) r.state.invalid bytes c.page

  -- a page that is due in the data phase is on the chip, and a data page
  abbrev PageDue : Type 0
  PageDue =
      (c.page < s.geometry.pages) × (is_data_kind (kind_of s.geometry.main (copy_page s.geometry (copy_of c) c.page (main_of s.geometry p.line.chip.array c.page source))) ≡ true)

  abbrev erased : Progress
  erased = erase_on s c.block p

  abbrev filled : Progress
  filled = page_filled s c.block (copy_of c) c.page source p

  erase_last : eqb c.step 1 ≡ true → LastAt s.geometry c.phase p.started → LastAt s.geometry (after_action s.geometry.pages c erased.outcome).phase erased.started
  unfolding page_after
  erase_last e w =
      let more : ltb (page_after c) s.geometry.pages ≡ true = rw e (lt-ltb 0 s.geometry.pages (omega (arith, v.pages_least))) in
      let phase : ((after_action s.geometry.pages c erased.outcome).phase ≡ c.phase) ⊎ ((after_action s.geometry.pages c erased.outcome).phase ≡ 2) =
      cases (is_passed erased.outcome)
      (λ y. inl (goes_phase s.geometry.pages c erased.outcome y more))
      (λ y. cases (is_failed erased.outcome) (λ f. inl (fails_phase s.geometry.pages c erased.outcome y f)) (λ f. inr (stops_phase s.geometry.pages c erased.outcome y f))) in
      follows phase w (erase_still s c.block p) ((last_kept s).erase c.block p)

  module _ (e : eqb c.step 1 ≡ false) (w : LastAt s.geometry c.phase p.started) where
    abbrev next-phase : ℕ
    next-phase = (after_action s.geometry.pages c filled.outcome).phase

    after_is : page_after c ≡ c.page + 1
    unfolding page_after
    after_is = rw e

    more_last : last_passed s.geometry p.started ≡ true → last_passed s.geometry filled.started ≡ true
    more_last = page_keeps s (λ x. last_passed s.geometry x.started ≡ true) (last_kept s) c.block (copy_of c) c.page source p

    data_last : c.phase ≡ 0 → PageDue → LastAt s.geometry next-phase filled.started
    data_last z due =
        cases (is_passed filled.outcome)
        (λ y.
        cases (ltb (page_after c) s.geometry.pages)
        (λ h.
        follows (inl (goes_phase s.geometry.pages c filled.outcome y h)) w
        (page_still s v c.block (copy_of c) c.page due.0 source p (λ y' l. omega (arith, l, after_is, ltb-true (page_after c) s.geometry.pages h))) more_last)
        (λ h.
        record {
          unfilled = λ x. absurd (whole_table s.geometry.pages c filled.outcome y h x);
          filled = λ x. page_passed s v c.block (copy_of c) c.page due.0 source p y (omega (arith, due.0, after_is, ltb-false (page_after c) s.geometry.pages h)) due.1;
        }))
        (λ y.
        cases (is_failed filled.outcome)
        (λ f. follows (inl (fails_phase s.geometry.pages c filled.outcome y f)) w (page_still s v c.block (copy_of c) c.page due.0 source p (λ y' l. clash y' y)) more_last)
        (λ f. follows (inr (stops_phase s.geometry.pages c filled.outcome y f)) w (page_still s v c.block (copy_of c) c.page due.0 source p (λ y' l. clash y' y)) more_last))

    table_last : c.phase ≡ 1 → LastAt s.geometry next-phase filled.started
    table_last z =
        record {
          unfilled = λ x. absurd (table_phase s.geometry.pages c filled.outcome z x);
          filled = λ x. more_last (w.filled z);
        }

  pub act_last : c.phase < 2 → (c.phase ≡ 0 → (c.step ≡ 0 → ⊥) → (c.step ≡ 1 → ⊥) → PageDue) → LastAt s.geometry c.phase p.started
      → LastAt s.geometry (acted s bytes r p).running.cursor.phase (acted s bytes r p).progress.started
  unfolding acted performed
  act_last h due w =
      cases (eqb c.step 0)
      (λ t. rw t (follows (prepared_phase s.geometry c r.state) w (λ x. x) (λ x. x)))
      (λ t.
      cases (eqb c.step 1)
      (λ u. rw (t, u) (erase_last u w))
      (λ u.
      rw (t, u)
      (cases (eqb c.phase 0)
      (λ z. data_last u w (eqb-true c.phase 0 z) (due (eqb-true c.phase 0 z) (eqb-false c.step 0 t) (eqb-false c.step 1 u)))
      (λ z. table_last u w (omega (arith, h, eqb-false c.phase 0 z))))))

-- main bytes that come from the caller, or are kept from a block that a paused fill has not touched
provided_bytes : (g : Geometry) (A : List ℕ) (before : List ArrayOperation) (b : ℕ) (pages : ℕ → List ℕ) (n : ℕ) (d : Device) (started : List ArrayOperation) → Paused g A before b pages n d started
    → (c : Copy) (m : ℕ) (from : Source) (page : List ℕ) → Provides g A b c m from page → copy_page g c m (main_of g d.array m from) ≡ page
unfolding main_of
provided_bytes g A before b pages n d started w c m from page (from_caller main) = refl
provided_bytes g A before b pages n d started w c m from page (from_copy old form below other) = ap (λ (row : List ℕ). copy_page g c m (formed form m (main_in g row m))) (w.others old below other)

module _ (s : Setting) (mask_bytes : Bytes s.mask) (first : Line) (called : Called s first) (st₀ : State) (c : Change) (book : Book) (marked₀ failed₀ : ℕ → Bool)
    (marks₀ : MarkedBy s.geometry first.chip.array marked₀) (agrees : Agrees s.geometry first.chip.array st₀ book failed₀) (proper : Proper s.geometry c) where
  abbrev g : Geometry
  g = s.geometry

  abbrev u : Update
  u = update_of st₀ c

  abbrev At : Running → Progress → Type 0
  At = act.At s mask_bytes first called st₀ c book marked₀ failed₀ marks₀ agrees proper

  abbrev Due : Running → Progress → Type 0
  Due r p = PageDue s called.is_valid u.bytes r p

  -- a page that is due while a data fill stands open
  in_data_due : {r : Running} {p : Progress} → act.InData s mask_bytes first called st₀ c book marked₀ failed₀ marks₀ agrees proper r p → Due r p
  unfolding copy_of source_of
  in_data_due {r} {p} w =
      let n = next_number w.st in
      let x = content.change_content g first.chip.array st₀ book failed₀ agrees c proper in
      let fits = data_label u.logical n (omega (arith, x.logical_below, called.is_valid.logical_most, called.is_valid.blocks_most)) w.fits in
      let meant = pause.meant s mask_bytes first called st₀ c book marked₀ failed₀ marks₀ agrees proper w.line w.line_called w.line_high w.st w.failed w.fits w.A w.long_A w.before w.state_is w.rest w.clean w.block w.below w.may in
      let bytes_are = provided_bytes g w.A w.before w.block _ w.page w.line.chip w.started w.stands (copy data_kind u.logical n) w.page _ _ (meant.provides w.page w.page_below) in
      let kind : is_data_kind (kind_of g.main (copy_page g (copy data_kind u.logical n) w.page (main_of g w.line.chip.array w.page (update_source g w.st u w.page)))) ≡ true =
      ap (λ (z : List ℕ). is_data_kind (kind_of g.main z)) bytes_are
      ∙ ap is_data_kind (page_kind g called.is_valid (copy data_kind u.logical n) fits (entered g c book u.logical) x.long w.page w.page_below) ∙ data_is in
      subst (λ (z : Running). Due z p) (sym w.r_is) (subst (Due (running (on_page w.page (filling w.block n (act.data_cursor s mask_bytes first called st₀ c book marked₀ failed₀ marks₀ agrees proper w.failed))) (taken w.st))) (sym w.p_is) (w.page_below, kind))

  at_due : {r : Running} {p : Progress} → At r p → r.cursor.phase ≡ 0 → (r.cursor.step ≡ 0 → ⊥) → (r.cursor.step ≡ 1 → ⊥) → Due r p
  at_due (before_data w) z x x' = absurd (x (ap (λ (y : Running). y.cursor.step) w.r_is))
  at_due (erase_data w) z x x' = absurd (x' (ap (λ (y : Running). y.cursor.step) w.r_is))
  at_due (in_data w) z x x' = in_data_due w
  at_due (before_table st₁ p₁ d w) z x x' = absurd (omega (arith, z, ap (λ (y : Running). y.cursor.phase) w.r_is))
  at_due (erase_table st₁ p₁ d w) z x x' = absurd (omega (arith, z, ap (λ (y : Running). y.cursor.phase) w.r_is))
  at_due (in_table_fact st₁ p₁ d w) z x x' = absurd (omega (arith, z, ap (λ (y : Running). y.cursor.phase) w.r_is))
  at_due (has_ended w) z x x' = absurd (omega (arith, z, ap (λ (y : Running). y.cursor.phase) w.r_is))

  -- as many actions as the page programs allow
  pub run_last : (n left : ℕ) (r : Running) (p : Progress) → At r p → LastAt g r.cursor.phase p.started
      → LastAt g (ran s u.bytes n left r p).running.cursor.phase (ran s u.bytes n left r p).progress.started
  unfolding ran is_open_now
  run_last zero left r p a w = w
  run_last (suc n) left r p a w =
      cases (is_open_now r.cursor left)
      (λ t.
      rw t
      (run_last n (left - programs r.cursor) (acted s u.bytes r p).running (acted s u.bytes r p).progress
      (act.act_keeps s mask_bytes first called st₀ c book marked₀ failed₀ marks₀ agrees proper left a t)
      (act_last s called.is_valid u.bytes r p (ltb-true r.cursor.phase 2 (unless (eqb left 0) _ t).1) (at_due a) w)))
      (λ t. rw t w)
