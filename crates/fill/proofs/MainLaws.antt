-- The main bytes of a page: given, kept from the old copy, or FFh. Assumes nothing.
use Prim.Native.Nat.{ℕ, suc, ◌+◌, ◌-◌, ◌*◌, ◌≤◌, ◌<◌}
use mathlib.Core.Bool.{true, false, false≢true, true≢false}
use mathlib.Core.List.{List, ◌++◌}
use mathlib.Core.Path.{◌≡◌, refl, sym, ap, ap₂, subst, fun_ext, ◌∙◌}
use native.Mathlib.Nat.{sub-zero, suc-mul, zero-mul, mul-le-mul, mul-le-mul_right}
use native.Mathlib.Omega.{arith}
use borrow.Table.Steps.{cases}
use borrow.Author.Tests.{lt-ltb, le-ltb, lt-leb, le-leb, ltb-true, ltb-false, leb-true, leb-false, eqb-true, eqb-false}
use lib.Dec.{eqb, leb, ltb}
use lib.ListN.{length, take, drop, replicate, length-append, length-drop}
use lib.Seq.{take_at, take-take, take_all, length-take-le}
use Rattle.geometry.specs.declared.Geometry.{Geometry}
use Rattle.geometry.specs.Sizes.{page_size, row_of}
use Rattle.bools.proofs.BoolLaws.{both, clash}
use Rattle.geometry.proofs.SizeLaws.{row_below}
use Rattle.cells.specs.Part.{part}
use Rattle.cells.specs.Cells.{over}
use Rattle.chip_interface.specs.Interface.{busy_of, output_phase, read_code, plain_command, read_mode}
use Rattle.chip_array.specs.Device.{Device, Setting, illegal_cycle}
use Rattle.chip.specs.Chip.{exec, commanded, is_confirm}
use Rattle.chip.specs.Chip.Cycle.{command}
use Rattle.bus.specs.Line.{Line, send_all}
use Rattle.bus_polling.specs.Outcomes.{is_passed, answered}
use Rattle.bus_polling.specs.declared.Outcome.{Outcome}
use Rattle.bus_polling.specs.declared.Outcome.TheVariants.{Passed}
use Rattle.bus_polling.specs.Polling.{outcome_of}
use Rattle.bus_polling.proofs.OutcomeLaws.{passed_answered}
use Rattle.bus_sequences.specs.Cycles.{page_line, read_cycles, read_outcome, read_outputs}
use Rattle.operations.specs.Ends.{Lent, CanRead, End, unready_line, end_of_read, read_end, read_total, word_for}
use Rattle.operations.proofs.ReadLaws.{read_ends, read_next}
use Rattle.operations.proofs.UnreadyLaws.{called_lent, lent_called, all_stops, unready_unanswered}
use Rattle.whitening.specs.Whitened.{whitened}
use Rattle.whitening.proofs.WhitenedLaws.{whitened-twice}
use Rattle.pages.specs.Layout.{is_white_kind}
use Rattle.copies.specs.Blocks.{formed}
use Rattle.copies.specs.Table.{table_page}
use Rattle.progress.specs.Progress.{Progress, progress}
use Rattle.progress.proofs.ReadOnLaws.{read_leaves, read_line, read_outcome_fact, read_stopped}
use Rattle.copies.proofs.PlaceLaws.{row_is_page}
use Rattle.fill.specs.Fill.{Source, given, kept, Reaches, main_of, main_read, both_white, data_source, table_main, table_source, is_given, given_main}
use Rattle.cells.proofs.CellLaws.{over-all}

-- which of the three a page of a data copy is
module _ (g : Geometry) (old form first count : ℕ) (bytes : List ℕ) (n : ℕ) where
  pub source_given : is_given first count n ≡ true → data_source g old form first count bytes n ≡ given (given_main g first bytes n)
  unfolding data_source
  source_given e = rw e

  pub source_kept : is_given first count n ≡ false → old < g.blocks → data_source g old form first count bytes n ≡ kept old form
  unfolding data_source
  source_kept e h = rw (e, lt-ltb old g.blocks h)

  pub source_none : is_given first count n ≡ false → g.blocks ≤ old → data_source g old form first count bytes n ≡ given (replicate g.main 255)
  unfolding data_source
  source_none e h = rw (e, le-ltb old g.blocks h)

-- a page that is given, and one that is not
pub given-from : (first count n : ℕ) → is_given first count n ≡ true → (first ≤ n) × (n < first + count)
unfolding is_given
given-from first count n t = let p = both (leb first n) _ t in (leb-true first n p.0, ltb-true n (first + count) p.1)

pub given-after : (first count n : ℕ) → n < first → false ≡ is_given first count n
unfolding is_given
given-after first count n h = rw (lt-leb first n h)

pub given-within : (first count n : ℕ) → first ≤ n → ltb (n - first) count ≡ is_given first count n
unfolding is_given
given-within first count n h =
    rw (le-leb first n h)
    (cases (ltb n (first + count))
    (λ t. rw t (lt-ltb (n - first) count (omega (arith, ltb-true n (first + count) t))))
    (λ t. rw t (le-ltb (n - first) count (omega (arith, ltb-false n (first + count) t)))))

-- the bytes of a page that is given stand within those of all of them
pub given-room : (first count n main pages : ℕ) → main ≤ 4096 → pages ≤ 64 → n < pages → is_given first count n ≡ true
    → ((n - first) * main + main ≤ count * main) × ((n - first) * main ≤ 262144)
given-room first count n main pages m q h t =
    let w = given-from first count n t in
    let under : suc (n - first) ≤ count = omega (arith, w.0, w.1) in
    let room = mul-le-mul_right main under in
    let few : n - first ≤ 64 = omega (arith, h, q) in
    (omega (arith, room, suc-mul (n - first) main), omega (arith, mul-le-mul few m))

-- a table's pages are those of a data copy without an old one, page 0 given
pub table_source_lem : (g : Geometry) (old form : ℕ) → g.blocks ≤ old → (invalid bytes : List ℕ) → length bytes ≡ g.main → bytes ≡ table_page g.main g.blocks g.logical invalid → data_source g old form 0 1 bytes ≡ table_source g invalid
unfolding data_source is_given table_main
table_source_lem g old form h invalid bytes long e =
    fun_ext
    (λ n.
    cases (eqb n 0)
    (λ t.
    let here : part ((0 - 0) * g.main) g.main bytes ≡ bytes = ap (λ (k : ℕ). take g.main (drop k bytes)) (zero-mul g.main) ∙ take_all g.main bytes (omega (arith, long)) in
    rw (eqb-true n 0 t) (ap given (here ∙ e)))
    (λ t. rw (t, le-leb 0 n (omega arith), le-ltb n (0 + 1) (omega (arith, eqb-false n 0 t)), le-ltb old g.blocks h)))

-- the bytes that were put into the first part of a buffer
put_first : (n : ℕ) (page ys rest : List ℕ) → length ys ≡ n → take n (take 0 page ++ (ys ++ rest)) ≡ ys
put_first n page ys rest h = take_at ys rest n h

pub lent-long : (n : ℕ) (page : List ℕ) → n ≤ length page → length (take (n - 0) (drop 0 page)) ≡ n
lent-long n page h = ap (λ (k : ℕ). length (take k page)) (sub-zero n) ∙ length-take-le n page h

module _ (n : ℕ) (page : List ℕ) (fits : n ≤ length page) (ys rest : List ℕ) (same : length ys ≡ length (take (n - 0) (drop 0 page))) where
  pub put_read : take n (take 0 page ++ (ys ++ rest)) ≡ ys
  put_read = put_first n page ys rest (same ∙ lent-long n page fits)

  -- the buffer is lent again
  pub put_fits : n ≤ length (take 0 page ++ (ys ++ rest))
  put_fits = omega (arith, length-append ys rest, same ∙ lent-long n page fits)

  pub put_long : rest ≡ drop (n - 0) (drop 0 page) → length (take 0 page ++ (ys ++ rest)) ≡ length page
  put_long e =
      let back = ap length e ∙ length-drop (n - 0) page in
      omega (arith, length-append ys rest, same ∙ lent-long n page fits, back, fits)

  pub put-lent : take (n - 0) (drop 0 (take 0 page ++ (ys ++ rest))) ≡ ys
  put-lent = ap (λ (k : ℕ). take k (take 0 page ++ (ys ++ rest))) (sub-zero n) ∙ put_read

  pub put_given : (bytes : List ℕ) → length bytes ≡ n → ys ≡ over bytes (take (n - 0) (drop 0 page)) → take n (take 0 page ++ (ys ++ rest)) ≡ bytes
  put_given bytes h e = put_read ∙ e ∙ over-all bytes (take (n - 0) (drop 0 page)) (lent-long n page fits ∙ sym h)

  pub put_white : (place : ℕ) → ys ≡ whitened place (take (n - 0) (drop 0 page)) → take n (take 0 page ++ (ys ++ rest)) ≡ whitened place (take n page)
  put_white place e = put_read ∙ e ∙ ap (λ (k : ℕ). whitened place (take k page)) (sub-zero n)

  pub put_ones : ys ≡ replicate (length (take (n - 0) (drop 0 page))) 255 → take n (take 0 page ++ (ys ++ rest)) ≡ replicate n 255
  put_ones e = put_read ∙ e ∙ ap (λ (k : ℕ). replicate k 255) (lent-long n page fits)

-- whitened bytes that stay so
pub white_stays : (form kind n : ℕ) (xs : List ℕ) → both_white form kind ≡ true → xs ≡ formed kind n (formed form n xs)
unfolding formed
white_stays form kind n xs t =
    let p = both (is_white_kind form) (is_white_kind kind) t in
    rw (p.0, p.1) (sym (whitened-twice n xs))

-- the same source, told otherwise
pub reaches_as : {s : Setting} (n : ℕ) {x y : Source} {l m : Line} {o : Outcome} → y ≡ x → Reaches s (main_read s n x) l m o → Reaches s (main_read s n y) l m o
reaches_as {s} n {x} {y} {l} {m} {o} e r = subst (λ (z : Source). Reaches s (main_read s n z) l m o) (sym e) r

-- a page that is given
module _ (s : Setting) (n : ℕ) (source : Source) (main : List ℕ) (e : source ≡ given main) where
  pub given_comes : (l : Line) → Lent s l → Reaches s (main_read s n source) l l Passed
  unfolding main_read is_passed
  given_comes l lent =
      record {
        line_is = λ cs os. sym (ap (λ (x : Source). (main_read s n x (progress l Passed cs os)).line) e);
        outcome_is = λ cs os. sym (ap (λ (x : Source). (main_read s n x (progress l Passed cs os)).outcome) e);
        next_lent = λ t. lent;
        unanswered = λ f. absurd (true≢false f);
      }

  pub given_main_fact : (kind : ℕ) (array bytes : List ℕ) → bytes ≡ formed kind n main → bytes ≡ formed kind n (main_of s.geometry array n source)
  unfolding main_of
  given_main_fact kind array bytes h = h ∙ sym (ap (λ (x : Source). formed kind n (main_of s.geometry array n x)) e)

-- a read that was answered passed
read_answered : (s : Setting) (l : Line) (n : ℕ) → answered (read_end s l n).outcome ≡ true → is_passed (read_end s l n).outcome ≡ true
unfolding read_end answered is_passed
read_answered s l n h =
    cases (ltb l.left (read_total s l.chip n))
    (λ t. absurd (false≢true (sym (rw t) ∙ h)))
    (λ t.
    cases (ltb (busy_of (word_for s l.chip)) 256) (λ u. rw (t, u)) (λ u. absurd (false≢true (sym (rw (t, u)) ∙ h))))

-- 00h on a chip that is not ready: the read is not answered
read_refused : (s : Setting) (d : Device) → output_phase < d.interface.phase → exec s d (command read_code) ≡ illegal_cycle d
unfolding exec commanded is_confirm plain_command read_mode
read_refused s d h = rw (lt-leb d.interface.phase 2 h)

read_unready : (s : Setting) (l : Line) → Lent s l → output_phase < l.chip.interface.phase → (row column n : ℕ) → answered (read_outcome s l row column n) ≡ false
unfolding read_outcome
read_unready s l lent h row column n =
    let stops : page_line s l row column ≡ unready_line l = all_stops s l lent (command read_code) (read_refused s l.chip h) _ in
    let unanswered = ap (λ (x : Line). answered (outcome_of x)) stops ∙ unready_unanswered l in
    let unpassed : is_passed (outcome_of (page_line s l row column)) ≡ false = cases (is_passed (outcome_of (page_line s l row column))) (λ t. clash (passed_answered _ t) unanswered) (λ f. f) in
    rw unpassed unanswered

-- a page that is kept: its read leaves line m and outcome o
module _ (s : Setting) (l : Line) (lent : Lent s l) (old form n : ℕ) (old_below : old < s.geometry.blocks) (page_below : n < s.geometry.pages)
    (row : ℕ) (row_is : row ≡ row_of s.geometry old n) (buffer : List ℕ) (long : length buffer ≡ s.geometry.main) (m : Line) (o : Outcome)
    (e : m ≡ send_all s l (read_cycles s l row 0 (length buffer))) (q : o ≡ read_outcome s l row 0 (length buffer)) where
  line_at : m ≡ send_all s l (read_cycles s l (row_of s.geometry old n) 0 s.geometry.main)
  line_at = e ∙ ap₂ (λ (x y : ℕ). send_all s l (read_cycles s l x 0 y)) row_is long

  outcome_at : o ≡ read_outcome s l (row_of s.geometry old n) 0 s.geometry.main
  outcome_at = q ∙ ap₂ (λ (x y : ℕ). read_outcome s l x 0 y) row_is long

  -- one that was answered was sent to a chip that is ready
  can_read : answered o ≡ true → CanRead s l (row_of s.geometry old n) 0 s.geometry.main
  can_read t =
      let ready : l.chip.interface.phase ≤ output_phase = cases (leb l.chip.interface.phase output_phase) (leb-true l.chip.interface.phase output_phase) (λ f. clash t (ap answered outcome_at ∙ read_unready s l lent (leb-false l.chip.interface.phase output_phase f) _ 0 s.geometry.main)) in
      record {
        called = lent_called lent ready;
        row_below = row_below s.geometry lent.is_valid old n old_below page_below;
        column_below = omega (arith, lent.is_valid.main_least);
        within = omega arith;
      }

  passes : answered o ≡ true → is_passed o ≡ true
  unfolding end_of_read
  passes t =
      let ends : o ≡ (read_end s l s.geometry.main).outcome = outcome_at ∙ ap (λ (x : End). x.outcome) (read_ends s l _ 0 s.geometry.main (can_read t)) in
      ap is_passed ends ∙ read_answered s l s.geometry.main (sym (ap answered ends) ∙ t)

  pub kept_comes : Reaches s (main_read s n (kept old form)) l m o
  unfolding main_read is_passed end_of_read
  kept_comes =
      record {
        line_is = λ cs os. line_at ∙ sym (read_line s (row_of s.geometry old n) 0 s.geometry.main (progress l Passed cs os) l refl refl);
        outcome_is = λ cs os. outcome_at ∙ sym (read_outcome_fact s (row_of s.geometry old n) 0 s.geometry.main (progress l Passed cs os) l refl refl);
        next_lent = λ t.
            let can = can_read (passed_answered o t) in
            let ends : o ≡ (read_end s l s.geometry.main).outcome = outcome_at ∙ ap (λ (x : End). x.outcome) (read_ends s l _ 0 s.geometry.main can) in
            subst (Lent s) (sym line_at) (called_lent (read_next s l _ 0 s.geometry.main can (sym (ap is_passed ends) ∙ t)));
        unanswered = λ f. cases (answered o) (λ t. clash (passes t) f) (λ u. u);
      }

  -- what is read, brought from the form of the old copy into that of a kind
  pub kept_main : (bytes : List ℕ) → bytes ≡ over (read_outputs s l row 0 (length buffer)) buffer → is_passed o ≡ true
      → (kind : ℕ) → formed kind n (formed form n bytes) ≡ formed kind n (main_of s.geometry l.chip.array n (kept old form))
  unfolding main_of
  kept_main bytes f t kind =
      let stored =
      (read_leaves s l (row_of s.geometry old n) 0 s.geometry.main (can_read (passed_answered o t)) m o buffer bytes long line_at outcome_at (f ∙ ap₂ (λ (x y : ℕ). over (read_outputs s l x 0 y) buffer) row_is long)).bytes_are t
      ∙ sym (take-take s.geometry.main (page_size s.geometry) (drop (row_of s.geometry old n * page_size s.geometry + 0) l.chip.array) (omega arith))
      ∙ ap (take s.geometry.main) (row_is_page s.geometry lent.is_valid l.chip.array old n page_below) in
      ap (λ (xs : List ℕ). formed kind n (formed form n xs)) stored

-- once an operation has not passed nothing is read
pub main_stopped : (s : Setting) (n : ℕ) (source : Source) (p : Progress) → is_passed p.outcome ≡ false → main_read s n source p ≡ p
unfolding main_read
main_stopped s n (given main) p f = refl
main_stopped s n (kept old form) p f = read_stopped s (row_of s.geometry old n) 0 s.geometry.main p f
