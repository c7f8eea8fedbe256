-- The journal read page by page: where each page leaves the pass. Assumes nothing.
use Prim.Native.Nat.{ℕ, suc, ◌+◌, ◌-◌, ◌%◌, ◌≤◌, ◌<◌}
use mathlib.Core.Bool.{true, false}
use mathlib.Core.List.{List}
use mathlib.Core.Path.{◌≡◌, sym, ap, subst, ◌∙◌}
use native.Mathlib.Numerals.{add-one}
use native.Mathlib.Omega.{arith}
use borrow.Table.Steps.{cases}
use borrow.Author.Tests.{lt-ltb, le-ltb, ltb-true, ltb-false, eqb-true, eqb-false}
use lib.Dec.{eqb, ltb}
use lib.ListN.{length, take, replicate, length-replicate, length-take}
use lib.Seq.{take_all}
use Rattle.geometry.specs.declared.Geometry.{Geometry}
use Rattle.bitmaps.specs.Bitmap.{bit_at, with_bit}
use Rattle.bitmaps.proofs.BitLaws.{bit-set, bit_kept}
use Rattle.bitmaps.proofs.BitmapLaws.{blank-bit}
use Rattle.copies.specs.Blocks.{block_in, page_in}
use Rattle.copies.specs.Pick.{some_below}
use Rattle.copies.proofs.FormLaws.{length-formed}
use Rattle.chip_array.specs.Device.{Setting}
use Rattle.bus.specs.Line.{Line}
use Rattle.bus_polling.specs.Outcomes.{is_passed}
use Rattle.bus_polling.specs.declared.Outcome.{Outcome}
use Rattle.bus_polling.specs.declared.Outcome.TheVariants.{Passed}
use Rattle.operations.specs.Ends.{Lent}
use Rattle.bools.proofs.BoolLaws.{clash}
use Rattle.journal.specs.Records.{Pages, is_next, replaces_in, records, room}
use Rattle.journal.proofs.EndLaws.{records_end, records_are}
use Rattle.state.specs.State.{none}
use Rattle.progress.specs.Progress.{progress}
use Rattle.journal_read.specs.Reads.{block_of, kind_of, pages_by, part_on, pages_on, reads_for, pass_on}
use Rattle.journal_read.specs.Found.{Ran, PartRead, Told, Counted}
use Rattle.journal_read.proofs.RanLaws.{ran-none, ran_then, ran_as, pages_stopped}

-- a page has no more than its main bytes
pub whole_part : (g : Geometry) (array map kinds : List ℕ) (k : ℕ) → take g.main (pages_by g array map kinds k) ≡ pages_by g array map kinds k
unfolding pages_by
whole_part g array map kinds k =
    cases (eqb (block_of g map k) none)
    (λ t. rw t (take_all g.main (replicate g.main 255) (omega (arith, length-replicate {A = ℕ} g.main 255))))
    (λ t.
    let page = page_in g (block_in g array (block_of g map k)) (k % g.pages) in
    rw t (take_all g.main _ (omega (arith, length-formed (kind_of g kinds k) (k % g.pages) (take g.main page), length-take g.main page))))

-- bits of the records replaced, one record more
told_none : (pages : Pages) → Told pages 0 (replicate 8192 0)
unfolding some_below
told_none pages t h = blank-bit 8192 t

told_more : (pages : Pages) (n : ℕ) (bits : List ℕ) → Told pages n bits → length bits ≡ 8192 → replaces_in (pages n) < 65536 → Told pages (suc n) (with_bit bits (replaces_in (pages n)))
unfolding some_below
told_more pages n bits told long fits t h =
    cases (eqb (replaces_in (pages n)) t)
    (λ e. rw e (subst (λ (x : ℕ). bit_at (with_bit bits (replaces_in (pages n))) x ≡ true) (eqb-true (replaces_in (pages n)) t e) (bit-set bits (replaces_in (pages n)) (omega (arith, long, fits)))))
    (λ e. rw e (bit_kept bits (replaces_in (pages n)) t (λ z. eqb-false (replaces_in (pages n)) t e (sym z)) ∙ told t h))

-- after n pages that are all records
pub record Middle (s : Setting) (map : List ℕ) (pages : Pages) (l m : Line) (n : ℕ) (bits : List ℕ) : Type 0 where
  pub ran : Ran s (pages_on s map n) l m Passed
  pub before : (k : ℕ) → k < n → is_next k (pages k) ≡ true
  pub bits_are : Told pages n bits

pub pass_begins : (s : Setting) (map : List ℕ) (pages : Pages) (l : Line) (bits : List ℕ) → Lent s l → bits ≡ replicate 8192 0 → Middle s map pages l l 0 bits
unfolding pages_on
pass_begins s map pages l bits lent e =
    record { ran = ran-none lent; before = λ k h. absurd (omega (arith, h)); bits_are = subst (Told pages 0) (sym e) (told_none pages) }

module _ (s : Setting) (map kinds : List ℕ) (l m : Line) (n : ℕ) (bits : List ℕ) (r : Middle s map (pages_by s.geometry l.chip.array map kinds) l m n bits) where
  abbrev g : Geometry
  g = s.geometry

  abbrev pages : Pages
  pages = pages_by g l.chip.array map kinds

  -- there is no room for more
  pub pass_full : room g ≤ n → n ≤ room g → Counted s map pages l m Passed n bits
  pass_full h k =
      let e : records pages (room g) ≡ n = records_are pages (room g) n (record { within = k; before = r.before; after = λ x. absurd (omega (arith, x, h)) }) in
      let same : reads_for (records pages (room g)) (room g) ≡ n = ap (λ (x : ℕ). reads_for x (room g)) e ∙ rw (le-ltb n (room g) h) (omega (arith, h, k)) in
      record {
        ran = ran_as s (pages_on s map n) (pass_on s map pages) l m Passed (λ cs os. ap (λ (x : ℕ). pages_on s map x (progress l Passed cs os)) (sym same)) r.ran;
        records_are = λ _. sym e;
        bits_are = λ _. r.bits_are;
      }

  -- page n was read
  module _ (below : n < room g) (size : ℕ) (long : size ≡ g.main) (m' : Line) (o : Outcome) (page : List ℕ) (given : PartRead s map kinds n size m m' o page) where
    read : PartRead s map kinds n g.main m m' o page
    read = subst (λ (x : ℕ). PartRead s map kinds n x m m' o page) long given

    further : Ran s (pages_on s map (suc n)) l m' o
    unfolding pages_on
    further = ran_then s (pages_on s map n) (part_on s map n g.main) l m m' o r.ran read.ran

    pub page_is : is_passed o ≡ true → page ≡ pages n
    page_is t =
        read.bytes_are t
        ∙ ap (λ (a : List ℕ). take g.main (pages_by g a map kinds n)) r.ran.same_array
        ∙ whole_part g l.chip.array map kinds n

    -- the journal has at least n records
    least : n ≤ records pages (room g)
    least =
        let x = records_end pages (room g) in
        cases (ltb (records pages (room g)) n)
        (λ t.
        let h = ltb-true (records pages (room g)) n t in
        clash (r.before (records pages (room g)) h) (x.after (omega (arith, h, below))))
        (λ t. ltb-false (records pages (room g)) n t)

    reads_least : suc n ≤ reads_for (records pages (room g)) (room g)
    reads_least = cases (ltb (records pages (room g)) (room g)) (λ t. rw t (omega (arith, least))) (λ t. rw t (omega (arith, below)))

    -- it was silent or cut
    pub pass_stops : is_passed o ≡ false → (e : ℕ) (any : List ℕ) → Counted s map pages l m' o e any
    pass_stops f e any =
        let k = reads_for (records pages (room g)) (room g) - suc n in
        let sum : k + suc n ≡ reads_for (records pages (room g)) (room g) = omega (arith, reads_least) in
        record {
          ran =
              ran_as s (pages_on s map (suc n)) (pass_on s map pages) l m' o
              (λ cs os.
              sym (pages_stopped s map (suc n) (progress l Passed cs os) (sym (ap is_passed (further.outcome_is cs os)) ∙ f) k)
              ∙ ap (λ (x : ℕ). pages_on s map x (progress l Passed cs os)) sum)
              further;
          records_are = λ t. clash t f;
          bits_are = λ t. clash t f;
        }

    -- it is not the next record
    pub pass_ends : o ≡ Passed → is_next n page ≡ false → Counted s map pages l m' Passed n bits
    unfolding is_passed
    pass_ends w f =
        let t : is_passed o ≡ true = ap is_passed w in
        let e : records pages (room g) ≡ n =
        records_are pages (room g) n (record { within = omega (arith, below); before = r.before; after = λ _. ap (is_next n) (sym (page_is t)) ∙ f }) in
        let same : reads_for (records pages (room g)) (room g) ≡ suc n = ap (λ (x : ℕ). reads_for x (room g)) e ∙ rw (lt-ltb n (room g) below) in
        record {
          ran = ran_as s (pages_on s map (suc n)) (pass_on s map pages) l m' Passed (λ cs os. ap (λ (x : ℕ). pages_on s map x (progress l Passed cs os)) (sym same)) (subst (Ran s (pages_on s map (suc n)) l m') w further);
          records_are = λ _. sym e;
          bits_are = λ _. r.bits_are;
        }

    -- it is
    pub pass_goes : o ≡ Passed → is_next n page ≡ true → (target : ℕ) → target ≡ replaces_in page → target < 65536 → length bits ≡ 8192 → (next : List ℕ) → next ≡ with_bit bits target → Middle s map pages l m' (n + 1) next
    unfolding is_passed
    pass_goes w u target e fits bits_long next f =
        let p : page ≡ pages n = page_is (ap is_passed w) in
        let is-target : target ≡ replaces_in (pages n) = e ∙ ap replaces_in p in
        let bits_so : next ≡ with_bit bits (replaces_in (pages n)) = f ∙ ap (with_bit bits) is-target in
        subst (λ (x : ℕ). Middle s map pages l m' x next) (sym (add-one n))
        (record {
          ran = subst (Ran s (pages_on s map (suc n)) l m') w further;
          before = λ k h. cases (eqb k n) (λ t. subst (λ (i : ℕ). is_next i (pages i) ≡ true) (sym (eqb-true k n t)) (ap (is_next n) (sym p) ∙ u)) (λ t. r.before k (omega (arith, h, eqb-false k n t)));
          bits_are = subst (Told pages (suc n)) (sym bits_so) (told_more pages n bits r.bits_are bits_long (omega (arith, fits, is-target)));
        })
