-- Amounts read record by record: where each leaves the sum. Assumes nothing.
use Prim.Native.Nat.{ℕ, suc, ◌+◌, ◌-◌, ◌*◌, ◌≤◌, ◌<◌}
use mathlib.Core.Bool.{true, false}
use mathlib.Core.List.{List}
use mathlib.Core.Path.{◌≡◌, refl, sym, ap, ap₂, subst, ◌∙◌}
use native.Mathlib.Nat.{suc-mul}
use native.Mathlib.Numerals.{add-one}
use native.Mathlib.Omega.{arith}
use lib.ListN.{take, drop}
use lib.Seq.{drop-drop}
use Rattle.cells.specs.Part.{part}
use Rattle.cells.proofs.PartLaws.{part-take}
use Rattle.bitmaps.specs.Bitmap.{bit_at}
use Rattle.chip_array.specs.Device.{Setting}
use Rattle.bus.specs.Line.{Line}
use Rattle.bus_polling.specs.Outcomes.{is_passed}
use Rattle.bus_polling.specs.declared.Outcome.{Outcome}
use Rattle.bus_polling.specs.declared.Outcome.TheVariants.{Passed}
use Rattle.operations.specs.Ends.{Lent}
use Rattle.bools.proofs.BoolLaws.{clash}
use Rattle.pages.specs.Layout.{number_of}
use Rattle.journal.specs.Records.{Pages, count_in, price_in, amount_in}
use Rattle.journal.specs.Takings.{sum_to, targets, amounts, replaced_by, counts, takings}
use Rattle.progress.specs.Progress.{progress}
use Rattle.journal_read.specs.Reads.{pages_by, part_on, amount_on, amounts_on}
use Rattle.journal_read.specs.Found.{Ran, PartRead, Told, Added, Totalled}
use Rattle.journal_read.proofs.RanLaws.{ran-none, ran_then, ran_as, amounts-stopped}

-- a part of a part
part-part : (a n b m : ℕ) (xs : List ℕ) → a + n ≤ m → part a n (part b m xs) ≡ part (b + a) n xs
part-part a n b m xs h = part-take a n m (drop b xs) h ∙ ap (take n) (drop-drop a b xs)

-- six bytes of the first nine hold count and price
amount_is : (page bytes : List ℕ) → bytes ≡ part 3 6 (take 9 page) → number_of (part 0 2 bytes) * number_of (part 2 4 bytes) ≡ amount_in page
unfolding amount_in count_in price_in
amount_is page bytes e =
    let here : bytes ≡ part 3 6 page = e ∙ part-take 3 6 9 page (omega arith) in
    ap₂ (λ (x y : List ℕ). number_of x * number_of y)
    (ap (part 0 2) here ∙ part-part 0 2 3 6 page (omega arith))
    (ap (part 2 4) here ∙ part-part 2 4 3 6 page (omega arith))

-- one record of e
module _ (s : Setting) (map kinds : List ℕ) (e k : ℕ) (l : Line) (sum : ℕ) (bits : List ℕ) (fits : suc k < 65536) (told : Told (pages_by s.geometry l.chip.array map kinds) e bits) where
  abbrev pages : Pages
  pages = pages_by s.geometry l.chip.array map kinds

  -- it is replaced
  pub added_none : Lent s l → bit_at bits (suc k) ≡ true → Added s map pages e k l l Passed sum sum
  unfolding amount_on
  added_none lent t =
      let y = sym (told (suc k) fits) ∙ t in
      record {
        ran = ran_as s (λ p. p) (amount_on s map pages e k) l l Passed (λ cs os. rw y) (ran-none lent);
        sum_is = λ _. rw y (omega arith);
      }

  -- it is not, and its count and price were read
  module _ (f : bit_at bits (suc k) ≡ false) (m : Line) (o : Outcome) (bytes : List ℕ) (read : PartRead s map kinds k 9 l m o bytes) where
    unreplaced : replaced_by (targets pages) e (suc k) ≡ false
    unreplaced = sym (told (suc k) fits) ∙ f

    pub added_ran : Ran s (amount_on s map pages e k) l m o
    unfolding amount_on
    added_ran = ran_as s (part_on s map k 9) (amount_on s map pages e k) l m o (λ cs os. rw unreplaced) read.ran

    pub added_stopped : is_passed o ≡ false → (any : ℕ) → Added s map pages e k l m o sum any
    added_stopped x any = record { ran = added_ran; sum_is = λ t. clash t x }

    pub added_one : o ≡ Passed → (amount next : ℕ) → amount ≡ number_of (part 0 2 (part 3 6 bytes)) * number_of (part 2 4 (part 3 6 bytes)) → next ≡ sum + amount → Added s map pages e k l m Passed sum next
    unfolding is_passed
    added_one w amount next a z =
        let is = a ∙ amount_is (pages k) (part 3 6 bytes) (ap (part 3 6) (read.bytes_are (ap is_passed w))) in
        record {
          ran = subst (Ran s (amount_on s map pages e k) l m) w added_ran;
          sum_is = λ _. rw unreplaced (z ∙ ap (λ (x : ℕ). sum + x) is);
        }

-- pages are told by the array, which stays
pub added_here : (s : Setting) (map kinds : List ℕ) (e k : ℕ) (a b : List ℕ) (l m : Line) (o : Outcome) (sum next : ℕ) (bits : List ℕ) → a ≡ b → Told (pages_by s.geometry b map kinds) e bits
    → ((e : ℕ) → Told (pages_by s.geometry a map kinds) e bits → Added s map (pages_by s.geometry a map kinds) e k l m o sum next) → Added s map (pages_by s.geometry b map kinds) e k l m o sum next
added_here s map kinds e k a b l m o sum next bits z told f =
    subst (λ (x : List ℕ). Told (pages_by s.geometry x map kinds) e bits → Added s map (pages_by s.geometry x map kinds) e k l m o sum next) z (f e) told

-- after k records of e
pub record Adding (s : Setting) (map : List ℕ) (pages : Pages) (e : ℕ) (l m : Line) (k sum : ℕ) : Type 0 where
  pub ran : Ran s (amounts_on s map pages e k) l m Passed
  pub sum_is : sum ≡ sum_to (counts (amounts pages) (targets pages) e) k
  pub most : sum ≤ k * 281470681677825

module _ (s : Setting) (map : List ℕ) (pages : Pages) (e : ℕ) (l : Line) where
  pub sum_begins : Lent s l → Adding s map pages e l l 0 0
  unfolding amounts_on sum_to
  sum_begins lent = record { ran = ran-none lent; sum_is = refl; most = omega arith }

  pub sum_ends : (m : Line) (sum : ℕ) → Adding s map pages e l m e sum → Totalled s map pages l m Passed e sum
  unfolding takings
  sum_ends m sum r = record { ran = r.ran; sum_is = λ _. r.sum_is }

  module _ (m : Line) (k sum : ℕ) (r : Adding s map pages e l m k sum) (m' : Line) (o : Outcome) (next : ℕ) (a : Added s map pages e k m m' o sum next) where
    further : Ran s (amounts_on s map pages e (suc k)) l m' o
    unfolding amounts_on
    further = ran_then s (amounts_on s map pages e k) (amount_on s map pages e k) l m m' o r.ran a.ran

    pub sum_goes : o ≡ Passed → next ≤ (k + 1) * 281470681677825 → Adding s map pages e l m' (k + 1) next
    unfolding is_passed sum_to
    sum_goes w h =
        subst (λ (x : ℕ). Adding s map pages e l m' x next) (sym (add-one k))
        (record {
          ran = subst (Ran s (amounts_on s map pages e (suc k)) l m') w further;
          sum_is = a.sum_is (ap is_passed w) ∙ ap (λ (x : ℕ). x + counts (amounts pages) (targets pages) e k) r.sum_is;
          most = omega (arith, h, suc-mul k 281470681677825);
        })

    pub sum_stops : k < e → is_passed o ≡ false → (any : ℕ) → Totalled s map pages l m' o e any
    sum_stops h f any =
        let j = e - suc k in
        let whole : j + suc k ≡ e = omega (arith, h) in
        record {
          ran =
              ran_as s (amounts_on s map pages e (suc k)) (amounts_on s map pages e e) l m' o
              (λ cs os.
              sym (amounts-stopped s map pages e (suc k) (progress l Passed cs os) (sym (ap is_passed (further.outcome_is cs os)) ∙ f) j)
              ∙ ap (λ (x : ℕ). amounts_on s map pages e x (progress l Passed cs os)) whole)
              further;
          sum_is = λ t. clash t f;
        }
