-- The journal of a book: its pages are those that a mounted state's map gives, and a record entered adds to the takings. Assumes nothing.
use Prim.Native.Nat.{ℕ, suc, ◌+◌, ◌-◌, ◌*◌, ◌/◌, ◌%◌, ◌≤◌, ◌<◌}
use mathlib.Core.Bool.{true, false, cond}
use mathlib.Core.List.{List}
use mathlib.Core.Path.{◌≡◌, refl, sym, ap, ◌∙◌}
use native.Mathlib.Nat.{div-lt_iff_lt-mul, div-add-mod'}
use native.Mathlib.Omega.{arith}
use borrow.Table.Steps.{cases}
use borrow.Author.Tests.{eq-eqb, eqb-true, eqb-false}
use lib.Dec.{eqb}
use lib.ListN.{get_or}
use Rattle.geometry.specs.declared.Geometry.{Geometry}
use Rattle.geometry.specs.Limits.{Valid}
use Rattle.geometry.proofs.SizeLaws.{row_page_below}
use Rattle.state.specs.State.{none}
use Rattle.journal.specs.Records.{SaleFits, Pages, sale_bytes, is_next, replaces_in, amount_in, room, records}
use Rattle.journal.specs.Takings.{in_force, takings, takings_of}
use Rattle.journal.specs.declared.Sale.{Sale}
use Rattle.journal.proofs.BytesLaws.{next_made, replaces_back, amount_back}
use Rattle.journal.proofs.EndLaws.{records_same, records_end, room_most, room_within}
use Rattle.journal.proofs.TakingsLaws.{takings_same, append_adds}
use Rattle.journal_read.specs.Reads.{block_of, pages_by}
use Rattle.recovery.specs.Book.{Book, entered}
use Rattle.recovery_write.proofs.EntryLaws.{EntryReads}
use Rattle.recovery_journal.specs.Journal.{sale_change, journal_of, book_takings}

-- pages that agree as far as there is room have the same records and takings
pub takings_agree : (p q : Pages) (most : ℕ) → ((k : ℕ) → k < most → p k ≡ q k) → takings_of p most ≡ takings_of q most
takings_agree p q most e =
    takings_same p q (records p most) (λ k h. e k (omega (arith, h, (records_end p most).within))) ∙ ap (takings q) (records_same p q most e)

-- a map and kinds whose entries read as a book
module _ (g : Geometry) (v : Valid g) (array map kinds : List ℕ) (book : Book) (entries : (l : ℕ) → l < g.logical → EntryReads g array (get_or map l 0) (get_or kinds l 0) (book l)) where
  -- the pages by the map are the book's
  pub pages_book : (k : ℕ) → k < room g → pages_by g array map kinds k ≡ journal_of g book k
  unfolding pages_by
  pages_book k h =
      let logical = (div-lt_iff_lt-mul {k = g.pages} {x = k} {y = g.logical} (omega (arith, v.pages_least))).1 (omega (arith, h, room_within g)) in
      cases (eqb (block_of g map k) none)
      (λ t. rw t (sym ((entries (k / g.pages) logical).none_is (eqb-true (block_of g map k) none t) (k % g.pages) (row_page_below g v k))))
      (λ t. rw t (sym ((entries (k / g.pages) logical).copy_is (eqb-false (block_of g map k) none t) (k % g.pages) (row_page_below g v k))))

  pub map_below : (l : ℕ) → l < g.logical → (get_or map l 0 ≡ none → ⊥) → get_or map l 0 < g.blocks
  map_below l h x = (entries l h).below x

  pub records_book : records (pages_by g array map kinds) (room g) ≡ records (journal_of g book) (room g)
  records_book = records_same _ _ (room g) pages_book

  pub takings_book : takings_of (pages_by g array map kinds) (room g) ≡ book_takings g book
  takings_book = takings_agree _ _ (room g) pages_book

-- a record entered after those of the book's journal. The page after it is no record, as an erased one is none
module _ (g : Geometry) (v : Valid g) (book : Book) (sale : Sale) (f : SaleFits sale) where
  abbrev before : Pages
  before = journal_of g book

  abbrev n : ℕ
  n = records before (room g)

  abbrev after : Pages
  after = journal_of g (entered g (sale_change g n sale) book)

  here : after n ≡ sale_bytes g.main (suc n) sale
  unfolding entered
  here = rw (eq-eqb (n / g.pages) (n / g.pages) refl, eq-eqb (n % g.pages) (n % g.pages) refl)

  elsewhere : (k : ℕ) → (k ≡ n → ⊥) → after k ≡ before k
  unfolding entered
  elsewhere k x =
      cases (eqb (k / g.pages) (n / g.pages))
      (λ t.
      cases (eqb (k % g.pages) (n % g.pages))
      (λ u. absurd (x (sym (div-add-mod' k g.pages) ∙ (λ i. eqb-true (k / g.pages) (n / g.pages) t i * g.pages + eqb-true (k % g.pages) (n % g.pages) u i) ∙ div-add-mod' n g.pages)))
      (λ u. rw (t, u)))
      (λ t. rw t)

  -- takings with what it replaced are those before and its count times its price
  pub sale_adds : n < room g → sale.replaces ≤ n → (suc n < room g → is_next (suc n) (before (suc n)) ≡ false)
      → book_takings g (entered g (sale_change g n sale) book) + cond (in_force before n sale.replaces) (amount_in (before (sale.replaces - 1))) 0 ≡ book_takings g book + sale.count * sale.price
  sale_adds h r last =
      let small : suc n < 65536 = omega (arith, h, room_most g) in
      let next : is_next n (after n) ≡ true = ap (is_next n) here ∙ next_made g.main (suc n) sale small f n refl r in
      let target : replaces_in (after n) ≡ sale.replaces = ap replaces_in here ∙ replaces_back g.main (suc n) sale small f in
      let amount : amount_in (after n) ≡ sale.count * sale.price = ap amount_in here ∙ amount_back g.main (suc n) sale small f in
      let e = append_adds before after (room g) elsewhere h next last in
      let what : cond (in_force before n (replaces_in (after n))) (amount_in (before (replaces_in (after n) - 1))) 0 ≡ cond (in_force before n sale.replaces) (amount_in (before (sale.replaces - 1))) 0 =
      ap (λ (t : ℕ). cond (in_force before n t) (amount_in (before (t - 1))) 0) target in
      omega (arith, e, what, amount)
