-- Where the pages of a write's new copy and of a table come from: how long their main bytes are, and what each of them costs. Assumes
-- nothing.
use Prim.Native.Nat.{ℕ, ◌+◌, ◌≤◌, ◌<◌}
use mathlib.Core.List.{List}
use mathlib.Core.Path.{◌≡◌}
use native.Mathlib.Omega.{arith}
use borrow.Table.Steps.{cases}
use borrow.Author.Tests.{eqb-true, eqb-false, eq-eqb, ne_eqb, lt-ltb, le-ltb, ltb-true, ltb-false, le-leb, leb-true}
use lib.Dec.{eqb, leb, ltb}
use lib.ListN.{length, take, replicate, length-append, length-take, length-replicate}
use Rattle.geometry.specs.declared.Geometry.{Geometry}
use Rattle.geometry.specs.Limits.{Valid}
use Rattle.bitmaps.specs.Bitmap.{bitmap_bytes}
use Rattle.pages.proofs.LayoutLaws.{length-bytes_of}
use Rattle.copies.specs.Table.{table_page}
use Rattle.copies.specs.Blocks.{block_in, page_in, main_in}
use Rattle.copies.proofs.FormLaws.{length-formed}
use Rattle.fill.specs.Fill.{Source, given, kept, main_of, is_given, given_main, data_source, table_main, table_source}
use Rattle.damage.specs.Run.{program_most, read_most, erase_most, source_most}
use Rattle.dearest.specs.Dearest.{copy_operations, table_operations, copy_cycles, table_cycles}
use Rattle.write_dearest.specs.Exactly.{sum_to, words_of}
use Rattle.write_dearest.proofs.SumLaws.{but, sum_same, sum_each, sum_but, copy_sum, table_sum}

take_short : (n : ℕ) (xs : List ℕ) → length (take n xs) ≤ n
take_short n xs = omega (arith, length-take n xs)

-- one page is given
given_one : (page i : ℕ) → is_given page 1 i ≡ eqb i page
unfolding is_given
given_one page i =
    cases (eqb i page)
    (λ t. let e = eqb-true i page t in rw (t, le-leb page i (omega (arith, e)), lt-ltb i (page + 1) (omega (arith, e))))
    (λ f.
    let x = eqb-false i page f in
    cases (leb page i)
    (λ t. rw (f, t, le-ltb i (page + 1) (omega (arith, x, leb-true page i t))))
    (λ t. rw (f, t)))

module _ (g : Geometry) (old form page : ℕ) (bytes : List ℕ) where
  abbrev pub write_source : ℕ → Source
  write_source = data_source g old form page 1 bytes

  -- the page given, one kept from the old copy, or FFh
  pub by_source : (P : Source → Type 0) (i : ℕ) → (i ≡ page → P (given (given_main g page bytes i))) → ((i ≡ page → ⊥) → old < g.blocks → P (kept old form))
      → ((i ≡ page → ⊥) → g.blocks ≤ old → P (given (replicate g.main 255))) → P (write_source i)
  unfolding data_source
  by_source P i a k n =
      cases (eqb i page)
      (λ t. rw (given_one page i, t) (a (eqb-true i page t)))
      (λ f.
      let x = eqb-false i page f in
      cases (ltb old g.blocks) (λ t. rw (given_one page i, f, t) (k x (ltb-true old g.blocks t))) (λ t. rw (given_one page i, f, t) (n x (ltb-false old g.blocks t))))

  pub data_short : (array : List ℕ) (i : ℕ) → length (main_of g array i (write_source i)) ≤ g.main
  unfolding main_of
  data_short array i =
      by_source (λ z. length (main_of g array i z) ≤ g.main) i
      (λ e. take_short g.main _)
      (λ e o. omega (arith, length-formed form i (main_in g (block_in g array old) i), take_short g.main (page_in g (block_in g array old) i)))
      (λ e o. omega (arith, length-replicate {A = ℕ} g.main 255))

  pub data_most : (i : ℕ) → source_most g (write_source i) ≤ but (program_most g) (read_most g.main) page i
  unfolding source_most
  data_most i =
      by_source (λ z. source_most g z ≤ but (program_most g) (read_most g.main) page i) i
      (λ e. rw (eq-eqb i page e) (omega arith))
      (λ e o. rw (ne_eqb i page e) (omega arith))
      (λ e o. rw (ne_eqb i page e) (omega arith))

  -- over an old copy: the fate words and the cycles of the whole fill
  module _ (v : Valid g) (on_chip : old < g.blocks) (within : page < g.pages) where
    data_words : (i : ℕ) → words_of (write_source i) ≡ but 1 1 page i
    unfolding words_of
    data_words i =
        by_source (λ z. words_of z ≡ but 1 1 page i) i
        (λ e. rw (eq-eqb i page e))
        (λ e o. rw (ne_eqb i page e))
        (λ e o. absurd (omega (arith, o, on_chip)))

    data_cost : (i : ℕ) → source_most g (write_source i) ≡ but (program_most g) (read_most g.main) page i
    unfolding source_most
    data_cost i =
        by_source (λ z. source_most g z ≡ but (program_most g) (read_most g.main) page i) i
        (λ e. rw (eq-eqb i page e))
        (λ e o. rw (ne_eqb i page e))
        (λ e o. absurd (omega (arith, o, on_chip)))

    pub copy_words : 1 + sum_to (λ i. words_of (write_source i)) g.pages ≡ copy_operations g
    copy_words =
        omega (arith, sum_same (λ i. words_of (write_source i)) (but 1 1 page) g.pages (λ i h. data_words i), sum_but 1 1 page g.pages within)

    pub copy_cycles_fact : erase_most + sum_to (λ i. source_most g (write_source i)) g.pages ≡ copy_cycles g
    copy_cycles_fact =
        omega
        (arith, sum_same (λ i. source_most g (write_source i)) (but (program_most g) (read_most g.main) page) g.pages (λ i h. data_cost i), copy_sum g v page within)

module _ (g : Geometry) (v : Valid g) (invalid : List ℕ) where
  first_short : length (table_page g.main g.blocks g.logical invalid) ≤ g.main
  unfolding table_page
  first_short =
      let room : 8 + bitmap_bytes g.blocks ≤ g.main = omega (arith, v.blocks_room, v.main_least) in
      simp (length-append, length-bytes_of, length-take, length-replicate) (omega (arith, room))

  pub table_short : (array : List ℕ) (i : ℕ) → length (main_of g array i (table_source g invalid i)) ≤ g.main
  unfolding main_of table_main
  table_short array i =
      cases (eqb i 0) (λ t. rw t first_short) (λ t. rw t (omega (arith, length-replicate {A = ℕ} g.main 255)))

  pub table_cycles_fact : erase_most + sum_to (λ i. source_most g (table_source g invalid i)) g.pages ≡ table_cycles g
  unfolding source_most
  table_cycles_fact = table_sum g v

  pub table_words : 1 + sum_to (λ i. words_of (table_source g invalid i)) g.pages ≡ table_operations g
  unfolding words_of
  table_words = omega (arith, sum_each 1 g.pages)
