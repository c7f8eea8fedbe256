-- The pages that a write's or an erase's data fill and its table fill are to leave, whatever the array holds. Assumes nothing.
use Prim.Native.Nat.{ℕ, ◌+◌, ◌-◌, ◌*◌, ◌≤◌, ◌<◌}
use mathlib.Core.Bool.{true, false}
use mathlib.Core.List.{List, []}
use mathlib.Core.Path.{◌≡◌, refl, sym, ap, ◌∙◌}
use native.Mathlib.Nat.{sub_self, zero-mul}
use native.Mathlib.Omega.{arith}
use borrow.Table.Steps.{cases}
use borrow.Author.Tests.{leb-true, ltb-true, ltb-false, eqb-true}
use lib.Dec.{leb, ltb, eqb}
use lib.ListN.{length, get_or, take, drop, replicate, length-replicate, get_or-eq_default}
use lib.Seq.{length-take-le, take_all}
use Rattle.geometry.specs.declared.Geometry.{Geometry}
use Rattle.geometry.specs.Limits.{Valid}
use Rattle.geometry.specs.Sizes.{page_size, chip_size}
use Rattle.bools.proofs.BoolLaws.{both, clash}
use Rattle.cells.specs.Bytes.{Bytes}
use Rattle.cells.proofs.CellLaws.{bytes_take, bytes_replicate}
use Rattle.cells.proofs.PartLaws.{bytes_part}
use Rattle.bitmaps.specs.Bitmap.{bit_at, clear_from, bitmap_bytes}
use Rattle.bitmaps.proofs.BitmapLaws.{Bitmap}
use Rattle.bitmaps.proofs.ByteLaws.{clear_byte}
use Rattle.chip_array.specs.Device.{Setting}
use Rattle.pages.specs.Layout.{data_kind}
use Rattle.copies.specs.Blocks.{block_in, page_in, main_in, formed}
use Rattle.copies.proofs.FormLaws.{length-formed, bytes_formed}
use Rattle.state.specs.State.{number_end, held_bits, form_of}
use Rattle.state.specs.declared.State.{State}
use Rattle.state.proofs.MountedLaws.{each_clear}
use Rattle.state.proofs.HeldLaws.{held_entry}
use Rattle.fill.specs.Fill.{Copy, Source, given, kept, copy, copy_page, main_of, is_given, given_main, data_source, table_copy, table_main, table_source}
use Rattle.recovery_stored.proofs.RenewedLaws.{data_label}
use Rattle.damage.specs.Run.{Labelled, Meant, Provides, from_caller, from_copy, source_most, program_most}
use Rattle.damage.proofs.CopyLaws.{copy-long, copy_bytes}
use Rattle.damage.proofs.PlaceLaws.{page-long}
use Rattle.format_laws.proofs.TableBlockLaws.{table_label, table_long, table_bytes}
use Rattle.write_changes.specs.Changes.{Update, write_update, erase_update, update_source}

-- a bitmap of 512 bytes without a bit past the last block
pub bits_so : (blocks : ℕ) (bits : List ℕ) → length bits ≡ 512 → Bytes bits → ((b : ℕ) → blocks ≤ b → b < 4096 → bit_at bits b ≡ false) → Bitmap blocks bits
bits_so blocks bits long bytes clear =
    record {
      long = long;
      bytes = bytes;
      past = λ j h. cases (ltb j 512) (λ t. inside j h (ltb-true j 512 t)) (λ f. get_or-eq_default bits 0 {n = j} (omega (arith, long, ltb-false j 512 f)));
      clear = clear;
    }
  where
    inside : (j : ℕ) → bitmap_bytes blocks ≤ j → j < 512 → get_or bits j 0 ≡ 0
    inside j h k =
        let all : clear_from bits (8 * j) (8 + 0) ≡ true = each_clear bits (8 * j) 8 (λ b l m. clear b (omega (arith, h, l)) (omega (arith, k, m))) in
        eqb-true (get_or bits j 0) 0 (both (eqb (get_or bits j 0) 0) _ (sym (clear_byte bits j 0 (bytes j)) ∙ all)).0

-- an update that is not refused: the pages given are bytes and as long as main bytes, and the old copy's block is held
pub record Proper (g : Geometry) (held : List ℕ) (u : Update) : Type 0 where
  pub logical_below : u.logical < g.logical
  pub given_long : (i : ℕ) → is_given u.first u.count i ≡ true → length (given_main g u.first u.bytes i) ≡ g.main
  pub given_bytes : Bytes u.bytes
  pub old_held : u.old < g.blocks → bit_at held u.old ≡ true

module _ (s : Setting) (v : Valid s.geometry) (held : List ℕ) (st : State) (u : Update) (proper : Proper s.geometry held u) where
  abbrev g : Geometry
  g = s.geometry

  abbrev source : ℕ → Source
  source = update_source g st u

  -- a page is given, kept or FFh
  by_source : (P : Source → Type 0) (i : ℕ) → (is_given u.first u.count i ≡ true → P (given (given_main g u.first u.bytes i))) → (u.old < g.blocks → P (kept u.old (form_of st u.logical)))
      → P (given (replicate g.main 255)) → P (source i)
  unfolding data_source
  by_source P i a k n =
      cases (is_given u.first u.count i)
      (λ t. rw t (a t))
      (λ f. cases (ltb u.old g.blocks) (λ t. rw (f, t) (k (ltb-true u.old g.blocks t))) (λ t. rw (f, t) n))

  -- it is the same from two arrays that have the old copy in common
  pub same_main : (array other : List ℕ) → (u.old < g.blocks → block_in g array u.old ≡ block_in g other u.old) → (i : ℕ) → main_of g array i (source i) ≡ main_of g other i (source i)
  unfolding main_of
  same_main array other e i =
      by_source (λ z. main_of g array i z ≡ main_of g other i z) i (λ t. refl) (λ h. ap (λ (row : List ℕ). formed (form_of st u.logical) i (main_in g row i)) (e h)) refl

  module _ (array : List ℕ) (long : length array ≡ chip_size g) (old_bytes : u.old < g.blocks → Bytes (block_in g array u.old)) where
    abbrev main_new : ℕ → List ℕ
    main_new i = main_of g array i (source i)

    new_long : (i : ℕ) → i < g.pages → length (main_new i) ≡ g.main
    unfolding main_of
    new_long i h =
        by_source (λ z. length (main_of g array i z) ≡ g.main) i
        (proper.given_long i)
        (λ o. length-formed (form_of st u.logical) i (main_in g (block_in g array u.old) i) ∙ length-take-le g.main (page_in g (block_in g array u.old) i) (omega (arith, page-long g v array long u.old o i h)))
        (length-replicate {A = ℕ} g.main 255)

    new_bytes : (i : ℕ) → i < g.pages → Bytes (main_new i)
    unfolding main_of
    new_bytes i h =
        by_source (λ z. Bytes (main_of g array i z)) i
        (λ t. bytes_part ((i - u.first) * g.main) g.main u.bytes proper.given_bytes)
        (λ o. bytes_formed (form_of st u.logical) i (main_in g (block_in g array u.old) i) (bytes_take g.main (page_in g (block_in g array u.old) i) (bytes_part (i * page_size g) (page_size g) (block_in g array u.old) (old_bytes o))))
        (bytes_replicate g.main)

    module _ (number : ℕ) (fits : number < number_end) (b : ℕ) (unheld : bit_at held b ≡ false) where
      abbrev made : Copy
      made = copy data_kind u.logical number

      labelled : Labelled made
      labelled = data_label u.logical number (omega (arith, proper.logical_below, v.logical_most, v.blocks_most)) fits

      abbrev pub pages_new : ℕ → List ℕ
      pages_new i = copy_page g made i (main_new i)

      provided : (i : ℕ) → Provides g array b made i (source i) (pages_new i)
      unfolding main_of
      provided i =
          by_source (λ z. Provides g array b made i z (copy_page g made i (main_of g array i z))) i
          (λ t. from_caller _)
          (λ o. from_copy u.old (form_of st u.logical) o (λ e. clash (proper.old_held o) (ap (bit_at held) e ∙ unheld)))
          (from_caller _)

      pub data_meant : Meant s array b made source pages_new
      data_meant =
          record {
            long = copy-long g v made labelled main_new new_long new_bytes;
            bytes = copy_bytes g v made labelled main_new new_long new_bytes;
            provides = λ i h. provided i;
          }

-- a table
module _ (s : Setting) (v : Valid s.geometry) (invalid : List ℕ) (bits : Bitmap s.geometry.blocks invalid) (number : ℕ) (fits : number < number_end) where
  abbrev pub table_pages : ℕ → List ℕ
  table_pages i = copy_page s.geometry (table_copy number) i (table_main s.geometry invalid i)

  pub table_meant : (array : List ℕ) (b : ℕ) → Meant s array b (table_copy number) (table_source s.geometry invalid) table_pages
  table_meant array b =
      let main_long : (i : ℕ) → i < s.geometry.pages → length (table_main s.geometry invalid i) ≡ s.geometry.main = λ i h. table_long s.geometry v invalid bits i in
      let main_bytes : (i : ℕ) → i < s.geometry.pages → Bytes (table_main s.geometry invalid i) = λ i h. table_bytes s.geometry v invalid bits i in
      record {
        long = copy-long s.geometry v (table_copy number) (table_label number fits) (table_main s.geometry invalid) main_long main_bytes;
        bytes = copy_bytes s.geometry v (table_copy number) (table_label number fits) (table_main s.geometry invalid) main_long main_bytes;
        provides = λ i h. from_caller (table_main s.geometry invalid i);
      }

  pub table_given : (i : ℕ) → i < s.geometry.pages → source_most s.geometry (table_source s.geometry invalid i) ≤ program_most s.geometry
  unfolding source_most
  table_given i h = omega arith

-- the updates of a write and of an erase
module _ (g : Geometry) (v : Valid g) (st : State) (logical : ℕ) (below : logical < g.logical) where
  module _ (page : ℕ) (bytes : List ℕ) (long : length bytes ≡ g.main) (are_bytes : Bytes bytes) where
    given_one : (i : ℕ) → is_given page 1 i ≡ true → i ≡ page
    unfolding is_given
    given_one i t =
        let x = both (leb page i) (ltb i (page + 1)) t in
        omega (arith, leb-true page i x.0, ltb-true i (page + 1) x.1)

    part_is : given_main g page bytes page ≡ bytes
    part_is =
        ap (λ (k : ℕ). take g.main (drop (k * g.main) bytes)) (sub_self page)
        ∙ ap (λ (k : ℕ). take g.main (drop k bytes)) (zero-mul g.main)
        ∙ take_all g.main bytes (omega (arith, long))

    pub write_proper : Proper g (held_bits st g.logical) (write_update st logical page bytes)
    write_proper =
        record {
          logical_below = below;
          given_long = λ i t. ap (λ (k : ℕ). length (given_main g page bytes k)) (given_one i t) ∙ ap length part_is ∙ long;
          given_bytes = are_bytes;
          old_held = λ h. held_entry st g.logical logical below (omega (arith, h, v.blocks_most));
        }

  no_page : (i : ℕ) → is_given 0 0 i ≡ true → ⊥
  unfolding is_given
  no_page i t = let x = ltb-true i 0 (both (leb 0 i) (ltb i 0) t).1 in omega (arith, x)

  no_bytes : Bytes []
  no_bytes i = omega arith

  pub erase_proper : Proper g (held_bits st g.logical) (erase_update logical)
  erase_proper =
      record {
        logical_below = below;
        given_long = λ i t. absurd (no_page i t);
        given_bytes = no_bytes;
        old_held = λ h. absurd (omega (arith, h, v.blocks_most));
      }
