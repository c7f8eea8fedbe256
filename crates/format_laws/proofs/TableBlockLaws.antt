-- A block that holds the pages of a table: it is complete, rightly laid out, and lists what it should. Assumes nothing.
use Prim.Native.Nat.{ℕ, zero, suc, ◌+◌, ◌-◌, ◌*◌, ◌/◌, ◌≤◌, ◌<◌}
use mathlib.Core.Bool.{Bool, true, false}
use mathlib.Core.List.{List}
use mathlib.Core.Path.{◌≡◌, refl, sym, ap, subst, ◌∙◌}
use native.Mathlib.Omega.{arith}
use borrow.Table.Steps.{cases}
use borrow.Author.Tests.{eqb-true, eqb-false, ltb-true, ltb-false}
use lib.Dec.{eqb, ltb}
use lib.ListN.{length, get_or, take, replicate, length-append, length-take, length-replicate, get_or-replicate, get_or-append}
use lib.Seq.{get_or-append-add, take_at, length-take-le, get_or-take, get_or-drop, ext_get_or}
use Rattle.geometry.specs.declared.Geometry.{Geometry}
use Rattle.geometry.specs.Limits.{Valid}
use Rattle.cells.specs.Bytes.{Bytes}
use Rattle.cells.specs.Part.{put}
use Rattle.cells.proofs.PartLaws.{length-put}
use Rattle.cells.proofs.CellLaws.{bytes_append, bytes_take, bytes_replicate}
use Rattle.bitmaps.specs.Bitmap.{bit_at, clear_from, count_bits, bitmap_bytes}
use Rattle.bitmaps.proofs.BitmapLaws.{Bitmap}
use Rattle.pages.specs.Layout.{Label, all_ones, bytes_of, table_kind, is_data_kind, is_table_kind, is_white_kind}
use Rattle.pages.proofs.LayoutLaws.{bytes_bytes_of, length-bytes_of, all_ones-replicate, table_width}
use Rattle.pages.proofs.LayoutLaws as kinds
use Rattle.copies.specs.Blocks.{page_in, main_in, label_in, whole_in, number_in, is_marked, is_complete, is_table, is_data, any_to, greatest_to}
use Rattle.copies.specs.Table.{bitmap_of, table_page, header, lists, right_first, right_page, right_to, right_table}
use Rattle.copies.proofs.FormLaws.{formed-plain}
use Rattle.table.proofs.TableLaws.{table_right, valid_roomy, later-page, first_page_fact}
use Rattle.fill.specs.Fill.{table_copy, table_main, copy_page}
use Rattle.state.specs.State.{number_end}
use Rattle.damage.specs.Run.{Labelled}
use Rattle.damage.proofs.CopyLaws.{copy-label, copy_stored, copy_complete, copy_any, copy_greatest, copy_unmarked, copy_whole, copy_bytes}
use Rattle.mount_laws.proofs.StateLaws.{picked_clear}
use Rattle.fill_tables.proofs.NumberLaws.{table_fits}

-- a table under a number that is left
pub table_label : (number : ℕ) → number < number_end → Labelled (table_copy number)
table_label number h = record { width_some = omega (arith, table_width); kind_byte = omega arith; logical_fits = omega arith; number_fits = table_fits number h }

-- main bytes of a table's pages
module _ (g : Geometry) (v : Valid g) (invalid : List ℕ) (bits : Bitmap g.blocks invalid) where
  room : 8 + bitmap_bytes g.blocks ≤ g.main
  room = (valid_roomy g v).room

  fits : bitmap_bytes g.blocks ≤ length invalid
  fits = omega (arith, bits.long, v.blocks_most)

  first-long : length (table_page g.main g.blocks g.logical invalid) ≡ g.main
  unfolding table_page
  first-long = simp (length-append, length-bytes_of, length-take, length-replicate) (omega (arith, room, fits))

  pub table_long : (i : ℕ) → length (table_main g invalid i) ≡ g.main
  unfolding table_main
  table_long i = cases (eqb i 0) (λ t. rw t first-long) (λ t. rw t (length-replicate {A = ℕ} g.main 255))

  first_bytes : Bytes (table_page g.main g.blocks g.logical invalid)
  unfolding table_page
  first_bytes =
      bytes_append (header g.blocks g.logical invalid) _
      (bytes_append (bytes_of 2 g.blocks) _ (bytes_bytes_of 2 g.blocks)
      (bytes_append (bytes_of 2 g.logical) _ (bytes_bytes_of 2 g.logical)
      (bytes_append (bytes_of 2 (count_bits invalid g.blocks)) _ (bytes_bytes_of 2 (count_bits invalid g.blocks)) (bytes_bytes_of 2 8))))
      (bytes_append (take (bitmap_bytes g.blocks) invalid) _ (bytes_take (bitmap_bytes g.blocks) invalid bits.bytes) (bytes_replicate (g.main - (8 + bitmap_bytes g.blocks))))

  pub table_bytes : (i : ℕ) → Bytes (table_main g invalid i)
  unfolding table_main
  table_bytes i = cases (eqb i 0) (λ t. rw t first_bytes) (λ t. rw t (bytes_replicate g.main))

  -- the bitmap of page 0
  pub bitmap_is : bitmap_of g.blocks (table_page g.main g.blocks g.logical invalid) ≡ take (bitmap_bytes g.blocks) invalid
  unfolding table_page bytes_of
  bitmap_is = take_at (take (bitmap_bytes g.blocks) invalid) _ (bitmap_bytes g.blocks) (length-take-le (bitmap_bytes g.blocks) invalid fits)

  bit_taken : (b : ℕ) → b < 8 * bitmap_bytes g.blocks → bit_at (take (bitmap_bytes g.blocks) invalid) b ≡ bit_at invalid b
  unfolding bit_at
  bit_taken b h = rw (get_or-take (bitmap_bytes g.blocks) invalid (b / 8) 0 (omega (arith, h)))

  clear_past : (n k : ℕ) → g.blocks ≤ n → n + k ≤ 8 * bitmap_bytes g.blocks → clear_from (take (bitmap_bytes g.blocks) invalid) n k ≡ true
  unfolding clear_from
  clear_past n zero h r = refl
  clear_past n (suc k) h r = rw (bit_taken n (omega (arith, r)) ∙ bits.clear n h (omega (arith, r, v.blocks_most))) (clear_past (n + 1) k (omega (arith, h)) (omega (arith, r)))

  pub first_right : right_first g.blocks g.logical (table_page g.main g.blocks g.logical invalid) ≡ true
  first_right =
      table_right g.main g.blocks g.logical invalid (valid_roomy g v) (omega (arith, v.logical_most, v.blocks_most)) fits
      (clear_past g.blocks (8 * bitmap_bytes g.blocks - g.blocks) (omega arith) (omega arith))

  -- the bitmap in a buffer of zeros
  bits_back : put 0 (take (bitmap_bytes g.blocks) invalid) (replicate 512 0) ≡ invalid
  unfolding put
  bits_back =
      let k = bitmap_bytes g.blocks in
      let few : k ≤ 512 = omega (arith, v.blocks_most) in
      let long : length (take k invalid) ≡ k = length-take-le k invalid fits in
      let all : length (put 0 (take k invalid) (replicate 512 0)) ≡ 512 =
      length-put 0 (take k invalid) (replicate 512 0) (omega (arith, long, few, length-replicate {A = ℕ} 512 0)) ∙ length-replicate {A = ℕ} 512 0 in
      ext_get_or 0 (put 0 (take k invalid) (replicate 512 0)) invalid (all ∙ sym bits.long)
      (λ i h.
      cases (ltb i k)
      (λ t. get_or-append (take k invalid) _ 0 i (omega (arith, long, ltb-true i k t)) ∙ get_or-take k invalid i 0 (ltb-true i k t))
      (λ t.
      let there : i ≡ length (take k invalid) + (i - k) = omega (arith, long, ltb-false i k t) in
      ap (λ (j : ℕ). get_or (put 0 (take k invalid) (replicate 512 0)) j 0) there
      ∙ get_or-append-add (take k invalid) _ (i - k) 0
      ∙ get_or-drop (length (take k invalid)) (replicate 512 0) (i - k) 0
      ∙ get_or-replicate 512 (length (take k invalid) + (i - k)) 0 0 (omega (arith, long, h, all, ltb-false i k t))
      ∙ sym (bits.past i (ltb-false i k t))))

-- a table's pages are stored as they are
table_plain : is_white_kind table_kind ≡ false
unfolding is_white_kind
table_plain = refl

-- a block with these pages
module _ (g : Geometry) (v : Valid g) (invalid : List ℕ) (bits : Bitmap g.blocks invalid) (number : ℕ) (fits : number < number_end) (row : List ℕ) (same : (i : ℕ) → i < g.pages → page_in g row i ≡ copy_page g (table_copy number) i (table_main g invalid i)) where
  main_long : (i : ℕ) → i < g.pages → length (table_main g invalid i) ≡ g.main
  main_long i h = table_long g v invalid bits i

  main_bytes : (i : ℕ) → i < g.pages → Bytes (table_main g invalid i)
  main_bytes i h = table_bytes g v invalid bits i

  labelled : Labelled (table_copy number)
  labelled = table_label number fits

  zero_below : 0 < g.pages
  zero_below = omega (arith, v.pages_least)

  pub table_complete : is_complete g row ≡ true
  table_complete = copy_complete g v (table_copy number) labelled (table_main g invalid) main_long main_bytes row same

  pub table_first : label_in g row 0 ≡ record { kind = table_kind; logical = 0; page = 0; number = number }
  table_first = copy-label g v (table_copy number) labelled (table_main g invalid) main_long main_bytes row same 0 zero_below

  pub table_unmarked : is_marked g row ≡ false
  table_unmarked = copy_unmarked g v (table_copy number) labelled (table_main g invalid) main_long main_bytes row same

  pub table_whole : (i : ℕ) → i < g.pages → whole_in g row i ≡ true
  table_whole = copy_whole g v (table_copy number) labelled (table_main g invalid) main_long main_bytes row same

  pub page_bytes : (i : ℕ) → i < g.pages → Bytes (page_in g row i)
  page_bytes i h =
      subst Bytes (sym (same i h)) (copy_bytes g v (table_copy number) labelled (table_main g invalid) main_long main_bytes i h)

  pub table_any : any_to g row g.pages ≡ true
  table_any = copy_any g v (table_copy number) labelled (table_main g invalid) main_long main_bytes row same

  pub table_greatest : greatest_to g row g.pages ≡ number
  table_greatest = copy_greatest g v (table_copy number) labelled (table_main g invalid) main_long main_bytes row same

  table_main_fact : (i : ℕ) → i < g.pages → main_in g row i ≡ table_main g invalid i
  table_main_fact i h =
      copy_stored g v (table_copy number) labelled (table_main g invalid) main_long main_bytes row same i h
      ∙ formed-plain table_kind i (table_main g invalid i) table_plain

  first_main : main_in g row 0 ≡ table_page g.main g.blocks g.logical invalid
  unfolding table_main
  first_main = table_main_fact 0 zero_below

  -- what the table lists
  bits_are : bitmap_of g.blocks (main_in g row 0) ≡ take (bitmap_bytes g.blocks) invalid
  bits_are = ap (bitmap_of g.blocks) first_main ∙ bitmap_is g v invalid bits

  pub lists_invalid : (b : ℕ) → b < g.blocks → lists g row b ≡ bit_at invalid b
  lists_invalid b h = ap (λ (x : List ℕ). bit_at x b) bits_are ∙ bit_taken g v invalid bits b (omega (arith, h))

  pub number_is : number_in g row ≡ number
  number_is = ap (λ (l : Label). l.number) table_first

  pub is_table_fact : is_table g row ≡ true
  unfolding is_table
  is_table_fact = rw table_complete (ap (λ (l : Label). is_table_kind l.kind) table_first ∙ kinds.table_is)

  pub table_no_data : is_data g row ≡ false
  unfolding is_data
  table_no_data = rw table_complete (ap (λ (l : Label). is_data_kind l.kind) table_first ∙ kinds.table_no_data)

  -- the table is rightly laid out
  right_page_fact : (i : ℕ) → i < g.pages → right_page g i (page_in g row i) ≡ true
  unfolding table_main
  right_page_fact i h =
      cases (eqb i 0)
      (λ z.
      let e = eqb-true i 0 z in
      subst (λ (k : ℕ). right_page g k (page_in g row k) ≡ true) (sym e)
      (sym (first_page_fact g 0 (page_in g row 0) refl (ap (λ (l : Label). l.logical) table_first)) ∙ ap (right_first g.blocks g.logical) first_main ∙ first_right g v invalid bits))
      (λ z.
      sym (later-page g i (page_in g row i) (eqb-false i 0 z)) ∙ ap all_ones (table_main_fact i h ∙ rw z) ∙ all_ones-replicate g.main)

  right_pages : (n : ℕ) → n ≤ g.pages → right_to g row n ≡ true
  unfolding right_to
  right_pages zero h = refl
  right_pages (suc n) h = rw (right_page_fact n (omega (arith, h))) (right_pages n (omega (arith, h)))

  pub right_table_fact : (marked : ℕ → Bool) → ((b : ℕ) → b < g.blocks → marked b ≡ true → bit_at invalid b ≡ false) → right_table g marked row ≡ true
  unfolding right_table
  right_table_fact marked apart =
      rw (right_pages g.pages (omega arith))
      (picked_clear marked (bitmap_of g.blocks (main_in g row 0)) g.blocks (λ b h t. lists_invalid b h ∙ apart b h t))

  -- the bitmap as a mount copies it
  pub bitmap_back : put 0 (bitmap_of g.blocks (main_in g row 0)) (replicate 512 0) ≡ invalid
  bitmap_back = ap (λ (x : List ℕ). put 0 x (replicate 512 0)) bits_are ∙ bits_back g v invalid bits
