-- What a formatting takes over from a chip of bytes: the list carried over is a bitmap that lists no marked block, and the blocks that the first round
-- passes over. Assumes nothing.
use Prim.Native.Nat.{ℕ, zero, suc, ◌*◌, ◌-◌, ◌≤◌, ◌<◌}
use mathlib.Core.Bool.{Bool, true, false, cond}
use mathlib.Core.List.{List}
use mathlib.Core.Path.{◌≡◌, refl, sym, ap, subst, ◌∙◌}
use native.Mathlib.Omega.{arith}
use borrow.Table.Steps.{cases}
use borrow.Author.Tests.{ltb-true, ltb-false, lt-ltb, eqb-true, eqb-false}
use lib.Dec.{eqb, ltb}
use lib.ListN.{length, replicate, length-replicate}
use Rattle.geometry.specs.declared.Geometry.{Geometry}
use Rattle.geometry.specs.Limits.{Valid}
use Rattle.geometry.specs.Sizes.{page_size, block_size, chip_size}
use Rattle.cells.specs.Bytes.{Bytes}
use Rattle.cells.specs.Part.{put}
use Rattle.cells.proofs.CellLaws.{bytes_append, bytes_take, bytes_drop}
use Rattle.cells.proofs.PartLaws.{length-put, bytes_part}
use Rattle.bools.proofs.BoolLaws.{both, clash}
use Rattle.bitmaps.specs.Bitmap.{bit_at, with_bit, bitmap_bytes}
use Rattle.bitmaps.proofs.BitLaws.{bit_kept}
use Rattle.bitmaps.proofs.BitmapLaws.{Bitmap, bits_none, bits_more, blank-bit}
use Rattle.pages.specs.Layout.{is_data_kind}
use Rattle.pages.proofs.LayoutLaws.{kinds_apart}
use Rattle.copies.specs.Blocks.{block_in, page_in, main_in, label_in, whole_in, is_marked, is_complete, is_table, is_data, greatest_to, greatest}
use Rattle.copies.specs.Carried.{carried_by, carried_table, listed_by, is_carried}
use Rattle.copies.specs.Current.{current_table, number_at}
use Rattle.copies.specs.Pick.{Pick, nothing, at, Picked}
use Rattle.copies.specs.Table.{bitmap_of, clear_where, lists, own_count, right_to, right_table, laid_table}
use Rattle.copies.proofs.PickLaws.{pick_is}
use Rattle.copies.proofs.CompleteLaws.{complete_pages, table_complete}
use Rattle.copies.proofs.NumberLaws.{greatest_in}
use Rattle.scan_found.specs.Contents.{entry_of}
use Rattle.scan_found.specs.Found.{bits_at, marks_to}
use Rattle.scan_found.proofs.ToldLaws.{bit-put, bitmap_long}
use Rattle.state.specs.State.{add_block}
use Rattle.state.proofs.MountedLaws.{clear_each, set_named}
use Rattle.mount.proofs.MountLaws.{mark_bit}
use Rattle.mount_laws.proofs.StateLaws.{clear_picked, byte_past, bit_past, right-first, page_clear}
use Rattle.format_scan.specs.Survey.{list_bits, surveyed, union_to, passed_over}
use Rattle.format_scan.specs.declared.Survey.{Survey}
use Rattle.format_scan.proofs.UnionLaws.{union_long, union_bit, union_first, union_second}

-- the current table, whose list is carried over: laid out for the chip's blocks, and it does not list its own block
pub record Carried (g : Geometry) (array : List ℕ) (t : ℕ) : Type 0 where
  pub below : t < g.blocks
  pub table_is : current_table g array ≡ at t
  pub is_table_fact : is_table g (block_in g array t) ≡ true
  pub laid : laid_table g (λ b. is_marked g (block_in g array b)) (block_in g array t) ≡ true
  pub own : lists g (block_in g array t) t ≡ false

-- what tells picks apart
unfoldable place_in : Pick → ℕ
place_in nothing = 0
place_in (at m) = suc m

carried_arms : (a b : Bool) (u t : ℕ) → cond a (cond b nothing (at u)) nothing ≡ at t → (a ≡ true) × ((b ≡ false) × (u ≡ t))
unfolding place_in
carried_arms true true u t e = absurd (let z : 0 ≡ suc t = ap place_in e in omega (arith, z))
carried_arms true false u t e = (refl, (refl, let z : suc u ≡ suc t = ap place_in e in omega (arith, z)))
carried_arms false b u t e = absurd (let z : 0 ≡ suc t = ap place_in e in omega (arith, z))

module _ (g : Geometry) (array : List ℕ) where
  abbrev marks : ℕ → Bool
  marks b = is_marked g (block_in g array b)

  abbrev tables : ℕ → Bool
  tables b = is_table g (block_in g array b)

  by_pick : (o : Pick) → current_table g array ≡ o → (t : ℕ) → carried_by g array o ≡ at t → Carried g array t
  unfolding carried_by place_in current_table
  by_pick nothing e t c = absurd (let z : 0 ≡ suc t = ap place_in c in omega (arith, z))
  by_pick (at u) e t c =
      let parts = carried_arms (laid_table g marks (block_in g array u)) (lists g (block_in g array u) u) u t c in
      let best = subst (Picked tables (number_at g array) g.blocks) e (pick_is tables (number_at g array) g.blocks) in
      subst (Carried g array) parts.1.1
      (record {
        below = best.below;
        table_is = e;
        is_table_fact = best.passes;
        laid = parts.0;
        own = parts.1.0;
      })

  pub carried_at : (t : ℕ) → carried_table g array ≡ at t → Carried g array t
  carried_at = by_pick (current_table g array) refl

  -- and conversely
  pub at_carried : (t : ℕ) → current_table g array ≡ at t → laid_table g marks (block_in g array t) ≡ true → lists g (block_in g array t) t ≡ false → carried_table g array ≡ at t
  unfolding carried_by
  at_carried t e l o = ap (carried_by g array) e ∙ rw (l, o)

-- by whether a list is carried over
pub by_carried : {P : Type 0} (o : Pick) → (o ≡ nothing → P) → ((t : ℕ) → o ≡ at t → P) → P
by_carried nothing f h = f refl
by_carried (at t) f h = h t refl

module _ (g : Geometry) (v : Valid g) (array : List ℕ) (long : length array ≡ chip_size g) where
  -- the bits of a table that is carried over
  module _ (t : ℕ) (c : Carried g array t) where
    abbrev row : List ℕ
    row = block_in g array t

    abbrev bits : List ℕ
    bits = bitmap_of g.blocks (main_in g row 0)

    parts : (right_to (own_count g row) row g.pages ≡ true) × (clear_where (λ b. is_marked g (block_in g array b)) bits g.blocks ≡ true)
    unfolding laid_table right_table
    parts = both (right_to (own_count g row) row g.pages) _ c.laid

    few : length bits ≡ bitmap_bytes g.blocks
    few = bitmap_long g v array long t c.below

    pub table_bit : (b : ℕ) → b < g.blocks → bit_at (bits_at g array t) b ≡ lists g row b
    table_bit b h = bit-put bits (replicate 512 0) b (omega (arith, h, few))

    ends : (b : ℕ) → g.blocks ≤ b → b < 4096 → bit_at (bits_at g array t) b ≡ false
    ends b h l =
        let first = page_clear (own_count g row) (page_in g row 0) (right-first (own_count g row) row g.pages (omega (arith, v.pages_least)) parts.0) in
        cases (ltb b (8 * bitmap_bytes g.blocks))
        (λ u.
        let inside = ltb-true b (8 * bitmap_bytes g.blocks) u in
        bit-put bits (replicate 512 0) b (omega (arith, inside, few))
        ∙ clear_each bits g.blocks (8 * bitmap_bytes g.blocks - g.blocks) first b h (omega (arith, inside, h)))
        (λ u. bit_past bits b (omega (arith, ltb-false b (8 * bitmap_bytes g.blocks) u, few)))

    pub table_apart : (b : ℕ) → b < g.blocks → is_marked g (block_in g array b) ≡ true → lists g row b ≡ false
    table_apart b h m = clear_picked (λ k. is_marked g (block_in g array k)) bits g.blocks parts.1 b h m

    pub table_bits : Bytes array → Bitmap g.blocks (bits_at g array t)
    unfolding put
    table_bits bytes =
        let block : Bytes row = bytes_part (t * block_size g) (block_size g) array bytes in
        let page : Bytes (page_in g row 0) = bytes_part (0 * page_size g) (page_size g) row block in
        let own : Bytes bits = bytes_part 8 (bitmap_bytes g.blocks) (main_in g row 0) (bytes_take g.main (page_in g row 0) page) in
        record {
          long = length-put 0 bits (replicate 512 0) (omega (arith, few, v.blocks_most, length-replicate {A = ℕ} 512 0)) ∙ length-replicate {A = ℕ} 512 0;
          bytes = bytes_append bits _ own (bytes_drop (length bits) (replicate 512 0) (bits_none g.blocks).bytes);
          past = λ j h. byte_past bits j (omega (arith, few, h));
          clear = ends;
        }

  -- those that are carried over, by the pick
  bits_by : Bytes array → (o : Pick) → ((t : ℕ) → o ≡ at t → Carried g array t) → Bitmap g.blocks (list_bits g array o)
  unfolding list_bits
  bits_by bytes nothing c = bits_none g.blocks
  bits_by bytes (at t) c = table_bits t (c t refl) bytes

  bit_by : (o : Pick) → ((t : ℕ) → o ≡ at t → Carried g array t) → (b : ℕ) → b < g.blocks → bit_at (list_bits g array o) b ≡ listed_by g array o b
  unfolding list_bits listed_by
  bit_by nothing c b h = blank-bit 512 b
  bit_by (at t) c b h = table_bit t (c t refl) b h

  apart_by : (o : Pick) → ((t : ℕ) → o ≡ at t → Carried g array t) → (b : ℕ) → b < g.blocks → is_marked g (block_in g array b) ≡ true → listed_by g array o b ≡ false
  unfolding listed_by
  apart_by nothing c b h m = refl
  apart_by (at t) c b h m = table_apart t (c t refl) b h m

  abbrev found : Survey
  found = surveyed g array

  pub carried_bits : Bytes array → Bitmap g.blocks found.carried
  carried_bits bytes = bits_by bytes (carried_table g array) (carried_at g array)

  pub carried_bit : (b : ℕ) → b < g.blocks → bit_at found.carried b ≡ is_carried g array b
  carried_bit = bit_by (carried_table g array) (carried_at g array)

  pub carried_apart : (b : ℕ) → b < g.blocks → is_marked g (block_in g array b) ≡ true → is_carried g array b ≡ false
  carried_apart = apart_by (carried_table g array) (carried_at g array)

  pub marked_bit : (b : ℕ) → b < g.blocks → bit_at found.marked b ≡ is_marked g (block_in g array b)
  marked_bit = mark_bit g array g.blocks v.blocks_most

  -- the marks are a bitmap
  marks_bits : (n : ℕ) → n ≤ g.blocks → Bitmap g.blocks (marks_to g array n)
  unfolding marks_to
  marks_bits zero h = bits_none g.blocks
  marks_bits (suc n) h =
      cases (is_marked g (block_in g array n))
      (λ t. rw t (bits_more g.blocks (marks_to g array n) n v.blocks_most (omega (arith, h)) (marks_bits n (omega (arith, h)))))
      (λ t. rw t (marks_bits n (omega (arith, h))))

  pub marked_bits : Bitmap g.blocks found.marked
  marked_bits = marks_bits g.blocks (omega arith)

  -- the blocks passed over
  abbrev both_bits : List ℕ
  both_bits = union_to found.marked found.carried g.blocks

  both_long : length both_bits ≡ 512
  both_long = union_long found.marked found.carried g.blocks ∙ marked_bits.long

  added : (old b : ℕ) → b < 4096 → bit_at both_bits b ≡ true → bit_at (add_block old both_bits) b ≡ true
  added old b h t =
      cases (ltb old 4096)
      (λ u.
      rw u
      (cases (eqb b old)
      (λ e. let same = eqb-true b old e in subst (λ (k : ℕ). bit_at (with_bit both_bits old) k ≡ true) (sym same) (set_named both_bits old both_long (omega (arith, h, same))))
      (λ e. bit_kept both_bits old b (eqb-false b old e) ∙ t)))
      (λ u. rw u t)

  module _ (b : ℕ) (h : b < g.blocks) where
    low : b < 4096
    low = omega (arith, h, v.blocks_most)

    pub over_marked : is_marked g (block_in g array b) ≡ true → bit_at (passed_over g found) b ≡ true
    unfolding passed_over
    over_marked m = added found.old b low (union_first found.marked found.carried g.blocks b v.blocks_most marked_bits.long (marked_bit b h ∙ m))

    pub over_carried : is_carried g array b ≡ true → bit_at (passed_over g found) b ≡ true
    unfolding passed_over
    over_carried c = added found.old b low (union_second found.marked found.carried g.blocks b v.blocks_most marked_bits.long h (carried_bit b h ∙ c))

    pub over_old : b ≡ found.old → bit_at (passed_over g found) b ≡ true
    unfolding passed_over
    over_old e =
        subst (λ (k : ℕ). bit_at (add_block found.old both_bits) k ≡ true) (sym e)
        (rw (lt-ltb found.old 4096 (omega (arith, e, low))) (set_named both_bits found.old both_long (omega (arith, e, low))))

    -- one that is not passed over
    module _ (f : bit_at (passed_over g found) b ≡ false) where
      pub due_unmarked : is_marked g (block_in g array b) ≡ false
      due_unmarked = cases (is_marked g (block_in g array b)) (λ t. clash (over_marked t) f) (λ t. t)

      pub due_uncarried : is_carried g array b ≡ false
      due_uncarried = cases (is_carried g array b) (λ t. clash (over_carried t) f) (λ t. t)

      pub due_off_old : b ≡ found.old → ⊥
      due_off_old e = clash (over_old e) f

    -- and one that is none of them is not passed over
    pub due_so : is_marked g (block_in g array b) ≡ false → is_carried g array b ≡ false → (b ≡ found.old → ⊥) → bit_at (passed_over g found) b ≡ false
    unfolding passed_over
    due_so m c x =
        let none : bit_at both_bits b ≡ false = union_bit found.marked found.carried g.blocks b v.blocks_most marked_bits.long ∙ rw (marked_bit b h ∙ m, lt-ltb b g.blocks h, carried_bit b h ∙ c) in
        cases (ltb found.old 4096) (λ u. rw u (bit_kept both_bits found.old b x ∙ none)) (λ u. rw u none)

  -- the block of the old table
  module _ (h : found.old < g.blocks) where
    old_at : (o : Pick) → entry_of o < g.blocks → o ≡ at (entry_of o)
    unfolding entry_of
    old_at nothing l = absurd (omega (arith, l, v.blocks_most))
    old_at (at t) l = refl

    pub old_is : carried_table g array ≡ at found.old
    old_is = old_at (carried_table g array) h

    pub old_carried : Carried g array found.old
    old_carried = carried_at g array found.old old_is

    pub old_unlisted : is_carried g array found.old ≡ false
    unfolding listed_by
    old_unlisted = ap (λ (o : Pick). listed_by g array o found.old) old_is ∙ old_carried.own

    pub old_unmarked : is_marked g (block_in g array found.old) ≡ false
    old_unmarked = (complete_pages g (block_in g array found.old) (table_complete g (block_in g array found.old) old_carried.is_table_fact)).unmarked

    pub old_whole : (i : ℕ) → i < g.pages → whole_in g (block_in g array found.old) i ≡ true
    old_whole = (complete_pages g (block_in g array found.old) (table_complete g (block_in g array found.old) old_carried.is_table_fact)).is_whole

    pub old_no_data : is_data g (block_in g array found.old) ≡ false
    unfolding is_data is_table
    old_no_data =
        let row = block_in g array found.old in
        let parts = both (is_complete g row) _ old_carried.is_table_fact in
        cases (is_data_kind (label_in g row 0).kind)
        (λ t. clash parts.1 (kinds_apart (label_in g row 0).kind t))
        (λ f. rw (parts.0, f))

  -- the numbers of unmarked blocks are no greater than the greatest found
  pub found_lower : (b : ℕ) → b < g.blocks → is_marked g (block_in g array b) ≡ false → greatest_to g (block_in g array b) g.pages ≤ found.greatest
  unfolding greatest
  found_lower b h m =
      let same : greatest g (block_in g array b) ≡ greatest_to g (block_in g array b) g.pages = rw m in
      omega (arith, same, greatest_in g array g.blocks b h)
