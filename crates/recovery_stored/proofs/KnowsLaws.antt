-- A state that knows the array: mounting gives one, it counts as mounted, and its bits and entries are the array's. Assumes nothing.
use Prim.Native.Nat.{ℕ, ◌<◌}
use mathlib.Core.Bool.{true, false}
use mathlib.Core.List.{List}
use mathlib.Core.Path.{◌≡◌, refl, sym, ap, subst, ◌∙◌}
use native.Mathlib.Omega.{arith}
use lib.ListN.{length, get_or, replicate, length-replicate}
use Rattle.geometry.specs.declared.Geometry.{Geometry}
use Rattle.geometry.specs.Limits.{Valid}
use Rattle.geometry.specs.Sizes.{chip_size}
use Rattle.cells.specs.Bytes.{Bytes}
use Rattle.cells.specs.Part.{put}
use Rattle.cells.proofs.PartLaws.{length-put, bytes_part}
use Rattle.cells.proofs.CellLaws.{bytes_append, bytes_take, bytes_drop}
use Rattle.pages.proofs.OverLaws.{over_bytes_to}
use Rattle.bitmaps.specs.Bitmap.{bit_at, bitmap_bytes}
use Rattle.bitmaps.proofs.BitmapLaws.{Bitmap, bits_none}
use Rattle.copies.specs.Blocks.{block_in, page_in, main_in, is_marked}
use Rattle.copies.specs.Table.{bitmap_of, lists}
use Rattle.copies.specs.Current.{current_table, current_copy, kind_at, mount_answer}
use Rattle.copies.proofs.CompleteLaws.{complete_pages, table_complete}
use Rattle.scan_found.specs.Contents.{entry_of, kinds_of}
use Rattle.scan_found.specs.Found.{bits_at}
use Rattle.state.specs.State.{mounted, Mounted, held_bits}
use Rattle.state.specs.declared.State.{State}
use Rattle.state.proofs.HeldLaws.{free_table, free_entry}
use Rattle.state.proofs.MountedLaws.{mounted_facts}
use Rattle.state.proofs.NumberLaws.{mounted-told}
use Rattle.mount.specs.Mount.{block_of, mounted_state, state_by}
use Rattle.mount.proofs.MountLaws.{state_by_lem}
use Rattle.scan_summary.specs.declared.Depth.{Depth}
use Rattle.scan_summary.specs.declared.Depth.TheVariants.{Full}
use Rattle.scan_summary.proofs.DepthLaws.{copy_below}
use Rattle.mount.proofs.MountLaws.{mark_bit}
use Rattle.mount_laws.proofs.StateLaws.{Right, right_table_fact, right_at_fact, bits_long, byte_past, invalid_is, invalid_ends, last_on_chip, entry_is, kinds_entry, known_mounted}
use Rattle.recovery_stored.specs.Stored.{Stored}
use Rattle.recovery_stored.specs.After.{Free}
use Rattle.recovery_stored.specs.Knows.{Knows}

pub mounted_knows : (depth : Depth) (g : Geometry) → Valid g → (array : List ℕ) → length array ≡ chip_size g → mount_answer g array ≡ 0 → Knows g array (state_by depth g array)
mounted_knows depth g v array long z =
    let t = block_of (current_table g array) in
    let r = right_table_fact g array z in
    subst (Knows g array) (state_by_lem depth g array)
    (record {
      status_one = refl;
      table_is = r.is_current;
      marked_is = refl;
      invalid_is = refl;
      map_is = refl;
      kinds_is = refl;
      last_below = last_on_chip g v array long t r depth;
      numbers = λ b h c. omega (arith, copy_below depth g v array b h c);
    })

pub full_knows : (g : Geometry) → Valid g → (array : List ℕ) → length array ≡ chip_size g → mount_answer g array ≡ 0 → Knows g array (mounted_state g array)
unfolding state_by
full_knows = mounted_knows Full

-- the bitmap of the current table, as a mount copies it
module _ (g : Geometry) (array : List ℕ) (t : ℕ) (s : Stored g array) (r : Right g array t) where
  abbrev bits : List ℕ
  bits = bitmap_of g.blocks (main_in g (block_in g array t) 0)

  bits_bytes : Bytes bits
  bits_bytes =
      let clear = (complete_pages g (block_in g array t) (table_complete g (block_in g array t) r.is_table_fact)).unmarked in
      let page = s.left t t 0 r.is_current r.below (omega (arith, s.is_valid.pages_least)) clear r.own in
      bytes_part 8 (bitmap_bytes g.blocks) (main_in g (block_in g array t) 0) (bytes_take g.main (page_in g (block_in g array t) 0) (over_bytes_to page.is_over))

  few : length bits ≡ bitmap_bytes g.blocks
  few = bits_long g s.is_valid array s.array_long t r

  table_bits : Bitmap g.blocks (bits_at g array t)
  unfolding put
  table_bits =
      record {
        long = length-put 0 bits (replicate 512 0) (omega (arith, few, s.is_valid.blocks_most, length-replicate {A = ℕ} 512 0)) ∙ length-replicate {A = ℕ} 512 0;
        bytes = bytes_append bits _ bits_bytes (bytes_drop (length bits) (replicate 512 0) (bits_none g.blocks).bytes);
        past = λ j h. byte_past bits j (omega (arith, few, h));
        clear = invalid_ends g s.is_valid array s.array_long t r;
      }

module _ (g : Geometry) (array : List ℕ) (st : State) (s : Stored g array) (k : Knows g array st) where
  v : Valid g
  v = s.is_valid

  found : Right g array st.table
  found = right_at_fact g array st.table k.table_is s.mounts

  pub knows_mounted : mounted st g.blocks g.logical ≡ true
  knows_mounted =
      subst (λ (x : State). mounted x g.blocks g.logical ≡ true)
      (sym (mounted-told st k.status_one refl refl refl k.marked_is k.invalid_is k.map_is k.kinds_is))
      (known_mounted g v array s.array_long st.table found st.number st.last (kinds_of g array st.table) k.last_below)

  pub knows_facts : Mounted st g.blocks g.logical
  knows_facts = mounted_facts st g.blocks g.logical v.blocks_most knows_mounted

  pub knows_table : st.table < g.blocks
  knows_table = found.below

  pub knows_marked : (b : ℕ) → b < g.blocks → bit_at st.marked b ≡ is_marked g (block_in g array b)
  knows_marked b h = ap (λ (x : List ℕ). bit_at x b) k.marked_is ∙ mark_bit g array g.blocks v.blocks_most b h

  pub knows_invalid : (b : ℕ) → b < g.blocks → bit_at st.invalid b ≡ lists g (block_in g array st.table) b
  knows_invalid b h = ap (λ (x : List ℕ). bit_at x b) k.invalid_is ∙ invalid_is g v array s.array_long st.table found b h

  pub knows_bits : Bitmap g.blocks st.invalid
  knows_bits = subst (Bitmap g.blocks) (sym k.invalid_is) (table_bits g array st.table s found)

  pub knows_entry : (l : ℕ) → l < g.logical → get_or st.map l 0 ≡ entry_of (current_copy g array st.table l)
  knows_entry l h = ap (λ (x : List ℕ). get_or x l 0) k.map_is ∙ entry_is g v array s.array_long st.table found l h

  pub knows_kind : (l : ℕ) → l < g.logical → get_or st.kinds l 0 ≡ kind_at g array (current_copy g array st.table l)
  knows_kind l h = ap (λ (x : List ℕ). get_or x l 0) k.kinds_is ∙ kinds_entry g array st.table l h (omega (arith, h, v.logical_most, v.blocks_most))

  -- a block that is not marked, not invalid and not held may be filled
  pub knows_free : (b : ℕ) → b < g.blocks → bit_at st.marked b ≡ false → bit_at st.invalid b ≡ false → bit_at (held_bits st g.logical) b ≡ false → Free g array st.table b
  unfolding entry_of
  knows_free b h m i f =
      let low : b < 4096 = omega (arith, h, v.blocks_most) in
      record {
        below = h;
        unmarked = sym (knows_marked b h) ∙ m;
        unlisted = sym (knows_invalid b h) ∙ i;
        off_table = free_table st g.logical b low f;
        off_copies = λ l k e. free_entry st g.logical b low f l k (knows_entry l k ∙ ap entry_of e);
      }
