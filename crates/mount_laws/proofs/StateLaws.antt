-- The state that a mount answered 0 gives counts as mounted. Assumes nothing.
use Prim.Native.Nat.{ℕ, zero, suc, ◌+◌, ◌-◌, ◌*◌, ◌^◌, ◌≤◌, ◌<◌}
use mathlib.Core.Bool.{Bool, true, false, cond, false≢true}
use mathlib.Core.List.{List}
use mathlib.Core.Path.{◌≡◌, refl, sym, ap, subst, ◌∙◌}
use native.Mathlib.Nat.{zero-div}
use native.Mathlib.Omega.{arith}
use borrow.Table.Steps.{cases}
use borrow.Author.Tests.{eqb-true, lt-ltb, le-ltb, ltb-true, ltb-false, not-true}
use lib.Dec.{eqb, ltb}
use lib.ListN.{length, get_or, take, drop, replicate}
use lib.Seq.{get_or-append-add, get_or-drop, ext_get_or}
use Rattle.geometry.specs.declared.Geometry.{Geometry}
use Rattle.geometry.specs.Limits.{Valid}
use Rattle.geometry.specs.Sizes.{chip_size}
use Rattle.bools.proofs.BoolLaws.{both, clash, unless}
use Rattle.cells.specs.Part.{put}
use Rattle.bitmaps.specs.Bitmap.{bit_at, bit_in, byte_of, place_of, clear_from, count_bits, bitmap_bytes}
use Rattle.bitmaps.proofs.BitmapLaws.{bits_none}
use Rattle.pages.specs.Layout.{label_of, all_ones, is_data_kind, is_table_kind}
use Rattle.pages.proofs.LayoutLaws.{kinds_apart}
use Rattle.copies.specs.Blocks.{block_in, page_in, main_in, label_in, is_marked, is_complete, is_table, is_data, is_copy_of}
use Rattle.copies.specs.Current as current
use Rattle.copies.specs.Quick.{quick_number}
use Rattle.copies.specs.Current.{current_table, current_copy, kind_at, number_at, unlisted, clashes, judge_table, mount_answer}
use Rattle.copies.specs.Pick.{Pick, nothing, at, Best, Picked, pick}
use Rattle.copies.specs.Table.{bitmap_of, field_of, lists, clear_where, right_first, right_page, right_to, right_table}
use Rattle.copies.proofs.PickLaws.{pick_is, up_to}
use Rattle.copies.proofs.CompleteLaws.{complete_pages}
use Rattle.state.specs.State as state
use Rattle.state.specs.State.{none, mounted, mounted_with, Mounted}
use Rattle.state.specs.declared.State.{State}
use Rattle.state.proofs.MountedLaws.{clear_each, mounted_holds}
use Rattle.scan_summary.specs.Depth.{has_by, greatest_by, below_by, last_by}
use Rattle.scan_summary.specs.declared.Depth.{Depth}
use Rattle.scan_summary.specs.declared.Depth.TheVariants.{Full}
use Rattle.scan_summary.proofs.DepthLaws.{last_picked}
use Rattle.scan_found.specs.Contents.{entry_of, copies_of, map_in, kinds_of}
use Rattle.scan_found.specs.Found.{bits_at, marks_to}
use Rattle.scan_found.proofs.MapLaws.{length-tabulate, get_d_tabulate}
use Rattle.scan_found.proofs.ToldLaws.{bit-put, bitmap_long}
use Rattle.mount.specs.Mount.{block_of, mounted_state, quick_state, state_by}
use Rattle.mount.proofs.MountLaws.{mark_later, mark_bit, state_by_lem}

-- no bit is set for a block that the test picks, and conversely
pub clear_picked : (test : ℕ → Bool) (bits : List ℕ) (n : ℕ) → clear_where test bits n ≡ true → (b : ℕ) → b < n → test b ≡ true → bit_at bits b ≡ false
unfolding clear_where
clear_picked test bits zero e b h = absurd (omega (arith, h))
clear_picked test bits (suc n) e b h =
    cases (test n)
    (λ p.
    let parts = unless (bit_at bits n) (clear_where test bits n) (sym (rw p) ∙ e) in
    up_to (λ (k : ℕ). test k ≡ true → bit_at bits k ≡ false) n b h (clear_picked test bits n parts.1 b) (λ t. parts.0))
    (λ p.
    let less : clear_where test bits n ≡ true = sym (rw p) ∙ e in
    up_to (λ (k : ℕ). test k ≡ true → bit_at bits k ≡ false) n b h (clear_picked test bits n less b) (λ t. absurd (false≢true (sym p ∙ t))))

pub picked_clear : (test : ℕ → Bool) (bits : List ℕ) (n : ℕ) → ((b : ℕ) → b < n → test b ≡ true → bit_at bits b ≡ false) → clear_where test bits n ≡ true
unfolding clear_where
picked_clear test bits zero f = refl
picked_clear test bits (suc n) f =
    let less = picked_clear test bits n (λ b h. f b (omega (arith, h))) in
    cases (test n) (λ t. rw (t, f n (omega arith) t) less) (λ t. rw t less)

-- a byte and a bit past a bitmap that stands at the start of a buffer of zeros
pub byte_past : (bits : List ℕ) (j : ℕ) → length bits ≤ j → get_or (put 0 bits (replicate 512 0)) j 0 ≡ 0
unfolding put
byte_past bits j h =
    let there : j ≡ length bits + (j - length bits) = omega (arith, h) in
    ap (λ (i : ℕ). get_or (put 0 bits (replicate 512 0)) i 0) there
    ∙ get_or-append-add bits (drop (length bits) (replicate 512 0)) (j - length bits) 0
    ∙ get_or-drop (length bits) (replicate 512 0) (j - length bits) 0
    ∙ (bits_none 0).past (length bits + (j - length bits)) (omega arith)

pub bit_past : (bits : List ℕ) (b : ℕ) → length bits ≤ byte_of b → bit_at (put 0 bits (replicate 512 0)) b ≡ false
unfolding bit_at
bit_past bits b h = ap (λ (x : ℕ). eqb (bit_in x (place_of b)) 1) (byte_past bits (byte_of b) h) ∙ rw (zero-div (2 ^ place_of b))

-- page 0 of a right table
pub right-first : (g : Geometry) (x : List ℕ) (n : ℕ) → 0 < n → right_to g x n ≡ true → right_page g 0 (page_in g x 0) ≡ true
unfolding right_to
right-first g x zero h t = absurd (omega (arith, h))
right-first g x (suc zero) h t = (both (right_page g 0 (page_in g x 0)) _ t).0
right-first g x (suc (suc n)) h t = right-first g x (suc n) (omega arith) (both (right_page g (suc n) (page_in g x (suc n))) _ t).1

-- no bit of its bitmap is set past the last block
fifth_holds : (a b c d e x : Bool) → cond a (cond b (cond c (cond d (cond e x false) false) false) false) false ≡ true → e ≡ true
fifth_holds a b c d e x t =
    let t₁ = (both a (cond b (cond c (cond d (cond e x false) false) false) false) t).1 in
    let t₂ = (both b (cond c (cond d (cond e x false) false) false) t₁).1 in
    let t₃ = (both c (cond d (cond e x false) false) t₂).1 in
    (both e x (both d (cond e x false) t₃).1).0

first_clear : (blocks logical : ℕ) (main : List ℕ) → right_first blocks logical main ≡ true → clear_from (bitmap_of blocks main) blocks (8 * bitmap_bytes blocks - blocks) ≡ true
unfolding right_first
first_clear blocks logical main t =
    fifth_holds (eqb (field_of main 0) blocks) (eqb (field_of main 2) logical) (eqb (field_of main 4) (count_bits (bitmap_of blocks main) blocks)) (eqb (field_of main 6) 8)
    (clear_from (bitmap_of blocks main) blocks (8 * bitmap_bytes blocks - blocks)) (all_ones (drop (8 + bitmap_bytes blocks) main)) t

pub page_clear : (g : Geometry) (page : List ℕ) → right_page g 0 page ≡ true → clear_from (bitmap_of g.blocks (take g.main page)) g.blocks (8 * bitmap_bytes g.blocks - g.blocks) ≡ true
unfolding right_page
page_clear g page t = first_clear g.blocks g.logical (take g.main page) (both (eqb (label_of g.main page).logical 0) _ t).1

-- a table and a copy bear no mark
table_kind_lem : (g : Geometry) (x : List ℕ) → is_table g x ≡ true → (is_marked g x ≡ false) × (is_table_kind (label_in g x 0).kind ≡ true)
unfolding is_table
table_kind_lem g x t =
    let parts = both (is_complete g x) _ t in
    ((complete_pages g x parts.0).unmarked, parts.1)

record CopyLabel (g : Geometry) (logical : ℕ) (x : List ℕ) : Type 0 where
  unmarked : is_marked g x ≡ false
  kind_is : is_data_kind (label_in g x 0).kind ≡ true
  logical_is : (label_in g x 0).logical ≡ logical

copy-label : (g : Geometry) (logical : ℕ) (x : List ℕ) → is_copy_of g logical x ≡ true → CopyLabel g logical x
unfolding is_copy_of is_data
copy-label g logical x t =
    let parts = both (cond (is_complete g x) (is_data_kind (label_in g x 0).kind) false) _ t in
    let kind = both (is_complete g x) _ parts.0 in
    record {
      unmarked = (complete_pages g x kind.0).unmarked;
      kind_is = kind.1;
      logical_is = eqb-true (label_in g x 0).logical logical parts.1;
    }

-- what a mount answered 0 found: a current table that is right and does not list its own block, and no clash
pub record Right (g : Geometry) (array : List ℕ) (table : ℕ) : Type 0 where
  pub is_current : current_table g array ≡ at table
  pub below : table < g.blocks
  pub is_table_fact : is_table g (block_in g array table) ≡ true
  pub right : right_table g (λ b. is_marked g (block_in g array b)) (block_in g array table) ≡ true
  pub own : lists g (block_in g array table) table ≡ false
  pub unclashed : clashes g array table g.blocks ≡ false

module _ (g : Geometry) (array : List ℕ) where
  abbrev table_test : ℕ → Bool
  table_test b = is_table g (block_in g array b)

  of_table : (t : ℕ) → Best table_test (number_at g array) g.blocks t → current_table g array ≡ at t → judge_table g array (at t) ≡ 0 → Right g array t
  unfolding judge_table
  of_table t p e z =
      cases (right_table g (λ b. is_marked g (block_in g array b)) (block_in g array t))
      (λ r.
      cases (lists g (block_in g array t) t)
      (λ l. absurd (omega (arith, rw (r, l) at z)))
      (λ l.
      cases (clashes g array t g.blocks)
      (λ c. absurd (omega (arith, rw (r, l, c) at z)))
      (λ c. record { is_current = e; below = p.below; is_table_fact = p.passes; right = r; own = l; unclashed = c })))
      (λ r. absurd (omega (arith, rw r at z)))

  of_pick : (o : Pick) → Picked table_test (number_at g array) g.blocks o → current_table g array ≡ o → judge_table g array o ≡ 0 → Right g array (block_of o)
  unfolding judge_table block_of
  of_pick nothing p e z = absurd (omega (arith, z))
  of_pick (at t) p e z = of_table t p e z

  pub right_table_fact : mount_answer g array ≡ 0 → Right g array (block_of (current_table g array))
  unfolding mount_answer current_table
  right_table_fact z = of_pick (pick table_test (number_at g array) g.blocks) (pick_is table_test (number_at g array) g.blocks) refl z

  pub right_at_fact : (t : ℕ) → current_table g array ≡ at t → mount_answer g array ≡ 0 → Right g array t
  unfolding block_of
  right_at_fact t e z = subst (Right g array) (ap block_of e) (right_table_fact z)

  -- and conversely
  pub mounts_by : (t : ℕ) → current_table g array ≡ at t → right_table g (λ b. is_marked g (block_in g array b)) (block_in g array t) ≡ true → lists g (block_in g array t) t ≡ false
      → clashes g array t g.blocks ≡ false → mount_answer g array ≡ 0
  unfolding mount_answer judge_table
  mounts_by t e r l c = ap (judge_table g array) e ∙ rw (r, l, c)

-- what the current copies are to a function, by its entries
module _ (f : Pick → ℕ) (past : ℕ) (g : Geometry) (array : List ℕ) (t : ℕ) where
  pub copies_long : length (copies_of f past g array t) ≡ 4096
  copies_long = length-tabulate _ 4096

  pub copies_entry : (l : ℕ) → l < g.logical → l < 4096 → get_or (copies_of f past g array t) l 0 ≡ f (current_copy g array t l)
  copies_entry l h k = get_d_tabulate _ 4096 l k ∙ rw (lt-ltb l g.logical h)

  pub copies_end : (l : ℕ) → g.logical ≤ l → l < 4096 → get_or (copies_of f past g array t) l 0 ≡ past
  copies_end l h k = get_d_tabulate _ 4096 l k ∙ rw (le-ltb l g.logical h)

  pub copies_told : (xs : List ℕ) → length xs ≡ 4096 → ((l : ℕ) → l < g.logical → l < 4096 → get_or xs l 0 ≡ f (current_copy g array t l)) → ((l : ℕ) → g.logical ≤ l → l < 4096 → get_or xs l 0 ≡ past)
      → copies_of f past g array t ≡ xs
  copies_told xs long each later =
      ext_get_or 0 (copies_of f past g array t) xs (copies_long ∙ sym long)
      (λ l h.
      let k : l < 4096 = omega (arith, h, copies_long) in
      cases (ltb l g.logical)
      (λ u. let i = ltb-true l g.logical u in copies_entry l i k ∙ sym (each l i k))
      (λ u. let i = ltb-false l g.logical u in copies_end l i k ∙ sym (later l i k)))

-- the map of the current copies, and their kinds
module _ (g : Geometry) (array : List ℕ) (t : ℕ) where
  pub map_long : length (map_in g array t) ≡ 4096
  unfolding map_in
  map_long = copies_long entry_of none g array t

  pub map_entry : (l : ℕ) → l < g.logical → l < 4096 → get_or (map_in g array t) l 0 ≡ entry_of (current_copy g array t l)
  unfolding map_in
  map_entry = copies_entry entry_of none g array t

  pub map_end : (l : ℕ) → g.logical ≤ l → l < 4096 → get_or (map_in g array t) l 0 ≡ none
  unfolding map_in
  map_end = copies_end entry_of none g array t

  pub map_told : (xs : List ℕ) → length xs ≡ 4096 → ((l : ℕ) → l < g.logical → l < 4096 → get_or xs l 0 ≡ entry_of (current_copy g array t l)) → ((l : ℕ) → g.logical ≤ l → l < 4096 → get_or xs l 0 ≡ none)
      → map_in g array t ≡ xs
  unfolding map_in
  map_told = copies_told entry_of none g array t

  pub kinds_long : length (kinds_of g array t) ≡ 4096
  unfolding kinds_of
  kinds_long = copies_long (kind_at g array) 0 g array t

  pub kinds_entry : (l : ℕ) → l < g.logical → l < 4096 → get_or (kinds_of g array t) l 0 ≡ kind_at g array (current_copy g array t l)
  unfolding kinds_of
  kinds_entry = copies_entry (kind_at g array) 0 g array t

  pub kinds_end : (l : ℕ) → g.logical ≤ l → l < 4096 → get_or (kinds_of g array t) l 0 ≡ 0
  unfolding kinds_of
  kinds_end = copies_end (kind_at g array) 0 g array t

  pub kinds_told : (xs : List ℕ) → length xs ≡ 4096 → ((l : ℕ) → l < g.logical → l < 4096 → get_or xs l 0 ≡ kind_at g array (current_copy g array t l)) → ((l : ℕ) → g.logical ≤ l → l < 4096 → get_or xs l 0 ≡ 0)
      → kinds_of g array t ≡ xs
  unfolding kinds_of
  kinds_told = copies_told (kind_at g array) 0 g array t

pick_below : (test : ℕ → Bool) (number : ℕ → ℕ) (n : ℕ) → 0 < n → (o : Pick) → Picked test number n o → block_of o < n
unfolding block_of
pick_below test number n h nothing p = h
pick_below test number n h (at m) p = p.below

module _ (g : Geometry) (v : Valid g) (array : List ℕ) (long : length array ≡ chip_size g) (t : ℕ) (r : Right g array t) where
  abbrev row : ℕ → List ℕ
  row b = block_in g array b

  abbrev bits : List ℕ
  bits = bitmap_of g.blocks (main_in g (row t) 0)

  abbrev marks : List ℕ
  marks = marks_to g array g.blocks

  abbrev map : List ℕ
  map = map_in g array t

  pub bits_long : length bits ≡ bitmap_bytes g.blocks
  bits_long = bitmap_long g v array long t r.below

  -- the marks
  pub marked_is : (b : ℕ) → b < g.blocks → bit_at marks b ≡ is_marked g (row b)
  marked_is = mark_bit g array g.blocks v.blocks_most

  -- the bits of the table
  pub invalid_is : (b : ℕ) → b < g.blocks → bit_at (bits_at g array t) b ≡ lists g (row t) b
  invalid_is b h = bit-put bits (replicate 512 0) b (omega (arith, h, bits_long))

  pub right_parts : (right_to g (row t) g.pages ≡ true) × (clear_where (λ b. is_marked g (row b)) bits g.blocks ≡ true)
  unfolding right_table
  right_parts = both (right_to g (row t) g.pages) _ r.right

  bits_clear : clear_from bits g.blocks (8 * bitmap_bytes g.blocks - g.blocks) ≡ true
  bits_clear = page_clear g (page_in g (row t) 0) (right-first g (row t) g.pages (omega (arith, v.pages_least)) right_parts.0)

  pub invalid_ends : (b : ℕ) → g.blocks ≤ b → b < 4096 → bit_at (bits_at g array t) b ≡ false
  invalid_ends b h l =
      cases (ltb b (8 * bitmap_bytes g.blocks))
      (λ u.
      let inside = ltb-true b (8 * bitmap_bytes g.blocks) u in
      bit-put bits (replicate 512 0) b (omega (arith, inside, bits_long))
      ∙ clear_each bits g.blocks (8 * bitmap_bytes g.blocks - g.blocks) bits_clear b h (omega (arith, inside, h)))
      (λ u. bit_past bits b (omega (arith, ltb-false b (8 * bitmap_bytes g.blocks) u, bits_long)))

  never : (b : ℕ) → b < 4096 → bit_at marks b ≡ true → bit_at (bits_at g array t) b ≡ false
  never b l m =
      cases (ltb b g.blocks)
      (λ u.
      let h = ltb-true b g.blocks u in
      invalid_is b h ∙ clear_picked (λ k. is_marked g (row k)) bits g.blocks right_parts.1 b h (sym (marked_is b h) ∙ m))
      (λ u. invalid_ends b (ltb-false b g.blocks u) l)

  -- the block filled last
  pub last_on_chip : (depth : Depth) → block_of (last_by depth g array) < g.blocks
  last_on_chip depth =
      subst (λ (o : Pick). block_of o < g.blocks) (sym (last_picked depth g array))
      (pick_below (λ b. has_by depth g (row b)) (λ b. greatest_by depth g (row b)) g.blocks (omega (arith, v.blocks_least)) _
      (pick_is (λ b. has_by depth g (row b)) (λ b. greatest_by depth g (row b)) g.blocks))

  -- the entries of the map
  abbrev copy_test : ℕ → ℕ → Bool
  copy_test l b = cond (unlisted g array t b) (is_copy_of g l (row b)) false

  logical_few : g.logical ≤ 4096
  logical_few = omega (arith, v.logical_most, v.blocks_most)

  pub entry_is : (l : ℕ) → l < g.logical → get_or map l 0 ≡ entry_of (current_copy g array t l)
  entry_is l h = map_entry g array t l h (omega (arith, h, logical_few))

  -- an entry that is not empty: the block of a copy that is not listed
  record Entry (l b : ℕ) : Type 0 where
    below : b < g.blocks
    valid : lists g (row t) b ≡ false
    label : CopyLabel g l (row b)

  pick_entry : (l : ℕ) (o : Pick) → Picked (copy_test l) (number_at g array) g.blocks o → (entry_of o ≡ none → ⊥) → Entry l (entry_of o)
  unfolding entry_of
  pick_entry l nothing p x = absurd (x refl)
  pick_entry l (at b) p x =
      let parts = both (unlisted g array t b) (is_copy_of g l (row b)) p.passes in
      record { below = p.below; valid = not-true (lists g (row t) b) parts.0; label = copy-label g l (row b) parts.1 }

  entry : (l : ℕ) → l < g.logical → (get_or map l 0 ≡ none → ⊥) → Entry l (get_or map l 0)
  unfolding current_copy
  entry l h x =
      let e = entry_is l h in
      subst (Entry l) (sym e) (pick_entry l (pick (copy_test l) (number_at g array) g.blocks) (pick_is (copy_test l) (number_at g array) g.blocks) (λ z. x (e ∙ z)))

  table_parts : (is_marked g (row t) ≡ false) × (is_table_kind (label_in g (row t) 0).kind ≡ true)
  table_parts = table_kind_lem g (row t) r.is_table_fact

  off_table : (l : ℕ) → l < g.logical → (get_or map l 0 ≡ none → ⊥) → get_or map l 0 ≡ t → ⊥
  off_table l h x e =
      clash table_parts.1 (kinds_apart (label_in g (row t) 0).kind (sym (ap (λ (b : ℕ). is_data_kind (label_in g (row b) 0).kind) e) ∙ (entry l h x).label.kind_is))

  once_named : (l k : ℕ) → l < g.logical → k < g.logical → (l ≡ k → ⊥) → (get_or map l 0 ≡ none → ⊥) → get_or map l 0 ≡ get_or map k 0 → ⊥
  once_named l k h i d x e =
      d (sym (entry l h x).label.logical_is ∙ ap (λ (b : ℕ). (label_in g (row b) 0).logical) e ∙ (entry k i (λ z. x (e ∙ z))).label.logical_is)

  -- a state with the table that was found, whatever its next number, the block filled last and the kinds
  module _ (n last : ℕ) (kinds : List ℕ) (on_chip : last < g.blocks) where
    abbrev known : State
    known = mounted_with n t last marks (bits_at g array t) map kinds

    facts : Mounted known g.blocks g.logical
    facts =
        record {
          status_one = refl;
          last_below = on_chip;
          marks_end = mark_later g array g.blocks;
          invalid_end = invalid_ends;
          apart = never;
          entries_end = map_end g array t;
          table_below = r.below;
          table_unmarked = marked_is t r.below ∙ table_parts.0;
          table_valid = invalid_is t r.below ∙ r.own;
          copy_below = λ l h x. (entry l h x).below;
          copy_unmarked = λ l h x. marked_is _ (entry l h x).below ∙ (entry l h x).label.unmarked;
          copy_valid = λ l h x. invalid_is _ (entry l h x).below ∙ (entry l h x).valid;
          copy_off_table = off_table;
          once = once_named;
        }

    pub known_mounted : mounted known g.blocks g.logical ≡ true
    known_mounted = mounted_holds known g.blocks g.logical v.blocks_most facts

-- its next number is the one that the definitions on the array give, by the pages that a mount of either depth reads
pub mounted_next : (g : Geometry) (array : List ℕ) → state.next_number (mounted_state g array) ≡ current.next_number g array
unfolding mounted_state current.next_number
mounted_next g array = refl

pub quick_next : (g : Geometry) (array : List ℕ) → state.next_number (quick_state g array) ≡ quick_number g array
unfolding quick_state quick_number
quick_next g array = refl

-- a state that is handed out with 0 counts as mounted
pub mounted-state : (depth : Depth) (g : Geometry) → Valid g → (array : List ℕ) → length array ≡ chip_size g → mount_answer g array ≡ 0 → mounted (state_by depth g array) g.blocks g.logical ≡ true
mounted-state depth g v array long z =
    let t = block_of (current_table g array) in
    let r = right_table_fact g array z in
    subst (λ (st : State). mounted st g.blocks g.logical ≡ true) (state_by_lem depth g array)
    (known_mounted g v array long t r (below_by depth g array g.blocks) (block_of (last_by depth g array)) (kinds_of g array t) (last_on_chip g v array long t r depth))

-- as a full mount gives it
pub full_mounted : (g : Geometry) → Valid g → (array : List ℕ) → length array ≡ chip_size g → mount_answer g array ≡ 0 → mounted (mounted_state g array) g.blocks g.logical ≡ true
unfolding state_by
full_mounted = mounted-state Full
