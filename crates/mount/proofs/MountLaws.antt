-- What a mount makes of a scan is what the definitions on the array say. Assumes nothing.
use Prim.Native.Nat.{ℕ, zero, suc, ◌≤◌, ◌<◌}
use mathlib.Core.Bool.{Bool, true, false, cond}
use mathlib.Core.List.{List}
use mathlib.Core.Logic.{⊎_elim}
use mathlib.Core.Path.{◌≡◌, refl, sym, ap, ◌∙◌}
use native.Mathlib.Omega.{arith}
use borrow.Table.Steps.{cases}
use borrow.Author.Tests.{eq-eqb, ne_eqb}
use lib.Dec.{eqb}
use lib.ListN.{length, replicate, length-set, length-replicate}
use Rattle.geometry.specs.declared.Geometry.{Geometry}
use Rattle.geometry.specs.Limits.{Valid}
use Rattle.geometry.specs.Sizes.{chip_size}
use Rattle.bitmaps.specs.Bitmap.{bit_at, byte_of, with_bit, never_both}
use Rattle.bitmaps.proofs.BitLaws.{bit-set, bit_kept}
use Rattle.copies.specs.Blocks.{block_in, is_marked, is_table, main_in}
use Rattle.copies.specs.Current.{number_at, current_table, judge_table, mount_answer}
use Rattle.copies.specs.Pick.{Pick, nothing, at, pick, Picked, some_below}
use Rattle.copies.specs.Table.{bitmap_of, clear_where, lists, own_count, right_to, right_table}
use Rattle.copies.proofs.PickLaws.{pick_is, up_to}
use Rattle.state.specs.State.{mounted_with}
use Rattle.scan_summary.specs.Depth.{below_by, last_by}
use Rattle.scan_summary.specs.declared.Depth.{Depth}
use Rattle.scan_summary.specs.declared.Depth.TheVariants.{Full, Quick}
use Rattle.scan_summary.proofs.DepthLaws.{last_picked}
use Rattle.scan_found.specs.Contents.{Contents, contents, contents_to, clashing, map_to, kinds_to, map_in, kinds_of}
use Rattle.scan_found.specs.Found.{found_to, bits_at, right_at, marks_to}
use Rattle.scan_found.proofs.FoundLaws.{found_marked, found_greatest, most_found, Kept, kept, Chosen, Missing, table_found}
use Rattle.scan_found.proofs.ToldLaws.{Told, told, bit_is, clash_same}
use Rattle.scan_found.proofs.MapLaws.{map_is, kinds_is}
use Rattle.mount_judge.specs.Judging.{judged_by, state_of}
use Rattle.mount.specs.Mount.{block_of, state_with, mounted_state, quick_state, state_by}
use Rattle.bitmaps.proofs.BitmapLaws.{blank-bit}

-- what tells picks apart
unfoldable place_in : Pick → ℕ
place_in nothing = 0
place_in (at m) = suc m

not_nothing : {t : ℕ} → nothing ≡ at t → ⊥
unfolding place_in
not_nothing {t} e = let z : 0 ≡ suc t = ap place_in e in omega (arith, z)

same_place : {m t : ℕ} → at m ≡ at t → m ≡ t
unfolding place_in
same_place {m} {t} e = let z : suc m ≡ suc t = ap place_in e in omega (arith, z)

-- a block that is picked
below_of : (test : ℕ → Bool) (number : ℕ → ℕ) (n : ℕ) (o : Pick) → Picked test number n o → (t : ℕ) → o ≡ at t → t < n
below_of test number n nothing p t e = absurd (not_nothing e)
below_of test number n (at m) p t e = omega (arith, p.below, same_place e)

-- the marks are a bit for each block
module _ (g : Geometry) (array : List ℕ) where
  marks_long : (n : ℕ) → length (marks_to g array n) ≡ 512
  unfolding marks_to with_bit
  marks_long zero = length-replicate {A = ℕ} 512 0
  marks_long (suc n) =
      cases (is_marked g (block_in g array n))
      (λ t. rw t (length-set (marks_to g array n) (byte_of n) _ ∙ marks_long n))
      (λ t. rw t (marks_long n))

  -- below n that of the mark, from n on none
  pub mark_later : (n b : ℕ) → n ≤ b → b < 4096 → bit_at (marks_to g array n) b ≡ false
  unfolding marks_to
  mark_later zero b h r = blank-bit 512 b
  mark_later (suc n) b h r =
      cases (is_marked g (block_in g array n))
      (λ t. rw t (bit_kept (marks_to g array n) n b (λ e. omega (arith, e, h)) ∙ mark_later n b (omega (arith, h)) r))
      (λ t. rw t (mark_later n b (omega (arith, h)) r))

  mark_next : (n b : ℕ) → n < 4096 → b < suc n → ((k : ℕ) → k < n → bit_at (marks_to g array n) k ≡ is_marked g (block_in g array k))
      → bit_at (marks_to g array (suc n)) b ≡ is_marked g (block_in g array b)
  unfolding marks_to
  mark_next n b room h less =
      cases (is_marked g (block_in g array n))
      (λ t.
      up_to (λ (x : ℕ). bit_at (cond (is_marked g (block_in g array n)) (with_bit (marks_to g array n) n) (marks_to g array n)) x ≡ is_marked g (block_in g array x)) n b h
      (λ l. rw t (bit_kept (marks_to g array n) n b (λ e. omega (arith, e, l)) ∙ less b l))
      (rw t (bit-set (marks_to g array n) n (omega (arith, room, marks_long n)))))
      (λ t.
      up_to (λ (x : ℕ). bit_at (cond (is_marked g (block_in g array n)) (with_bit (marks_to g array n) n) (marks_to g array n)) x ≡ is_marked g (block_in g array x)) n b h
      (λ l. rw t (less b l))
      (rw t (mark_later n n (omega arith) room)))

  pub mark_bit : (n : ℕ) → n ≤ 4096 → (b : ℕ) → b < n → bit_at (marks_to g array n) b ≡ is_marked g (block_in g array b)
  mark_bit zero room b h = absurd (omega (arith, h))
  mark_bit (suc n) room b h = mark_next n b (omega (arith, room)) h (mark_bit n (omega (arith, room)))

-- two bitmaps never both, told by tests that agree with them
never_where : (xs ys zs : List ℕ) (test : ℕ → Bool) (n : ℕ) → ((b : ℕ) → b < n → bit_at xs b ≡ test b) → ((b : ℕ) → b < n → bit_at ys b ≡ bit_at zs b) → never_both xs ys n ≡ clear_where test zs n
unfolding never_both clear_where
never_where xs ys zs test zero e f = refl
never_where xs ys zs test (suc n) e f =
    rw (e n (omega arith), f n (omega arith), never_where xs ys zs test n (λ b h. e b (omega (arith, h))) (λ b h. f b (omega (arith, h))))

-- the state of either depth, from the numbers that it finds
pub state_by_lem : (depth : Depth) (g : Geometry) (array : List ℕ) → state_with g array (below_by depth g array g.blocks) (last_by depth g array) ≡ state_by depth g array
unfolding state_by mounted_state quick_state below_by last_by
state_by_lem Full g array = refl
state_by_lem Quick g array = refl

-- the scan of a whole array of the right length
module _ (depth : Depth) (g : Geometry) (v : Valid g) (array : List ℕ) (long : length array ≡ chip_size g) where
  three : 3 ≤ g.pages
  three = omega (arith, v.pages_least)

  abbrev all : Contents
  all = contents_to depth g array (contents (replicate 4096 0) (replicate 4096 0) (replicate 4096 0)) g.blocks

  all_told : Told g array g.blocks all
  all_told = told depth g three array g.blocks v.blocks_most

  -- the current table is on the chip
  pub table_below : (t : ℕ) → current_table g array ≡ at t → t < g.blocks
  unfolding current_table
  table_below t e = below_of (λ b. is_table g (block_in g array b)) (number_at g array) g.blocks (pick (λ b. is_table g (block_in g array b)) (number_at g array) g.blocks) (pick_is (λ b. is_table g (block_in g array b)) (number_at g array) g.blocks) t e

  -- what it lists
  pub bit_of : (t : ℕ) → t < g.blocks → (b : ℕ) → b < g.blocks → bit_at (bits_at g array t) b ≡ lists g (block_in g array t) b
  bit_of = bit_is g v array long all all_told

  pub clear_is : (t : ℕ) → t < g.blocks → never_both (marks_to g array g.blocks) (bits_at g array t) g.blocks ≡ clear_where (λ b. is_marked g (block_in g array b)) (bitmap_of g.blocks (main_in g (block_in g array t) 0)) g.blocks
  clear_is t h =
      never_where (marks_to g array g.blocks) (bits_at g array t) (bitmap_of g.blocks (main_in g (block_in g array t) 0)) (λ b. is_marked g (block_in g array b)) g.blocks
      (mark_bit g array g.blocks v.blocks_most)
      (bit_of t h)

  -- with the pages right or not
  two_tests : (a l b : Bool) (x : ℕ) → cond (eqb (cond a 1 (cond l 2 0)) 1) (cond b x 5) 5 ≡ cond (cond a b false) x 5
  two_tests true l b x = refl
  two_tests false true b x = refl
  two_tests false false b x = refl

  judge_chosen : (t : ℕ) → t < g.blocks
      → cond (eqb (right_at g array t) 1) (cond (never_both (marks_to g array g.blocks) (bits_at g array t) g.blocks) (cond (bit_at (bits_at g array t) t) 5 (cond (some_below (clashing all (bits_at g array t) g.logical) g.blocks) 6 0)) 5) 5
      ≡ judge_table g array (at t)
  unfolding judge_table right_table
  judge_chosen t h =
      rw (clear_is t h, bit_is g v array long all all_told t h t h, clash_same g v array long all all_told t h)
      (two_tests (right_to g (block_in g array t) g.pages) (right_to (own_count g (block_in g array t)) (block_in g array t) g.pages) (clear_where (λ b. is_marked g (block_in g array b)) (bitmap_of g.blocks (main_in g (block_in g array t) 0)) g.blocks) _)

  judge_missing : Missing depth g three array g.blocks (kept (found_to depth g array g.blocks)) → judged_by g (found_to depth g array g.blocks) all ≡ mount_answer g array
  unfolding judged_by mount_answer judge_table current_table
  judge_missing m =
      let f = found_to depth g array g.blocks in
      rw (m.tables_none, m.none_picked)

  picked_table : (k : Kept) → Chosen depth g three array g.blocks k → current_table g array ≡ at k.table
  unfolding current_table
  picked_table k c = c.is_picked

  judge_found : Chosen depth g three array g.blocks (kept (found_to depth g array g.blocks)) → judged_by g (found_to depth g array g.blocks) all ≡ mount_answer g array
  unfolding judged_by mount_answer
  judge_found c =
      let f = found_to depth g array g.blocks in
      let here = picked_table (kept f) c in
      rw (c.tables_one, c.right_is, c.bits_are, found_marked depth g three array g.blocks, here) (judge_chosen f.table (table_below f.table here))

  -- the answer from what was found is the answer that the array's definitions give
  pub judge_is : judged_by g (found_to depth g array g.blocks) all ≡ mount_answer g array
  judge_is = ⊎_elim judge_missing judge_found (table_found depth g three array g.blocks)

  last_is : block_of (last_by depth g array) ≡ (found_to depth g array g.blocks).last
  unfolding block_of
  last_is =
      ap block_of (last_picked depth g array)
      ∙ ⊎_elim (λ u. rw u.picked (sym u.last_none)) (λ r. rw r.picked) (most_found depth g three array g.blocks)

  state_found : Chosen depth g three array g.blocks (kept (found_to depth g array g.blocks)) → state_of g (found_to depth g array g.blocks) all ≡ state_by depth g array
  unfolding block_of
  state_found c =
      let f = found_to depth g array g.blocks in
      let here = picked_table (kept f) c in
      let t : f.table ≡ block_of (current_table g array) = sym (ap block_of here) in
      let bits : f.bits ≡ bits_at g array (block_of (current_table g array)) = c.bits_are ∙ ap (bits_at g array) t in
      let map-here : map_to all f.bits g.blocks g.logical (replicate 4096 65535) g.blocks ≡ map_in g array f.table =
      ap (λ (x : List ℕ). map_to all x g.blocks g.logical (replicate 4096 65535) g.blocks) c.bits_are
      ∙ map_is g v array long all all_told f.table (table_below f.table here) in
      let map : map_to all f.bits g.blocks g.logical (replicate 4096 65535) g.blocks ≡ map_in g array (block_of (current_table g array)) = map-here ∙ ap (map_in g array) t in
      let kinds : kinds_to all (map_to all f.bits g.blocks g.logical (replicate 4096 65535) g.blocks) (replicate 4096 0) g.logical ≡ kinds_of g array (block_of (current_table g array)) =
      ap (λ (x : List ℕ). kinds_to all x (replicate 4096 0) g.logical) map-here
      ∙ kinds_is g v array long all all_told f.table (table_below f.table here)
      ∙ ap (kinds_of g array) t in
      (λ i. mounted_with (found_greatest depth g three array g.blocks i) (t i) (sym last_is i) (found_marked depth g three array g.blocks i) (bits i) (map i) (kinds i)) ∙ state_by_lem depth g array

  -- without a table there is no state
  missing_answer : Missing depth g three array g.blocks (kept (found_to depth g array g.blocks)) → mount_answer g array ≡ 4
  unfolding mount_answer judge_table current_table
  missing_answer m = rw m.none_picked

  -- the state from what was found is the state that the array's definitions give
  pub state_is : mount_answer g array ≡ 0 → state_of g (found_to depth g array g.blocks) all ≡ state_by depth g array
  state_is z = ⊎_elim (λ m. absurd (omega (arith, z, missing_answer m))) state_found (table_found depth g three array g.blocks)
