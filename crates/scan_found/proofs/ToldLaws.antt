-- The copies found are those of the array: what each block's entry tells, and the tests on them. Assumes nothing.
use Prim.Native.Nat.{ℕ, zero, suc, ◌+◌, ◌*◌, ◌/◌, ◌≤◌, ◌<◌}
use mathlib.Core.Bool.{true, false, cond, false≢true}
use mathlib.Core.List.{List}
use mathlib.Core.Path.{◌≡◌, refl, sym, ap, ◌∙◌}
use native.Mathlib.Nat.{mul-le-mul_right}
use native.Mathlib.Omega.{arith}
use borrow.Table.Steps.{cases}
use borrow.Author.Tests.{eq-eqb, ne_eqb}
use lib.Dec.{eqb, leb}
use lib.ListN.{length, get_or, set, drop, replicate, length-set, length-replicate, get_or-append}
use lib.Seq.{get_or-set_same, get_or-set_other, length-take-le}
use Rattle.geometry.specs.declared.Geometry.{Geometry}
use Rattle.geometry.specs.Limits.{Valid}
use Rattle.geometry.specs.Sizes.{page_size, block_size, chip_size}
use Rattle.bools.proofs.BoolLaws.{both}
use Rattle.geometry.proofs.SizeLaws.{block_within}
use Rattle.cells.proofs.PartLaws.{length_part}
use Rattle.bitmaps.specs.Bitmap.{bit_at, bit_in, place_of, bitmap_bytes}
use Rattle.cells.specs.Part.{put}
use Rattle.copies.specs.Blocks.{block_in, page_in, main_in, is_complete, is_data, label_in}
use Rattle.copies.specs.Current.{number_at, unlisted, counts, shares_number, clashes_at, clashes}
use Rattle.copies.specs.Pick.{some_below}
use Rattle.copies.specs.Table.{bitmap_of, lists}
use Rattle.table.proofs.TableLaws.{valid_roomy}
use Rattle.scan_summary.specs.declared.Depth.{Depth}
use Rattle.scan_summary.specs.declared.Depth.TheVariants.{Full}
use Rattle.scan_summary.proofs.DepthLaws.{says_complete_fact, complete_label}
use Rattle.copies.proofs.PickLaws.{up_to, some_same}
use Rattle.scan_found.specs.Contents.{Contents, contents, copy_noted, contents_to, counted, bears, past_last, clashing}
use Rattle.scan_found.specs.Found.{summary_at, bits_at}

-- any entry of zeros
zero_entry : (n b : ℕ) → ◌≡◌ {A = ℕ} (get_or (replicate n 0) b 0) 0
zero_entry zero b = refl
zero_entry (suc n) zero = refl
zero_entry (suc n) (suc b) = zero_entry n b

-- an entry that is not set
other_entry : (xs : List ℕ) (n b v : ℕ) → (b ≡ n → ⊥) → get_or (set xs n v) b 0 ≡ get_or xs b 0
other_entry xs n b v h = get_or-set_other xs n b v 0 h

module _ (g : Geometry) (array : List ℕ) where
  -- after the first n blocks
  pub record Told (n : ℕ) (c : Contents) : Type 0 where
    pub kinds_long : length c.kinds ≡ 4096
    pub logicals_long : length c.logicals ≡ 4096
    pub numbers_long : length c.numbers ≡ 4096
    pub kind_is : (b : ℕ) → b < n → get_or c.kinds b 0 ≡ cond (is_complete g (block_in g array b)) (label_in g (block_in g array b) 0).kind 0
    pub logical_is : (b : ℕ) → b < n → is_complete g (block_in g array b) ≡ true → get_or c.logicals b 0 ≡ (label_in g (block_in g array b) 0).logical
    pub number_is : (b : ℕ) → b < n → is_complete g (block_in g array b) ≡ true → get_or c.numbers b 0 ≡ number_at g array b
    pub kind_later : (b : ℕ) → n ≤ b → get_or c.kinds b 0 ≡ 0

module _ (depth : Depth) (g : Geometry) (three : 3 ≤ g.pages) (array : List ℕ) where
  told_none : Told g array 0 (contents (replicate 4096 0) (replicate 4096 0) (replicate 4096 0))
  told_none =
      record {
        kinds_long = length-replicate {A = ℕ} 4096 0;
        logicals_long = length-replicate {A = ℕ} 4096 0;
        numbers_long = length-replicate {A = ℕ} 4096 0;
        kind_is = λ b h. absurd (omega (arith, h));
        logical_is = λ b h. absurd (omega (arith, h));
        number_is = λ b h. absurd (omega (arith, h));
        kind_later = λ b h. zero_entry 4096 b;
      }

  -- block n is complete
  told_complete : (n : ℕ) (c : Contents) → n < 4096 → is_complete g (block_in g array n) ≡ true → Told g array n c
      → Told g array (suc n) (contents (set c.kinds n (summary_at depth g array n).kind) (set c.logicals n (summary_at depth g array n).logical) (set c.numbers n (summary_at depth g array n).number))
  told_complete n c room t r =
      let s = summary_at depth g array n in
      let label = complete_label g three (block_in g array n) depth t in
      record {
        kinds_long = length-set c.kinds n s.kind ∙ r.kinds_long;
        logicals_long = length-set c.logicals n s.logical ∙ r.logicals_long;
        numbers_long = length-set c.numbers n s.number ∙ r.numbers_long;
        kind_is = λ b h.
            up_to (λ (x : ℕ). get_or (set c.kinds n s.kind) x 0 ≡ cond (is_complete g (block_in g array x)) (label_in g (block_in g array x) 0).kind 0) n b h
            (λ l. other_entry c.kinds n b s.kind (λ e. omega (arith, e, l)) ∙ r.kind_is b l)
            (get_or-set_same c.kinds n s.kind 0 (omega (arith, room, r.kinds_long)) ∙ label.kind_is ∙ rw t);
        logical_is = λ b h.
            up_to (λ (x : ℕ). is_complete g (block_in g array x) ≡ true → get_or (set c.logicals n s.logical) x 0 ≡ (label_in g (block_in g array x) 0).logical) n b h
            (λ l u. other_entry c.logicals n b s.logical (λ e. omega (arith, e, l)) ∙ r.logical_is b l u)
            (λ u. get_or-set_same c.logicals n s.logical 0 (omega (arith, room, r.logicals_long)) ∙ label.logical_is);
        number_is = λ b h.
            up_to (λ (x : ℕ). is_complete g (block_in g array x) ≡ true → get_or (set c.numbers n s.number) x 0 ≡ number_at g array x) n b h
            (λ l u. other_entry c.numbers n b s.number (λ e. omega (arith, e, l)) ∙ r.number_is b l u)
            (λ u. get_or-set_same c.numbers n s.number 0 (omega (arith, room, r.numbers_long)) ∙ label.number_is);
        kind_later = λ b h. other_entry c.kinds n b s.kind (λ e. omega (arith, e, h)) ∙ r.kind_later b (omega (arith, h));
      }

  -- it is not
  told_other : (n : ℕ) (c : Contents) → is_complete g (block_in g array n) ≡ false → Told g array n c → Told g array (suc n) c
  told_other n c f r =
      record {
        kinds_long = r.kinds_long;
        logicals_long = r.logicals_long;
        numbers_long = r.numbers_long;
        kind_is = λ b h.
            up_to (λ (x : ℕ). get_or c.kinds x 0 ≡ cond (is_complete g (block_in g array x)) (label_in g (block_in g array x) 0).kind 0) n b h
            (r.kind_is b)
            (r.kind_later n (omega arith) ∙ rw f);
        logical_is = λ b h.
            up_to (λ (x : ℕ). is_complete g (block_in g array x) ≡ true → get_or c.logicals x 0 ≡ (label_in g (block_in g array x) 0).logical) n b h
            (r.logical_is b)
            (λ u. absurd (false≢true (sym f ∙ u)));
        number_is = λ b h.
            up_to (λ (x : ℕ). is_complete g (block_in g array x) ≡ true → get_or c.numbers x 0 ≡ number_at g array x) n b h
            (r.number_is b)
            (λ u. absurd (false≢true (sym f ∙ u)));
        kind_later = λ b h. r.kind_later b (omega (arith, h));
      }

  told_next : (n : ℕ) (c : Contents) → n < 4096 → Told g array n c → Told g array (suc n) (copy_noted n (summary_at depth g array n) c)
  unfolding copy_noted
  told_next n c room r =
      cases (is_complete g (block_in g array n))
      (λ t. rw (says_complete_fact g three (block_in g array n) depth, t) (told_complete n c room t r))
      (λ t. rw (says_complete_fact g three (block_in g array n) depth, t) (told_other n c t r))

  pub told : (n : ℕ) → n ≤ 4096 → Told g array n (contents_to depth g array (contents (replicate 4096 0) (replicate 4096 0) (replicate 4096 0)) n)
  unfolding contents_to
  told zero h = told_none
  told (suc n) h = told_next n (contents_to depth g array (contents (replicate 4096 0) (replicate 4096 0) (replicate 4096 0)) n) (omega (arith, h)) (told n (omega (arith, h)))

-- the bit of a block in a bitmap that stands at the start of a buffer
pub bit-put : (bits rest : List ℕ) (b : ℕ) → b < 8 * length bits → bit_at (put 0 bits rest) b ≡ bit_at bits b
unfolding bit_at put
bit-put bits rest b h =
    ap (λ (x : ℕ). eqb (bit_in x (place_of b)) 1) (get_or-append bits (drop (length bits) rest) 0 (b / 8) (omega (arith, h)))

-- the bitmap of a table has a bit for each block
pub bitmap_long : (g : Geometry) → Valid g → (array : List ℕ) → length array ≡ chip_size g → (table : ℕ) → table < g.blocks → length (bitmap_of g.blocks (main_in g (block_in g array table) 0)) ≡ bitmap_bytes g.blocks
bitmap_long g v array long table below =
    let in_chip : table * block_size g + block_size g ≤ length array = omega (arith, long, block_within g v table below) in
    let block : length (block_in g array table) ≡ block_size g = length_part (table * block_size g) (block_size g) array in_chip in
    let page : length (page_in g (block_in g array table) 0) ≡ page_size g = length_part (0 * page_size g) (page_size g) (block_in g array table) (omega (arith, block, mul-le-mul_right (page_size g) v.pages_least)) in
    let main : length (main_in g (block_in g array table) 0) ≡ g.main = length-take-le g.main (page_in g (block_in g array table) 0) (omega (arith, page)) in
    length_part 8 (bitmap_bytes g.blocks) (main_in g (block_in g array table) 0) (omega (arith, main, (valid_roomy g v).room))

module _ (g : Geometry) (v : Valid g) (array : List ℕ) (long : length array ≡ chip_size g) (c : Contents) (r : Told g array g.blocks c) (table : ℕ) (below : table < g.blocks) where
  pub bit_is : (b : ℕ) → b < g.blocks → bit_at (bits_at g array table) b ≡ lists g (block_in g array table) b
  bit_is b h = bit-put (bitmap_of g.blocks (main_in g (block_in g array table) 0)) (replicate 512 0) b (omega (arith, h, bitmap_long g v array long table below))

  kind_zero : (b : ℕ) → b < g.blocks → cond (eqb (get_or c.kinds b 0) 0) false true ≡ is_complete g (block_in g array b)
  kind_zero b h =
      cases (is_complete g (block_in g array b))
      (λ t.
      let label = complete_label g (omega (arith, v.pages_least)) (block_in g array b) Full t in
      let some : eqb (get_or c.kinds b 0) 0 ≡ false = ne_eqb (get_or c.kinds b 0) 0 (λ e. label.kind_some (sym (r.kind_is b h ∙ rw t) ∙ e)) in
      rw (some, t))
      (λ t.
      let none : eqb (get_or c.kinds b 0) 0 ≡ true = eq-eqb (get_or c.kinds b 0) 0 (r.kind_is b h ∙ rw t) in
      rw (none, t))

  pub counted_same : (b : ℕ) → b < g.blocks → counted c (bits_at g array table) b ≡ counts g array table b
  unfolding counted
  counted_same b h =
      cases (lists g (block_in g array table) b)
      (λ t. rw (bit_is b h, t))
      (λ t. rw (bit_is b h, t) (kind_zero b h))

  -- a block that counts is complete
  complete_counts : (b : ℕ) → counts g array table b ≡ true → is_complete g (block_in g array b) ≡ true
  complete_counts b t = (both (unlisted g array table b) _ t).1

  bears_same : (number b : ℕ) → b < g.blocks → bears c (bits_at g array table) number b ≡ cond (counts g array table b) (eqb (number_at g array b) number) false
  unfolding bears
  bears_same number b h =
      cases (counts g array table b)
      (λ t. rw (counted_same b h, t) (ap (λ (x : ℕ). eqb x number) (r.number_is b h (complete_counts b t))))
      (λ t. rw (counted_same b h, t))

  shared_same : (number n : ℕ) → n ≤ g.blocks → some_below (bears c (bits_at g array table) number) n ≡ shares_number g array table number n
  unfolding shares_number
  shared_same number n h =
      some_same (bears c (bits_at g array table) number) (λ b. cond (counts g array table b) (eqb (number_at g array b) number) false) n
      (λ b l. bears_same number b (omega (arith, l, h)))

  past_same : (b : ℕ) → b < g.blocks → is_complete g (block_in g array b) ≡ true
      → past_last c g.logical b ≡ cond (is_data g (block_in g array b)) (leb g.logical (label_in g (block_in g array b) 0).logical) false
  unfolding past_last is_data
  past_same b h t =
      let kind : get_or c.kinds b 0 ≡ (label_in g (block_in g array b) 0).kind = r.kind_is b h ∙ rw t in
      rw (kind, r.logical_is b h t, t)

  clashing_same : (b : ℕ) → b < g.blocks → clashing c (bits_at g array table) g.logical b ≡ clashes_at g array table b
  unfolding clashing clashes_at
  clashing_same b h =
      cases (counts g array table b)
      (λ t.
      let full = complete_counts b t in
      rw (counted_same b h, t, past_same b h full, r.number_is b h full, shared_same (number_at g array b) b (omega (arith, h))))
      (λ t. rw (counted_same b h, t))

  pub clash_same : some_below (clashing c (bits_at g array table) g.logical) g.blocks ≡ clashes g array table g.blocks
  unfolding clashes
  clash_same = some_same (clashing c (bits_at g array table) g.logical) (clashes_at g array table) g.blocks clashing_same
