-- The map that is entered block by block has the current copy of each logical block, and the kinds are those of its copies. Assumes nothing.
use Prim.Native.Nat.{ℕ, zero, suc, ◌+◌, ◌≤◌, ◌<◌}
use mathlib.Core.Bool.{Bool, true, false, cond}
use mathlib.Core.List.{List, [], ◌∷◌, ◌++◌}
use mathlib.Core.Path.{◌≡◌, refl, sym, ap, ◌∙◌}
use native.Mathlib.Omega.{arith}
use borrow.Table.Steps.{cases}
use borrow.Author.Tests.{lt-ltb, le-ltb, eqb-true, eqb-false, ltb-true, ltb-false}
use lib.Dec.{eqb, ltb}
use lib.ListN.{length, get_or, set, replicate, length-set, length-replicate, get_or-replicate, length-append, get_or-append}
use lib.Seq.{get_or-set_same, get_or-set_other, get_or-append-add, ext_get_or}
use Rattle.geometry.specs.declared.Geometry.{Geometry}
use Rattle.geometry.specs.Limits.{Valid}
use Rattle.geometry.specs.Sizes.{chip_size}
use Rattle.bools.proofs.BoolLaws.{both}
use Rattle.pages.specs.Layout.{is_data_kind}
use Rattle.copies.specs.Blocks.{block_in, is_complete, is_data, is_copy_of, label_in}
use Rattle.copies.specs.Current.{number_at, unlisted, counts, current_copy, kind_at}
use Rattle.copies.specs.Pick.{Pick, nothing, at, better, pick, Picked}
use Rattle.copies.proofs.PickLaws.{pick_is, pick_same, up_to}
use Rattle.scan_found.specs.Contents.{Contents, replaces, is_candidate, entry_noted, map_to, kind_for, kinds_to, entry_of, tabulate, copies_of, map_in, kinds_of}
use Rattle.scan_found.specs.Found.{bits_at}
use Rattle.scan_found.proofs.ContentsLaws.{candidate}
use Rattle.scan_found.proofs.ToldLaws.{Told, counted_same}

-- values of a list by their places
pub length-tabulate : (f : ℕ → ℕ) (n : ℕ) → length (tabulate f n) ≡ n
unfolding tabulate
length-tabulate f zero = refl
length-tabulate f (suc n) = length-append (tabulate f n) (f n ∷ []) ∙ omega (arith, length-tabulate f n)

pub get_d_tabulate : (f : ℕ → ℕ) (n k : ℕ) → k < n → get_or (tabulate f n) k 0 ≡ f k
unfolding tabulate
get_d_tabulate f zero k h = absurd (omega (arith, h))
get_d_tabulate f (suc n) k h =
    let long = length-tabulate f n in
    cases (eqb k n)
    (λ e.
    let here : k ≡ length (tabulate f n) + 0 = omega (arith, eqb-true k n e, long) in
    ap (λ (x : ℕ). get_or (tabulate f n ++ (f n ∷ [])) x 0) here
    ∙ get_or-append-add (tabulate f n) (f n ∷ []) 0 0
    ∙ ap f (sym (eqb-true k n e)))
    (λ e.
    let less : k < n = omega (arith, h, eqb-false k n e) in
    get_or-append (tabulate f n) (f n ∷ []) 0 k (omega (arith, less, long)) ∙ get_d_tabulate f n k less)

module _ (c : Contents) (bits : List ℕ) (blocks logical : ℕ) (blocks_most : blocks ≤ 4096) (logical_most : logical ≤ 4096) where
  -- a candidate for logical block l, and its number
  abbrev copy_test : ℕ → ℕ → Bool
  copy_test l b = cond (is_candidate c bits logical b) (eqb (get_or c.logicals b 0) l) false

  abbrev number_of : ℕ → ℕ
  number_of b = get_or c.numbers b 0

  -- the map has the picks among the first n blocks
  pub record Entered (n : ℕ) (map : List ℕ) : Type 0 where
    pub long : length map ≡ 4096
    pub entry : (l : ℕ) → l < logical → get_or map l 0 ≡ entry_of (pick (copy_test l) number_of n)
    pub past : (l : ℕ) → logical ≤ l → l < 4096 → get_or map l 0 ≡ 65535

  set_arms : (b : Bool) (map : List ℕ) (k n l : ℕ) → (l ≡ k → ⊥) → get_or (cond b (set map k n) map) l 0 ≡ get_or map l 0
  set_arms true map k n l h = get_or-set_other map k l n 0 h
  set_arms false map k n l h = refl

  long_arms : (b : Bool) (map : List ℕ) (k n : ℕ) → length map ≡ 4096 → length (cond b (set map k n) map) ≡ 4096
  long_arms true map k n h = length-set map k n ∙ h
  long_arms false map k n h = h

  -- block n is a candidate for logical block l, and stands against what was picked below it
  by_number : (b : Bool) (map : List ℕ) (l n m : ℕ) → l < length map → get_or map l 0 ≡ m → get_or (cond b (set map l n) map) l 0 ≡ entry_of (cond b (at n) (at m))
  unfolding entry_of
  by_number true map l n m h e = get_or-set_same map l n 0 h
  by_number false map l n m h e = e

  against : (map : List ℕ) (l n : ℕ) → n < blocks → l < length map → (o : Pick) → Picked (copy_test l) number_of n o → get_or map l 0 ≡ entry_of o
      → get_or (cond (replaces c blocks (get_or map l 0) n) (set map l n) map) l 0 ≡ entry_of (better number_of n o)
  unfolding replaces better entry_of
  against map l n h room nothing p e =
      let none : ltb (get_or map l 0) blocks ≡ false = le-ltb (get_or map l 0) blocks (omega (arith, e, blocks_most)) in
      rw none (get_or-set_same map l n 0 room)
  against map l n h room (at m) p e =
      let some : ltb (get_or map l 0) blocks ≡ true = lt-ltb (get_or map l 0) blocks (omega (arith, e, p.below, h)) in
      rw (some, ← e) (by_number (ltb (number_of (get_or map l 0)) (number_of n)) map l n (get_or map l 0) room refl)

  entry_next : (n : ℕ) (map : List ℕ) → n < blocks → Entered n map → (l : ℕ) → l < logical → get_or (entry_noted c bits blocks logical n map) l 0 ≡ entry_of (pick (copy_test l) number_of (suc n))
  unfolding entry_noted pick
  entry_next n map h r l k =
      cases (is_candidate c bits logical n)
      (λ t.
      cases (eqb (get_or c.logicals n 0) l)
      (λ e.
      let same : get_or c.logicals n 0 ≡ l = eqb-true (get_or c.logicals n 0) l e in
      rw (t, e, same) (against map l n h (omega (arith, k, logical_most, r.long)) (pick (copy_test l) number_of n) (pick_is (copy_test l) number_of n) (r.entry l k)))
      (λ e.
      rw (t, e) (set_arms (replaces c blocks (get_or map (get_or c.logicals n 0) 0) n) map (get_or c.logicals n 0) n l (λ x. eqb-false (get_or c.logicals n 0) l e (sym x)) ∙ r.entry l k)))
      (λ t. rw t (r.entry l k))

  past_next : (n : ℕ) (map : List ℕ) → Entered n map → (l : ℕ) → logical ≤ l → l < 4096 → get_or (entry_noted c bits blocks logical n map) l 0 ≡ 65535
  unfolding entry_noted
  past_next n map r l k m =
      cases (is_candidate c bits logical n)
      (λ t.
      let d = candidate c bits logical n t in
      rw t (set_arms (replaces c blocks (get_or map (get_or c.logicals n 0) 0) n) map (get_or c.logicals n 0) n l (λ x. omega (arith, x, k, d.logical_below)) ∙ r.past l k m))
      (λ t. rw t (r.past l k m))

  long_next : (n : ℕ) (map : List ℕ) → length map ≡ 4096 → length (entry_noted c bits blocks logical n map) ≡ 4096
  unfolding entry_noted
  long_next n map h =
      cases (is_candidate c bits logical n)
      (λ t. rw t (long_arms (replaces c blocks (get_or map (get_or c.logicals n 0) 0) n) map (get_or c.logicals n 0) n h))
      (λ t. rw t h)

  entered : (n : ℕ) → n ≤ blocks → Entered n (map_to c bits blocks logical (replicate 4096 65535) n)
  unfolding map_to pick entry_of
  entered zero h =
      record { long = length-replicate {A = ℕ} 4096 65535; entry = λ l k. get_or-replicate 4096 l 65535 0 (omega (arith, k, logical_most)); past = λ l k m. get_or-replicate 4096 l 65535 0 m }
  entered (suc n) h =
      let less = entered n (omega (arith, h)) in
      let map = map_to c bits blocks logical (replicate 4096 65535) n in
      record { long = long_next n map less.long; entry = entry_next n map (omega (arith, h)) less; past = past_next n map less }

-- the kinds of the first n entries are entered
module _ (c : Contents) (map : List ℕ) where
  record KindsEntered (n : ℕ) (kinds : List ℕ) : Type 0 where
    pub kinds_long : length kinds ≡ 4096
    pub kind_entry : (l : ℕ) → l < n → get_or kinds l 0 ≡ kind_for c (get_or map l 0)
    pub kind_past : (l : ℕ) → n ≤ l → l < 4096 → get_or kinds l 0 ≡ 0

  kinds_entered : (n : ℕ) → n ≤ 4096 → KindsEntered n (kinds_to c map (replicate 4096 0) n)
  unfolding kinds_to
  kinds_entered zero h =
      record { kinds_long = length-replicate {A = ℕ} 4096 0; kind_entry = λ l k. absurd (omega (arith, k)); kind_past = λ l k m. get_or-replicate 4096 l 0 0 m }
  kinds_entered (suc n) h =
      let less = kinds_entered n (omega (arith, h)) in
      let kinds = kinds_to c map (replicate 4096 0) n in
      let kind = kind_for c (get_or map n 0) in
      record {
        kinds_long = length-set kinds n kind ∙ less.kinds_long;
        kind_entry = λ l k.
            up_to (λ (x : ℕ). get_or (set kinds n kind) x 0 ≡ kind_for c (get_or map x 0)) n l k
            (λ m. get_or-set_other kinds n l kind 0 (λ e. omega (arith, e, m)) ∙ less.kind_entry l m)
            (get_or-set_same kinds n kind 0 (omega (arith, h, less.kinds_long)));
        kind_past = λ l k m. get_or-set_other kinds n l kind 0 (λ e. omega (arith, e, k)) ∙ less.kind_past l (omega (arith, k)) m;
      }

module _ (g : Geometry) (v : Valid g) (array : List ℕ) (long : length array ≡ chip_size g) (c : Contents) (r : Told g array g.blocks c) (table : ℕ) (below : table < g.blocks) where
  logical_most : g.logical ≤ 4096
  logical_most = omega (arith, v.logical_most, v.blocks_most)

  -- of a complete block of one kind: a logical block l below the last is told by its own number
  by_logical : (n l : ℕ) → l < g.logical → cond (ltb n g.logical) (eqb n l) false ≡ eqb n l
  by_logical n l h =
      cases (eqb n l)
      (λ e.
      let small : ltb n g.logical ≡ true = lt-ltb n g.logical (omega (arith, h, eqb-true n l e)) in
      rw small)
      (λ e. cases (ltb n g.logical) (λ t. rw t) (λ t. rw (t, e)))

  by_kind : (k : Bool) (n l : ℕ) → l < g.logical → cond (cond k (ltb n g.logical) false) (eqb n l) false ≡ cond k (eqb n l) false
  by_kind true n l h = by_logical n l h
  by_kind false n l h = refl

  test_same : (l : ℕ) → l < g.logical → (b : ℕ) → b < g.blocks
      → cond (is_candidate c (bits_at g array table) g.logical b) (eqb (get_or c.logicals b 0) l) false ≡ cond (unlisted g array table b) (is_copy_of g l (block_in g array b)) false
  unfolding is_candidate is_copy_of is_data
  test_same l k b h =
      cases (counts g array table b)
      (λ t.
      let parts = both (unlisted g array table b) (is_complete g (block_in g array b)) t in
      let kind : get_or c.kinds b 0 ≡ (label_in g (block_in g array b) 0).kind = r.kind_is b h ∙ rw parts.1 in
      rw (counted_same g v array long c r table below b h, t, parts.0, parts.1, kind, r.logical_is b h parts.1)
      (by_kind (is_data_kind (label_in g (block_in g array b) 0).kind) (label_in g (block_in g array b) 0).logical l k))
      (λ t.
      rw (counted_same g v array long c r table below b h, t)
      (cases (unlisted g array table b)
      (λ u.
      let part : is_complete g (block_in g array b) ≡ false = sym (rw u) ∙ t in
      rw (u, part))
      (λ u. rw u)))

  number_same : (l b : ℕ) → b < g.blocks → cond (is_candidate c (bits_at g array table) g.logical b) (eqb (get_or c.logicals b 0) l) false ≡ true → get_or c.numbers b 0 ≡ number_at g array b
  number_same l b h t =
      let d = candidate c (bits_at g array table) g.logical b (both (is_candidate c (bits_at g array table) g.logical b) _ t).0 in
      let counts-b = sym (counted_same g v array long c r table below b h) ∙ d.is_counted in
      r.number_is b h (both (unlisted g array table b) _ counts-b).1

  copy_same : (l : ℕ) → l < g.logical
      → pick (λ b. cond (is_candidate c (bits_at g array table) g.logical b) (eqb (get_or c.logicals b 0) l) false) (λ b. get_or c.numbers b 0) g.blocks ≡ current_copy g array table l
  unfolding current_copy
  copy_same l k = pick_same _ _ (λ b. get_or c.numbers b 0) (number_at g array) g.blocks (test_same l k) (number_same l)

  map_entry : (l : ℕ) → l < 4096 → get_or (map_to c (bits_at g array table) g.blocks g.logical (replicate 4096 65535) g.blocks) l 0 ≡ cond (ltb l g.logical) (entry_of (current_copy g array table l)) 65535
  map_entry l h =
      let e = entered c (bits_at g array table) g.blocks g.logical v.blocks_most logical_most g.blocks (omega arith) in
      cases (ltb l g.logical)
      (λ t. rw t (e.entry l (ltb-true l g.logical t) ∙ ap entry_of (copy_same l (ltb-true l g.logical t))))
      (λ t. rw t (e.past l (ltb-false l g.logical t) h))

  -- a list told by its entries
  copies_told : (f : Pick → ℕ) (past : ℕ) (xs : List ℕ) → length xs ≡ 4096 → ((l : ℕ) → l < 4096 → get_or xs l 0 ≡ cond (ltb l g.logical) (f (current_copy g array table l)) past) → xs ≡ copies_of f past g array table
  copies_told f past xs size entry =
      let value : ℕ → ℕ = λ l. cond (ltb l g.logical) (f (current_copy g array table l)) past in
      ext_get_or 0 xs (copies_of f past g array table) (size ∙ sym (length-tabulate value 4096))
      (λ l h. entry l (omega (arith, h, size)) ∙ sym (get_d_tabulate value 4096 l (omega (arith, h, size))))

  -- the map that is entered is the one of the current copies
  pub map_is : map_to c (bits_at g array table) g.blocks g.logical (replicate 4096 65535) g.blocks ≡ map_in g array table
  unfolding map_in
  map_is =
      let e = entered c (bits_at g array table) g.blocks g.logical v.blocks_most logical_most g.blocks (omega arith) in
      copies_told entry_of 65535 (map_to c (bits_at g array table) g.blocks g.logical (replicate 4096 65535) g.blocks) e.long map_entry

  -- the kind of the picked block's copy, by its entry
  kind_picked : (l : ℕ) (o : Pick) → Picked (λ b. cond (unlisted g array table b) (is_copy_of g l (block_in g array b)) false) (number_at g array) g.blocks o → kind_for c (entry_of o) ≡ kind_at g array o
  unfolding entry_of kind_at is_copy_of is_data
  kind_picked l nothing p = refl
  kind_picked l (at b) p =
      let copy = (both (unlisted g array table b) _ p.passes).1 in
      let whole = (both (is_complete g (block_in g array b)) _ (both (is_data g (block_in g array b)) _ copy).0).0 in
      rw (lt-ltb b 4096 (omega (arith, p.below, v.blocks_most)), r.kind_is b p.below, whole)

  -- the kinds that are entered are those of the current copies
  pub kinds_is : kinds_to c (map_in g array table) (replicate 4096 0) g.logical ≡ kinds_of g array table
  unfolding kinds_of map_in current_copy
  kinds_is =
      let k = kinds_entered c (map_in g array table) g.logical logical_most in
      copies_told (kind_at g array) 0 (kinds_to c (map_in g array table) (replicate 4096 0) g.logical) k.kinds_long
      (λ l h.
      cases (ltb l g.logical)
      (λ t.
      let below-l = ltb-true l g.logical t in
      let entry : get_or (map_in g array table) l 0 ≡ entry_of (current_copy g array table l) = get_d_tabulate _ 4096 l h ∙ rw t in
      rw t (k.kind_entry l below-l ∙ ap (kind_for c) entry ∙ kind_picked l (current_copy g array table l) (pick_is _ (number_at g array) g.blocks)))
      (λ t. rw t (k.kind_past l (ltb-false l g.logical t) h)))
