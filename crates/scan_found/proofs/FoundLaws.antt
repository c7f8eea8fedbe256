-- What was found is what the definitions say of the array: marks, the greatest number, the current table. Assumes nothing.
use Prim.Native.Nat.{ℕ, zero, suc, ◌*◌, ◌≤◌, ◌<◌, ◌^◌}
use mathlib.Core.Bool.{Bool, true, false, cond}
use mathlib.Core.List.{List}
use mathlib.Core.Logic.{◌⊎◌, inl, inr, ⊎_elim}
use mathlib.Core.Path.{◌≡◌, refl, sym, ap, ap₂, subst, ◌∙◌}
use native.Mathlib.Omega.{arith}
use borrow.Table.Steps.{cases}
use borrow.Author.Tests.{ltb-true, ltb-false}
use lib.Dec.{ltb}
use lib.ListN.{drop}
use Rattle.geometry.specs.declared.Geometry.{Geometry}
use Rattle.bools.proofs.BoolLaws.{both}
use Rattle.geometry.specs.Sizes.{page_size, block_size}
use Rattle.cells.specs.Bytes.{Bytes}
use Rattle.cells.proofs.CellLaws.{bytes_drop}
use Rattle.cells.proofs.PartLaws.{bytes_part}
use Rattle.pages.specs.Layout.{is_table_kind, kind_of, label_of}
use Rattle.pages.proofs.LayoutLaws.{number_of_fits}
use Rattle.copies.specs.Blocks.{block_in, page_in, is_marked, is_complete, is_table}
use Rattle.copies.specs.Current.{number_at}
use Rattle.copies.specs.Pick.{nothing, at, better, pick}
use Rattle.scan_summary.specs.Summary.{says_complete, says_number}
use Rattle.scan_summary.specs.declared.Summary.{Summary}
use Rattle.scan_summary.specs.Depth.{has_by, greatest_by, below_by}
use Rattle.scan_summary.specs.declared.Depth.{Depth}
use Rattle.scan_summary.proofs.DepthLaws.{says_complete_fact, says_number_fact, says_greatest, says_marked, complete_label, none_by, below_zero, below_next}
use Rattle.scan_found.specs.Found.{mark_noted, is_greater, with_greatest, greatest_noted, is_newer, with_table, table_noted, noted, found_to, summary_at, right_at, bits_at, marks_to}
use Rattle.scan_found.specs.declared.Found.{Found}

-- what both arms of a test have
arms : {X : Type 0} (f : Found → X) (v : X) (b : Bool) (x y : Found) → f x ≡ v → f y ≡ v → f (cond b x y) ≡ v
arms f v true x y p q = p
arms f v false x y p q = q

-- a step keeps what it does not note
module _ {X : Type 0} (b : ℕ) (s : Summary) (right : ℕ) (bits : List ℕ) (f : Found) (view : Found → X) where
  table_keeps : view (with_table b s right bits f) ≡ view f → view (table_noted b s right bits f) ≡ view f
  unfolding table_noted
  table_keeps e =
      arms view (view f) (says_complete s) _ f
      (arms view (view f) (is_table_kind s.kind) _ f (arms view (view f) (is_newer s f) _ f e refl) refl)
      refl

  greatest_keeps : view (with_greatest b s f) ≡ view f → view (greatest_noted b s f) ≡ view f
  unfolding greatest_noted
  greatest_keeps e = arms view (view f) (says_number s) _ f (arms view (view f) (is_greater s f) _ f e refl) refl

-- the test for a table counts of a complete block only
pub note-right : (b : ℕ) (s : Summary) (right other : ℕ) (bits : List ℕ) (f : Found) → (says_complete s ≡ true → right ≡ other) → noted b s right bits f ≡ noted b s other bits f
unfolding noted table_noted
note-right b s right other bits f same =
    cases (says_complete s) (λ t. ap (λ (x : ℕ). noted b s x bits f) (same t)) (λ t. rw t)

-- the field of either arm
marked_arms : (m : Bool) (x y : Found) → (cond m x y).marked ≡ cond m x.marked y.marked
marked_arms true x y = refl
marked_arms false x y = refl

module _ (depth : Depth) (g : Geometry) (three : 3 ≤ g.pages) (array : List ℕ) where
  pub found_marked : (n : ℕ) → (found_to depth g array n).marked ≡ marks_to g array n
  unfolding found_to marks_to noted mark_noted
  found_marked zero = refl
  found_marked (suc n) =
      let f = found_to depth g array n in
      let s = summary_at depth g array n in
      table_keeps n s (right_at g array n) (bits_at g array n) (greatest_noted n s (mark_noted n s f)) (λ x. x.marked) refl
      ∙ greatest_keeps n s (right_at g array n) (bits_at g array n) (mark_noted n s f) (λ x. x.marked) refl
      ∙ rw (says_marked g three (block_in g array n) depth, marked_arms (is_marked g (block_in g array n)), found_marked n)

-- what is known of the greatest number
pub record Most : Type 0 where
  pub any : Bool
  pub greatest : ℕ
  pub last : ℕ

abbrev pub most : Found → Most
most f = record { any = f.any; greatest = f.greatest; last = f.last }

module _ (depth : Depth) (g : Geometry) (three : 3 ≤ g.pages) (array : List ℕ) where
  -- a number was found: the greatest, and the block picked for it
  pub record Numbered (n : ℕ) (m : Most) : Type 0 where
    pub any_one : m.any ≡ true
    pub picked : pick (λ b. has_by depth g (block_in g array b)) (λ b. greatest_by depth g (block_in g array b)) n ≡ at m.last
    pub greatest_is : m.greatest ≡ greatest_by depth g (block_in g array m.last)
    pub greatest_below_fact : m.greatest ≡ below_by depth g array n

  pub record Unnumbered (n : ℕ) (m : Most) : Type 0 where
    pub any_none : m.any ≡ false
    pub picked : pick (λ b. has_by depth g (block_in g array b)) (λ b. greatest_by depth g (block_in g array b)) n ≡ nothing
    pub greatest_none : m.greatest ≡ 0
    pub last_none : m.last ≡ 0
    pub below_none : below_by depth g array n ≡ 0

  -- block n has no number
  other_most : (n : ℕ) (m : Most) → has_by depth g (block_in g array n) ≡ false → Unnumbered n m ⊎ Numbered n m → Unnumbered (suc n) m ⊎ Numbered (suc n) m
  unfolding pick
  other_most n m t (inl u) =
      inl (record { any_none = u.any_none; picked = rw t u.picked; greatest_none = u.greatest_none; last_none = u.last_none; below_none = omega (arith, u.below_none, below_next depth g array n, none_by depth g (block_in g array n) t) })
  other_most n m t (inr r) =
      inr (record { any_one = r.any_one; picked = rw t r.picked; greatest_is = r.greatest_is; greatest_below_fact = omega (arith, r.greatest_below_fact, below_next depth g array n, none_by depth g (block_in g array n) t) })

  -- block n has one
  module _ (n : ℕ) (t : has_by depth g (block_in g array n) ≡ true) (number : ℕ) (number-n : number ≡ greatest_by depth g (block_in g array n)) where
    abbrev newest : Most
    newest = record { any = true; greatest = number; last = n }

    -- by whether it is greater than the one before
    beyond : (m : Most) → Numbered n m → (b : Bool) → ltb m.greatest number ≡ b → Unnumbered (suc n) (cond b newest m) ⊎ Numbered (suc n) (cond b newest m)
    unfolding pick better
    beyond m r true e =
        let less : ltb (greatest_by depth g (block_in g array m.last)) (greatest_by depth g (block_in g array n)) ≡ true = sym (ap₂ ltb r.greatest_is number-n) ∙ e in
        inr (record {
          any_one = refl;
          picked = rw t (ap (better (λ b. greatest_by depth g (block_in g array b)) n) r.picked ∙ rw less);
          greatest_is = number-n;
          greatest_below_fact = omega (arith, below_next depth g array n, number-n, r.greatest_below_fact, ltb-true m.greatest number e);
        })
    beyond m r false e =
        let less : ltb (greatest_by depth g (block_in g array m.last)) (greatest_by depth g (block_in g array n)) ≡ false = sym (ap₂ ltb r.greatest_is number-n) ∙ e in
        inr (record {
          any_one = r.any_one;
          picked = rw t (ap (better (λ b. greatest_by depth g (block_in g array b)) n) r.picked ∙ rw less);
          greatest_is = r.greatest_is;
          greatest_below_fact = omega (arith, below_next depth g array n, number-n, r.greatest_below_fact, ltb-false m.greatest number e);
        })

    number_most : (m : Most) → Unnumbered n m ⊎ Numbered n m → Unnumbered (suc n) (cond (cond m.any (ltb m.greatest number) true) newest m) ⊎ Numbered (suc n) (cond (cond m.any (ltb m.greatest number) true) newest m)
    unfolding pick better
    number_most m (inl u) =
        let none : cond m.any (ltb m.greatest number) true ≡ true = rw u.any_none in
        rw none
        (inr (record { any_one = refl; picked = rw t (ap (better (λ b. greatest_by depth g (block_in g array b)) n) u.picked); greatest_is = number-n; greatest_below_fact = omega (arith, below_next depth g array n, number-n, u.below_none) }))
    number_most m (inr r) =
        let some : cond m.any (ltb m.greatest number) true ≡ ltb m.greatest number = rw r.any_one in
        rw some (beyond m r (ltb m.greatest number) refl)

  most_arms : (b : Bool) (x y : Found) → most (cond b x y) ≡ cond b (most x) (most y)
  most_arms true x y = refl
  most_arms false x y = refl

  mark_keeps : (n : ℕ) (s : Summary) (f : Found) → most (mark_noted n s f) ≡ most f
  unfolding mark_noted
  mark_keeps n s f = arms most (most f) s.marked _ f refl refl

  -- a note of block n that has a number, and of one that has none
  most_noted : (n : ℕ) (s : Summary) (f : Found) → says_number s ≡ true
      → most (greatest_noted n s f) ≡ cond (cond f.any (ltb f.greatest s.greatest) true) (record { any = true; greatest = s.greatest; last = n }) (most f)
  unfolding greatest_noted
  most_noted n s f t = rw t (most_arms (is_greater s f) (with_greatest n s f) f)

  most_not : (n : ℕ) (s : Summary) (f : Found) → says_number s ≡ false → greatest_noted n s f ≡ f
  unfolding greatest_noted
  most_not n s f t = rw t

  most_next : (n : ℕ) (f : Found) → Unnumbered n (most f) ⊎ Numbered n (most f)
      → Unnumbered (suc n) (most (greatest_noted n (summary_at depth g array n) f)) ⊎ Numbered (suc n) (most (greatest_noted n (summary_at depth g array n) f))
  most_next n f r =
      let s = summary_at depth g array n in
      let said = says_number_fact g three (block_in g array n) depth in
      cases (has_by depth g (block_in g array n))
      (λ t.
      subst (λ (m : Most). Unnumbered (suc n) m ⊎ Numbered (suc n) m) (sym (most_noted n s f (said ∙ t)))
      (number_most n t s.greatest (says_greatest g three (block_in g array n) depth t) (most f) r))
      (λ t.
      subst (λ (x : Found). Unnumbered (suc n) (most x) ⊎ Numbered (suc n) (most x)) (sym (most_not n s f (said ∙ t))) (other_most n (most f) t r))

  -- after the first n blocks: no number, or the greatest and the block picked for it
  pub most_found : (n : ℕ) → Unnumbered n (most (found_to depth g array n)) ⊎ Numbered n (most (found_to depth g array n))
  unfolding found_to noted pick
  most_found zero = inl (record { any_none = refl; picked = refl; greatest_none = refl; last_none = refl; below_none = below_zero depth g array })
  most_found (suc n) =
      let s = summary_at depth g array n in
      let f = found_to depth g array n in
      let m = mark_noted n s f in
      subst (λ (x : Most). Unnumbered (suc n) x ⊎ Numbered (suc n) x)
      (sym (table_keeps n s (right_at g array n) (bits_at g array n) (greatest_noted n s m) most refl))
      (most_next n m (subst (λ (x : Most). Unnumbered n x ⊎ Numbered n x) (sym (mark_keeps n s f)) (most_found n)))

  pub found_greatest : (n : ℕ) → (found_to depth g array n).greatest ≡ below_by depth g array n
  found_greatest n = ⊎_elim (λ u. u.greatest_none ∙ sym u.below_none) (λ r. r.greatest_below_fact) (most_found n)

-- what is known of the current table
pub record Kept : Type 0 where
  pub tables : Bool
  pub table : ℕ
  pub number : ℕ
  pub right : ℕ
  pub bits : List ℕ

abbrev pub kept : Found → Kept
kept f = record { tables = f.tables; table = f.table; number = f.number; right = f.right; bits = f.bits }

module _ (depth : Depth) (g : Geometry) (three : 3 ≤ g.pages) (array : List ℕ) where
  -- a complete table was found, and the one kept is the current one
  pub record Chosen (n : ℕ) (k : Kept) : Type 0 where
    pub tables_one : k.tables ≡ true
    pub is_picked : pick (λ b. is_table g (block_in g array b)) (number_at g array) n ≡ at k.table
    pub number_is : k.number ≡ number_at g array k.table
    pub right_is : k.right ≡ right_at g array k.table
    pub bits_are : k.bits ≡ bits_at g array k.table

  pub record Missing (n : ℕ) (k : Kept) : Type 0 where
    pub tables_none : k.tables ≡ false
    pub none_picked : pick (λ b. is_table g (block_in g array b)) (number_at g array) n ≡ nothing

  -- block n is no complete table
  other_kept : (n : ℕ) (k : Kept) → is_table g (block_in g array n) ≡ false → Missing n k ⊎ Chosen n k → Missing (suc n) k ⊎ Chosen (suc n) k
  unfolding pick
  other_kept n k t (inl m) = inl (record { tables_none = m.tables_none; none_picked = rw t m.none_picked })
  other_kept n k t (inr c) =
      inr (record { tables_one = c.tables_one; is_picked = rw t c.is_picked; number_is = c.number_is; right_is = c.right_is; bits_are = c.bits_are })

  -- block n is one, with this number, test and bitmap
  module _ (n : ℕ) (t : is_table g (block_in g array n) ≡ true) (number : ℕ) (number-n : number ≡ number_at g array n) where
    abbrev fresh : Kept
    fresh = record { tables = true; table = n; number = number; right = right_at g array n; bits = bits_at g array n }

    chosen_fresh : pick (λ b. is_table g (block_in g array b)) (number_at g array) (suc n) ≡ at n → Chosen (suc n) fresh
    chosen_fresh p = record { tables_one = refl; is_picked = p; number_is = number-n; right_is = refl; bits_are = refl }

    -- by whether it has a greater number than the one kept
    against : (k : Kept) → Chosen n k → (b : Bool) → ltb k.number number ≡ b → Missing (suc n) (cond b fresh k) ⊎ Chosen (suc n) (cond b fresh k)
    unfolding pick better
    against k c true e =
        let less : ltb (number_at g array k.table) (number_at g array n) ≡ true = sym (ap₂ ltb c.number_is number-n) ∙ e in
        inr (chosen_fresh (rw t (ap (better (number_at g array) n) c.is_picked ∙ rw less)))
    against k c false e =
        let less : ltb (number_at g array k.table) (number_at g array n) ≡ false = sym (ap₂ ltb c.number_is number-n) ∙ e in
        inr (record { tables_one = c.tables_one; is_picked = rw t (ap (better (number_at g array) n) c.is_picked ∙ rw less); number_is = c.number_is; right_is = c.right_is; bits_are = c.bits_are })

    table_kept : (k : Kept) → Missing n k ⊎ Chosen n k → Missing (suc n) (cond (cond k.tables (ltb k.number number) true) fresh k) ⊎ Chosen (suc n) (cond (cond k.tables (ltb k.number number) true) fresh k)
    unfolding pick better
    table_kept k (inl m) =
        let none : cond k.tables (ltb k.number number) true ≡ true = rw m.tables_none in
        rw none (inr (chosen_fresh (rw t (ap (better (number_at g array) n) m.none_picked))))
    table_kept k (inr c) =
        let some : cond k.tables (ltb k.number number) true ≡ ltb k.number number = rw c.tables_one in
        rw some (against k c (ltb k.number number) refl)

  -- what the other notes leave of the table
  others_keep : (n : ℕ) (s : Summary) (f : Found) → kept (greatest_noted n s (mark_noted n s f)) ≡ kept f
  unfolding mark_noted
  others_keep n s f =
      greatest_keeps n s (right_at g array n) (bits_at g array n) (mark_noted n s f) kept refl ∙ arms kept (kept f) s.marked _ f refl refl

  kept_arms : (b : Bool) (x y : Found) → kept (cond b x y) ≡ cond b (kept x) (kept y)
  kept_arms true x y = refl
  kept_arms false x y = refl

  -- a note of block n that is a complete table
  kept_noted : (n : ℕ) (s : Summary) (f : Found) → says_complete s ≡ true → is_table_kind s.kind ≡ true
      → kept (table_noted n s (right_at g array n) (bits_at g array n) f)
      ≡ cond (cond f.tables (ltb f.number s.number) true) (record { tables = true; table = n; number = s.number; right = right_at g array n; bits = bits_at g array n }) (kept f)
  unfolding table_noted
  kept_noted n s f c k =
      rw (c, k) (kept_arms (is_newer s f) (with_table n s (right_at g array n) (bits_at g array n) f) f)

  -- a note of block n that is no complete table
  table_not : (n : ℕ) (s : Summary) (right : ℕ) (bits : List ℕ) (f : Found) → cond (says_complete s) (is_table_kind s.kind) false ≡ false → table_noted n s right bits f ≡ f
  unfolding table_noted
  table_not n s right bits f h =
      cases (says_complete s)
      (λ t.
      let other : is_table_kind s.kind ≡ false = sym (rw t) ∙ h in
      rw (t, other))
      (λ t. rw t)

  -- the summary's test for a complete table is the block's
  table_said : (n : ℕ) → cond (says_complete (summary_at depth g array n)) (is_table_kind (summary_at depth g array n).kind) false ≡ is_table g (block_in g array n)
  unfolding is_table
  table_said n =
      cases (is_complete g (block_in g array n))
      (λ t. rw (says_complete_fact g three (block_in g array n) depth, t) (ap is_table_kind (complete_label g three (block_in g array n) depth t).kind_is))
      (λ t. rw (says_complete_fact g three (block_in g array n) depth, t))

  table_next : (n : ℕ) (f : Found) → Missing n (kept f) ⊎ Chosen n (kept f)
      → Missing (suc n) (kept (table_noted n (summary_at depth g array n) (right_at g array n) (bits_at g array n) f)) ⊎ Chosen (suc n) (kept (table_noted n (summary_at depth g array n) (right_at g array n) (bits_at g array n) f))
  table_next n f r =
      let s = summary_at depth g array n in
      cases (is_table g (block_in g array n))
      (λ t.
      let said = both (says_complete s) (is_table_kind s.kind) (table_said n ∙ t) in
      let complete = sym (says_complete_fact g three (block_in g array n) depth) ∙ said.0 in
      let label = complete_label g three (block_in g array n) depth complete in
      let noted_is = kept_noted n s f said.0 said.1 in
      subst (λ (k : Kept). Missing (suc n) k ⊎ Chosen (suc n) k) (sym noted_is) (table_kept n t s.number label.number_is (kept f) r))
      (λ t.
      let same = table_not n s (right_at g array n) (bits_at g array n) f (table_said n ∙ t) in
      subst (λ (x : Found). Missing (suc n) (kept x) ⊎ Chosen (suc n) (kept x)) (sym same) (other_kept n (kept f) t r))

  -- after the first n blocks: no complete table, or the one kept is the current one
  pub table_found : (n : ℕ) → Missing n (kept (found_to depth g array n)) ⊎ Chosen n (kept (found_to depth g array n))
  unfolding found_to noted pick
  table_found zero = inl (record { tables_none = refl; none_picked = refl })
  table_found (suc n) =
      let s = summary_at depth g array n in
      let f = found_to depth g array n in
      let same = others_keep n s f in
      table_next n (greatest_noted n s (mark_noted n s f)) (subst (λ (k : Kept). Missing n k ⊎ Chosen n k) (sym same) (table_found n))

-- the table kept is a block scanned
module _ (depth : Depth) (g : Geometry) (array : List ℕ) where
  small_arms : (b : Bool) (x y : Found) → x.table < 4096 → y.table < 4096 → (cond b x y).table < 4096
  small_arms true x y p q = p
  small_arms false x y p q = q

  pub table_small : (n : ℕ) → n ≤ 4096 → (found_to depth g array n).table < 4096
  unfolding found_to noted table_noted greatest_noted mark_noted
  table_small zero h = omega arith
  table_small (suc n) h =
      let s = summary_at depth g array n in
      let f = found_to depth g array n in
      let m = mark_noted n s f in
      let a = greatest_noted n s m in
      let less = table_small n (omega (arith, h)) in
      let marked : m.table < 4096 = small_arms s.marked _ f less less in
      let counted : a.table < 4096 = small_arms (says_number s) _ m (small_arms (is_greater s m) (with_greatest n s m) m marked marked) marked in
      small_arms (says_complete s) _ a
      (small_arms (is_table_kind s.kind) _ a (small_arms (is_newer s a) (with_table n s (right_at g array n) (bits_at g array n) a) a (omega (arith, h)) counted) counted)
      counted

-- kind and logical block of a complete block of bytes have one byte and two
label_fits : (main : ℕ) (p : List ℕ) → Bytes p → ((label_of main p).kind < 256) × ((label_of main p).logical < 256 ^ 2)
unfolding label_of kind_of
label_fits main p b =
    (bytes_drop main p b 1, number_of_fits 2 (drop 2 (drop main p)) (bytes_drop 2 (drop main p) (bytes_drop main p b)))

pub copy_fits : (depth : Depth) (g : Geometry) → 3 ≤ g.pages → (array : List ℕ) → Bytes array → (n : ℕ) → says_complete (summary_at depth g array n) ≡ true
    → ((summary_at depth g array n).kind < 256) × ((summary_at depth g array n).logical < 65536)
copy_fits depth g three array b n t =
    let row = block_in g array n in
    let c = complete_label g three row depth (sym (says_complete_fact g three row depth) ∙ t) in
    let l = label_fits g.main (page_in g row 0) (bytes_part (0 * page_size g) (page_size g) row (bytes_part (n * block_size g) (block_size g) array b)) in
    (omega (arith, c.kind_is, l.0), omega (arith, c.logical_is, l.1))
