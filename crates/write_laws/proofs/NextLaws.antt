-- What is held: the table's block and those of the entries. A mounted state still counts as mounted after a fill of a block that may be
-- filled, however it ended. Assumes nothing.
use Prim.Native.Nat.{ℕ, zero, suc, ◌≤◌, ◌<◌}
use mathlib.Core.Bool.{true, false}
use mathlib.Core.List.{List}
use mathlib.Core.Logic.{◌⊎◌, inl, inr, ⊎_elim}
use mathlib.Core.Path.{◌≡◌, sym, ap, subst, ◌∙◌}
use native.Mathlib.Omega.{arith}
use borrow.Table.Steps.{cases}
use borrow.Author.Tests.{eqb-true, eqb-false}
use lib.Dec.{eqb, ltb}
use lib.ListN.{length, get_or, set, replicate}
use lib.Seq.{get_or-set_same, get_or-set_other}
use Rattle.bools.proofs.BoolLaws.{clash}
use Rattle.bitmaps.specs.Bitmap.{bit_at}
use Rattle.bitmaps.proofs.BitLaws.{bit_kept}
use Rattle.bitmaps.proofs.BitmapLaws.{blank-bit}
use Rattle.state_choose.specs.Choose.{permitted}
use Rattle.state_choose.proofs.ChooseLaws.{permitted_parts}
use Rattle.state.specs.State.{none, add_block, copy_bits, held_bits, taken, with_invalid, with_copy, with_table, Mounted}
use Rattle.state.specs.declared.State.{State}
use Rattle.state.proofs.HeldLaws.{held_table, held_entry, free_table, free_entry}

pub held_unpermitted : (marked invalid held : List ℕ) (b : ℕ) → bit_at held b ≡ true → permitted marked invalid held b ≡ false
unfolding permitted
held_unpermitted marked invalid held b t = cases (bit_at marked b) (λ m. rw m) (λ m. cases (bit_at invalid b) (λ i. rw (m, i)) (λ i. rw (m, i, t)))

pub unheld_so : (marked invalid held : List ℕ) (b : ℕ) → permitted marked invalid held b ≡ true → bit_at held b ≡ false
unheld_so marked invalid held b t = cases (bit_at held b) (λ y. clash t (held_unpermitted marked invalid held b y)) (λ f. f)

pub permitted_free : (marked invalid held other : List ℕ) (b : ℕ) → permitted marked invalid held b ≡ true → bit_at other b ≡ false → permitted marked invalid other b ≡ true
unfolding permitted
permitted_free marked invalid held other b t f =
    let parts = permitted_parts marked invalid held b t in
    rw (parts.0, parts.1, f)

-- one of the first n entries is of this block
pub record Named (map : List ℕ) (n c : ℕ) : Type 0 where
  pub place : ℕ
  pub within : place < n
  pub is : get_or map place 0 ≡ c

add_from : (x : ℕ) (bits : List ℕ) (c : ℕ) → bit_at (add_block x bits) c ≡ true → (bit_at bits c ≡ true) ⊎ (x ≡ c)
add_from x bits c t =
    cases (eqb c x)
    (λ e. inr (sym (eqb-true c x e)))
    (λ e. inl (cases (ltb x 4096) (λ u. sym (bit_kept bits x c (eqb-false c x e)) ∙ (rw u at t)) (λ u. rw u at t)))

copies_from : (map bits : List ℕ) (n c : ℕ) → bit_at (copy_bits map n bits) c ≡ true → (bit_at bits c ≡ true) ⊎ Named map n c
unfolding copy_bits
copies_from map bits zero c t = inl t
copies_from map bits (suc n) c t =
    ⊎_elim
    (λ u. ⊎_elim inl (λ e. inr (record { place = e.place; within = omega (arith, e.within); is = e.is })) (copies_from map bits n c u))
    (λ e. inr (record { place = n; within = omega arith; is = e }))
    (add_from (get_or map n 0) (copy_bits map n bits) c t)

pub held_from : (st : State) (n c : ℕ) → bit_at (held_bits st n) c ≡ true → (st.table ≡ c) ⊎ Named st.map n c
held_from st n c t =
    ⊎_elim
    (λ u. inl (⊎_elim (λ w. clash w (blank-bit 512 c)) (λ e. e) (add_from st.table (replicate 512 0) c u)))
    inr
    (copies_from st.map (add_block st.table (replicate 512 0)) n c t)

-- what a passed fill of block b adds is block b
module _ (st : State) (n b c : ℕ) (small : c < 4096) where
  held_before : Named st.map n c → bit_at (held_bits st n) c ≡ true
  held_before e =
      subst (λ (k : ℕ). bit_at (held_bits st n) k ≡ true) e.is (held_entry st n e.place e.within (omega (arith, small, e.is)))

  table_before : st.table ≡ c → bit_at (held_bits st n) c ≡ true
  table_before e = subst (λ (k : ℕ). bit_at (held_bits st n) k ≡ true) e (held_table st n (omega (arith, small, e)))

  pub copy_held : (kind k : ℕ) → k < length st.map → bit_at (held_bits (with_copy kind k b (taken st)) n) c ≡ true → (c ≡ b) ⊎ (bit_at (held_bits st n) c ≡ true)
  copy_held kind k room t =
      ⊎_elim (λ e. inr (table_before e))
      (λ e.
      cases (eqb e.place k)
      (λ y. inl (sym e.is ∙ ap (λ (l : ℕ). get_or (set st.map k b) l 0) (eqb-true e.place k y) ∙ get_or-set_same st.map k b 0 room))
      (λ y. inr (held_before (record { place = e.place; within = e.within; is = sym (get_or-set_other st.map k e.place b 0 (eqb-false e.place k y)) ∙ e.is }))))
      (held_from (with_copy kind k b (taken st)) n c t)

  pub table_held : bit_at (held_bits (with_table b (taken st)) n) c ≡ true → (c ≡ b) ⊎ (bit_at (held_bits st n) c ≡ true)
  table_held t = ⊎_elim (λ e. inl (sym e)) (λ e. inr (held_before e)) (held_from (with_table b (taken st)) n c t)

module _ (st : State) (blocks logical : ℕ) (room : blocks ≤ 4096) (m : Mounted st blocks logical) (b : ℕ) (below : b < blocks)
    (may : permitted st.marked st.invalid (held_bits st logical) b ≡ true) where
  unmarked : bit_at st.marked b ≡ false
  unmarked = (permitted_parts st.marked st.invalid (held_bits st logical) b may).0

  valid : bit_at st.invalid b ≡ false
  valid = (permitted_parts st.marked st.invalid (held_bits st logical) b may).1

  unheld : bit_at (held_bits st logical) b ≡ false
  unheld = unheld_so st.marked st.invalid (held_bits st logical) b may

  off_table : st.table ≡ b → ⊥
  off_table e = free_table st logical b (omega (arith, below, room)) unheld (sym e)

  off_entry : (l : ℕ) → l < logical → get_or st.map l 0 ≡ b → ⊥
  off_entry = free_entry st logical b (omega (arith, below, room)) unheld

  -- the fill failed
  pub next_invalid : Mounted (with_invalid b (taken st)) blocks logical
  next_invalid =
      record {
        status_one = m.status_one;
        last_below = m.last_below;
        marks_end = m.marks_end;
        invalid_end = λ c h l. bit_kept st.invalid b c (λ e. omega (arith, e, h, below)) ∙ m.invalid_end c h l;
        apart = λ c h t. bit_kept st.invalid b c (λ e. clash t (ap (bit_at st.marked) e ∙ unmarked)) ∙ m.apart c h t;
        entries_end = m.entries_end;
        table_below = m.table_below;
        table_unmarked = m.table_unmarked;
        table_valid = bit_kept st.invalid b st.table off_table ∙ m.table_valid;
        copy_below = m.copy_below;
        copy_unmarked = m.copy_unmarked;
        copy_valid = λ l h x. bit_kept st.invalid b (get_or st.map l 0) (off_entry l h) ∙ m.copy_valid l h x;
        copy_off_table = m.copy_off_table;
        once = m.once;
      }

  -- it passed: a table
  pub next_table : Mounted (with_table b (taken st)) blocks logical
  next_table =
      record {
        status_one = m.status_one;
        last_below = below;
        marks_end = m.marks_end;
        invalid_end = m.invalid_end;
        apart = m.apart;
        entries_end = m.entries_end;
        table_below = below;
        table_unmarked = unmarked;
        table_valid = valid;
        copy_below = m.copy_below;
        copy_unmarked = m.copy_unmarked;
        copy_valid = m.copy_valid;
        copy_off_table = λ l h x e. off_entry l h e;
        once = m.once;
      }

  -- a copy of logical block k
  module _ (k : ℕ) (k-below : k < logical) (k-room : k < length st.map) where
    abbrev entry : ℕ → ℕ
    entry l = get_or (set st.map k b) l 0

    here : (l : ℕ) → l ≡ k → entry l ≡ b
    here l e = ap entry e ∙ get_or-set_same st.map k b 0 k-room

    other : (l : ℕ) → (l ≡ k → ⊥) → entry l ≡ get_or st.map l 0
    other l x = get_or-set_other st.map k l b 0 x

    by_entry : (P : ℕ → Type 0) (l : ℕ) → P b → ((l ≡ k → ⊥) → P (get_or st.map l 0)) → P (entry l)
    by_entry P l new old =
        cases (eqb l k)
        (λ e. subst P (sym (here l (eqb-true l k e))) new)
        (λ e. subst P (sym (other l (eqb-false l k e))) (old (eqb-false l k e)))

    apart_entries : (l j : ℕ) → l < logical → j < logical → (l ≡ j → ⊥) → (entry l ≡ none → ⊥) → entry l ≡ entry j → ⊥
    apart_entries l j h i d x q =
        cases (eqb l k)
        (λ e.
        let z = eqb-true l k e in
        off_entry j i (sym (other j (λ y. d (z ∙ sym y))) ∙ sym q ∙ here l z))
        (λ e.
        let w = eqb-false l k e in
        cases (eqb j k)
        (λ f. off_entry l h (sym (other l w) ∙ q ∙ here j (eqb-true j k f)))
        (λ f. m.once l j h i d (λ z. x (other l w ∙ z)) (sym (other l w) ∙ q ∙ other j (eqb-false j k f))))

    pub next_copy : (kind : ℕ) → Mounted (with_copy kind k b (taken st)) blocks logical
    next_copy kind =
        record {
          status_one = m.status_one;
          last_below = below;
          marks_end = m.marks_end;
          invalid_end = m.invalid_end;
          apart = m.apart;
          entries_end = λ l h i. other l (λ e. omega (arith, e, h, k-below)) ∙ m.entries_end l h i;
          table_below = m.table_below;
          table_unmarked = m.table_unmarked;
          table_valid = m.table_valid;
          copy_below = λ l h. by_entry (λ y. (y ≡ none → ⊥) → y < blocks) l (λ x. below) (λ w. m.copy_below l h);
          copy_unmarked = λ l h. by_entry (λ y. (y ≡ none → ⊥) → bit_at st.marked y ≡ false) l (λ x. unmarked) (λ w. m.copy_unmarked l h);
          copy_valid = λ l h. by_entry (λ y. (y ≡ none → ⊥) → bit_at st.invalid y ≡ false) l (λ x. valid) (λ w. m.copy_valid l h);
          copy_off_table = λ l h. by_entry (λ y. (y ≡ none → ⊥) → y ≡ st.table → ⊥) l (λ x e. off_table (sym e)) (λ w. m.copy_off_table l h);
          once = apart_entries;
        }
