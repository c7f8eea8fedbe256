-- The pages of the copy that a write or an erase makes: their bytes, and where each of them comes from. Assumes nothing.
use Prim.Native.Nat.{ℕ, ◌+◌, ◌-◌, ◌*◌, ◌≤◌, ◌<◌}
use mathlib.Core.Bool.{Bool, true, false, cond}
use mathlib.Core.List.{List, []}
use mathlib.Core.Logic.{◌⊎◌, inl, inr, ⊎_elim}
use mathlib.Core.Path.{◌≡◌, refl, sym, ap, ap₂, subst, ◌∙◌}
use native.Mathlib.Nat.{sub_self, zero-mul}
use native.Mathlib.Omega.{arith}
use borrow.Table.Steps.{cases}
use borrow.Author.Tests.{eq-eqb, ne_eqb, eqb-true, eqb-false, lt-ltb, le-ltb, le-leb, leb-true, not-true}
use lib.Dec.{eqb, ltb, leb}
use lib.ListN.{length, get_or, take, drop, replicate, length-replicate}
use lib.Seq.{length-take-le, take_all}
use Rattle.geometry.specs.declared.Geometry.{Geometry}
use Rattle.geometry.specs.Limits.{Valid}
use Rattle.geometry.specs.Sizes.{page_size}
use Rattle.bools.proofs.BoolLaws.{both}
use Rattle.cells.specs.Bytes.{Bytes}
use Rattle.cells.proofs.CellLaws.{bytes_take, bytes_replicate}
use Rattle.bitmaps.specs.Bitmap.{bit_at}
use Rattle.chip_array.specs.Device.{Setting}
use Rattle.pages.specs.Layout.{data_kind}
use Rattle.pages.proofs.OverLaws.{over_bytes_to}
use Rattle.copies.specs.Blocks.{block_in, page_in, main_in, formed, plain_in, label_in, is_marked, is_data, is_copy_of, is_complete}
use Rattle.copies.specs.Pick.{Pick, nothing, at, pick, Picked}
use Rattle.copies.specs.Current as current
use Rattle.copies.specs.Current.{current_table, current_copy, kind_at, number_at, unlisted, reading}
use Rattle.copies.specs.Table.{lists}
use Rattle.copies.proofs.PickLaws.{pick_is}
use Rattle.copies.proofs.CompleteLaws.{complete_pages}
use Rattle.copies.proofs.FormLaws.{length-formed, bytes_formed}
use Rattle.scan_found.specs.Contents.{entry_of}
use Rattle.fill.specs.Fill.{Source, given, kept, copy, copy_page, data_source, is_given, given_main}
use Rattle.state.specs.State.{none, held_bits, form_of}
use Rattle.state.specs.declared.State.{State}
use Rattle.state.proofs.HeldLaws.{held_entry}
use Rattle.write_changes.specs.Changes.{Update, update_source}
use Rattle.damage.specs.Run.{Labelled, Meant, Provides, from_caller, from_copy}
use Rattle.damage.proofs.CopyLaws.{copy-long, copy_bytes}
use Rattle.damage.proofs.PlaceLaws.{page-long}
use Rattle.recovery_stored.proofs.StoredLaws.{same_at}
use Rattle.recovery_stored.proofs.KnowsLaws.{knows_entry, knows_kind}
use Rattle.recovery.specs.Book.{Book, Same, Change, write, erase, entered}
use Rattle.recovery_write.specs.Changed.{Agrees, Proper, update_of}

-- a current copy: on the chip, not listed, complete
pub record Copied (g : Geometry) (array : List ℕ) (t logical b : ℕ) : Type 0 where
  pub below : b < g.blocks
  pub unlisted : lists g (block_in g array t) b ≡ false
  pub complete : is_complete g (block_in g array b) ≡ true

module _ (g : Geometry) (array : List ℕ) (t logical : ℕ) where
  abbrev copy_test : ℕ → Bool
  copy_test b = cond (unlisted g array t b) (is_copy_of g logical (block_in g array b)) false

  no_at : {P : Type 0} {b : ℕ} → nothing ≡ at b → P
  no_at e = let q : ◌≡◌ {A = ℕ} 0 1 = cc in absurd (omega arith)

  copy_of : (b : ℕ) → is_copy_of g logical (block_in g array b) ≡ true → is_complete g (block_in g array b) ≡ true
  unfolding is_copy_of is_data
  copy_of b e = (both (is_complete g (block_in g array b)) _ (both (cond (is_complete g (block_in g array b)) _ false) _ e).0).0

  by_pick : (o : Pick) → Picked copy_test (number_at g array) g.blocks o → (b : ℕ) → o ≡ at b → Copied g array t logical b
  by_pick nothing p b e = no_at e
  by_pick (at c) p b e =
      let parts = both (unlisted g array t c) (is_copy_of g logical (block_in g array c)) p.passes in
      subst (Copied g array t logical) (same_at e)
      (record { below = p.below; unlisted = not-true (lists g (block_in g array t) c) parts.0; complete = copy_of c parts.1 })

  pub current_copied : (b : ℕ) → current_copy g array t logical ≡ at b → Copied g array t logical b
  unfolding current_copy
  current_copied b e = by_pick (pick copy_test (number_at g array) g.blocks) (pick_is copy_test (number_at g array) g.blocks) b e

-- what is current, or not
pub by_current : {P : Type 0} (o : Pick) → (o ≡ nothing → P) → ((b : ℕ) → o ≡ at b → P) → P
by_current nothing f h = f refl
by_current (at b) f h = h b refl

-- a page that is kept: from the old copy, which is held, undone by its kind
pub record Keeps (g : Geometry) (array held : List ℕ) (old form i : ℕ) (main : List ℕ) : Type 0 where
  pub old_below : old < g.blocks
  pub old_held : bit_at held old ≡ true
  pub main_is : main ≡ formed form i (main_in g (block_in g array old) i)

-- the pages of the copy
pub record Content (g : Geometry) (array held : List ℕ) (st : State) (u : Update) (main : ℕ → List ℕ) : Type 0 where
  pub logical_below : u.logical < g.logical
  pub long : (i : ℕ) → i < g.pages → length (main i) ≡ g.main
  pub bytes : (i : ℕ) → i < g.pages → Bytes (main i)
  pub source : (i : ℕ) → i < g.pages
      → (update_source g st u i ≡ given (main i))
      ⊎ ((update_source g st u i ≡ kept u.old (form_of st u.logical)) × Keeps g array held u.old (form_of st u.logical) i (main i))

-- they are what a fill of block b is to leave, while the held blocks are as they were
module _ (s : Setting) (v : Valid s.geometry) (first held : List ℕ) (st : State) (u : Update) (main : ℕ → List ℕ) (x : Content s.geometry first held st u main) (number : ℕ) (fits : Labelled (copy data_kind u.logical number)) where
  pub content_meant : (array : List ℕ) (b : ℕ) → bit_at held b ≡ false → ((c : ℕ) → c < s.geometry.blocks → bit_at held c ≡ true → block_in s.geometry array c ≡ block_in s.geometry first c)
      → Meant s array b (copy data_kind u.logical number) (update_source s.geometry st u) (λ i. copy_page s.geometry (copy data_kind u.logical number) i (main i))
  content_meant array b unheld same =
      record {
        long = copy-long s.geometry v (copy data_kind u.logical number) fits main x.long x.bytes;
        bytes = copy_bytes s.geometry v (copy data_kind u.logical number) fits main x.long x.bytes;
        provides = λ i h. ⊎_elim (λ e. subst (λ (z : Source). Provides s.geometry array b (copy data_kind u.logical number) i z (copy_page s.geometry (copy data_kind u.logical number) i (main i))) (sym e) (from_caller (main i))) (λ e. kept_provides i e.0 e.1) (x.source i h);
      }
    where
      kept_provides : (i : ℕ) → update_source s.geometry st u i ≡ kept u.old (form_of st u.logical) → Keeps s.geometry first held u.old (form_of st u.logical) i (main i)
          → Provides s.geometry array b (copy data_kind u.logical number) i (update_source s.geometry st u i) (copy_page s.geometry (copy data_kind u.logical number) i (main i))
      kept_provides i e k =
          let off : u.old ≡ b → ⊥ = λ z. true_false (sym k.old_held ∙ ap (bit_at held) z ∙ unheld) in
          let form = form_of st u.logical in
          let bytes_are : formed form i (main_in s.geometry (block_in s.geometry array u.old) i) ≡ main i = ap (λ (row : List ℕ). formed form i (main_in s.geometry row i)) (same u.old k.old_below k.old_held) ∙ sym k.main_is in
          subst (λ (z : Source). Provides s.geometry array b (copy data_kind u.logical number) i z (copy_page s.geometry (copy data_kind u.logical number) i (main i))) (sym e)
          (subst (λ (m : List ℕ). Provides s.geometry array b (copy data_kind u.logical number) i (kept u.old form) (copy_page s.geometry (copy data_kind u.logical number) i m)) bytes_are
          (from_copy u.old form k.old_below off))
        where
          true_false : true ≡ false → ⊥
          true_false z = let q : ◌≡◌ {A = ℕ} 0 1 = cc in omega arith

-- a state, the book and an array that go together
module _ (g : Geometry) (array : List ℕ) (st : State) (book : Book) (failed : ℕ → Bool) (a : Agrees g array st book failed) where
  v : Valid g
  v = a.stored.is_valid

  abbrev t : ℕ
  t = st.table

  -- the main bytes of a current copy's page
  module _ (logical b : ℕ) (e : current_copy g array t logical ≡ at b) where
    found : Copied g array t logical b
    found = current_copied g array t logical b e

    main_long : (i : ℕ) → i < g.pages → length (plain_in g (block_in g array b) i) ≡ g.main
    main_long i h =
        length-formed (label_in g (block_in g array b) 0).kind i (main_in g (block_in g array b) i)
        ∙ length-take-le g.main (page_in g (block_in g array b) i) (omega (arith, page-long g v array a.stored.array_long b found.below i h))

    main_bytes : (i : ℕ) → i < g.pages → Bytes (plain_in g (block_in g array b) i)
    main_bytes i h =
        bytes_formed (label_in g (block_in g array b) 0).kind i (main_in g (block_in g array b) i)
        (bytes_take g.main (page_in g (block_in g array b) i)
        (over_bytes_to (a.stored.left t b i a.knows.table_is found.below h (complete_pages g (block_in g array b) found.complete).unmarked found.unlisted).is_over))

    reads_copy : (i : ℕ) → i < g.pages → logical < g.logical → book logical i ≡ plain_in g (block_in g array b) i
    unfolding current.page_of
    reads_copy i h l = sym (a.reads logical i l h) ∙ ap (current.page_of g array i) e

    -- the state has its kind
    form_is : logical < g.logical → form_of st logical ≡ (label_in g (block_in g array b) 0).kind
    unfolding kind_at
    form_is l = knows_kind g array st a.stored a.knows logical l ∙ ap (kind_at g array) e

  reads_none : (logical i : ℕ) → i < g.pages → logical < g.logical → current_copy g array t logical ≡ nothing → book logical i ≡ replicate g.main 255
  unfolding current.page_of
  reads_none logical i h l e = sym (a.reads logical i l h) ∙ ap (current.page_of g array i) e

  -- each page of the book has the right length and is bytes
  module _ (logical : ℕ) (l : logical < g.logical) where
    book_long : (i : ℕ) → i < g.pages → length (book logical i) ≡ g.main
    book_long i h =
        by_current (current_copy g array t logical)
        (λ e. ap length (reads_none logical i h l e) ∙ length-replicate {A = ℕ} g.main 255)
        (λ b e. ap length (reads_copy logical b e i h l) ∙ main_long logical b e i h)

    book_bytes : (i : ℕ) → i < g.pages → Bytes (book logical i)
    book_bytes i h =
        by_current (current_copy g array t logical)
        (λ e. subst Bytes (sym (reads_none logical i h l e)) (bytes_replicate g.main))
        (λ b e. subst Bytes (sym (reads_copy logical b e i h l)) (main_bytes logical b e i h))

  -- a page that is not given: kept from the copy, or FFh where there is none
  module _ (logical : ℕ) (l : logical < g.logical) where
    abbrev held : List ℕ
    held = held_bits st g.logical

    abbrev entry : ℕ
    entry = get_or st.map logical 0

    entry_is : entry ≡ entry_of (current_copy g array t logical)
    entry_is = knows_entry g array st a.stored a.knows logical l

    entry_none : current_copy g array t logical ≡ nothing → entry ≡ none
    unfolding entry_of
    entry_none e = entry_is ∙ ap entry_of e

    entry_at : (b : ℕ) → current_copy g array t logical ≡ at b → entry ≡ b
    unfolding entry_of
    entry_at b e = entry_is ∙ ap entry_of e

    kept_source : (first count : ℕ) (bytes : List ℕ) (i : ℕ) → i < g.pages → is_given first count i ≡ false
        → (data_source g entry (form_of st logical) first count bytes i ≡ given (book logical i))
        ⊎ ((data_source g entry (form_of st logical) first count bytes i ≡ kept entry (form_of st logical)) × Keeps g array held entry (form_of st logical) i (book logical i))
    unfolding data_source
    kept_source first count bytes i h f =
        by_current (current_copy g array t logical)
        (λ e.
        let far : g.blocks ≤ entry = omega (arith, entry_none e, v.blocks_most) in
        inl (rw (f, le-ltb entry g.blocks far) (ap given (sym (reads_none logical i h l e)))))
        (λ b e.
        let here = entry_at b e in
        let c = found logical b e in
        let near : entry < g.blocks = omega (arith, here, c.below) in
        inr (
          rw (f, lt-ltb entry g.blocks near),
          record { old_below = near; old_held = held_entry st g.logical logical l (omega (arith, near, v.blocks_most)); main_is = reads_copy logical b e i h l ∙ ap₂ (λ (form k : ℕ). formed form i (main_in g (block_in g array k) i)) (sym (form_is logical b e l)) (sym here) },
        ))

  -- a write gives its page
  module _ (logical page : ℕ) (bytes : List ℕ) (proper : Proper g (write logical page bytes)) where
    abbrev written : ℕ → List ℕ
    written = entered g (write logical page bytes) book logical

    here_is : (i : ℕ) → i ≡ page → written i ≡ bytes
    unfolding entered
    here_is i e = rw (eq-eqb logical logical refl, eq-eqb i page e)

    other_is : (i : ℕ) → (i ≡ page → ⊥) → written i ≡ book logical i
    unfolding entered
    other_is i x = rw (eq-eqb logical logical refl, ne_eqb i page x)

    given_here : is_given page 1 page ≡ true
    unfolding is_given
    given_here = rw (le-leb page page (omega arith), lt-ltb page (page + 1) (omega arith))

    given_other : (i : ℕ) → (i ≡ page → ⊥) → is_given page 1 i ≡ false
    unfolding is_given
    given_other i x =
        cases (leb page i)
        (λ u. rw (u, le-ltb i (page + 1) (omega (arith, x, leb-true page i u))))
        (λ u. rw u)

    part_is : given_main g page bytes page ≡ bytes
    part_is =
        ap (λ (k : ℕ). take g.main (drop (k * g.main) bytes)) (sub_self page)
        ∙ ap (λ (k : ℕ). take g.main (drop k bytes)) (zero-mul g.main)
        ∙ take_all g.main bytes (omega (arith, proper.2))

    source_here : data_source g (get_or st.map logical 0) (form_of st logical) page 1 bytes page ≡ given bytes
    unfolding data_source
    source_here = rw given_here (ap given part_is)

    pub write_content : Content g array (held_bits st g.logical) st (update_of st (write logical page bytes)) written
    unfolding update_of
    write_content =
        record {
          logical_below = proper.0;
          long = λ i h. cases (eqb i page) (λ e. ap length (here_is i (eqb-true i page e)) ∙ proper.2) (λ e. ap length (other_is i (eqb-false i page e)) ∙ book_long logical proper.0 i h);
          bytes = λ i h. cases (eqb i page) (λ e. subst Bytes (sym (here_is i (eqb-true i page e))) proper.3) (λ e. subst Bytes (sym (other_is i (eqb-false i page e))) (book_bytes logical proper.0 i h));
          source = λ i h.
              cases (eqb i page)
              (λ e.
              let z = eqb-true i page e in
              inl (ap (data_source g (get_or st.map logical 0) (form_of st logical) page 1 bytes) z ∙ source_here ∙ ap given (sym (here_is i z))))
              (λ e.
              let z = eqb-false i page e in
              subst (λ (m : List ℕ). (data_source g (get_or st.map logical 0) (form_of st logical) page 1 bytes i ≡ given m) ⊎ ((data_source g (get_or st.map logical 0) (form_of st logical) page 1 bytes i ≡ kept (get_or st.map logical 0) (form_of st logical)) × Keeps g array (held_bits st g.logical) (get_or st.map logical 0) (form_of st logical) i m))
              (sym (other_is i z)) (kept_source logical proper.0 page 1 bytes i h (given_other i z)));
        }

  -- an erase gives none and has no old copy
  module _ (logical : ℕ) (below : logical < g.logical) where
    abbrev cleared : ℕ → List ℕ
    cleared = entered g (erase logical) book logical

    cleared_is : (i : ℕ) → cleared i ≡ replicate g.main 255
    unfolding entered
    cleared_is i = rw (eq-eqb logical logical refl)

    blank_source : (i : ℕ) → data_source g none (form_of st logical) 0 0 [] i ≡ given (replicate g.main 255)
    unfolding data_source is_given
    blank_source i = rw (le-leb 0 i (omega arith), le-ltb i 0 (omega arith), le-ltb none g.blocks (omega (arith, v.blocks_most)))

    pub erase_content : Content g array (held_bits st g.logical) st (update_of st (erase logical)) cleared
    unfolding update_of
    erase_content =
        record {
          logical_below = below;
          long = λ i h. ap length (cleared_is i) ∙ length-replicate {A = ℕ} g.main 255;
          bytes = λ i h. subst Bytes (sym (cleared_is i)) (bytes_replicate g.main);
          source = λ i h. inl (blank_source i ∙ ap given (sym (cleared_is i)));
        }

  -- the new copy of the request's logical block is the book with the request entered
  pub change_content : (c : Change) → Proper g c → Content g array (held_bits st g.logical) st (update_of st c) (entered g c book (update_of st c).logical)
  unfolding update_of
  change_content (write logical page bytes) p = write_content logical page bytes p
  change_content (erase logical) p = erase_content logical p
