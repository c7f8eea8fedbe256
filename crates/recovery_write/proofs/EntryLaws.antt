-- What the map of a request's state reads while it stands open: the book in the data phase, the book with the request entered in the table
-- phase. Assumes nothing.
use Prim.Native.Nat.{ℕ, ◌<◌}
use mathlib.Core.Bool.{Bool, true, cond}
use mathlib.Core.List.{List}
use mathlib.Core.Path.{◌≡◌, sym, ap, subst, ◌∙◌}
use native.Mathlib.Omega.{arith}
use borrow.Author.Tests.{lt-ltb}
use lib.Dec.{eqb}
use lib.ListN.{get_or, replicate}
use Rattle.geometry.specs.declared.Geometry.{Geometry}
use Rattle.geometry.specs.Limits.{Valid}
use Rattle.bools.proofs.BoolLaws.{clash}
use Rattle.cells.specs.Bytes.{Bytes}
use Rattle.bitmaps.specs.Bitmap.{bit_at}
use Rattle.chip_array.specs.Device.{Setting}
use Rattle.bus.specs.Line.{Line}
use Rattle.operations.specs.Ends.{Called}
use Rattle.operations.specs.Trace.{ArrayOperation}
use Rattle.copies.specs.Blocks.{block_in, main_in, formed}
use Rattle.copies.specs.Current as current
use Rattle.copies.specs.Current.{current_copy, kind_at, reading}
use Rattle.scan_found.specs.Contents.{entry_of, map_in, kinds_of}
use Rattle.scan_found.proofs.MapLaws.{get_d_tabulate}
use Rattle.state.specs.State.{none, next_number, held_bits}
use Rattle.state.specs.declared.State.{State}
use Rattle.state.proofs.HeldLaws.{held_entry}
use Rattle.progress.specs.Progress.{Progress}
use Rattle.fill_cursor.specs.declared.Running.{Running}
use Rattle.recovery_stored.proofs.KnowsLaws.{knows_entry, knows_kind}
use Rattle.recovery.specs.Book.{Book, Change, entered}
use Rattle.recovery_write.specs.Changed.{Agrees, MarkedBy, Proper}
use Rattle.recovery_write.proofs.ContentLaws.{by_current, current_copied}
use Rattle.recovery_write.proofs.CopyLaws.{permitted_so}
use Rattle.recovery_write.proofs.DataLaws as phase
use Rattle.recovery_write.proofs.TableLaws as tables
use Rattle.recovery_write.proofs.ActLaws as act
use Rattle.recovery_write.proofs.ActLaws.At.{before_data, erase_data, in_data, before_table, erase_table, in_table_fact, has_ended}

-- two lists exchanged at once
subst₂ : (P : List ℕ → List ℕ → Type 0) {a b c d : List ℕ} → a ≡ b → c ≡ d → P a c → P b d
subst₂ P {b = b} {c = c} e f x = subst (P b) f (subst (λ (z : List ℕ). P z c) e x)

-- the pages of a logical block with this entry in the map and this kind: FFh where there is none, else the main bytes of its block, undone
pub record EntryReads (g : Geometry) (array : List ℕ) (entry form : ℕ) (pages : ℕ → List ℕ) : Type 0 where
  pub none_is : entry ≡ none → (i : ℕ) → i < g.pages → pages i ≡ replicate g.main 255
  pub below : (entry ≡ none → ⊥) → entry < g.blocks
  pub copy_is : (entry ≡ none → ⊥) → (i : ℕ) → i < g.pages → pages i ≡ formed form i (main_in g (block_in g array entry) i)

-- an entry that names the current copy
pub entry_reads : (g : Geometry) → Valid g → (array : List ℕ) (table l entry form : ℕ) (pages : ℕ → List ℕ) → entry ≡ entry_of (current_copy g array table l) → form ≡ kind_at g array (current_copy g array table l) → ((i : ℕ) → i < g.pages → reading g array table l i ≡ pages i) → EntryReads g array entry form pages
unfolding entry_of current.page_of kind_at
entry_reads g v array table l entry form pages is kind reads =
    by_current (current_copy g array table l)
    (λ e.
    let empty : entry ≡ none = is ∙ ap entry_of e in
    record { none_is = λ z i h. sym (reads i h) ∙ ap (current.page_of g array i) e; below = λ x. absurd (x empty); copy_is = λ x. absurd (x empty) })
    (λ b e.
    let here : entry ≡ b = is ∙ ap entry_of e in
    let on = current_copied g array table l b e in
    record {
      none_is = λ z. absurd (omega (arith, z, here, on.below, v.blocks_most));
      below = λ x. omega (arith, here, on.below);
      copy_is = λ x i h. sym (reads i h) ∙ ap (current.page_of g array i) e ∙ ap (λ (k : ℕ). formed k i (main_in g (block_in g array b) i)) (sym (kind ∙ ap (kind_at g array) e)) ∙ ap (λ (k : ℕ). formed form i (main_in g (block_in g array k) i)) (sym here);
    })

-- on another array with the same block
pub entry_moved : (g : Geometry) (A B : List ℕ) (entry form : ℕ) (pages : ℕ → List ℕ) → ((entry ≡ none → ⊥) → entry < g.blocks → block_in g B entry ≡ block_in g A entry) → EntryReads g A entry form pages → EntryReads g B entry form pages
entry_moved g A B entry form pages same e =
    record {
      none_is = e.none_is;
      below = e.below;
      copy_is = λ x i h. e.copy_is x i h ∙ ap (λ (row : List ℕ). formed form i (main_in g row i)) (sym (same x (e.below x)));
    }

module _ (s : Setting) (mask_bytes : Bytes s.mask) (first : Line) (called : Called s first) (st₀ : State) (c : Change) (book : Book) (marked₀ failed₀ : ℕ → Bool)
    (marks₀ : MarkedBy s.geometry first.chip.array marked₀) (agrees : Agrees s.geometry first.chip.array st₀ book failed₀) (proper : Proper s.geometry c) where
  abbrev g : Geometry
  g = s.geometry

  v : Valid g
  v = called.is_valid

  abbrev At : Running → Progress → Type 0
  At = act.At s mask_bytes first called st₀ c book marked₀ failed₀ marks₀ agrees proper

  abbrev Done : State → Bool → Progress → Type 0
  Done = phase.Done s mask_bytes first called st₀ c book marked₀ failed₀ marks₀ agrees proper

  module _ (l : ℕ) (h : l < g.logical) where
    -- what it reads in a phase
    abbrev pages : ℕ → ℕ → List ℕ
    pages phase = cond (eqb phase 0) (book l) (entered g c book l)

    abbrev Reads : Running → Progress → Type 0
    Reads r p = EntryReads g p.line.chip.array (get_or r.state.map l 0) (get_or r.state.kinds l 0) (pages r.cursor.phase)

    -- the data phase: held blocks are as they were
    abbrev entry₀ : ℕ
    entry₀ = get_or st₀.map l 0

    abbrev form₀ : ℕ
    form₀ = get_or st₀.kinds l 0

    held₀ : entry₀ < g.blocks → bit_at (held_bits st₀ g.logical) entry₀ ≡ true
    held₀ b = held_entry st₀ g.logical l h (omega (arith, b, v.blocks_most))

    data_entry : (n : ℕ) (invalid array : List ℕ) (os : List ArrayOperation) → phase.Rest s mask_bytes first called st₀ c book marked₀ failed₀ marks₀ agrees proper n invalid array os → EntryReads g array entry₀ form₀ (book l)
    data_entry n invalid array os rest =
        entry_moved g first.chip.array array entry₀ form₀ (book l) (λ x b. rest.kept entry₀ b (held₀ b))
        (entry_reads g v first.chip.array st₀.table l entry₀ form₀ (book l) (knows_entry g first.chip.array st₀ agrees.stored agrees.knows l h) (knows_kind g first.chip.array st₀ agrees.stored agrees.knows l h) (λ i k. agrees.reads l i h k))

    data_reads : (st : State) (f : Bool) (p : Progress) (r : Running) → phase.Mid s mask_bytes first called st₀ c book marked₀ failed₀ marks₀ agrees proper st f p → r.cursor.phase ≡ 0 → r.state.map ≡ st.map → r.state.kinds ≡ st.kinds → Reads r p
    data_reads st f p r m z e k =
        subst (λ (k : ℕ). EntryReads g p.line.chip.array (get_or r.state.map l 0) (get_or r.state.kinds l 0) (pages k)) (sym z)
        (subst₂ (λ (map kinds : List ℕ). EntryReads g p.line.chip.array (get_or map l 0) (get_or kinds l 0) (book l)) (sym (e ∙ ap (λ (x : State). x.map) m.state_is)) (sym (k ∙ ap (λ (x : State). x.kinds) m.state_is))
        (data_entry (next_number st) st.invalid p.line.chip.array p.started m.rest))

    in_data_reads : {r : Running} {p : Progress} → act.InData s mask_bytes first called st₀ c book marked₀ failed₀ marks₀ agrees proper r p → Reads r p
    in_data_reads {r} {p} w =
        let off : entry₀ < g.blocks → entry₀ ≡ w.block → ⊥ = λ b e. clash (sym (ap (bit_at (held_bits st₀ g.logical)) e) ∙ held₀ b) (permitted_so w.st.marked w.st.invalid (held_bits st₀ g.logical) w.block w.may).unheld in
        subst (λ (x : Running). Reads x p) (sym w.r_is)
        (subst (λ (x : Progress). EntryReads g x.line.chip.array (get_or w.st.map l 0) (get_or w.st.kinds l 0) (book l)) (sym w.p_is)
        (subst₂ (λ (map kinds : List ℕ). EntryReads g w.line.chip.array (get_or map l 0) (get_or kinds l 0) (book l)) (sym (ap (λ (x : State). x.map) w.state_is)) (sym (ap (λ (x : State). x.kinds) w.state_is))
        (entry_moved g w.A w.line.chip.array entry₀ form₀ (book l) (λ x b. w.stands.others entry₀ b (off b))
        (data_entry (next_number w.st) w.st.invalid w.A w.before w.rest))))

    -- the table phase: the map is that of the array where the data fill passed
    module _ (st₁ : State) (p₁ : Progress) (d : Done st₁ true p₁) where
      abbrev entry₁ : ℕ
      entry₁ = get_or st₁.map l 0

      abbrev form₁ : ℕ
      form₁ = get_or st₁.kinds l 0

      table_entry : (n : ℕ) (invalid : List ℕ) (table : ℕ) (array : List ℕ) (os : List ArrayOperation) → tables.Rest s mask_bytes first called st₀ c book marked₀ failed₀ marks₀ agrees proper st₁ true p₁ d n invalid table array os → EntryReads g array entry₁ form₁ (entered g c book l)
      unfolding map_in kinds_of
      table_entry n invalid table array os rest =
          entry_reads g v array table l entry₁ form₁ (entered g c book l)
          (ap (λ (x : List ℕ). get_or x l 0) (tables.map_of s mask_bytes first called st₀ c book marked₀ failed₀ marks₀ agrees proper st₁ true p₁ d array table rest.copies)
          ∙ get_d_tabulate _ 4096 l (omega (arith, h, v.logical_most, v.blocks_most))
          ∙ rw (lt-ltb l g.logical h))
          (ap (λ (x : List ℕ). get_or x l 0) (tables.kinds_of_fact s mask_bytes first called st₀ c book marked₀ failed₀ marks₀ agrees proper st₁ true p₁ d array table rest.copy_kinds)
          ∙ get_d_tabulate _ 4096 l (omega (arith, h, v.logical_most, v.blocks_most))
          ∙ rw (lt-ltb l g.logical h))
          (λ i k. rest.reads l i h k)

      table_reads : (st : State) (p : Progress) (r : Running) → tables.Mid s mask_bytes first called st₀ c book marked₀ failed₀ marks₀ agrees proper st₁ true p₁ d st p → r.cursor.phase ≡ 1 → r.state.map ≡ st.map → r.state.kinds ≡ st.kinds → Reads r p
      table_reads st p r m z e k =
          subst (λ (k : ℕ). EntryReads g p.line.chip.array (get_or r.state.map l 0) (get_or r.state.kinds l 0) (pages k)) (sym z)
          (subst₂ (λ (map kinds : List ℕ). EntryReads g p.line.chip.array (get_or map l 0) (get_or kinds l 0) (entered g c book l)) (sym (e ∙ ap (λ (x : State). x.map) m.state_is)) (sym (k ∙ ap (λ (x : State). x.kinds) m.state_is))
          (table_entry (next_number st) st.invalid m.table p.line.chip.array p.started m.rest))

      in_table_reads : {r : Running} {p : Progress} → act.InTable s mask_bytes first called st₀ c book marked₀ failed₀ marks₀ agrees proper st₁ p₁ d r p → Reads r p
      in_table_reads {r} {p} w =
          let off : entry₁ < g.blocks → entry₁ ≡ w.block → ⊥ = λ b e. clash (sym (ap (bit_at (held_bits st₁ g.logical)) e) ∙ held_entry st₁ g.logical l h (omega (arith, b, v.blocks_most))) (permitted_so w.st.marked w.st.invalid (held_bits st₁ g.logical) w.block w.may).unheld in
          subst (λ (x : Running). Reads x p) (sym w.r_is)
          (subst (λ (x : Progress). EntryReads g x.line.chip.array (get_or w.st.map l 0) (get_or w.st.kinds l 0) (entered g c book l)) (sym w.p_is)
          (subst₂ (λ (map kinds : List ℕ). EntryReads g w.line.chip.array (get_or map l 0) (get_or kinds l 0) (entered g c book l)) (sym (ap (λ (x : State). x.map) w.state_is)) (sym (ap (λ (x : State). x.kinds) w.state_is))
          (entry_moved g w.A w.line.chip.array entry₁ form₁ (entered g c book l) (λ x b. w.stands.others entry₁ b (off b))
          (table_entry (next_number w.st) w.st.invalid w.table w.A w.before w.rest))))

    pub at_reads : {r : Running} {p : Progress} → At r p → r.cursor.phase < 2 → Reads r p
    at_reads {r} {p} (before_data w) k = data_reads w.st w.failed p r w.mid (ap (λ (x : Running). x.cursor.phase) w.r_is) (ap (λ (x : Running). x.state.map) w.r_is) (ap (λ (x : Running). x.state.kinds) w.r_is)
    at_reads {r} {p} (erase_data w) k = data_reads w.st w.failed p r w.mid (ap (λ (x : Running). x.cursor.phase) w.r_is) (ap (λ (x : Running). x.state.map) w.r_is) (ap (λ (x : Running). x.state.kinds) w.r_is)
    at_reads (in_data w) k = in_data_reads w
    at_reads {r} {p} (before_table st₁ p₁ d w) k = table_reads st₁ p₁ d w.st p r w.mid (ap (λ (x : Running). x.cursor.phase) w.r_is) (ap (λ (x : Running). x.state.map) w.r_is) (ap (λ (x : Running). x.state.kinds) w.r_is)
    at_reads {r} {p} (erase_table st₁ p₁ d w) k = table_reads st₁ p₁ d w.st p r w.mid (ap (λ (x : Running). x.cursor.phase) w.r_is) (ap (λ (x : Running). x.state.map) w.r_is) (ap (λ (x : Running). x.state.kinds) w.r_is)
    at_reads (in_table_fact st₁ p₁ d w) k = in_table_reads st₁ p₁ d w
    at_reads (has_ended w) k = absurd (omega (arith, k, ap (λ (x : Running). x.cursor.phase) w.r_is))
