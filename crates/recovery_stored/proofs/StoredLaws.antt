-- The chip that an acknowledged formatting leaves is one that this store can leave. Assumes nothing.
use Prim.Native.Nat.{ℕ, ◌<◌}
use mathlib.Core.Bool.{false}
use mathlib.Core.List.{List}
use mathlib.Core.Path.{◌≡◌, sym, ap, subst, ◌∙◌}
use native.Mathlib.Omega.{arith}
use borrow.Table.Steps.{cases}
use borrow.Author.Tests.{eqb-true, eqb-false}
use lib.Dec.{eqb}
use lib.ListN.{length, replicate}
use Rattle.geometry.specs.declared.Geometry.{Geometry}
use Rattle.geometry.specs.Limits.{Valid}
use Rattle.geometry.specs.Sizes.{page_size, chip_size}
use Rattle.pages.specs.Over.{Over}
use Rattle.pages.proofs.OverLaws.{over_refl}
use Rattle.copies.specs.Blocks.{block_in, page_in, is_marked}
use Rattle.copies.specs.Pick.{at}
use Rattle.copies.specs.Table.{lists}
use Rattle.state.specs.declared.State.{State}
use Rattle.state.proofs.MountedLaws.{mounted_facts}
use Rattle.request.specs.Call.{Result}
use Rattle.request.proofs.CallLaws.{sizes}
use Rattle.chip_array.specs.Device.{Setting}
use Rattle.damage.proofs.FillLaws.{over-erased}
use Rattle.damage.proofs.PlaceLaws.{page-long}
use Rattle.format_laws.specs.Formatting.{Formatted, Acknowledged}
use Rattle.copies.specs.Current.{current_table}
use Rattle.recovery_stored.specs.Stored.{Left, Stored}
use Rattle.recovery_stored.specs.After.{Based, Free}

pub same_at : {a b : ℕ} → at a ≡ at b → a ≡ b
same_at e = cc

module _ (g : Geometry) (v : Valid g) (array : List ℕ) (long : length array ≡ chip_size g) (st : State) (f : Formatted g array st) where
  abbrev row : ℕ → List ℕ
  row b = block_in g array b

  -- the table's own pages are whole
  table_left : st.table < g.blocks → (i : ℕ) → i < g.pages → Left g (page_in g (row st.table) i)
  table_left there i h =
      record { page = page_in g (row st.table) i; long = page-long g v array long st.table there i h; is_whole = f.table_whole i h; is_over = over_refl (page_in g (row st.table) i) (f.table_bytes i h) }

  -- and those of the former table
  former_left : f.former < g.blocks → (i : ℕ) → i < g.pages → Left g (page_in g (row f.former) i)
  former_left there i h =
      record { page = page_in g (row f.former) i; long = page-long g v array long f.former there i h; is_whole = f.former_whole there i h; is_over = over_refl (page_in g (row f.former) i) (f.former_bytes there i h) }

  -- FFh is any of them with all bits raised
  erased-left : st.table < g.blocks → (i : ℕ) → i < g.pages → Left g (replicate (page_size g) 255)
  erased-left there i hi =
      let page = page_in g (row st.table) i in
      record {
        page = page;
        long = page-long g v array long st.table there i hi;
        is_whole = f.table_whole i hi;
        is_over = subst (λ (n : ℕ). Over page (replicate n 255)) (page-long g v array long st.table there i hi) (over-erased page (f.table_bytes i hi));
      }

  module _ (below : st.table < g.blocks) where
    pages_left : (b i : ℕ) → b < g.blocks → i < g.pages → is_marked g (row b) ≡ false → lists g (row st.table) b ≡ false → Left g (page_in g (row b) i)
    pages_left b i hb hi m l =
        cases (eqb b st.table)
        (λ e. subst (λ (k : ℕ). Left g (page_in g (row k) i)) (sym (eqb-true b st.table e)) (table_left below i hi))
        (λ e.
        cases (eqb b f.former)
        (λ u.
        let at-former = eqb-true b f.former u in
        subst (λ (k : ℕ). Left g (page_in g (row k) i)) (sym at-former) (former_left (omega (arith, hb, at-former)) i hi))
        (λ u. subst (Left g) (sym (f.erased b hb (eqb-false b st.table e) (eqb-false b f.former u) m l i hi)) (erased-left below i hi)))

    pub formatted_stored : Stored g array
    formatted_stored =
        record {
          is_valid = v;
          array_long = long;
          mounts = f.mounts;
          left = λ t b i e hb hi m l. pages_left b i hb hi m (ap (λ (k : ℕ). lists g (row k) b) (same_at (sym f.table_is ∙ e)) ∙ l);
        }

-- what demand 3 starts from
pub acknowledged_stored : (s : Setting) (r : Result) → Acknowledged s r → Stored s.geometry r.chip.array
acknowledged_stored s r a =
    let z = sizes s.geometry (length r.chip.array) (length r.chip.register) (length r.chip.history) (length s.mask) a.still_sized in
    let v = z.chip_fits.is_valid in
    let m = mounted_facts r.state s.geometry.blocks s.geometry.logical v.blocks_most a.counts_mounted in
    formatted_stored s.geometry v r.chip.array z.chip_fits.array_long r.state a.formatted m.table_below

-- a free block of a chip between two calls may be erased or filled
pub stored_based : (g : Geometry) (array : List ℕ) (t b : ℕ) → Stored g array → current_table g array ≡ at t → Free g array t b → Based g array t b
stored_based g array t b s e f =
    record {
      is_valid = s.is_valid;
      array_long = s.array_long;
      table_is = e;
      below = f.below;
      unmarked = f.unmarked;
      off_table = f.off_table;
      left = λ i h. s.left t b i e f.below h f.unmarked f.unlisted;
    }
