-- A block that is complete as the new copy of a logical block is current, and all else stays. Assumes nothing.
use Prim.Native.Nat.{ℕ, ◌+◌, ◌<◌, ◌^◌}
use mathlib.Core.Bool.{true, false, cond}
use mathlib.Core.List.{List}
use mathlib.Core.Path.{◌≡◌, refl, sym, ap, subst, ◌∙◌}
use native.Mathlib.Omega.{arith}
use borrow.Author.Tests.{eq-eqb}
use lib.Dec.{eqb}
use lib.ListN.{length}
use Rattle.geometry.specs.declared.Geometry.{Geometry}
use Rattle.geometry.specs.Limits.{Valid}
use Rattle.bools.proofs.BoolLaws.{both, clash}
use Rattle.cells.specs.Bytes.{Bytes}
use Rattle.pages.specs.Layout.{Label, label, data_kind, is_data_kind, is_table_kind}
use Rattle.pages.proofs.LayoutLaws.{data_is, data_width}
use Rattle.copies.specs.Blocks.{block_in, page_in, label_in, is_complete, is_table, is_data, is_copy_of}
use Rattle.copies.specs.Pick.{at}
use Rattle.copies.specs.Current as current
use Rattle.copies.specs.Current.{current_table, current_copy, kind_at, number_at, unlisted}
use Rattle.copies.proofs.CompleteLaws.{complete_pages, data_complete, copy_data}
use Rattle.fill.specs.Fill.{copy, copy_page}
use Rattle.state.specs.State.{number_end}
use Rattle.damage.specs.Run.{Labelled}
use Rattle.damage.proofs.CopyLaws.{copy-label, copy_main}
use Rattle.recovery_stored.specs.Stored.{Stored}
use Rattle.recovery_stored.specs.After.{After, Based, Below, Free, Renewed}
use Rattle.recovery_stored.proofs.StoredLaws.{stored_based}
use Rattle.recovery_stored.proofs.BaseLaws as base
use Rattle.recovery_stored.proofs.CalmLaws as calm

data_no_table : is_table_kind data_kind ≡ false
unfolding is_table_kind
data_no_table = refl

-- a data copy under a number that is left
pub data_label : (logical n : ℕ) → logical < 65536 → n < number_end → Labelled (copy data_kind logical n)
data_label logical n l h =
    record {
      width_some = omega (arith, data_width);
      kind_byte = omega arith;
      logical_fits = l;
      number_fits = subst (λ (w : ℕ). n < 256 ^ w) (sym data_width) h;
    }

module _ (g : Geometry) (before after : List ℕ) (t b n logical : ℕ) (s : Stored g before) (e : current_table g before ≡ at t) (f : Free g before t b)
    (low : Below g before n) (left : n < number_end) (on_chip : logical < g.logical) (main : ℕ → List ℕ) (size : (i : ℕ) → i < g.pages → length (main i) ≡ g.main) (bytes : (i : ℕ) → i < g.pages → Bytes (main i))
    (r : After g before after b (λ i. copy_page g (copy data_kind logical n) i (main i))) (done : is_complete g (block_in g after b) ≡ true) where
  abbrev y : ℕ → List ℕ
  y i = copy_page g (copy data_kind logical n) i (main i)

  abbrev row : List ℕ
  row = block_in g after b

  v : Valid g
  v = s.is_valid

  based : Based g before t b
  based = stored_based g before t b s e f

  fits : Labelled (copy data_kind logical n)
  fits = data_label logical n (omega (arith, on_chip, v.logical_most, v.blocks_most)) left

  pages_are : (i : ℕ) → i < g.pages → page_in g row i ≡ y i
  pages_are i h = r.only i h ((complete_pages g row done).is_whole i h)

  first : label_in g row 0 ≡ label data_kind logical 0 n
  first = copy-label g v (copy data_kind logical n) fits main size bytes row pages_are 0 (omega (arith, v.pages_least))

  number_is : number_at g after b ≡ n
  number_is = ap (λ (l : Label). l.number) first

  is_data_fact : is_data g row ≡ true
  unfolding is_data
  is_data_fact = rw done (ap (λ (l : Label). is_data_kind l.kind) first ∙ data_is)

  no_table : is_table g row ≡ false
  unfolding is_table
  no_table = rw done (ap (λ (l : Label). is_table_kind l.kind) first ∙ data_no_table)

  is_copy : is_copy_of g logical row ≡ true
  unfolding is_copy_of
  is_copy = rw is_data_fact (ap (λ (l : Label). eqb l.logical logical) first ∙ eq-eqb logical logical refl)

  table_is : current_table g after ≡ at t
  table_is =
      base.table_stays g before after t b y based r
      (λ c h w. base.pages_kept g before after t b y based r c h (λ q. clash (subst (λ (k : ℕ). is_table g (block_in g after k) ≡ true) q w) no_table))

  -- the copies of this logical block
  copy_is : current_copy g after t logical ≡ at b
  unfolding current_copy
  copy_is =
      base.best_new g before after t b y based r n low number_is
      (λ c. cond (unlisted g after t c) (is_copy_of g logical (block_in g after c)) false)
      (λ c h w. data_complete g (block_in g after c) (copy_data g logical (block_in g after c) (both (unlisted g after t c) (is_copy_of g logical (block_in g after c)) w).1).0)
      (rw (base.table_row g before after t b y based r, f.unlisted) is_copy)

  -- and of the others
  not_this : (l c : ℕ) → (l ≡ logical → ⊥) → is_copy_of g l (block_in g after c) ≡ true → c ≡ b → ⊥
  not_this l c x w q =
      x (sym (copy_data g l row (subst (λ (k : ℕ). is_copy_of g l (block_in g after k) ≡ true) q w)).1 ∙ ap (λ (z : Label). z.logical) first)

  copies_are : (l : ℕ) → l < g.logical → (l ≡ logical → ⊥) → current_copy g after t l ≡ current_copy g before t l
  copies_are l h x =
      calm.copy_stays g before after t b y s e f r t (calm.lists_old g before after t b y s e f r) l h
      (λ c k w. base.pages_kept g before after t b y based r c k (not_this l c x w)) (calm.copy_free g before after t b y s e f r l)

  kind_is : (label_in g row 0).kind ≡ data_kind
  kind_is = ap (λ (l : Label). l.kind) first

  pub near_data : Renewed g before after t logical b main
  unfolding current.page_of kind_at
  near_data =
      record {
        stored = calm.stored_same g before after t b y s e f r table_is
            (calm.apart_new g before after t b y s e f r t (calm.lists_old g before after t b y s e f r) n low number_is (λ d. omega (arith, ap (λ (z : Label). z.logical) first, on_chip)));
        marks = calm.marks g before after t b y s e f r;
        table_is = table_is;
        table_same = base.table_row g before after t b y based r;
        copy_is = copy_is;
        kind_new = ap (kind_at g after) copy_is ∙ kind_is;
        copies = copies_are;
        kinds = λ l h x. calm.kind_stays g before after t b y s e f r t l h (copies_are l h x);
        reads_new = λ p h. ap (current.page_of g after p) copy_is ∙ copy_main g v (copy data_kind logical n) fits main size bytes row pages_are p h;
        reads = λ l p h k x. calm.reads_stay g before after t b y s e f r t l p h (copies_are l h x);
      }

  pub data_below : Below g after (n + 1)
  data_below = base.below_new g before after t b y based r n low number_is
