-- Every entry of the table after a list of calls is still listed after any formattings. Assumes nothing but the law named.
use Prim.Native.Nat.{ℕ, zero, suc, ◌<◌}
use mathlib.Core.Bool.{Bool, true, false, not, cond, false≢true}
use mathlib.Core.List.{List, [], ◌∷◌}
use mathlib.Core.Path.{◌≡◌, refl, sym, ap, subst, ◌∙◌}
use borrow.Table.Steps.{cases}
use lib.ListN.{length}
use Rattle.geometry.specs.declared.Geometry.{Geometry}
use Rattle.geometry.specs.Limits.{Valid}
use Rattle.geometry.specs.Sizes.{chip_size}
use Rattle.bools.proofs.BoolLaws.{both}
use Rattle.cells.specs.Bytes.{Bytes}
use Rattle.chip_array.specs.Device.{Device, Setting}
use Rattle.chip_laws.proofs.ByteLaws.{run_bytes}
use Rattle.copies.specs.Blocks.{block_in, complete_to, is_complete, is_marked, is_table, is_copy_of}
use Rattle.copies.specs.Carried.{carried_table, listed_by}
use Rattle.copies.specs.Current.{current_table, current_copy, number_at, unlisted}
use Rattle.copies.specs.Pick.{Pick, at}
use Rattle.copies.specs.Table.{lists, with_logical, laid_table}
use Rattle.copies.proofs.PickLaws.{pick_same}
use Rattle.state.specs.declared.State.{State}
use Rattle.request.specs.Call.{sized_for, call_line, result_of}
use Rattle.recovery_stored.specs.Stored.{Left}
use Rattle.recovery_stored.specs.After.{MarksSame}
use Rattle.recovery_stored.specs.Remembered.{Remembers}
use Rattle.recovery_stored.proofs.BaseLaws.{picked_best}
use Rattle.recovery_stored.proofs.RememberedLaws.{stored_remembers}
use Rattle.recovery.specs.Calls.{setting_of, chip_of}
use Rattle.recovery.specs.Recovery.{Always}
use Rattle.recovery_proof.proofs.ToldLaws.{of_bytes}
use Rattle.format.specs.Format.{format_run, format_request, formatting}
use Rattle.recovery_format.specs.Again.{Again, formatted, power_lost, Typed, AllTyped, chip_after, reformatted, Unforgotten, PagesLeft, ForgetsNone}
use Rattle.format_laws.proofs.FormattingLaws.{format_ends}
use Rattle.format_laws.proofs.SurveyedLaws.{carried_at}
use Rattle.recovery_format.proofs.RunLaws.{sized-valid}
use Rattle.recovery_format.proofs.FormatKeeps.{format_remembers, format_marks}

-- what is said of blocks does not depend on the number of logical blocks
module _ (g : Geometry) (k : ℕ) where
  abbrev other : Geometry
  other = with_logical k g

  to_same : (block : List ℕ) (n : ℕ) → complete_to other block n ≡ complete_to g block n
  unfolding complete_to
  to_same block zero = refl
  to_same block (suc n) = rw (to_same block n)

  table_same : (block : List ℕ) → is_table other block ≡ is_table g block
  unfolding is_table is_complete is_marked
  table_same block = rw (to_same block g.pages)

  marked_same : (block : List ℕ) → is_marked other block ≡ is_marked g block
  unfolding is_marked
  marked_same block = refl

  laid_same : (marked : ℕ → Bool) (block : List ℕ) → laid_table other marked block ≡ laid_table g marked block
  unfolding laid_table
  laid_same marked block = refl

  current_same : (array : List ℕ) → current_table other array ≡ current_table g array
  unfolding current_table
  current_same array =
      pick_same (λ b. is_table other (block_in other array b)) (λ b. is_table g (block_in g array b)) (number_at other array) (number_at g array) g.blocks
      (λ b h. table_same (block_in g array b)) (λ b h w. refl)

  left_same : (x : List ℕ) → Left g x → Left other x
  left_same x l = record { page = l.page; long = l.long; is_whole = l.is_whole; is_over = l.is_over }

  -- nor does what is remembered
  pub remembers_any : (array : List ℕ) (keeps : ℕ → Bool) (t : ℕ) → Valid other → Remembers g array keeps t → Remembers other array keeps t
  unfolding is_marked
  remembers_any array keeps t v m =
      record {
        is_valid = v;
        array_long = m.array_long;
        table_is = current_same array ∙ m.table_is;
        laid = laid_same (λ b. is_marked g (block_in g array b)) (block_in g array t) ∙ m.laid;
        own = m.own;
        left = λ b i h j c l. left_same _ (m.left b i h j c l);
        kept = m.kept;
      }

refused_same : (s : Setting) (d : Device) (n : ℕ) (state : State) → sized_for s d ≡ false → (formatting s d n state).chip ≡ d
unfolding format_request result_of
refused_same s d n state f = rw f

format_bytes : (s : Setting) → Bytes s.mask → (d : Device) → Bytes d.array → (n : ℕ) (state : State) → Bytes (formatting s d n state).chip.array
format_bytes s mask_bytes d h n state =
    cases (sized_for s d)
    (λ t. subst (λ (e : Device). Bytes e.array) (format_ends s d n mask_bytes h t state).replayed.leads (run_bytes s mask_bytes (call_line d n).chip (format_run s d n state).progress.cycles h))
    (λ f. subst (λ (e : Device). Bytes e.array) (sym (refused_same s d n state f)) h)

-- an array of bytes stays one
pub reformatted_bytes : (g : Geometry) (fs : List Again) → AllTyped fs → (d : Device) → Bytes d.array → Bytes (reformatted g fs d).array
unfolding reformatted AllTyped
reformatted_bytes g [] ok d h = h
reformatted_bytes g (formatted logical a st ∷ fs) ok d h = reformatted_bytes g fs ok.1 _ (format_bytes (setting_of (with_logical logical g) a) ok.0 (chip_of a d) h a.allowed st)
reformatted_bytes g (power_lost register ∷ fs) ok d h = reformatted_bytes g fs ok.1 _ h

module _ (g : Geometry) (start : List ℕ) (keeps : ℕ → Bool) where
  -- a chip of bytes that remembers, with the factory marks of another array
  pub record Still (d : Device) : Type 0 where
    pub bytes : Bytes d.array
    pub table : ℕ
    pub remembers : Remembers g d.array keeps table
    pub marks : MarksSame g start d.array

  again_kept : (f : Again) → Typed f → (d : Device) → Still d → Still (chip_after g f d)
  unfolding is_marked
  again_kept (formatted logical a st) mask_bytes d x =
      let s = setting_of (with_logical logical g) a in
      let e = chip_of a d in
      let next = format_bytes s mask_bytes e x.bytes a.allowed st in
      cases (sized_for s e)
      (λ t.
      let there = remembers_any g logical d.array keeps x.table (sized-valid s e a.allowed t) x.remembers in
      let here = format_remembers s mask_bytes e x.bytes keeps x.table there a.allowed st in
      record {
        bytes = next;
        table = here.0;
        remembers = remembers_any (with_logical logical g) g.logical _ keeps here.0 x.remembers.is_valid here.1;
        marks = λ b h. format_marks s mask_bytes e x.bytes keeps x.table there a.allowed st b h ∙ x.marks b h;
      })
      (λ f.
      let same = refused_same s e a.allowed st f in
      record {
        bytes = next;
        table = x.table;
        remembers = subst (λ (y : Device). Remembers g y.array keeps x.table) (sym same) x.remembers;
        marks = subst (λ (y : Device). MarksSame g start y.array) (sym same) x.marks;
      })
  again_kept (power_lost register) mask_bytes d x = record { bytes = x.bytes; table = x.table; remembers = x.remembers; marks = x.marks }

  pub all_kept : (fs : List Again) → AllTyped fs → (d : Device) → Still d → Still (reformatted g fs d)
  unfolding reformatted AllTyped
  all_kept [] ok d x = x
  all_kept (f ∷ fs) ok d x = all_kept fs ok.1 (chip_after g f d) (again_kept f ok.0 d x)

-- on every chip that remembers its table
pub remembers_unforgotten : (g : Geometry) (d : Device) (t : ℕ) → Bytes d.array → Remembers g d.array (λ b. lists g (block_in g d.array t) b) t → (fs : List Again) → AllTyped fs
    → Unforgotten g d.array (reformatted g fs d).array
unfolding listed_by
remembers_unforgotten g d t bytes m fs ok =
    let x = all_kept g d.array (λ b. lists g (block_in g d.array t) b) fs ok d (record { bytes = bytes; table = t; remembers = m; marks = λ b h. refl }) in
    record {
      table = x.table;
      table_is = x.remembers.table_is;
      laid = x.remembers.laid;
      own = x.remembers.own;
      kept = λ b h k. x.remembers.kept b h (sym (ap (λ (o : Pick). listed_by g d.array o b) m.table_is) ∙ k);
    }

-- a list is carried over, and every page of an unmarked block is as this store leaves pages: no entry is lost
pub loses_none : (g : Geometry) → Valid g → (d : Device) → length d.array ≡ chip_size g → Bytes d.array → PagesLeft g d.array → (t : ℕ) → carried_table g d.array ≡ at t
    → (fs : List Again) → AllTyped fs → Unforgotten g d.array (reformatted g fs d).array
loses_none g v d long bytes left t e =
    let c = carried_at g d.array t e in
    remembers_unforgotten g d t bytes
    (record { is_valid = v; array_long = long; table_is = c.table_is; laid = c.laid; own = c.own; left = λ b i h j k l. left b i h j k; kept = λ b h k. k })

-- no copy in a block that was listed is current
pub listed_hidden : (g : Geometry) (before after : List ℕ) (x : Unforgotten g before after) (b logical : ℕ) → b < g.blocks → listed_by g before (current_table g before) b ≡ true
    → current_copy g after x.table logical ≡ at b → ⊥
unfolding current_copy
listed_hidden g before after x b logical h k e =
    let best = picked_best (λ c. cond (unlisted g after x.table c) (is_copy_of g logical (block_in g after c)) false) (number_at g after) g.blocks b e in
    let free = (both (unlisted g after x.table b) _ best.passes).0 in
    false≢true (sym (ap not (x.kept b h k)) ∙ free)

-- so after every list of calls
pub forgets_none : Always ForgetsNone
forgets_none =
    of_bytes ForgetsNone
    (λ g y i bytes fs ok. remembers_unforgotten g y.chip i.table bytes (stored_remembers g y.chip.array i.table i.stored i.table_is) fs ok)
