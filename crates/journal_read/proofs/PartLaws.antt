-- One read of a page of the journal: what it leaves and gives, on a chip that may not be ready. Assumes nothing.
use Prim.Native.Nat.{ℕ, zero, suc, ◌+◌, ◌-◌, ◌*◌, ◌/◌, ◌%◌, ◌≤◌, ◌<◌}
use mathlib.Core.Bool.{true, false, false≢true}
use mathlib.Core.List.{List, ◌∷◌}
use mathlib.Core.Path.{◌≡◌, refl, sym, ap, ◌∙◌}
use native.Mathlib.Nat.{div-lt_iff_lt-mul}
use native.Mathlib.Omega.{arith}
use borrow.Table.Steps.{cases}
use borrow.Author.Tests.{eq-eqb, ne_eqb, lt-leb, leb-true, leb-false}
use lib.Dec.{leb}
use lib.Bits.{bit_xor}
use lib.ListN.{length, get_or, take, drop, replicate}
use lib.Seq.{ext_get_or, get_or-take, length-take-le, take_all}
use Rattle.geometry.specs.declared.Geometry.{Geometry}
use Rattle.geometry.specs.Limits.{Valid}
use Rattle.geometry.specs.Sizes.{page_size, row_of}
use Rattle.geometry.proofs.SizeLaws.{row_below, row_page_below}
use Rattle.cells.specs.Cells.{over}
use Rattle.cells.specs.Part.{part}
use Rattle.cells.proofs.PartLaws.{part-take}
use Rattle.chip_interface.specs.Interface.{output_phase, read_code, plain_command, read_mode}
use Rattle.chip_array.specs.Device.{Device, Setting, illegal_cycle}
use Rattle.chip.specs.Chip.{exec, commanded, is_confirm}
use Rattle.chip.specs.Chip.Cycle.{command}
use Rattle.bus.specs.Line.{Line, send_all}
use Rattle.bus.proofs.LineLaws.{sent_counts}
use Rattle.bus_polling.specs.Outcomes.{is_passed, answered}
use Rattle.bus_polling.specs.Polling.{outcome_of}
use Rattle.bus_polling.proofs.OutcomeLaws.{passed_answered}
use Rattle.bus_polling.specs.declared.Outcome.{Outcome}
use Rattle.bus_polling.specs.declared.Outcome.TheVariants.{Passed}
use Rattle.bus_sequences.specs.Cycles.{page_read, read_cycles, read_outcome, read_outputs}
use Rattle.operations.specs.Ends.{Called, Lent, CanRead, End, end_of, unready_line, unready_end}
use Rattle.operations.proofs.UnreadyLaws.{called_lent, lent_called, all_stops, unready_unanswered, unready_ends}
use Rattle.whitening.specs.Whitened.{whitened}
use Rattle.whitening.specs.Stream.{byte_given}
use Rattle.whitening.proofs.WhitenedLaws.{length-whitened, get_or-whitened}
use Rattle.pages.specs.Layout.{is_white_kind}
use Rattle.copies.specs.Blocks.{block_in, page_in, main_in, formed}
use Rattle.copies.proofs.PlaceLaws.{row_is_page}
use Rattle.state.specs.State.{none}
use Rattle.progress.specs.Progress.{progress}
use Rattle.progress.proofs.ReadOnLaws.{Read, read_leaves, read_line, read_outcome_fact}
use Rattle.journal_read.specs.Reads.{block_of, kind_of, pages_by, part_on}
use Rattle.journal_read.specs.Found.{Mapped, PartRead}

-- 00h on a chip that is not ready
read_refused : (s : Setting) (d : Device) → output_phase < d.interface.phase → exec s d (command read_code) ≡ illegal_cycle d
unfolding exec commanded is_confirm plain_command read_mode
read_refused s d h = rw (lt-leb d.interface.phase 2 h)

module _ (s : Setting) (l : Line) (lent : Lent s l) (h : output_phase < l.chip.interface.phase) (row column n : ℕ) where
  unready_array : (unready_line l).chip.array ≡ l.chip.array
  unfolding end_of unready_end
  unready_array = ap (λ (e : End). e.array) (unready_ends l)

  unready_history : (unready_line l).chip.history ≡ l.chip.history
  unfolding end_of unready_end
  unready_history = ap (λ (e : End). e.history) (unready_ends l)

  read_unready_line : send_all s l (read_cycles s l row column n) ≡ unready_line l
  unfolding read_cycles
  read_unready_line = all_stops s l lent (command read_code) (read_refused s l.chip h) _

  page_unready_line : send_all s l (page_read s l row column) ≡ unready_line l
  page_unready_line = all_stops s l lent (command read_code) (read_refused s l.chip h) _

  unready_page : is_passed (outcome_of (send_all s l (page_read s l row column))) ≡ false
  unready_page =
      cases (is_passed (outcome_of (send_all s l (page_read s l row column))))
      (λ t. absurd (false≢true (sym (ap (λ (x : Line). answered (outcome_of x)) page_unready_line ∙ unready_unanswered l) ∙ passed_answered (outcome_of (send_all s l (page_read s l row column))) t)))
      (λ f. f)

  read_unpassed : is_passed (read_outcome s l row column n) ≡ false
  unfolding read_outcome
  read_unpassed = rw unready_page unready_page

-- bytes of an erased page
take-ones : (n m : ℕ) → n ≤ m → take {A = ℕ} n (replicate m 255) ≡ replicate n 255
take-ones zero m h = refl
take-ones (suc n) zero h = absurd (omega (arith, h))
take-ones (suc n) (suc m) h = ap (λ (xs : List ℕ). 255 ∷ xs) (take-ones n m (omega (arith, h)))

-- the first bytes undone are the first of those undone
white-take : (p n : ℕ) (main : List ℕ) → n ≤ length main → whitened p (take n main) ≡ take n (whitened p main)
white-take p n main h =
    let short : length (take n main) ≡ n = length-take-le n main h in
    let long : length (take n (whitened p main)) ≡ n = length-take-le n (whitened p main) (omega (arith, h, length-whitened p main)) in
    ext_get_or 0 (whitened p (take n main)) (take n (whitened p main)) (length-whitened p (take n main) ∙ short ∙ sym long)
    (λ k l.
    let low : k < n = omega (arith, l, length-whitened p (take n main), short) in
    get_or-whitened p (take n main) k (omega (arith, low, short))
    ∙ ap (λ (x : ℕ). bit_xor x (byte_given k (p + 1))) (get_or-take n main k 0 low)
    ∙ sym (get_or-take n (whitened p main) k 0 low ∙ get_or-whitened p main k (omega (arith, low, h))))

white-first : (p n : ℕ) (main : List ℕ) → whitened p (take n main) ≡ take n (whitened p main)
white-first p n main =
    cases (leb n (length main))
    (λ t. white-take p n main (leb-true n (length main) t))
    (λ f.
    let few : length main ≤ n = omega (arith, leb-false n (length main) f) in
    ap (whitened p) (take_all n main few) ∙ sym (take_all n (whitened p main) (omega (arith, few, length-whitened p main))))

formed-take : (kind p n : ℕ) (main : List ℕ) → formed kind p (take n main) ≡ take n (formed kind p main)
unfolding formed
formed-take kind p n main = cases (is_white_kind kind) (λ t. rw t (white-first p n main)) (λ t. rw t refl)

-- the first bytes of a page's main part, by its row
main_part : (g : Geometry) → Valid g → (array : List ℕ) (b p n : ℕ) → p < g.pages → n ≤ g.main → part (row_of g b p * page_size g + 0) n array ≡ take n (main_in g (block_in g array b) p)
main_part g v array b p n h w =
    sym (part-take 0 n (page_size g) (drop (row_of g b p * page_size g + 0) array) (omega (arith, w)))
    ∙ ap (take n) (row_is_page g v array b p h)
    ∙ sym (part-take 0 n g.main (page_in g (block_in g array b) p) (omega (arith, w)))

-- the bytes of page k as they are undone
pub undone_so : (g : Geometry) (kinds : List ℕ) (k logical page : ℕ) (bytes undone : List ℕ) → logical ≡ k / g.pages → page ≡ k % g.pages
    → undone ≡ formed (get_or kinds logical 0) page bytes → undone ≡ formed (kind_of g kinds k) (k % g.pages) bytes
undone_so g kinds k logical page bytes undone l p e = e ∙ (λ i. formed (get_or kinds (l i) 0) (p i) bytes)

module _ (s : Setting) (map kinds : List ℕ) (k n : ℕ) (l : Line) (lent : Lent s l) (mapped : Mapped s.geometry map kinds) (below : k < s.geometry.logical * s.geometry.pages) (within : n ≤ s.geometry.main) where
  abbrev g : Geometry
  g = s.geometry

  abbrev block : ℕ
  block = block_of g map k

  abbrev row : ℕ
  row = row_of g block (k % g.pages)

  page_below : k % g.pages < g.pages
  page_below = row_page_below g lent.is_valid k

  pub logical_below : k / g.pages < g.logical
  logical_below = (div-lt_iff_lt-mul {k = g.pages} {x = k} {y = g.logical} (omega (arith, lent.is_valid.pages_least))).1 below

  -- a logical block without a copy
  pub none_there : block ≡ none → (bytes : List ℕ) → bytes ≡ replicate n 255 → PartRead s map kinds k n l l Passed bytes
  unfolding part_on pages_by
  none_there z bytes e =
      let t = eq-eqb block none z in
      record {
        ran = record {
          line_is = λ cs os. rw t;
          outcome_is = λ cs os. rw t;
          same_array = refl;
          same_history = refl;
          left_most = omega arith;
          next = λ _. lent;
        };
        bytes_are = λ _. rw t (e ∙ sym (take-ones n g.main within));
      }

  module _ (x : block ≡ none → ⊥) where
    pub block_below : block < g.blocks
    block_below = mapped.below (k / g.pages) logical_below x

    can_read : Called s l → CanRead s l row 0 n
    can_read c =
        record {
          called = c;
          row_below = row_below g c.is_valid block (k % g.pages) block_below page_below;
          column_below = omega (arith, c.is_valid.main_least);
          within = omega (arith, within);
        }

    module _ (m : Line) (o : Outcome) (buffer bytes : List ℕ) (undone : List ℕ) (long : length buffer ≡ n) (reached : m ≡ send_all s l (read_cycles s l row 0 n)) (ended : o ≡ read_outcome s l row 0 n) (out : bytes ≡ over (read_outputs s l row 0 n) buffer)
        (undoes : is_passed o ≡ true → undone ≡ formed (kind_of g kinds k) (k % g.pages) bytes) where
      -- on a chip that is ready
      ready_read : Called s l → Read s l m o row 0 n bytes
      ready_read c = read_leaves s l row 0 n (can_read c) m o buffer bytes long reached ended out

      -- on one that is not
      module _ (h : output_phase < l.chip.interface.phase) where
        line_unready : m ≡ unready_line l
        line_unready = reached ∙ read_unready_line s l lent h row 0 n

        unpassed : is_passed o ≡ true → ⊥
        unpassed t = false≢true (sym (ap is_passed ended ∙ read_unpassed s l lent h row 0 n) ∙ t)

      abbrev What : Type 0
      What = (m.chip.array ≡ l.chip.array) × ((m.chip.history ≡ l.chip.history) × (is_passed o ≡ true → Lent s m × (undone ≡ take n (pages_by g l.chip.array map kinds k))))

      leaves : What
      unfolding pages_by
      leaves =
          cases (leb l.chip.interface.phase output_phase)
          (λ t.
          let c = lent_called lent (leb-true l.chip.interface.phase output_phase t) in
          let r = ready_read c in (
            r.same_array,
            (
              r.same_history,
              λ p. (
                called_lent (r.next p),
                undoes p ∙ ap (formed (kind_of g kinds k) (k % g.pages)) (r.bytes_are p ∙ main_part g lent.is_valid l.chip.array block (k % g.pages) n page_below within)
                    ∙ formed-take (kind_of g kinds k) (k % g.pages) n (main_in g (block_in g l.chip.array block) (k % g.pages)) ∙ rw (ne_eqb block none x),
              ),
            ),
          ))
          (λ t.
          let h = leb-false l.chip.interface.phase output_phase t in
          (ap (λ (y : Line). y.chip.array) (line_unready h) ∙ unready_array s l lent h row 0 n, (ap (λ (y : Line). y.chip.history) (line_unready h) ∙ unready_history s l lent h row 0 n, λ p. absurd (unpassed h p))))

      pub one_there : PartRead s map kinds k n l m o undone
      unfolding part_on is_passed
      one_there =
          let f = ne_eqb block none x in
          record {
            ran = record {
              line_is = λ cs os. reached ∙ rw f (sym (read_line s row 0 n (progress l Passed cs os) l refl refl));
              outcome_is = λ cs os. ended ∙ rw f (sym (read_outcome_fact s row 0 n (progress l Passed cs os) l refl refl));
              same_array = leaves.0;
              same_history = leaves.1.0;
              left_most = omega (arith, ap (λ (y : Line). y.left) reached, sent_counts s l (read_cycles s l row 0 n));
              next = λ p. (leaves.1.1 p).0;
            };
            bytes_are = λ p. (leaves.1.1 p).1;
          }
