-- A mount after a list, with a write open or not: the invariant is kept, nothing stays open unless it is refused, and it is answered 0 unless
-- it is refused, silent or cut. Assumes nothing but the law named.
use Prim.Native.Nat.{ℕ}
use mathlib.Core.Bool.{Bool, true, false, false≢true}
use mathlib.Core.List.{List}
use mathlib.Core.Logic.{◌⊎◌, inl, inr}
use mathlib.Core.Option.{Option, none, some}
use mathlib.Core.Path.{◌≡◌, refl, sym, ap, subst, ◌∙◌}
use native.Mathlib.Omega.{arith}
use borrow.Table.Steps.{cases}
use borrow.Author.Tests.{eq-eqb, ne_eqb, eqb-true, eqb-false}
use lib.Dec.{eqb}
use Rattle.geometry.specs.declared.Geometry.{Geometry}
use Rattle.chip_array.specs.Device.{Setting}
use Rattle.operations.specs.Trace.{ArrayOperation}
use Rattle.copies.specs.Pick.{at}
use Rattle.copies.specs.Current.{current_table, mount_answer, reading}
use Rattle.request.specs.Call.{Result, Performed, sized_for, result_of, sent_in, started_in}
use Rattle.scan_summary.specs.declared.Depth.{Depth}
use Rattle.mount.specs.Mount.{state_by, state_after, mount_request}
use Rattle.mount_laws.specs.Mounting.{Mounting}
use Rattle.mount_laws.proofs.MountingLaws.{mount_ends, mount-refused}
use Rattle.recovery_stored.specs.Stored.{Stored}
use Rattle.recovery_stored.specs.Knows.{Knows}
use Rattle.recovery_stored.proofs.KnowsLaws.{mounted_knows}
use Rattle.copies.specs.Blocks.{block_in, is_marked}
use Rattle.open_write.specs.Open.{mounted_open}
use Rattle.open_write.specs.Requests.{mount_gives, open_mount_request}
use Rattle.recovery.specs.Book.{Book, Same, Note, Account, Entry, mounted, settled, fed}
use Rattle.recovery.specs.Calls.{Lent, to_mount, Store, store, state_of, under_way, setting_of, mount_on, copy_of_note, failed_next, step, chip_of}
use Rattle.recovery_write.specs.Changed.{Agrees}
use Rattle.recovery_proof.specs.Invariant.{due_of, Up, Inv}
use Rattle.recovery_proof.proofs.InvariantLaws.{sizes_fit, up_inv, up_mounted, found_by, found_inv, stopped_inv, failed_none, left_with, left_state, left_kept}

pub same_at : {a b : ℕ} → at a ≡ at b → a ≡ b
same_at e = cc

-- the note is cleared
settled-none : (g : Geometry) (copy : Bool) (o : Option Note) (b : Book) → (settled g copy o b).noted ≡ none
unfolding settled
settled-none g copy none b = refl
settled-none g copy (some t) b = refl

-- the book after a mount, by its answer
pub fed_done : (g : Geometry) (answer : ℕ) (copy : Bool) (y : Account) → answer ≡ 0 → fed g (mounted answer copy) y ≡ settled g copy y.noted y.book
unfolding fed
fed_done g answer copy y z = rw (eq-eqb answer 0 z)

fed_other : (g : Geometry) (answer : ℕ) (copy : Bool) (y : Account) → (answer ≡ 0 → ⊥) → fed g (mounted answer copy) y ≡ y
unfolding fed
fed_other g answer copy y x = rw (ne_eqb answer 0 x)

module _ (g : Geometry) (y : Store) (i : Inv g y) (depth : Depth) (a : Lent) where
  abbrev s : Setting
  s = setting_of g a

  -- the mount, on the base state
  abbrev base : Performed Result
  base = mount_request depth s (chip_of a y.chip) a.allowed y.state

  abbrev r : Result
  r = result_of base

  abbrev array : List ℕ
  array = y.chip.array

  abbrev entry : Entry
  entry = mounted r.answer (copy_of_note g r.chip.array (under_way y))

  -- what it leaves
  abbrev lifted : Bool → Store
  lifted b = left_with b y r.state r.chip (fed g entry y.account) (failed_next entry y.failed (started_in base))

  lifted_is : step g (to_mount depth a) y ≡ lifted (mount_gives r.answer)
  unfolding result_of sent_in started_in step open_mount_request
  lifted_is = refl

  pub answer_is : (mount_on depth g a y).answer ≡ r.answer
  unfolding result_of open_mount_request
  answer_is = refl

  refused : sized_for s (chip_of a y.chip) ≡ false → step g (to_mount depth a) y ≡ found_by a y
  unfolding result_of sent_in started_in step open_mount_request mount_request fed failed_next
  refused f = rw f (ap (store (state_of y) (chip_of a y.chip) y.account y.marked) (failed_none y.failed))

  module _ (t : sized_for s (chip_of a y.chip) ≡ true) where
    m : Mounting depth s (chip_of a y.chip) a.allowed r
    m = mount_ends depth s (chip_of a y.chip) a.allowed t y.state

    -- neither silent nor cut it is answered 0: what the store leaves always mounts
    pub mount_done : (r.answer ≡ 10 → ⊥) → (r.answer ≡ 11 → ⊥) → r.answer ≡ 0
    mount_done x x' = m.answer_is x x' ∙ i.stored.mounts

    stops : (b : Bool) → (r.answer ≡ 10) ⊎ (r.answer ≡ 11) → (r.answer ≡ 0 → ⊥) → Inv g (lifted b)
    stops b x z =
        stopped_inv g y i (lifted b) (sizes_fit s r.chip m.sizes_kept) (left_kept y r.state r.chip (fed g entry y.account) (failed_next entry y.failed (started_in base)) b ∙ i.kept) m.same_array (fed_other g r.answer _ y.account z) refl
        (left_state y r.state r.chip (fed g entry y.account) (failed_next entry y.failed (started_in base)) b ∙ m.stops x)

    module _ (z : r.answer ≡ 0) where
      state_is : r.state ≡ state_by depth g array
      unfolding state_after
      state_is =
          m.state_is (λ e. omega (arith, e, z)) (λ e. omega (arith, e, z)) ∙ rw (eq-eqb (mount_answer g array) 0 i.stored.mounts)

      knows : Knows g r.chip.array r.state
      knows =
          subst (λ (x : List ℕ). Knows g x r.state) (sym m.same_array)
          (subst (Knows g array) (sym state_is) (mounted_knows depth g i.stored.is_valid array i.stored.array_long i.stored.mounts))

      table_same : r.state.table ≡ i.table
      table_same = same_at (sym knows.table_is ∙ ap (current_table g) m.same_array ∙ i.table_is)

      reads_due : Same g (reading g r.chip.array i.table) (due_of g r.chip.array y.account)
      reads_due = subst (λ (x : List ℕ). Same g (reading g x i.table) (due_of g x y.account)) (sym m.same_array) i.reads

      abbrev next : Account
      next = fed g entry y.account

      next_is : next ≡ settled g (copy_of_note g r.chip.array (under_way y)) (under_way y) y.account.book
      next_is = fed_done g r.answer (copy_of_note g r.chip.array (under_way y)) y.account z

      cleared : (os : List ArrayOperation) (b : ℕ) → failed_next entry y.failed os b ≡ false
      unfolding failed_next
      cleared os b = rw (eq-eqb r.answer 0 z)

      agrees : (os : List ArrayOperation) → Agrees g r.chip.array r.state next.book (failed_next entry y.failed os)
      agrees os =
          record {
            stored = subst (Stored g) (sym m.same_array) i.stored;
            knows = knows;
            reads = λ l p h k. ap (λ (x : ℕ). reading g r.chip.array x l p) table_same ∙ reads_due l p h k ∙ sym (ap (λ (x : Account). x.book l p) next_is);
            failed_listed = λ b h e. absurd (false≢true (sym (cleared os b) ∙ e));
          }

      up : Up g (lifted true)
      up =
          record {
            agrees = agrees (started_in base);
            ready = m.still_ready z;
            quiet = ap (λ (x : Account). x.noted) next_is ∙ settled-none g (copy_of_note g r.chip.array (under_way y)) (under_way y) y.account.book;
            shut = refl;
          }

      mounts : Inv g (lifted true)
      mounts =
          up_inv g (lifted true) (sizes_fit s r.chip m.sizes_kept) (left_kept y r.state r.chip next (failed_next entry y.failed (started_in base)) true ∙ i.kept)
          (λ k h. ap (λ (x : List ℕ). is_marked g (block_in g x k)) m.same_array ∙ i.marks k h) up

      gives_up : lifted (mount_gives r.answer) ≡ lifted true
      gives_up = ap (λ (k : ℕ). lifted (mount_gives k)) z

  pub mount_step : Inv g (step g (to_mount depth a) y)
  mount_step =
      cases (sized_for s (chip_of a y.chip))
      (λ t.
      subst (Inv g) (sym lifted_is)
      (cases (eqb r.answer 10)
      (λ e. stops t (mount_gives r.answer) (inl (eqb-true r.answer 10 e)) (λ z. omega (arith, z, eqb-true r.answer 10 e)))
      (λ e.
      cases (eqb r.answer 11)
      (λ e'. stops t (mount_gives r.answer) (inr (eqb-true r.answer 11 e')) (λ z. omega (arith, z, eqb-true r.answer 11 e')))
      (λ e'.
      let z = mount_done t (eqb-false r.answer 10 e) (eqb-false r.answer 11 e') in
      subst (Inv g) (sym (gives_up t z)) (mounts t z)))))
      (λ f. subst (Inv g) (sym (refused f)) (found_inv g a y i))

  -- answered 0 it leaves nothing under way
  pub mount_quiet : r.answer ≡ 0 → under_way (step g (to_mount depth a) y) ≡ none
  mount_quiet z =
      cases (sized_for s (chip_of a y.chip))
      (λ t. ap under_way (lifted_is ∙ gives_up t z) ∙ (up t z).quiet)
      (λ f. absurd (omega (arith, z, mount-refused depth s (chip_of a y.chip) a.allowed y.state f)))

  -- and a state that counts as mounted
  pub mount_mounted : r.answer ≡ 0 → mounted_open g (state_of (step g (to_mount depth a) y)) ≡ true
  mount_mounted z =
      cases (sized_for s (chip_of a y.chip))
      (λ t. ap (λ (x : Store). mounted_open g (state_of x)) (lifted_is ∙ gives_up t z) ∙ up_mounted g (lifted true) (mounts t z).kept (up t z))
      (λ f. absurd (omega (arith, z, mount-refused depth s (chip_of a y.chip) a.allowed y.state f)))
