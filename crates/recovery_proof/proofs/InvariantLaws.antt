-- How the invariant is kept where the array stays, and where a mounted state goes with it. Assumes nothing.
use Prim.Native.Nat.{ℕ, ◌≤◌}
use mathlib.Core.Bool.{Bool, true, false, cond, false≢true}
use mathlib.Core.List.{List, []}
use mathlib.Core.Logic.{◌⊎◌, inl, inr, ⊎_elim}
use mathlib.Core.Option.{Option, none}
use mathlib.Core.Path.{◌≡◌, refl, sym, ap, subst, fun_ext, ◌∙◌}
use native.Mathlib.Omega.{arith}
use borrow.Author.Tests.{eq-eqb}
use lib.ListN.{length, length-replicate}
use Rattle.geometry.specs.declared.Geometry.{Geometry}
use Rattle.geometry.specs.Sizes.{block_size}
use Rattle.bools.proofs.BoolLaws.{both, or_none}
use Rattle.chip_array.specs.Device.{Device, Setting, lengths_fit}
use Rattle.copies.specs.Current.{current_table, reading}
use Rattle.state.specs.State.{blank, mounted}
use Rattle.state.specs.declared.State.{State}
use Rattle.request.specs.Call.{sized, sized_for}
use Rattle.open_write.specs.Open.{OpenState, with_state, closed, kept_bytes, open_fits, mounted_open}
use Rattle.damage.specs.Run.{failed_in}
use Rattle.recovery_stored.specs.Stored.{Stored}
use Rattle.recovery_stored.proofs.KnowsLaws.{knows_mounted}
use Rattle.copies.specs.Blocks.{block_in, is_marked}
use Rattle.recovery_write.specs.Changed.{Agrees, MarkedBy}
use Rattle.recovery_write.proofs.StandsLaws.{stands_still}
use Rattle.recovery.specs.Book.{Book, Same, Note, Account, write, settled}
use Rattle.recovery.specs.Calls.{Lent, Store, store, state_of, chip_of, copy_of_note, failed_after}
use Rattle.recovery_proof.specs.Invariant.{due_of, Up, Open, Inv}

-- sizes for a call: those of the chip, and the mask's
pub sizes_fit : (s : Setting) (d : Device) → sized_for s d ≡ true → lengths_fit s.geometry d ≡ true
unfolding sized
sizes_fit s d t = (both (lengths_fit s.geometry d) _ t).0

pub fit_sizes : (s : Setting) (d : Device) → lengths_fit s.geometry d ≡ true → length s.mask ≡ block_size s.geometry → sized_for s d ≡ true
unfolding sized
fit_sizes s d t e = rw (t, eq-eqb (length s.mask) (block_size s.geometry) e)

-- where nothing is noted, the book as it is
pub due_quiet : (g : Geometry) (array : List ℕ) (y : Account) → y.noted ≡ none → due_of g array y ≡ y.book
unfolding settled copy_of_note
due_quiet g array y e =
    subst (λ (o : Option Note). (settled g (copy_of_note g array o) o y.book).book ≡ y.book) (sym e) refl

-- a mounted state
pub up_inv : (g : Geometry) (y : Store) → lengths_fit g y.chip ≡ true → length y.page ≡ kept_bytes → MarkedBy g y.chip.array y.marked → Up g y → Inv g y
up_inv g y f k m u =
    record {
      fits = f;
      kept = k;
      marks = m;
      stored = u.agrees.stored;
      table = y.state.table;
      table_is = u.agrees.knows.table_is;
      reads = λ l p h k. u.agrees.reads l p h k ∙ sym (ap (λ b. b l p) (due_quiet g y.chip.array y.account u.quiet));
      is = inl u;
    }

-- neither array nor book changed
pub still_inv : (g : Geometry) (y : Store) → Inv g y → (z : Store) → lengths_fit g z.chip ≡ true → length z.page ≡ kept_bytes → z.chip.array ≡ y.chip.array → z.account ≡ y.account → z.marked ≡ y.marked → Up g z ⊎ (Open g z ⊎ (mounted_open g (state_of z) ≡ false)) → Inv g z
still_inv g y i z f k a b m is =
    record {
      fits = f;
      kept = k;
      marks = λ k h. ap (λ (x : List ℕ). is_marked g (block_in g x k)) a ∙ i.marks k h ∙ sym (ap (λ (x : ℕ → Bool). x k) m);
      stored = subst (Stored g) (sym a) i.stored;
      table = i.table;
      table_is = ap (current_table g) a ∙ i.table_is;
      reads = subst (λ (x : List ℕ). Same g (reading g x i.table) (due_of g x z.account)) (sym a)
          (subst (λ (x : Account). Same g (reading g y.chip.array i.table) (due_of g y.chip.array x)) (sym b) i.reads);
      is = is;
    }

-- a write that stays open on another chip with the same array and history
pub open_moved : (g : Geometry) (y : Store) → Open g y → (d : Device) → d.array ≡ y.chip.array → d.history ≡ y.chip.history → d.interface.phase ≤ 2 → Open g (store (state_of y) d y.account y.marked y.failed)
open_moved g y o d a h r =
    record {
      array₀ = o.array₀;
      long₀ = o.long₀;
      st₀ = o.st₀;
      failed₀ = o.failed₀;
      logical = o.logical;
      first = o.first;
      bytes = o.bytes;
      marks₀ = o.marks₀;
      agrees = o.agrees;
      proper = o.proper;
      started = o.started;
      noted_is = o.noted_is;
      failed_is = o.failed_is;
      opened_is = o.opened_is;
      page_is = o.page_is;
      ready = r;
      stands = stands_still g o.array₀ o.long₀ o.st₀ (write o.logical o.first o.bytes) y.account.book y.marked o.failed₀ o.marks₀ o.agrees o.proper d a h o.stands;
    }

-- a store as a call finds it: its write-protect line is the call's
abbrev pub found_by : Lent → Store → Store
found_by a y = store (state_of y) (chip_of a y.chip) y.account y.marked y.failed

pub found_inv : (g : Geometry) (a : Lent) (y : Store) → Inv g y → Inv g (found_by a y)
found_inv g a y i =
    still_inv g y i (found_by a y) i.fits i.kept refl refl refl
    (⊎_elim
    (λ u. inl (record { agrees = u.agrees; ready = u.ready; quiet = u.quiet; shut = u.shut }))
    (⊎_elim (λ o. inr (inl (open_moved g y o (chip_of a y.chip) refl refl o.ready))) (λ e. inr (inr e)))
    i.is)

-- a base state that is not mounted, whatever is open beside it
pub base_unmounted : (g : Geometry) (x : OpenState) → mounted x.state g.blocks g.logical ≡ false → mounted_open g x ≡ false
base_unmounted g x e = rw e

-- a stopped state does not count as mounted
pub stopped_unmounted : (g : Geometry) (x : OpenState) → x.state ≡ blank 2 → mounted_open g x ≡ false
unfolding mounted
stopped_unmounted g x e = base_unmounted g x (ap (λ (st : State). mounted st g.blocks g.logical) e)

pub stopped_inv : (g : Geometry) (y : Store) → Inv g y → (z : Store) → lengths_fit g z.chip ≡ true → length z.page ≡ kept_bytes → z.chip.array ≡ y.chip.array → z.account ≡ y.account → z.marked ≡ y.marked → z.state ≡ blank 2 → Inv g z
stopped_inv g y i z f k a b m s = still_inv g y i z f k a b m (inr (inr (stopped_unmounted g (state_of z) s)))

-- a mounted state that goes with the same array
pub agrees-moved : {g : Geometry} {array array' : List ℕ} {st st' : State} {book : Book} {f f' : ℕ → Bool} → array' ≡ array → st' ≡ st → f' ≡ f → Agrees g array st book f → Agrees g array' st' book f'
agrees-moved {g} {array} {array'} {st} {st'} {book} {f} {f'} a s e x =
    subst (λ (q : List ℕ). Agrees g q st' book f') (sym a)
    (subst (λ (q : State). Agrees g array q book f') (sym s) (subst (λ (q : ℕ → Bool). Agrees g array st book q) (sym e) x))

-- a store on which a call is accepted is mounted, and a write may be open on it
pub is_mounted : (g : Geometry) (y : Store) → Inv g y → mounted_open g (state_of y) ≡ true → Up g y ⊎ Open g y
is_mounted g y i m = ⊎_elim inl (⊎_elim inr (λ e. absurd (false≢true (sym e ∙ m)))) i.is

-- where none is open
pub is_up : (g : Geometry) (y : Store) → Inv g y → mounted_open g (state_of y) ≡ true → y.write.opened ≡ 0 → Up g y
is_up g y i m z = ⊎_elim (λ u. u) (λ o. absurd (no_one (sym z ∙ o.opened_is))) (is_mounted g y i m)
  where
    no_one : {P : Type 0} → ◌≡◌ {A = ℕ} 0 1 → P
    no_one e = absurd (omega (arith, e))

-- a mounted state that no write is open on counts as mounted
pub up_mounted : (g : Geometry) (y : Store) → length y.page ≡ kept_bytes → Up g y → mounted_open g (state_of y) ≡ true
unfolding open_fits
up_mounted g y k u =
    rw (knows_mounted g y.chip.array y.state u.agrees.stored u.agrees.knows, eq-eqb (length y.page) kept_bytes k, eq-eqb y.write.opened 0 u.shut)

-- no operation, no failure
pub failed_none : (f : ℕ → Bool) → failed_after f [] ≡ f
unfolding failed_in
failed_none f = fun_ext (λ b. or_none (f b))

-- a store that a request has left with this base state, chip and book; given-up: nothing is open on it any more
abbrev pub left_with : Bool → Store → State → Device → Account → (ℕ → Bool) → Store
left_with given_up y st d acc f =
    store (cond given_up (closed st (state_of y)) (with_state st (state_of y))) d acc y.marked f

module _ (y : Store) (st : State) (d : Device) (acc : Account) (f : ℕ → Bool) where
  pub left_state : (b : Bool) → (left_with b y st d acc f).state ≡ st
  left_state true = refl
  left_state false = refl

  pub left_kept : (b : Bool) → length (left_with b y st d acc f).page ≡ length y.page
  left_kept true = length-replicate {A = ℕ} (length y.page) 0
  left_kept false = refl

  pub left_shut : (b : Bool) → y.write.opened ≡ 0 → (left_with b y st d acc f).write.opened ≡ 0
  left_shut true e = refl
  left_shut false e = e
