-- What a mount after a list gives back. Assumes nothing.
use Prim.Native.Nat.{ℕ, ◌<◌}
use mathlib.Core.Bool.{true, false, cond}
use mathlib.Core.List.{List, []}
use mathlib.Core.Option.{Option, none, some}
use mathlib.Core.Path.{◌≡◌, refl, sym, ap, subst, ◌∙◌}
use native.Mathlib.Omega.{arith}
use borrow.Table.Steps.{cases}
use lib.ListN.{replicate, length-replicate}
use Rattle.geometry.specs.declared.Geometry.{Geometry}
use Rattle.geometry.specs.Sizes.{block_size}
use Rattle.chip_interface.specs.Interface.{fate_word}
use Rattle.chip_array.specs.Device.{Setting}
use Rattle.request.specs.Call.{sized_for, result_of}
use Rattle.scan_summary.specs.declared.Depth.{Depth}
use Rattle.mount.specs.Mount.{mounting}
use Rattle.mount_laws.proofs.MountingLaws.{mount_ends, mount-refused}
use Rattle.open_write.specs.Requests.{OpenResult, open_mount_request}
use Rattle.recovery.specs.Book.{Book, Same, Note, Account, entered, settled, fed}
use Rattle.recovery.specs.Copy.{has_copy}
use Rattle.recovery.specs.Calls.{Lent, to_mount, Store, under_way, setting_of, mount_on, copy_of_note, mount_entry, chip_of, step}
use Rattle.recovery.specs.Recovery.{plain_read, reading_by, shown_with, shown, Unaffected, none_under_way, no_copy, no_byte, Recovered}
use Rattle.recovery_proof.specs.Acknowledged.{ReadsOpen, ReadsBack, GivesOpen}
use Rattle.recovery_proof.specs.Invariant.{due_of, Inv}
use Rattle.recovery_proof.proofs.InvariantLaws.{due_quiet}
use Rattle.recovery_proof.proofs.MountSteps.{fed_done, mount_done, mount_step, mount_quiet, mount_mounted}
use Rattle.recovery_proof.proofs.ReadSteps.{reads_back}

-- the note of a store, by its cases
by_note : {P : Type 0} (o : Option Note) → (o ≡ none → P) → ((t : Note) → o ≡ some t → P) → P
by_note none f h = f refl
by_note (some t) f h = h t refl

-- the book that is due where a request is noted
module _ (g : Geometry) (y : Store) (t : Note) (e : under_way y ≡ some t) where
  due_noted : due_of g y.chip.array y.account ≡ cond (has_copy g y.chip.array t.started) (entered g t.change y.account.book) y.account.book
  unfolding settled copy_of_note
  due_noted =
      subst (λ (o : Option Note). (settled g (copy_of_note g y.chip.array o) o y.account.book).book ≡ cond (has_copy g y.chip.array t.started) (entered g t.change y.account.book) y.account.book) (sym e) refl

  due_entered : has_copy g y.chip.array t.started ≡ true → due_of g y.chip.array y.account ≡ entered g t.change y.account.book
  due_entered c = due_noted ∙ rw c

  due_kept : has_copy g y.chip.array t.started ≡ false → due_of g y.chip.array y.account ≡ y.account.book
  due_kept c = due_noted ∙ rw c

-- a mount that is not answered 1, 10 or 11
module _ (g : Geometry) (y : Store) (i : Inv g y) (depth : Depth) (a : Lent) (x₁ : (mount_on depth g a y).answer ≡ 1 → ⊥) (x₁₀ : (mount_on depth g a y).answer ≡ 10 → ⊥) (x₁₁ : (mount_on depth g a y).answer ≡ 11 → ⊥) where
  abbrev r : OpenResult
  r = mount_on depth g a y

  abbrev s : Setting
  s = setting_of g a

  abbrev array : List ℕ
  array = y.chip.array

  fits : sized_for s (chip_of a y.chip) ≡ true
  unfolding result_of open_mount_request
  fits = cases (sized_for s (chip_of a y.chip)) (λ t. t) (λ f. absurd (x₁ (mount-refused depth s (chip_of a y.chip) a.allowed y.state f)))

  base_done : (mounting depth s (chip_of a y.chip) a.allowed y.state).answer ≡ 0
  unfolding result_of open_mount_request
  base_done = mount_done g y i depth a fits x₁₀ x₁₁

  done : r.answer ≡ 0
  unfolding result_of open_mount_request
  done = base_done

  same_array : r.chip.array ≡ array
  unfolding result_of open_mount_request
  same_array = (mount_ends depth s (chip_of a y.chip) a.allowed fits y.state).same_array

  -- the store that it leaves
  abbrev z : Store
  z = step g (to_mount depth a) y

  back : ReadsBack g z
  back = reads_back g z (mount_step g y i depth a) (mount_mounted g y i depth a base_done)

  -- what is shown there is its book
  shown_book : (l p : ℕ) → shown g z l p ≡ (fed g (mount_entry g y r) y.account).book l p
  unfolding step shown_with
  shown_book l p = ap (λ (o : Option Note). shown_with g o (fed g (mount_entry g y r) y.account).book l p) (mount_quiet g y i depth a base_done)

  -- a call that is uncut and not silent, with the line as the mount found it
  abbrev plainly : Lent
  plainly = record { mask = replicate (block_size g) 0; fates = []; allowed = 4294967295; protected = r.chip.interface.protected }

  plain : (l p : ℕ) → l < g.logical → p < g.pages → ReadsOpen (setting_of g plainly) r.chip 4294967295 r.state (shown g z l p) (plain_read g r l p)
  unfolding step
  plain l p h k = back plainly l p (replicate g.main 0) (length-replicate (block_size g) 0) h k (length-replicate g.main 0)

  plain_gives : (l p : ℕ) → l < g.logical → p < g.pages → GivesOpen (setting_of g plainly) r.chip r.state (shown g z l p) (plain_read g r l p)
  unfolding fate_word
  plain_gives l p h k =
      let q = plain l p h k in
      q.gives (λ e. omega (arith, q.silent_by e)) (λ e. omega (arith, q.cut_at e, q.sent-most, i.stored.is_valid.main_most))

  -- the book that it leaves
  leaves_due : Same g (reading_by g r) (fed g (mount_entry g y r) y.account).book
  leaves_due l p h k = (plain_gives l p h k).bytes_are ∙ shown_book l p

  -- the mount's reading is the book that is due
  reads_due : Same g (reading_by g r) (due_of g array y.account)
  reads_due l p h k =
      leaves_due l p h k
      ∙ ap (λ (x : Account). x.book l p) (fed_done g r.answer (copy_of_note g r.chip.array (under_way y)) y.account done)
      ∙ ap (λ (x : List ℕ). due_of g x y.account l p) same_array

  due_is : {b : Book} → due_of g array y.account ≡ b → Same g (reading_by g r) b
  due_is {b} e l p h k = reads_due l p h k ∙ ap (λ (x : Book). x l p) e

  equal_so : Same g (reading_by g r) y.account.book → Unaffected g y
  equal_so same =
      by_note (under_way y) none_under_way
      (λ t e.
      cases (has_copy g array t.started)
      (λ c. no_byte t e (λ l p h k. sym (due_is (due_entered g y t e c) l p h k) ∙ same l p h k))
      (λ c. no_copy t e c))

  so_equal : Unaffected g y → Same g (reading_by g r) y.account.book
  so_equal (none_under_way e) = due_is (due_quiet g array y.account e)
  so_equal (no_copy t e c) = due_is (due_kept g y t e c)
  so_equal (no_byte t e same) =
      cases (has_copy g array t.started)
      (λ c l p h k. due_is (due_entered g y t e c) l p h k ∙ same l p h k)
      (λ c. due_is (due_kept g y t e c))

  affected : (t : Note) → under_way y ≡ some t → (Unaffected g y → ⊥) → Same g (reading_by g r) (entered g t.change y.account.book)
  affected t e x =
      cases (has_copy g array t.started) (λ c. due_is (due_entered g y t e c)) (λ c. absurd (x (no_copy t e c)))

  pub inv_recovered : Recovered g y r
  unfolding step
  inv_recovered =
      record {
        done = done;
        heard = λ l p h k. (plain_gives l p h k).done;
        equal = (equal_so, so_equal);
        otherwise = affected;
        leaves = leaves_due;
        any_read = λ b l p buffer h k mask_long buffer_long x x'.
            let gives = (back b l p buffer mask_long h k buffer_long).gives x x' in
            (gives.done, gives.bytes_are ∙ shown_book l p ∙ sym (leaves_due l p h k));
      }
