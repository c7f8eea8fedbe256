-- The block of the old copy once the new one is filled, and the count of blocks that failed. Assumes nothing.
use Prim.Native.Nat.{ℕ, zero, suc, ◌≤◌, ◌<◌}
use mathlib.Core.Bool.{true, false}
use mathlib.Core.List.{List}
use mathlib.Core.Logic.{⊎_elim}
use mathlib.Core.Path.{◌≡◌, sym, ap, ◌∙◌}
use native.Mathlib.Omega.{arith}
use borrow.Table.Steps.{cases}
use borrow.Author.Tests.{eqb-true, eqb-false}
use lib.Dec.{eqb}
use lib.ListN.{length, get_or, set}
use lib.Seq.{get_or-set_same, get_or-set_other}
use Rattle.bools.proofs.BoolLaws.{clash}
use Rattle.bitmaps.specs.Bitmap.{bit_at}
use Rattle.operations.specs.Trace.{ArrayOperation}
use Rattle.state_choose.specs.Choose.{permitted, count_permitted}
use Rattle.pages.specs.Layout.{data_kind}
use Rattle.state.specs.State.{none, held_bits, taken, with_copy, Mounted}
use Rattle.state.specs.declared.State.{State}
use Rattle.state.proofs.HeldLaws.{held_entry}
use Rattle.damage.specs.Run.{failed_in, failed_count}
use Rattle.write_laws.proofs.NextLaws.{Named, held_from, unheld_so}

-- where each permitted block has failed, no fewer have failed than were permitted
pub worn_count : (marked invalid held : List ℕ) (os : List ArrayOperation) (n : ℕ) → ((b : ℕ) → b < n → permitted marked invalid held b ≡ true → failed_in b os ≡ true)
    → count_permitted marked invalid held n ≤ failed_count os n
unfolding count_permitted failed_count
worn_count marked invalid held os zero all = omega arith
worn_count marked invalid held os (suc n) all =
    let less = worn_count marked invalid held os n (λ b h. all b (omega (arith, h))) in
    cases (permitted marked invalid held n)
    (λ t. rw (t, all n (omega arith) t) (omega (arith, less)))
    (λ f. rw f (omega (arith, less)))

-- the new copy of logical block k is in block b: the block that k had may be filled
module _ (st : State) (blocks logical : ℕ) (room : blocks ≤ 4096) (m : Mounted st blocks logical) (b : ℕ) (may : permitted st.marked st.invalid (held_bits st logical) b ≡ true)
    (k : ℕ) (k-below : k < logical) (k-room : k < length st.map) (on_chip : get_or st.map k 0 < blocks) where
  abbrev old : ℕ
  old = get_or st.map k 0

  some : old ≡ none → ⊥
  some e = omega (arith, e, on_chip, room)

  was_held : bit_at (held_bits st logical) old ≡ true
  was_held = held_entry st logical k k-below (omega (arith, on_chip, room))

  -- no entry has it any more
  unnamed : Named (set st.map k b) logical old → ⊥
  unnamed e =
      cases (eqb e.place k)
      (λ t.
      let same : b ≡ old = sym (ap (λ (l : ℕ). get_or (set st.map k b) l 0) (eqb-true e.place k t) ∙ get_or-set_same st.map k b 0 k-room) ∙ e.is in
      clash was_held (ap (bit_at (held_bits st logical)) (sym same) ∙ unheld_so st.marked st.invalid (held_bits st logical) b may))
      (λ f.
      let x = eqb-false e.place k f in
      m.once k e.place k-below e.within (λ y. x (sym y)) some (sym e.is ∙ get_or-set_other st.map k e.place b 0 x))

  released : bit_at (held_bits (with_copy data_kind k b (taken st)) logical) old ≡ false
  released =
      cases (bit_at (held_bits (with_copy data_kind k b (taken st)) logical) old)
      (λ t.
      absurd (⊎_elim (λ e. m.copy_off_table k k-below some (sym e)) unnamed (held_from (with_copy data_kind k b (taken st)) logical old t)))
      (λ f. f)

  pub old_free : permitted st.marked st.invalid (held_bits (with_copy data_kind k b (taken st)) logical) old ≡ true
  unfolding permitted
  old_free = rw (m.copy_unmarked k k-below some, m.copy_valid k k-below some, released)
