-- Laws of what a request on the journal hands back. Assumes nothing.
use Prim.Native.Nat.{ℕ}
use mathlib.Core.Bool.{Bool, true, false, false≢true}
use mathlib.Core.List.{List, [], ◌∷◌}
use mathlib.Core.Path.{◌≡◌, sym, ap, ap₂, ◌∙◌}
use borrow.Author.Tests.{eq-eqb, ne_eqb}
use lib.ListN.{length}
use Rattle.chip_interface.specs.declared.Interface.{Interface}
use Rattle.chip_array.specs.Device.{Device, device}
use Rattle.state.specs.declared.State.{State}
use Rattle.request.specs.Call.{Result}
use Rattle.open_write.specs.declared.OpenWrite.{OpenWrite}
use Rattle.open_write.specs.Open.{OpenState, open_state}
use Rattle.open_write.specs.Requests.{OpenResult, leaving, stops, beside}
use Rattle.open_journal.specs.Requests.{OpenTold, open_told}
use Rattle.c_open.specs.OpenBytes.{bytes_base, bytes_write, bytes_page, bytes_open}
use Rattle.c_buffers.specs.Buffers.{interface_of, Lent, state_of, chip_of, rightly, Handed, handed, put_back, PassedOn}
use Rattle.flash_store.specs.Ledger.{told_handed, told_lent}

module _ (l : Lent) (r : OpenTold) (word : List ℕ) where
  -- a wrong length of state, interface or sent, or of the word
  pub told_wrongly : rightly l ≡ false → (told_handed (handed 100 l) word ≡ told_lent l r word) × (length word ≡ 1 → PassedOn l r.returned l.state)
  unfolding told_lent
  told_wrongly f = (rw f, λ _ t. absurd (false≢true (sym f ∙ t)))

  pub word_wrongly : rightly l ≡ true → (length word ≡ 1 → ⊥) → (told_handed (handed 100 l) word ≡ told_lent l r word) × (length word ≡ 1 → PassedOn l r.returned l.state)
  unfolding told_lent
  word_wrongly t x = (rw (t, ne_eqb (length word) 1 x), λ e. absurd (x e))

-- a call with the right lengths, from what its buffers hold, hands back what its request does
module _ (l : Lent) (t : rightly l ≡ true) (st : State) (w : OpenWrite) (i : Interface) (e : st ≡ bytes_base l.state) (f : w ≡ bytes_write l.state) (g : i ≡ interface_of l.interface) where
  pub told_handed_fact : (request : Device → OpenState → OpenTold) (word after : List ℕ) (h : Handed) (q : OpenResult) (k : ℕ) (bytes : List ℕ) → length word ≡ 1
      → open_told q k ≡ request (device i l.array l.register l.history) (open_state st w (bytes_page l.state)) → h ≡ put_back q → bytes_open bytes ≡ q.state → after ≡ k ∷ []
      → (told_handed h after ≡ told_lent l (request (chip_of l) (state_of l)) word) × (length word ≡ 1 → PassedOn l (request (chip_of l) (state_of l)).returned bytes)
  unfolding told_lent
  told_handed_fact request word after h q k bytes one r p b words =
      let all : open_told q k ≡ request (chip_of l) (state_of l) = r ∙ (λ j. request (device (g j) l.array l.register l.history) (open_state (e j) (f j) (bytes_page l.state))) in
      (rw (t, eq-eqb (length word) 1 one) (ap₂ told_handed (p ∙ ap (λ (y : OpenTold). put_back y.returned) all) (words ∙ ap (λ (y : OpenTold). y.told ∷ []) all)), λ _ _. b ∙ ap (λ (y : OpenTold). y.returned.state) all)

-- what a request on the base state leaves beside the write, with what it tells
pub told-beside : (x : OpenState) (q : Result) (k : ℕ) (gone : Bool) → gone ≡ stops q.answer → open_told (leaving gone x q) k ≡ open_told (beside x q) k
told-beside x q k gone e = ap (λ (y : Bool). open_told (leaving y x q) k) e
