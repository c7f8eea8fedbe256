-- Laws of what the call that lets the chip tell its size hands back. Assumes nothing.
use Prim.Native.Nat.{ℕ}
use mathlib.Core.Bool.{Bool, true, false, false≢true}
use mathlib.Core.List.{List}
use mathlib.Core.Path.{◌≡◌, sym, ap, ap₂, ◌∙◌}
use borrow.Author.Tests.{eq-eqb, ne_eqb}
use lib.ListN.{length}
use Rattle.chip_interface.specs.declared.Interface.{Interface}
use Rattle.chip_array.specs.Device.{device}
use Rattle.parameters.specs.declared.Sizes.{Sizes}
use Rattle.state.specs.declared.State.{State}
use Rattle.c_open.specs.OpenBytes.{bytes_base, bytes_write, bytes_page, bytes_open}
use Rattle.open_write.specs.declared.OpenWrite.{OpenWrite}
use Rattle.open_write.specs.Open.{OpenState, open_state}
use Rattle.open_write.specs.Requests.{leaving, stops, beside, OpenIdentified, open_identified, open_identify_request, identifying_open}
use Rattle.request.specs.Call.{Result, result_of}
use Rattle.identify.specs.Identify.{Identified, identified, identifying}
use Rattle.c_buffers.specs.Buffers.{interface_of, size_words, Lent, rightly, Handed, handed, put_back, PassedOn}
use Rattle.flash_store.specs.Identify.{identify_result, identify_handed, identifying_lent}

module _ (mask fates : List ℕ) (l : Lent) (n : ℕ) (page : List ℕ) (logical : ℕ) (sizes : List ℕ) where
  -- a wrong length of state, interface or sent, or of the sizes
  pub identify_wrongly : rightly l ≡ false
      → (identify_handed (handed 100 l) sizes ≡ identifying_lent mask fates l n page logical sizes) × (length sizes ≡ 4 → PassedOn l (identify_result mask fates l n page logical).returned l.state)
  unfolding identifying_lent
  identify_wrongly f = (rw f, λ _ t. absurd (false≢true (sym f ∙ t)))

  pub sizes_wrongly : rightly l ≡ true → (length sizes ≡ 4 → ⊥)
      → (identify_handed (handed 100 l) sizes ≡ identifying_lent mask fates l n page logical sizes) × (length sizes ≡ 4 → PassedOn l (identify_result mask fates l n page logical).returned l.state)
  unfolding identifying_lent
  sizes_wrongly t x = (rw (t, ne_eqb (length sizes) 4 x), λ e. absurd (x e))

  -- the call on the state and the interface in the buffers
  module _ (t : rightly l ≡ true) (four : length sizes ≡ 4) (st : State) (w : OpenWrite) (i : Interface) (e : st ≡ bytes_base l.state) (f : w ≡ bytes_write l.state) (g : i ≡ interface_of l.interface) where
    abbrev x : OpenState
    x = open_state st w (bytes_page l.state)

    pub identify_handed_fact : (after : List ℕ) (h : Handed) (q : Result) (z : Sizes) (gone : Bool) (bytes : List ℕ) → identified q z ≡ identifying mask fates (device i l.array l.register l.history) n st page logical → gone ≡ stops q.answer
        → h ≡ put_back (leaving gone x q) → bytes_open bytes ≡ (leaving gone x q).state → after ≡ size_words z
        → (identify_handed h after ≡ identifying_lent mask fates l n page logical sizes) × (length sizes ≡ 4 → PassedOn l (identify_result mask fates l n page logical).returned bytes)
    unfolding identifying_lent open_identify_request result_of
    identify_handed_fact after h q z gone bytes r k p b words =
        let made : open_identified (leaving gone x q) z ≡ identifying_open mask fates (device i l.array l.register l.history) n x page logical =
        ap (λ (y : Bool). open_identified (leaving y x q) z) k ∙ ap (λ (y : Identified). open_identified (beside x y.returned) y.sizes) r in
        let all : open_identified (leaving gone x q) z ≡ identify_result mask fates l n page logical =
        made ∙ (λ j. identifying_open mask fates (device (g j) l.array l.register l.history) n (open_state (e j) (f j) (bytes_page l.state)) page logical) in
        (rw (t, eq-eqb (length sizes) 4 four) (ap₂ identify_handed (p ∙ ap (λ (y : OpenIdentified). put_back y.returned) all) (words ∙ ap (λ (y : OpenIdentified). size_words y.sizes) all)), λ _ _. b ∙ ap (λ (y : OpenIdentified). y.returned.state) all)
