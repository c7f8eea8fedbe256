-- Laws of what a write that is opened and advanced hands back. Assumes nothing.
use Prim.Native.Nat.{ℕ, ◌-◌}
use mathlib.Core.Bool.{true, false, false≢true}
use mathlib.Core.List.{List, [], ◌∷◌, ◌++◌}
use mathlib.Core.Path.{◌≡◌, sym, ap, ap₂, ◌∙◌}
use borrow.Author.Tests.{eq-eqb, ne_eqb}
use native.Mathlib.Omega.{arith}
use lib.ListN.{length, take, drop, length-append, length-drop}
use lib.Seq.{length-take-le}
use Rattle.chip_interface.specs.declared.Interface.{Interface}
use Rattle.chip_array.specs.Device.{Device, Setting, device}
use Rattle.state.specs.declared.State.{State}
use Rattle.open_write.specs.declared.OpenWrite.{OpenWrite}
use Rattle.open_write.specs.Open.{open_state}
use Rattle.open_write.specs.Requests.{OpenResult, open_result, Advanced, advanced, advancing_write}
use Rattle.c_open.specs.OpenBytes.{open_length, bytes_base, bytes_write, bytes_page, bytes_open}
use Rattle.c_buffers.specs.Buffers.{interface_of, Lent, rightly, Handed, handed, put_back, PassedOn}
use Rattle.flash_store.specs.Opened.{advance_result, advance_handed, advancing_lent}

-- the bytes after the page was lent are as many
pub lent-long : (xs ys : List ℕ) → length xs ≡ open_length → length ys ≡ length (take (13424 - 9328) (drop 9328 xs)) → length (take 9328 xs ++ (ys ++ drop (13424 - 9328) (drop 9328 xs))) ≡ open_length
lent-long xs ys long e =
    let page = drop 9328 xs in
    let rest = drop (13424 - 9328) page in
    let first : length (take 9328 xs) ≡ 9328 = length-take-le 9328 xs (omega (arith, long)) in
    let size : length (take (13424 - 9328) page) ≡ 4096 = length-take-le (13424 - 9328) page (omega (arith, length-drop 9328 xs, long)) in
    let whole : length (ys ++ rest) ≡ 8192 = length-append ys rest ∙ omega (arith, e, size, length-drop 4096 page, length-drop 9328 xs, long) in
    length-append (take 9328 xs) (ys ++ rest) ∙ omega (arith, first, whole)

-- the page as it is kept
pub opened-page : {a n : ℕ} {st : State} {w : OpenWrite} {d : Device} {p q : List ℕ} → p ≡ q → open_result a (open_state st w p) d n ≡ open_result a (open_state st w q) d n
opened-page {a} {n} {st} {w} {d} e = ap (λ (p : List ℕ). open_result a (open_state st w p) d n) e

pub advanced-page : {a n k : ℕ} {st : State} {w : OpenWrite} {d : Device} {p q : List ℕ} → p ≡ q → advanced (open_result a (open_state st w p) d n) k ≡ advanced (open_result a (open_state st w q) d n) k
advanced-page {k = k} e = ap (λ (r : OpenResult). advanced r k) (opened-page e)

module _ (s : Setting) (l : Lent) (n most : ℕ) (finished : List ℕ) where
  -- a wrong length of state, interface or sent, or of the word
  pub advance_wrongly : rightly l ≡ false → (advance_handed (handed 100 l) finished ≡ advancing_lent s l n most finished) × (length finished ≡ 1 → PassedOn l (advance_result s l n most).returned l.state)
  unfolding advancing_lent
  advance_wrongly f = (rw f, λ _ t. absurd (false≢true (sym f ∙ t)))

  pub word_wrongly : rightly l ≡ true → (length finished ≡ 1 → ⊥) → (advance_handed (handed 100 l) finished ≡ advancing_lent s l n most finished) × (length finished ≡ 1 → PassedOn l (advance_result s l n most).returned l.state)
  unfolding advancing_lent
  word_wrongly t x = (rw (t, ne_eqb (length finished) 1 x), λ e. absurd (x e))

  -- the call on the state and the interface in the buffers
  pub advance_handed_fact : rightly l ≡ true → length finished ≡ 1 → (st : State) (w : OpenWrite) (i : Interface) → st ≡ bytes_base l.state → w ≡ bytes_write l.state → i ≡ interface_of l.interface
      → (after : List ℕ) (h : Handed) (q : OpenResult) (k : ℕ) (bytes : List ℕ) → advanced q k ≡ advancing_write s (device i l.array l.register l.history) n (open_state st w (bytes_page l.state)) most
      → h ≡ put_back q → bytes_open bytes ≡ q.state → after ≡ k ∷ []
      → (advance_handed h after ≡ advancing_lent s l n most finished) × (length finished ≡ 1 → PassedOn l (advance_result s l n most).returned bytes)
  unfolding advancing_lent
  advance_handed_fact t one st w i e f g after h q k bytes r p b words =
      let all : advanced q k ≡ advance_result s l n most = r ∙ (λ j. advancing_write s (device (g j) l.array l.register l.history) n (open_state (e j) (f j) (bytes_page l.state)) most) in
      (rw (t, eq-eqb (length finished) 1 one) (ap₂ advance_handed (p ∙ ap (λ (y : Advanced). put_back y.returned) all) (words ∙ ap (λ (y : Advanced). y.finished ∷ []) all)), λ _ _. b ∙ ap (λ (y : Advanced). y.returned.state) all)
