-- What the entry points rest on, and what follows from their definitions. Assumes nothing.
use Prim.Native.Nat.{ℕ}
use mathlib.Core.Bool.{Bool, true, false, cond, not, false≢true}
use mathlib.Core.List.{List}
use mathlib.Core.Path.{◌≡◌, refl, sym, ap, ◌∙◌}
use native.Mathlib.Omega.{arith}
use borrow.Author.Tests.{eq-eqb}
use lib.ListN.{length}
use Rattle.cells.proofs.PartLaws.{length_part}
use Rattle.geometry.specs.declared.Geometry.{Geometry}
use Rattle.chip_interface.specs.declared.Interface.{Interface}
use Rattle.chip_array.specs.Device.{Device, Setting, device}
use Rattle.state.specs.declared.State.{State}
use Rattle.request.specs.Call.{Result, sized_for}
use Rattle.read_page.specs.Fetching.{read_result}
use Rattle.read.specs.Reading.{reading_page}
use Rattle.open_write.specs.declared.OpenWrite.{OpenWrite}
use Rattle.open_write.specs.Open.{OpenState, open_state, open_fits}
use Rattle.open_write.specs.Requests.{OpenResult, open_result, leaving, stops, beside, OpenRead, open_read, read_beside, reading_open, open_refusal}
use Rattle.open_write.proofs.BesideLaws.{read_beside_lem, read_held}
use Rattle.c_open.specs.OpenBytes.{bytes_base, bytes_write, bytes_page, bytes_open}
use Rattle.c_buffers.specs.Buffers.{interface_of, Lent, state_of, chip_of, rightly, Handed, handed, put_back, answered, PassedOn}
use Rattle.c_buffers.proofs.BufferLaws.{right-long}
use Rattle.flash_store.specs.Library.{read_page, read_handed, reading_lent}

-- a call with a wrong length
pub lent_wrongly : (l : Lent) (r : OpenResult) → rightly l ≡ false → (handed 100 l ≡ answered l r) × PassedOn l r l.state
unfolding answered
lent_wrongly l r f = (rw f, λ t. absurd (false≢true (sym f ∙ t)))

pub read_wrongly : (s : Setting) (l : Lent) (n logical page : ℕ) (buffer : List ℕ) → rightly l ≡ false
    → (read_handed (handed 100 l) buffer ≡ reading_lent s l n logical page buffer) × PassedOn l (read_page s l n logical page buffer).returned l.state
unfolding reading_lent answered
read_wrongly s l n logical page buffer f =
    let back = lent_wrongly l (read_page s l n logical page buffer).returned f in
    (ap (λ (x : Handed). read_handed x buffer) back.0 ∙ rw f, back.1)

-- a flag told by a test for 0
pub turned : (b : Bool) → not b ≡ cond b false true
turned true = refl
turned false = refl

-- a call with the right lengths, from what its buffers hold
module _ (l : Lent) (t : rightly l ≡ true) (st : State) (w : OpenWrite) (i : Interface) (e : st ≡ bytes_base l.state) (f : w ≡ bytes_write l.state) (g : i ≡ interface_of l.interface) where
  abbrev x : OpenState
  x = open_state st w (bytes_page l.state)

  abbrev d : Device
  d = device i l.array l.register l.history

  -- hands back what its request does
  pub request_handed : (request : Device → OpenState → OpenResult) (h : Handed) (q : OpenResult) (bytes : List ℕ) → q ≡ request d x → h ≡ put_back q → bytes_open bytes ≡ q.state
      → (h ≡ answered l (request (chip_of l) (state_of l))) × PassedOn l (request (chip_of l) (state_of l)) bytes
  unfolding answered
  request_handed request h q bytes r p b =
      let all : q ≡ request (chip_of l) (state_of l) = r ∙ (λ j. request (device (g j) l.array l.register l.history) (open_state (e j) (f j) (bytes_page l.state))) in
      (rw t (p ∙ ap put_back all), λ u. b ∙ ap (λ (y : OpenResult). y.state) all)

  module _ (s : Setting) (n logical page : ℕ) (buffer : List ℕ) where
    read_given : (after : List ℕ) (h : Handed) (q : OpenResult) (bytes : List ℕ) → open_read q after ≡ reading_open s d n x logical page buffer → h ≡ put_back q → bytes_open bytes ≡ q.state
        → (read_handed h after ≡ reading_lent s l n logical page buffer) × PassedOn l (read_page s l n logical page buffer).returned bytes
    unfolding reading_lent
    read_given after h q bytes r p b =
        let back = request_handed (λ (c : Device) (y : OpenState). (reading_open s c n y logical page buffer).returned) h q bytes (ap (λ (y : OpenRead). y.returned) r) p b in
        let all : open_read q after ≡ read_page s l n logical page buffer = r ∙ (λ j. reading_open s (device (g j) l.array l.register l.history) n (open_state (e j) (f j) (bytes_page l.state)) logical page buffer) in
        let kept : after ≡ cond (rightly l) (read_page s l n logical page buffer).buffer buffer = rw t (ap (λ (y : OpenRead). y.buffer) all) in
        ((λ j. read_handed (back.0 j) (kept j)), back.1)

    pub read_handed_fact : (after : List ℕ) (h : Handed) (q : Result) (gone : Bool) (bytes : List ℕ) → open_fits s.geometry x ≡ true → read_result q after ≡ reading_page s d n st logical page buffer → gone ≡ stops q.answer
        → h ≡ put_back (leaving gone x q) → bytes_open bytes ≡ (leaving gone x q).state
        → (read_handed h after ≡ reading_lent s l n logical page buffer) × PassedOn l (read_page s l n logical page buffer).returned bytes
    read_handed_fact after h q gone bytes inside r k p b =
        read_given after h (leaving gone x q) bytes
        (ap (λ (y : Bool). open_read (leaving y x q) after) k ∙ ap (read_beside x) r ∙ read_beside_lem s d n x logical page buffer inside) p b

    pub read_refused : (h : Handed) (k : ℕ) (bytes : List ℕ) → open_fits s.geometry x ≡ false → k ≡ open_refusal s.geometry (sized_for s d) x false → h ≡ put_back (open_result k x d 0) → bytes_open bytes ≡ x
        → (read_handed h buffer ≡ reading_lent s l n logical page buffer) × PassedOn l (read_page s l n logical page buffer).returned bytes
    read_refused h k bytes outside e' p b = read_given buffer h (open_result k x d 0) bytes (read_held s d n x logical page buffer outside k e') p b

-- what a request on the base state leaves beside the write
pub left-beside : (x : OpenState) (q r : Result) (gone : Bool) → q ≡ r → gone ≡ stops q.answer → leaving gone x q ≡ beside x r
left-beside x q r gone e k = ap (λ (y : Bool). leaving y x q) k ∙ ap (beside x) e

pub left_by : (gives : ℕ → Bool) (x : OpenState) (q r : Result) (gone : Bool) → q ≡ r → gone ≡ gives q.answer → leaving gone x q ≡ leaving (gives r.answer) x r
left_by gives x q r gone e k = ap (λ (y : Bool). leaving y x q) k ∙ ap (λ (y : Result). leaving (gives y.answer) x y) e

-- where none is open, nothing lies outside
pub idle_inside : (l : Lent) → rightly l ≡ true → (g : Geometry) (st : State) (w : OpenWrite) → w.opened ≡ 0 → open_fits g (open_state st w (bytes_page l.state)) ≡ true
unfolding open_fits
idle_inside l t g st w none =
    let long = (right-long (length l.state) (length l.interface) (length l.sent) t).state_long in
    rw (eq-eqb (length (bytes_page l.state)) 4096 (length_part 9328 4096 l.state (omega (arith, long))), eq-eqb w.opened 0 none)
