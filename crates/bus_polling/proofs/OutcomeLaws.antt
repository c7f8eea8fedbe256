-- Outcomes of operations as the tests on them see them, and by the number of the variant. Assumes nothing.
use Prim.Native.Nat.{ℕ}
use mathlib.Core.Bool.{true, false, cond, true≢false, false≢true}
use mathlib.Core.List.{[], ◌∷◌}
use mathlib.Core.Logic.{◌⊎◌, inl, inr, ⊎_elim}
use mathlib.Core.Path.{◌≡◌, refl}
use native.Mathlib.Omega.{arith}
use denote.Enum.Declared.{tag_of}
use types.Run.{OneOf}
use lib.Dec.{eqb}
use Rattle.bus_polling.specs.Outcomes.{is_passed, is_failed, is_silent, is_cut_off, is_illegal, is_protected, guarded, answered, is_read_end}
use Rattle.bus_polling.specs.declared.Outcome.{Outcome}
use Rattle.bus_polling.specs.declared.Outcome.TheVariants.{Passed, Failed, Silent, Cut, Illegal, Protected}
use Rattle.bus_polling.specs.contracts.Outcome.{the_type}

-- by the number of the variant
pub passed_tag : (o : Outcome) → is_passed o ≡ eqb (tag_of the_type o) 0
unfolding is_passed
passed_tag Passed = refl
passed_tag Failed = refl
passed_tag Silent = refl
passed_tag Cut = refl
passed_tag Illegal = refl
passed_tag Protected = refl

pub failed_tag : (o : Outcome) → is_failed o ≡ eqb (tag_of the_type o) 1
unfolding is_failed
failed_tag Passed = refl
failed_tag Failed = refl
failed_tag Silent = refl
failed_tag Cut = refl
failed_tag Illegal = refl
failed_tag Protected = refl

pub silent_tag : (o : Outcome) → is_silent o ≡ eqb (tag_of the_type o) 2
unfolding is_silent
silent_tag Passed = refl
silent_tag Failed = refl
silent_tag Silent = refl
silent_tag Cut = refl
silent_tag Illegal = refl
silent_tag Protected = refl

pub cut_tag : (o : Outcome) → is_cut_off o ≡ eqb (tag_of the_type o) 3
unfolding is_cut_off
cut_tag Passed = refl
cut_tag Failed = refl
cut_tag Silent = refl
cut_tag Cut = refl
cut_tag Illegal = refl
cut_tag Protected = refl

-- the same for one variant, and for the others
pub passed_by_tag : (o : Outcome) → tag_of the_type o ≡ 0 → is_passed o ≡ true
unfolding is_passed
passed_by_tag Passed h = refl
passed_by_tag Failed h = absurd (omega (arith, h))
passed_by_tag Silent h = absurd (omega (arith, h))
passed_by_tag Cut h = absurd (omega (arith, h))
passed_by_tag Illegal h = absurd (omega (arith, h))
passed_by_tag Protected h = absurd (omega (arith, h))

pub other_by_tag : (o : Outcome) → OneOf (1 ∷ 2 ∷ 3 ∷ 4 ∷ 5 ∷ []) (tag_of the_type o) → is_passed o ≡ false
unfolding is_passed
other_by_tag Passed h = absurd (⊎_elim (λ e. omega (arith, e)) (⊎_elim (λ e. omega (arith, e)) (⊎_elim (λ e. omega (arith, e)) (⊎_elim (λ e. omega (arith, e)) (λ e. omega (arith, e))))) h)
other_by_tag Failed h = refl
other_by_tag Silent h = refl
other_by_tag Cut h = refl
other_by_tag Illegal h = refl
other_by_tag Protected h = refl

pub failed_by_tag : (o : Outcome) → tag_of the_type o ≡ 1 → is_failed o ≡ true
unfolding is_failed
failed_by_tag Passed h = absurd (omega (arith, h))
failed_by_tag Failed h = refl
failed_by_tag Silent h = absurd (omega (arith, h))
failed_by_tag Cut h = absurd (omega (arith, h))
failed_by_tag Illegal h = absurd (omega (arith, h))
failed_by_tag Protected h = absurd (omega (arith, h))

pub unfailed_by_tag : (o : Outcome) → OneOf (0 ∷ 2 ∷ 3 ∷ 4 ∷ 5 ∷ []) (tag_of the_type o) → is_failed o ≡ false
unfolding is_failed
unfailed_by_tag Passed h = refl
unfailed_by_tag Failed h = absurd (⊎_elim (λ e. omega (arith, e)) (⊎_elim (λ e. omega (arith, e)) (⊎_elim (λ e. omega (arith, e)) (⊎_elim (λ e. omega (arith, e)) (λ e. omega (arith, e))))) h)
unfailed_by_tag Silent h = refl
unfailed_by_tag Cut h = refl
unfailed_by_tag Illegal h = refl
unfailed_by_tag Protected h = refl

pub protected_by_tag : (o : Outcome) → tag_of the_type o ≡ 5 → is_protected o ≡ true
unfolding is_protected
protected_by_tag Passed h = absurd (omega (arith, h))
protected_by_tag Failed h = absurd (omega (arith, h))
protected_by_tag Silent h = absurd (omega (arith, h))
protected_by_tag Cut h = absurd (omega (arith, h))
protected_by_tag Illegal h = absurd (omega (arith, h))
protected_by_tag Protected h = refl

pub unprotected_by_tag : (o : Outcome) → OneOf (0 ∷ 1 ∷ 2 ∷ 3 ∷ 4 ∷ []) (tag_of the_type o) → is_protected o ≡ false
unfolding is_protected
unprotected_by_tag Passed h = refl
unprotected_by_tag Failed h = refl
unprotected_by_tag Silent h = refl
unprotected_by_tag Cut h = refl
unprotected_by_tag Illegal h = refl
unprotected_by_tag Protected h = absurd (⊎_elim (λ e. omega (arith, e)) (⊎_elim (λ e. omega (arith, e)) (⊎_elim (λ e. omega (arith, e)) (⊎_elim (λ e. omega (arith, e)) (λ e. omega (arith, e))))) h)

-- the same, where a match tells the variant, or which it is not
pub passed_by_is : (o : Outcome) → o ≡ Passed → is_passed o ≡ true
unfolding is_passed
passed_by_is o h = rw h refl

pub other_by_not : (o : Outcome) → (o ≡ Passed → ⊥) → is_passed o ≡ false
unfolding is_passed
other_by_not Passed h = absurd (h refl)
other_by_not Failed h = refl
other_by_not Silent h = refl
other_by_not Cut h = refl
other_by_not Illegal h = refl
other_by_not Protected h = refl

pub failed_by_is : (o : Outcome) → o ≡ Failed → is_failed o ≡ true
unfolding is_failed
failed_by_is o h = rw h refl

pub unfailed_by_not : (o : Outcome) → (o ≡ Failed → ⊥) → is_failed o ≡ false
unfolding is_failed
unfailed_by_not Passed h = refl
unfailed_by_not Failed h = absurd (h refl)
unfailed_by_not Silent h = refl
unfailed_by_not Cut h = refl
unfailed_by_not Illegal h = refl
unfailed_by_not Protected h = refl

pub protected_by_is : (o : Outcome) → o ≡ Protected → is_protected o ≡ true
unfolding is_protected
protected_by_is o h = rw h refl

pub unprotected_by_not : (o : Outcome) → (o ≡ Protected → ⊥) → is_protected o ≡ false
unfolding is_protected
unprotected_by_not Passed h = refl
unprotected_by_not Failed h = refl
unprotected_by_not Silent h = refl
unprotected_by_not Cut h = refl
unprotected_by_not Illegal h = refl
unprotected_by_not Protected h = absurd (h refl)

-- what one test tells of another
pub is_passed_lem : (o : Outcome) → is_passed o ≡ true → o ≡ Passed
unfolding is_passed
is_passed_lem Passed t = refl
is_passed_lem Failed t = absurd (false≢true t)
is_passed_lem Silent t = absurd (false≢true t)
is_passed_lem Cut t = absurd (false≢true t)
is_passed_lem Illegal t = absurd (false≢true t)
is_passed_lem Protected t = absurd (false≢true t)

pub passed_answered : (o : Outcome) → is_passed o ≡ true → answered o ≡ true
unfolding is_passed answered
passed_answered Passed t = refl
passed_answered Failed t = absurd (false≢true t)
passed_answered Silent t = absurd (false≢true t)
passed_answered Cut t = absurd (false≢true t)
passed_answered Illegal t = absurd (false≢true t)
passed_answered Protected t = absurd (false≢true t)

pub passed_unfailed : (o : Outcome) → is_passed o ≡ true → is_failed o ≡ false
unfolding is_passed is_failed
passed_unfailed Passed t = refl
passed_unfailed Failed t = absurd (false≢true t)
passed_unfailed Silent t = refl
passed_unfailed Cut t = refl
passed_unfailed Illegal t = refl
passed_unfailed Protected t = refl

pub passed_read_end : (o : Outcome) → is_passed o ≡ true → is_read_end o ≡ true
unfolding is_read_end is_passed
passed_read_end Passed t = refl
passed_read_end Failed t = absurd (false≢true t)
passed_read_end Silent t = absurd (false≢true t)
passed_read_end Cut t = absurd (false≢true t)
passed_read_end Illegal t = absurd (false≢true t)
passed_read_end Protected t = absurd (false≢true t)

pub failed_answered : (o : Outcome) → is_failed o ≡ true → answered o ≡ true
unfolding is_failed answered
failed_answered Passed t = absurd (false≢true t)
failed_answered Failed t = refl
failed_answered Silent t = absurd (false≢true t)
failed_answered Cut t = absurd (false≢true t)
failed_answered Illegal t = absurd (false≢true t)
failed_answered Protected t = absurd (false≢true t)

pub failed_unpassed : (o : Outcome) → is_failed o ≡ true → is_passed o ≡ false
unfolding is_failed is_passed
failed_unpassed Passed t = absurd (false≢true t)
failed_unpassed Failed t = refl
failed_unpassed Silent t = refl
failed_unpassed Cut t = refl
failed_unpassed Illegal t = refl
failed_unpassed Protected t = refl

-- a read that was answered passed
pub read_passed : (o : Outcome) → is_read_end o ≡ true → answered o ≡ true → is_passed o ≡ true
unfolding is_read_end answered is_passed
read_passed Passed r t = refl
read_passed Failed r t = absurd (false≢true r)
read_passed Silent r t = absurd (false≢true t)
read_passed Cut r t = absurd (false≢true t)
read_passed Illegal r t = absurd (false≢true r)
read_passed Protected r t = absurd (false≢true r)

pub read_known : (o : Outcome) → is_read_end o ≡ true → is_illegal o ≡ false
unfolding is_read_end is_illegal
read_known Passed t = refl
read_known Failed t = absurd (false≢true t)
read_known Silent t = refl
read_known Cut t = refl
read_known Illegal t = absurd (false≢true t)
read_known Protected t = refl

pub read_end_unfailed : (o : Outcome) → is_read_end o ≡ true → is_failed o ≡ false
unfolding is_read_end is_failed
read_end_unfailed Passed r = refl
read_end_unfailed Failed r = absurd (false≢true r)
read_end_unfailed Silent r = refl
read_end_unfailed Cut r = refl
read_end_unfailed Illegal r = refl
read_end_unfailed Protected r = refl

-- an outcome that is neither failed nor illegal nor protected
pub unfailed_end : (o : Outcome) → is_illegal o ≡ false → is_failed o ≡ false → is_protected o ≡ false → is_read_end o ≡ true
unfolding is_illegal is_failed is_protected is_read_end
unfailed_end Passed k f u = refl
unfailed_end Failed k f u = absurd (true≢false f)
unfailed_end Silent k f u = refl
unfailed_end Cut k f u = refl
unfailed_end Illegal k f u = absurd (true≢false k)
unfailed_end Protected k f u = absurd (true≢false u)

-- one that is neither passed nor failed nor illegal is silent or cut
pub stopped_so : (o : Outcome) → is_read_end o ≡ true → is_passed o ≡ false → (is_silent o ≡ true) ⊎ ((is_silent o ≡ false) × (is_cut_off o ≡ true))
unfolding is_read_end is_passed is_silent is_cut_off
stopped_so Passed r f = absurd (true≢false f)
stopped_so Failed r f = absurd (false≢true r)
stopped_so Silent r f = inl refl
stopped_so Cut r f = inr (refl, refl)
stopped_so Illegal r f = absurd (false≢true r)
stopped_so Protected r f = absurd (false≢true r)

-- passed and failed are not protected, nor is the end of a read
pub passed_unprotected : (o : Outcome) → is_passed o ≡ true → is_protected o ≡ false
unfolding is_passed is_protected
passed_unprotected Passed t = refl
passed_unprotected Failed t = refl
passed_unprotected Silent t = refl
passed_unprotected Cut t = refl
passed_unprotected Illegal t = refl
passed_unprotected Protected t = absurd (false≢true t)

pub failed_unprotected : (o : Outcome) → is_failed o ≡ true → is_protected o ≡ false
unfolding is_failed is_protected
failed_unprotected Passed t = refl
failed_unprotected Failed t = refl
failed_unprotected Silent t = refl
failed_unprotected Cut t = refl
failed_unprotected Illegal t = refl
failed_unprotected Protected t = absurd (false≢true t)

pub read_end_unprotected : (o : Outcome) → is_read_end o ≡ true → is_protected o ≡ false
unfolding is_read_end is_protected
read_end_unprotected Passed r = refl
read_end_unprotected Failed r = refl
read_end_unprotected Silent r = refl
read_end_unprotected Cut r = refl
read_end_unprotected Illegal r = refl
read_end_unprotected Protected r = absurd (false≢true r)

-- what a protected chip makes of an answer: it is answered where it was, passed and failed are gone, and the others stay
pub guarded-answered : (o : Outcome) → answered (guarded o) ≡ answered o
unfolding answered guarded
guarded-answered Passed = refl
guarded-answered Failed = refl
guarded-answered Silent = refl
guarded-answered Cut = refl
guarded-answered Illegal = refl
guarded-answered Protected = refl

pub guarded_unpassed : (o : Outcome) → is_passed (guarded o) ≡ false
unfolding is_passed guarded
guarded_unpassed Passed = refl
guarded_unpassed Failed = refl
guarded_unpassed Silent = refl
guarded_unpassed Cut = refl
guarded_unpassed Illegal = refl
guarded_unpassed Protected = refl

pub guarded-unfailed : (o : Outcome) → is_failed (guarded o) ≡ false
unfolding is_failed guarded
guarded-unfailed Passed = refl
guarded-unfailed Failed = refl
guarded-unfailed Silent = refl
guarded-unfailed Cut = refl
guarded-unfailed Illegal = refl
guarded-unfailed Protected = refl

pub guarded_same : (o : Outcome) → answered o ≡ false → guarded o ≡ o
unfolding answered guarded
guarded_same Passed t = absurd (true≢false t)
guarded_same Failed t = absurd (true≢false t)
guarded_same Silent t = refl
guarded_same Cut t = refl
guarded_same Illegal t = refl
guarded_same Protected t = absurd (true≢false t)

-- the same by the number of the variant
abbrev pub guarded_by_tag : ℕ → Outcome
guarded_by_tag k = cond (eqb k 2) Silent (cond (eqb k 3) Cut (cond (eqb k 4) Illegal Protected))

pub guarded_by_tag_lem : (o : Outcome) → guarded_by_tag (tag_of the_type o) ≡ guarded o
unfolding guarded
guarded_by_tag_lem Passed = refl
guarded_by_tag_lem Failed = refl
guarded_by_tag_lem Silent = refl
guarded_by_tag_lem Cut = refl
guarded_by_tag_lem Illegal = refl
guarded_by_tag_lem Protected = refl
