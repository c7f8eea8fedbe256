-- Laws of tests put together by cond. Assumes nothing.
use mathlib.Core.Bool.{Bool, true, false, cond, true≢false, false≢true}
use mathlib.Core.Path.{◌≡◌, refl, sym, ◌∙◌}

-- a chain of tests, each of which must hold
pub both : (b x : Bool) → cond b x false ≡ true → (b ≡ true) × (x ≡ true)
both true x h = (refl, h)
both false x h = absurd (false≢true h)

-- a chain of tests, one of which must hold
pub either : (b x : Bool) (P : Type 0) → (b ≡ true → P) → (x ≡ true → P) → cond b true x ≡ true → P
either true x P f g h = f refl
either false x P f g h = g h

-- a test that must fail
pub unless : (b x : Bool) → cond b false x ≡ true → (b ≡ false) × (x ≡ true)
unless true x h = absurd (true≢false (sym h))
unless false x h = (refl, h)

-- a test cannot hold and fail
pub clash : {P : Type 0} {b : Bool} → b ≡ true → b ≡ false → P
clash t f = absurd (false≢true (sym f ∙ t))

pub or_none : (a : Bool) → cond a true false ≡ a
or_none true = refl
or_none false = refl

pub and_none : (a : Bool) → cond a false false ≡ false
and_none true = refl
and_none false = refl

pub one_true : (a : Bool) → cond a true true ≡ true
one_true true = refl
one_true false = refl
