-- The box's sum minus the mechanism's is the second total minus the third plus the fourth; what the fourth is, by its sign. Assumes nothing.
use Prim.Native.Nat.{ℕ, suc, ◌+◌, ◌-◌, ◌≤◌, ◌<◌}
use mathlib.Core.Bool.{true, cond}
use mathlib.Core.List.{List, [], ◌∷◌}
use mathlib.Core.Logic.{◌↔◌}
use mathlib.Core.Option.{Option, none, some}
use mathlib.Core.Path.{◌≡◌, refl, sym, ap, ap₂, ◌∙◌}
use native.Mathlib.Omega.{arith}
use borrow.Table.Steps.{cases}
use borrow.Author.Tests.{eqb-true, eqb-false, eq-eqb, ne_eqb}
use lib.Dec.{eqb}
use lib.IntN.{ℤ, pos, negsuc, sub_ℕ, ◌+ℤ◌}
use lib.ListN.{length}
use Rattle.reconcile.specs.Sales.{Sale, sales, rises, amount_of}
use Rattle.reconcile.specs.Totals.{if_agreed, if_missing, if_both, sum_over, agreed, only_in, difference}
use Rattle.reconcile.specs.Balance.{sum, if_more, excess}
use Rattle.reconcile.proofs.SignedLaws.{sub_add, sub_same, sub_above, sub_below, sub-zero}
use Rattle.reconcile.proofs.SaleLaws.{Accepted, rises_rest, rises-first, amount_none}

-- a list that has no number twice
abbrev pub Distinct : List Sale → Type 0
Distinct [] = Unit {0}
Distinct (s ∷ rest) = (amount_of rest s.number ≡ none) × Distinct rest

pub rising_distinct : (numbers amounts : List ℕ) → rises numbers ≡ true → Distinct (sales numbers amounts)
unfolding sales
rising_distinct [] amounts h = tt
rising_distinct (n ∷ numbers) [] h = tt
rising_distinct (n ∷ numbers) (a ∷ amounts) h =
    (amount_none numbers amounts n (λ k l e. omega (arith, e, rises-first n numbers h k l)), rising_distinct numbers amounts (rises_rest n numbers h))

-- a sum over the sales in both lists, of a function of both amounts
abbrev pub if_has : (ℕ → ℕ → ℕ) → Option ℕ → ℕ → ℕ
if_has g none a = 0
if_has g (some other) a = g a other

pub sum_same : (f g : Option ℕ → ℕ → ℕ) → ((o : Option ℕ) (a : ℕ) → f o a ≡ g o a) → (sold other : List Sale) → sum_over f sold other ≡ sum_over g sold other
unfolding sum_over
sum_same f g e [] other = refl
sum_same f g e (s ∷ sold) other = ap₂ (λ (x y : ℕ). x + y) (e (amount_of other s.number) s.amount) (sum_same f g e sold other)

module _ (g : ℕ → ℕ → ℕ) where
  abbrev turned : ℕ → ℕ → ℕ
  turned a b = g b a

  -- a sale more in the other list: what this list has for its number
  one_more : (sold other : List Sale) (s : Sale) → Distinct sold → amount_of other s.number ≡ none
      → sum_over (if_has turned) sold (s ∷ other) ≡ sum_over (if_has turned) sold other + if_has g (amount_of sold s.number) s.amount
  unfolding sum_over amount_of
  one_more [] other s d n = refl
  one_more (t ∷ sold) other s d n =
      let later = one_more sold other s d.1 n in
      cases (eqb s.number t.number)
      (λ e.
      let same = eqb-true s.number t.number e in
      let none_here : amount_of other t.number ≡ none = ap (amount_of other) (sym same) ∙ n in
      let none_later : amount_of sold s.number ≡ none = ap (amount_of sold) same ∙ d.0 in
      let as_before : sum_over (if_has turned) sold (s ∷ other) ≡ sum_over (if_has turned) sold other + 0 = later ∙ ap (λ (o : Option ℕ). sum_over (if_has turned) sold other + if_has g o s.amount) none_later in
      rw (e, none_here, eq-eqb t.number s.number (sym same)) (omega (arith, as_before)))
      (λ e.
      let other_way = ne_eqb t.number s.number (λ q. eqb-false s.number t.number e (sym q)) in
      rw (e, other_way) (omega (arith, later)))

  -- over the one list's sales, or over the other's
  nothing : (sold : List Sale) → sum_over (if_has turned) sold [] ≡ 0
  unfolding sum_over amount_of
  nothing [] = refl
  nothing (t ∷ sold) = omega (arith, nothing sold)

  pub exchange : (sold other : List Sale) → Distinct sold → Distinct other → sum_over (if_has g) sold other ≡ sum_over (if_has turned) other sold
  unfolding sum_over
  exchange [] other d f = sym (nothing other)
  exchange (s ∷ sold) other d f = omega (arith, exchange sold other d.1 f, one_more other sold s f d.0)

-- sale by sale
more_is : (o : Option ℕ) (a : ℕ) → if_more o a ≡ if_has (λ (x y : ℕ). x - y) o a
more_is none a = refl
more_is (some b) a = refl

-- an agreed amount is the one of either list
equal_amount : ℕ → ℕ → ℕ
equal_amount a b = cond (eqb a b) a 0

agreed_as : (o : Option ℕ) (a : ℕ) → if_agreed o a ≡ if_has equal_amount o a
unfolding equal_amount
agreed_as none a = refl
agreed_as (some b) a = refl

amounts_agree : (o : Option ℕ) (a : ℕ) → if_has (λ (x y : ℕ). equal_amount y x) o a ≡ if_agreed o a
unfolding equal_amount
amounts_agree none a = refl
amounts_agree (some b) a =
    cases (eqb a b)
    (λ t.
    let same = eqb-true a b t in
    rw (t, eq-eqb b a (sym same)) (sym same))
    (λ t. rw (t, ne_eqb b a (λ q. eqb-false a b t (sym q))))

-- by how much the amounts are below
if_less : Option ℕ → ℕ → ℕ
if_less o a = if_has (λ (x y : ℕ). y - x) o a

-- one list's shortfall is the other's excess
short_is : (sold other : List Sale) → Distinct sold → Distinct other → sum_over if_less sold other ≡ excess other sold
unfolding if_less
short_is sold other d f = exchange (λ (x y : ℕ). y - x) sold other d f ∙ sym (sum_same if_more (if_has (λ (x y : ℕ). x - y)) more_is other sold)

both_is : (o : Option ℕ) (a : ℕ) → if_both o a ≡ sub_ℕ (if_more o a) (if_less o a)
unfolding if_less
both_is none a = refl
both_is (some b) a = sub_same a b (a - b) (b - a) (omega arith)

difference_parts : (sold other : List Sale) → difference sold other ≡ sub_ℕ (excess sold other) (sum_over if_less sold other)
unfolding difference sum_over
difference_parts [] other = refl
difference_parts (s ∷ sold) other =
    ap₂ (λ (x y : ℤ). x +ℤ y) (both_is (amount_of other s.number) s.amount) (difference_parts sold other)
    ∙ sub_add (if_more (amount_of other s.number) s.amount) (if_less (amount_of other s.number) s.amount) (excess sold other) (sum_over if_less sold other)

-- the fourth total: the box's excess minus the mechanism's
pub difference_is : (box mechanism : List Sale) → Distinct box → Distinct mechanism → difference box mechanism ≡ sub_ℕ (excess box mechanism) (excess mechanism box)
difference_is box mechanism d f = difference_parts box mechanism ∙ ap (sub_ℕ (excess box mechanism)) (short_is box mechanism d f)

-- a sum of sums
split : (f g h k : Option ℕ → ℕ → ℕ) → ((o : Option ℕ) (a : ℕ) → a + f o a ≡ g o a + h o a + k o a) → (numbers amounts : List ℕ) (other : List Sale) → length amounts ≡ length numbers
    → sum amounts + sum_over f (sales numbers amounts) other ≡ sum_over g (sales numbers amounts) other + sum_over h (sales numbers amounts) other + sum_over k (sales numbers amounts) other
unfolding sum sum_over sales
split f g h k e [] [] other l = refl
split f g h k e [] (a ∷ amounts) other l = absurd (omega arith)
split f g h k e (n ∷ numbers) [] other l = absurd (omega arith)
split f g h k e (n ∷ numbers) (a ∷ amounts) other l =
    omega (arith, e (amount_of other n) a, split f g h k e numbers amounts other (omega arith))

zeros : (sold other : List Sale) → sum_over (λ (o : Option ℕ) (a : ℕ). 0) sold other ≡ 0
unfolding sum_over
zeros [] other = refl
zeros (s ∷ sold) other = omega (arith, zeros sold other)

-- a sale of the box: its amount is missing there, or is the other amount, more what it is above, less what it is below
of_box : (o : Option ℕ) (a : ℕ) → a + if_less o a ≡ if_missing o a + if_more o a + if_has (λ (x y : ℕ). y) o a
unfolding if_less
of_box none a = omega arith
of_box (some b) a = omega arith

-- a sale of the mechanism: its amount is missing there, or in both lists
of_mechanism : (o : Option ℕ) (a : ℕ) → a + 0 ≡ if_missing o a + if_has (λ (x y : ℕ). x) o a + 0
of_mechanism none a = omega arith
of_mechanism (some b) a = omega arith

module _ (box_numbers box_amounts mechanism_numbers mechanism_amounts : List ℕ) (accepted-box : Accepted box_numbers box_amounts) (accepted-mechanism : Accepted mechanism_numbers mechanism_amounts) where
  abbrev box : List Sale
  box = sales box_numbers box_amounts

  abbrev mechanism : List Sale
  mechanism = sales mechanism_numbers mechanism_amounts

  distinct_box : Distinct box
  distinct_box = rising_distinct box_numbers box_amounts accepted-box.rising

  distinct_mechanism : Distinct mechanism
  distinct_mechanism = rising_distinct mechanism_numbers mechanism_amounts accepted-mechanism.rising

  -- THE BALANCE, over naturals: the box's sum, the third total and the mechanism's excess are the mechanism's sum, the second total and the box's excess
  pub balance : sum box_amounts + only_in mechanism box + excess mechanism box ≡ sum mechanism_amounts + only_in box mechanism + excess box mechanism
  balance =
      omega (
        arith,
        split if_less if_missing if_more (if_has (λ (x y : ℕ). y)) of_box box_numbers box_amounts mechanism accepted-box.paired,
        short_is box mechanism distinct_box distinct_mechanism,
        exchange (λ (x y : ℕ). y) box mechanism distinct_box distinct_mechanism,
        split (λ (o : Option ℕ) (a : ℕ). 0) if_missing (if_has (λ (x y : ℕ). x)) (λ (o : Option ℕ) (a : ℕ). 0) of_mechanism mechanism_numbers mechanism_amounts box accepted-mechanism.paired,
        zeros mechanism box,
      )

  -- the first total is the same over either list's sales
  pub agreed_either : agreed box mechanism ≡ agreed mechanism box
  agreed_either =
      sum_same if_agreed (if_has equal_amount) agreed_as box mechanism
      ∙ exchange equal_amount box mechanism distinct_box distinct_mechanism
      ∙ sum_same (if_has (λ (x y : ℕ). equal_amount y x)) if_agreed amounts_agree mechanism box

  pub signed : difference box mechanism ≡ sub_ℕ (excess box mechanism) (excess mechanism box)
  signed = difference_is box mechanism distinct_box distinct_mechanism

  -- the same as one equation of integers: the box's sum minus the mechanism's is the second total minus the third plus the fourth
  pub balance_signed : sub_ℕ (sum box_amounts) (sum mechanism_amounts) ≡ sub_ℕ (only_in box mechanism) (only_in mechanism box) +ℤ difference box mechanism
  balance_signed =
      sub_same (sum box_amounts) (sum mechanism_amounts) (only_in box mechanism + excess box mechanism) (only_in mechanism box + excess mechanism box) (omega (arith, balance))
      ∙ sym (ap (λ (z : ℤ). sub_ℕ (only_in box mechanism) (only_in mechanism box) +ℤ z) signed ∙ sub_add (only_in box mechanism) (only_in mechanism box) (excess box mechanism) (excess mechanism box))

  -- the fourth total by its sign
  pub signed_above : excess mechanism box ≤ excess box mechanism → difference box mechanism ≡ pos (excess box mechanism - excess mechanism box)
  signed_above h = signed ∙ sub_above (excess box mechanism) (excess mechanism box) h

  pub signed_below : excess box mechanism < excess mechanism box → difference box mechanism ≡ negsuc (excess mechanism box - suc (excess box mechanism))
  signed_below h = signed ∙ sub_below (excess box mechanism) (excess mechanism box) h

  pub signed_zero : (difference box mechanism ≡ pos 0) ↔ (excess box mechanism ≡ excess mechanism box)
  signed_zero = (λ e. sub-zero (excess box mechanism) (excess mechanism box) (sym signed ∙ e), λ e. signed_above (omega (arith, e)) ∙ ap pos (omega (arith, e)))
