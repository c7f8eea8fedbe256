-- Laws of one pass over both lists: what it has gathered at a place of each, and how a turn goes on. Assumes nothing.
use Prim.Native.Nat.{ℕ, ◌+◌, ◌*◌, ◌≤◌, ◌<◌}
use mathlib.Core.Bool.{true}
use mathlib.Core.List.{List}
use mathlib.Core.Option.{Option, none, some}
use mathlib.Core.Path.{◌≡◌, refl, sym, ap, ◌∙◌}
use native.Mathlib.Omega.{arith}
use borrow.Table.Steps.{cases}
use borrow.Author.Count.{below_more}
use borrow.Author.Tests.{ltb-true, ltb-false, lt-ltb, le-ltb, eq-eqb, ne_eqb}
use lib.Dec.{ltb}
use lib.IntN.{ℤ, pos, sub_ℕ, nat_abs, ◌+ℤ◌, +ℤ_idr}
use lib.ListN.{length, get_or, take}
use lib.Seq.{take_all, length-take-le}
use mir.Syntax.{w32, w64}
use mir.Val.{Fits, SFits}
use Rattle.reconcile.specs.Sales.{Sale, sales, rises, accepted, amount_of}
use Rattle.reconcile.specs.Next.{number_at}
use Rattle.reconcile.specs.Totals.{Reconciled, if_agreed, if_missing, if_both, sum_over, agreed, only_in, difference, totals}
use Rattle.reconcile.proofs.SignedLaws.{mag_abs}
use Rattle.reconcile.proofs.SaleLaws.{Accepted, accepted_parts, rises-all, amount_none, amount_at}
use Rattle.reconcile.proofs.SumLaws.{sales-length, sum_next, difference_next, Small, sales-small, take-small, sum_bound, difference_bound}

-- entries of 32 bits
abbrev pub Narrow : List ℕ → Type 0
Narrow entries = (k : ℕ) → get_or entries k 0 < 4294967296

-- the number at a place
module _ (numbers : List ℕ) where
  at_in : (i : ℕ) → i < length numbers → number_at numbers i ≡ get_or numbers i 0
  at_in i h = rw (lt-ltb i (length numbers) h)

  at_end : (i : ℕ) → length numbers ≤ i → number_at numbers i ≡ 4294967296
  at_end i h = rw (le-ltb i (length numbers) h)

  module _ (narrow : Narrow numbers) where
    at_most : (i : ℕ) → number_at numbers i ≤ 4294967296
    at_most i =
        cases (ltb i (length numbers))
        (λ t. omega (arith, at_in i (ltb-true i (length numbers) t), narrow i))
        (λ t. omega (arith, at_end i (ltb-false i (length numbers) t)))

    -- a place before the end has a number below every list's end
    at_within : (i : ℕ) → number_at numbers i < 4294967296 → i < length numbers
    at_within i h =
        cases (ltb i (length numbers))
        (λ t. ltb-true i (length numbers) t)
        (λ t. absurd (omega (arith, at_end i (ltb-false i (length numbers) t))))

    module _ (rising : rises numbers ≡ true) where
      at_next : (i : ℕ) → i < length numbers → number_at numbers i < number_at numbers (i + 1)
      at_next i h =
          cases (ltb (i + 1) (length numbers))
          (λ t. omega (arith, at_in i h, at_in (i + 1) (ltb-true (i + 1) (length numbers) t), rises-all numbers rising i (i + 1) (omega arith) (ltb-true (i + 1) (length numbers) t)))
          (λ t. omega (arith, at_in i h, at_end (i + 1) (ltb-false (i + 1) (length numbers) t), narrow i))

      -- a number between the one before a place and the one there is none of the list's
      not_there : (j n : ℕ) → ((k : ℕ) → k < j → get_or numbers k 0 < n) → n < number_at numbers j → (k : ℕ) → k < length numbers → get_or numbers k 0 ≡ n → ⊥
      not_there j n before h k l e =
          cases (ltb k j)
          (λ t. omega (arith, e, before k (ltb-true k j t)))
          (λ t.
          cases (ltb j k)
          (λ u. omega (arith, e, h, at_in j (omega (arith, l, ltb-true j k u)), rises-all numbers rising j k (ltb-true j k u) l))
          (λ u.
          let same : k ≡ j = omega (arith, ltb-false k j t, ltb-false j k u) in
          omega (arith, e, h, at_in j (omega (arith, same, l)), ap (λ (x : ℕ). get_or numbers x 0) same)))

-- the lower of two next numbers: its place is before the end, and the other list has not the number
module _ (numbers others : List ℕ) (narrow : Narrow numbers) (narrow-others : Narrow others) (i j : ℕ) (lower : number_at numbers i < number_at others j) where
  pub lower_within : i < length numbers
  lower_within = at_within numbers narrow i (omega (arith, lower, at_most others narrow-others j))

  lower_here : get_or numbers i 0 < number_at others j
  lower_here = omega (arith, lower, at_in numbers i lower_within)

  lower_missing : (amounts : List ℕ) → rises others ≡ true → ((k : ℕ) → k < j → get_or others k 0 < number_at numbers i) → amount_of (sales others amounts) (get_or numbers i 0) ≡ none
  lower_missing amounts rising before =
      amount_none others amounts (get_or numbers i 0)
      (not_there others narrow-others rising j (get_or numbers i 0) (λ k l. omega (arith, before k l, at_in numbers i lower_within)) lower_here)

-- what is gathered at place i of the box's list and place j of the mechanism's
pub record Reached (box_numbers box_amounts mechanism_numbers mechanism_amounts : List ℕ) (both only_box_of only_mechanism_of : ℕ) (balance : ℤ) (i j : ℕ) : Type 0 where
  pub box_in : i ≤ length box_numbers
  pub mechanism_in : j ≤ length mechanism_numbers
  pub box_before : (k : ℕ) → k < i → get_or box_numbers k 0 < number_at mechanism_numbers j
  pub mechanism_before : (k : ℕ) → k < j → get_or mechanism_numbers k 0 < number_at box_numbers i
  pub agreed_is : both ≡ agreed (take i (sales box_numbers box_amounts)) (sales mechanism_numbers mechanism_amounts)
  pub only_box_is : only_box_of ≡ only_in (take i (sales box_numbers box_amounts)) (sales mechanism_numbers mechanism_amounts)
  pub only_mechanism_is : only_mechanism_of ≡ only_in (take j (sales mechanism_numbers mechanism_amounts)) (sales box_numbers box_amounts)
  pub difference_is : balance ≡ difference (take i (sales box_numbers box_amounts)) (sales mechanism_numbers mechanism_amounts)

pub start : (box_numbers box_amounts mechanism_numbers mechanism_amounts : List ℕ) → Reached box_numbers box_amounts mechanism_numbers mechanism_amounts 0 0 0 (pos 0) 0 0
unfolding sum_over difference
start box_numbers box_amounts mechanism_numbers mechanism_amounts =
    record {
      box_in = omega arith;
      mechanism_in = omega arith;
      box_before = λ k l. absurd (omega arith);
      mechanism_before = λ k l. absurd (omega arith);
      agreed_is = refl;
      only_box_is = refl;
      only_mechanism_is = refl;
      difference_is = refl;
    }

-- one sale more, where the other list has this for its number
module _ (numbers amounts : List ℕ) (fine : Accepted numbers amounts) (other : List Sale) (i : ℕ) (inside : i < length numbers) (o : Option ℕ) (has : amount_of other (get_or numbers i 0) ≡ o) where
  counted : (count : Option ℕ → ℕ → ℕ) → sum_over count (take (i + 1) (sales numbers amounts)) other ≡ sum_over count (take i (sales numbers amounts)) other + count o (get_or amounts i 0)
  counted count =
      sum_next count other numbers amounts i fine.paired inside
      ∙ ap (λ (x : Option ℕ). sum_over count (take i (sales numbers amounts)) other + count x (get_or amounts i 0)) has

  differs : difference (take (i + 1) (sales numbers amounts)) other ≡ difference (take i (sales numbers amounts)) other +ℤ if_both o (get_or amounts i 0)
  differs =
      difference_next other numbers amounts i fine.paired inside
      ∙ ap (λ (x : Option ℕ). difference (take i (sales numbers amounts)) other +ℤ if_both x (get_or amounts i 0)) has

-- no sum over the first sales passes 65,535 times the greatest amount
module _ (numbers amounts : List ℕ) (fine : Accepted numbers amounts) (narrow : Narrow amounts) (other : List Sale) (i : ℕ) (inside : i ≤ length numbers) where
  first : length (take i (sales numbers amounts)) ≡ i
  first = length-take-le i (sales numbers amounts) (omega (arith, sales-length numbers amounts fine.paired))

  pub sum_so_far : (count : Option ℕ → ℕ → ℕ) → ((x : Option ℕ) (a : ℕ) → count x a ≤ a) → sum_over count (take i (sales numbers amounts)) other ≤ 65535 * 4294967295
  sum_so_far count f =
      omega (arith, sum_bound count f (take i (sales numbers amounts)) other (take-small i (sales numbers amounts) (sales-small numbers amounts narrow)), first, fine.short)

  pub difference_so_far : Small other → nat_abs (difference (take i (sales numbers amounts)) other) ≤ 65535 * 4294967295
  difference_so_far small =
      omega (arith, difference_bound (take i (sales numbers amounts)) other (take-small i (sales numbers amounts) (sales-small numbers amounts narrow)) small, first, fine.short)

  pub difference_fits : Small other → SFits w64 (difference (take i (sales numbers amounts)) other)
  difference_fits small = record { sfits = omega (arith, mag_abs (difference (take i (sales numbers amounts)) other), difference_so_far small) }

module _ (bn ba mn ma : List ℕ) (box : Accepted bn ba) (mechanism : Accepted mn ma) (narrow-box : Narrow bn) (narrow-mechanism : Narrow mn) where
  module _ (a b m : ℕ) (d : ℤ) (i j : ℕ) (r : Reached bn ba mn ma a b m d i j) where
    -- the box's next number is the lower one
    pub box_taken : number_at bn i < number_at mn j → Reached bn ba mn ma a (b + get_or ba i 0) m d (i + 1) j
    box_taken h =
        let inside = lower_within bn mn narrow-box narrow-mechanism i j h in
        let missing = lower_missing bn mn narrow-box narrow-mechanism i j h ma mechanism.rising r.mechanism_before in
        record {
          box_in = omega (arith, inside);
          mechanism_in = r.mechanism_in;
          box_before = below_more (λ (k : ℕ). get_or bn k 0 < number_at mn j) i r.box_before (lower_here bn mn narrow-box narrow-mechanism i j h);
          mechanism_before = λ k l. omega (arith, r.mechanism_before k l, at_next bn narrow-box box.rising i inside);
          agreed_is = omega (arith, r.agreed_is, counted bn ba box (sales mn ma) i inside none missing if_agreed);
          only_box_is = omega (arith, r.only_box_is, counted bn ba box (sales mn ma) i inside none missing if_missing);
          only_mechanism_is = r.only_mechanism_is;
          difference_is = r.difference_is ∙ sym (differs bn ba box (sales mn ma) i inside none missing ∙ +ℤ_idr (difference (take i (sales bn ba)) (sales mn ma)));
        }

    -- the mechanism's next number is the lower one
    pub mechanism_taken : number_at mn j < number_at bn i → Reached bn ba mn ma a b (m + get_or ma j 0) d i (j + 1)
    mechanism_taken h =
        let inside = lower_within mn bn narrow-mechanism narrow-box j i h in
        let missing = lower_missing mn bn narrow-mechanism narrow-box j i h ba box.rising r.box_before in
        record {
          box_in = r.box_in;
          mechanism_in = omega (arith, inside);
          box_before = λ k l. omega (arith, r.box_before k l, at_next mn narrow-mechanism mechanism.rising j inside);
          mechanism_before = below_more (λ (k : ℕ). get_or mn k 0 < number_at bn i) j r.mechanism_before (lower_here mn bn narrow-mechanism narrow-box j i h);
          agreed_is = r.agreed_is;
          only_box_is = r.only_box_is;
          only_mechanism_is = omega (arith, r.only_mechanism_is, counted mn ma mechanism (sales bn ba) j inside none missing if_missing);
          difference_is = r.difference_is;
        }

    -- both lists have the next sale
    module _ (more : i + j < length bn + length mn) (level : number_at bn i ≡ number_at mn j) where
      pub both_within : (i < length bn) × (j < length mn)
      both_within =
          cases (ltb i (length bn))
          (λ t.
          let inside = ltb-true i (length bn) t in
          (inside, at_within mn narrow-mechanism j (omega (arith, level, at_in bn i inside, narrow-box i))))
          (λ t.
          let out = ltb-false i (length bn) t in
          let there : j < length mn = omega (arith, out, more) in
          absurd (omega (arith, level, at_end bn i out, at_in mn j there, narrow-mechanism j)))

      same_number : get_or bn i 0 ≡ get_or mn j 0
      same_number = omega (arith, level, at_in bn i both_within.0, at_in mn j both_within.1)

      in_mechanism : amount_of (sales mn ma) (get_or bn i 0) ≡ some (get_or ma j 0)
      in_mechanism =
          ap (amount_of (sales mn ma)) same_number
          ∙ amount_at mn ma j mechanism.paired both_within.1 (λ k l e. omega (arith, e, rises-all mn mechanism.rising k j l both_within.1))

      in_box : amount_of (sales bn ba) (get_or mn j 0) ≡ some (get_or ba i 0)
      in_box =
          ap (amount_of (sales bn ba)) (sym same_number)
          ∙ amount_at bn ba i box.paired both_within.0 (λ k l e. omega (arith, e, rises-all bn box.rising k i l both_within.0))

      -- the difference that the machine adds to is the one gathered
      module _ (narrow-amounts : Narrow ba) (narrow-counted : Narrow ma) where
        pub difference_on : d +ℤ sub_ℕ (get_or ba i 0) (get_or ma j 0) ≡ difference (take (i + 1) (sales bn ba)) (sales mn ma)
        difference_on =
            ap (λ (z : ℤ). z +ℤ sub_ℕ (get_or ba i 0) (get_or ma j 0))
            r.difference_is
            ∙ sym (differs bn ba box (sales mn ma) i both_within.0 (some (get_or ma j 0)) in_mechanism)

        pub difference_adds : SFits w64 (d +ℤ sub_ℕ (get_or ba i 0) (get_or ma j 0))
        difference_adds =
            rw difference_on
            (difference_fits bn ba box narrow-amounts (sales mn ma) (i + 1) (omega (arith, both_within.0)) (sales-small mn ma narrow-counted))

        pub both_taken : Reached bn ba mn ma (a + if_agreed (some (get_or ma j 0)) (get_or ba i 0)) b m (d +ℤ sub_ℕ (get_or ba i 0) (get_or ma j 0)) (i + 1) (j + 1)
        both_taken =
            let inside = both_within in
            let box-up = at_next bn narrow-box box.rising i inside.0 in
            let mechanism-up = at_next mn narrow-mechanism mechanism.rising j inside.1 in
            record {
              box_in = omega (arith, inside.0);
              mechanism_in = omega (arith, inside.1);
              box_before = below_more (λ (k : ℕ). get_or bn k 0 < number_at mn (j + 1)) i (λ k l. omega (arith, mechanism-up, r.box_before k l)) (omega (arith, mechanism-up, level, at_in bn i inside.0));
              mechanism_before = below_more (λ (k : ℕ). get_or mn k 0 < number_at bn (i + 1)) j (λ k l. omega (arith, box-up, r.mechanism_before k l)) (omega (arith, box-up, level, at_in mn j inside.1));
              agreed_is = omega (arith, r.agreed_is, counted bn ba box (sales mn ma) i inside.0 (some (get_or ma j 0)) in_mechanism if_agreed);
              only_box_is = omega (arith, r.only_box_is, counted bn ba box (sales mn ma) i inside.0 (some (get_or ma j 0)) in_mechanism if_missing);
              only_mechanism_is = omega (arith, r.only_mechanism_is, counted mn ma mechanism (sales bn ba) j inside.1 (some (get_or ba i 0)) in_box if_missing);
              difference_is = difference_on;
            }

    -- past both ends: the totals
    pub gathered : length bn + length mn ≤ i + j → Narrow ba → Narrow ma
        → ◌≡◌ {A = Reconciled} (record { answer = 0; agreed = a; only_box = b; only_mechanism = m; difference = d }) (totals (sales bn ba) (sales mn ma))
    gathered over narrow-amounts narrow-counted =
        λ t.
        record {
          answer = 0;
          agreed = (r.agreed_is ∙ ap (λ (s : List Sale). agreed s (sales mn ma)) all_box) t;
          only_box = (r.only_box_is ∙ ap (λ (s : List Sale). only_in s (sales mn ma)) all_box) t;
          only_mechanism = (r.only_mechanism_is ∙ ap (λ (s : List Sale). only_in s (sales bn ba)) all_mechanism) t;
          difference = (r.difference_is ∙ ap (λ (s : List Sale). difference s (sales mn ma)) all_box) t;
        }
      where
        all_box : take i (sales bn ba) ≡ sales bn ba
        all_box = take_all i (sales bn ba) (omega (arith, over, r.mechanism_in, sales-length bn ba box.paired))

        all_mechanism : take j (sales mn ma) ≡ sales mn ma
        all_mechanism = take_all j (sales mn ma) (omega (arith, over, r.box_in, sales-length mn ma mechanism.paired))

-- what is known of both lists: they are accepted, and their entries have 32 bits
pub record Lists (bn ba mn ma : List ℕ) : Type 0 where
  pub box : Accepted bn ba
  pub mechanism : Accepted mn ma
  pub narrow_box : Narrow bn
  pub narrow_mechanism : Narrow mn
  pub narrow_paid : Narrow ba
  pub narrow_counted : Narrow ma

abbrev Held : List ℕ → Type 0
Held entries = (k : ℕ) → Fits w32 (get_or entries k 0)

pub lists_of : (bn ba mn ma : List ℕ) → accepted bn ba ≡ true → accepted mn ma ≡ true → Held bn → Held mn → Held ba → Held ma → Lists bn ba mn ma
lists_of bn ba mn ma t u f g h k =
    record {
      box = accepted_parts bn ba t;
      mechanism = accepted_parts mn ma u;
      narrow_box = λ i. (f i).fits;
      narrow_mechanism = λ i. (g i).fits;
      narrow_paid = λ i. (h i).fits;
      narrow_counted = λ i. (k i).fits;
    }

-- an amount that both lists have is agreed if it is the same
pub agreed_same : (a b : ℕ) → a ≡ b → if_agreed (some b) a ≡ a
agreed_same a b h = rw (eq-eqb a b h)

pub agreed_other : (a b : ℕ) → (a ≡ b → ⊥) → if_agreed (some b) a ≡ 0
agreed_other a b h = rw (ne_eqb a b h)
