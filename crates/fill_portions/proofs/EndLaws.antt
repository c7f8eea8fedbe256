-- Two calls that find the same array and history, the same mask, and the same fate words from where they are: an operation that neither cuts ends alike. Assumes nothing.
use Prim.Native.Nat.{ℕ, ◌+◌, ◌-◌, ◌≤◌}
use mathlib.Core.Bool.{false, cond}
use mathlib.Core.List.{List}
use mathlib.Core.Path.{◌≡◌, sym, ap, ap₂, ◌∙◌}
use native.Mathlib.Omega.{arith}
use native.Mathlib.Nat.{add-zero}
use borrow.Table.Steps.{cases}
use borrow.Author.Tests.{lt-ltb, le-ltb, ltb-true, ltb-false, lt-leb}
use lib.Dec.{eqb, ltb}
use lib.ListN.{length, get_or, drop, length-drop}
use lib.Seq.{get_or-drop}
use Rattle.geometry.specs.declared.Geometry.{Geometry}
use Rattle.chip_interface.specs.Interface.{fate_word, next_fate, busy_of, failed_for}
use Rattle.chip_array.specs.Device.{Setting, setting}
use Rattle.bus.specs.Line.{Line}
use Rattle.bus_polling.specs.declared.Outcome.TheVariants.{Passed, Failed, Silent, Cut}
use Rattle.bus_polling.specs.Outcomes.{is_cut_off}
use Rattle.operations.specs.Ends.{End, polls_for, word_for, total_for, passes, ends_as, confirmed_end, read_total, read_end}
use Rattle.bools.proofs.BoolLaws.{clash}

-- the fate words from place j of one list on are those from place i of the other on
abbrev pub SameWords : List ℕ → ℕ → List ℕ → ℕ → Type 0
SameWords fates i fates' j = (k : ℕ) → fate_word fates' (j + k) ≡ fate_word fates (i + k)

word_past : (fates : List ℕ) (i k : ℕ) → fate_word fates (next_fate fates i + k) ≡ fate_word fates (i + (1 + k))
unfolding fate_word next_fate
word_past fates i k =
    cases (ltb i (length fates))
    (λ t.
    let e : i + 1 + k ≡ i + (1 + k) = omega arith in
    rw t (ap (λ (x : ℕ). cond (ltb x (length fates)) (get_or fates x 0) 0) e))
    (λ f.
    let far : length fates ≤ i = ltb-false i (length fates) f in
    rw (f, le-ltb (i + k) (length fates) (omega (arith, far)), le-ltb (i + (1 + k)) (length fates) (omega (arith, far))))

-- after one word each
pub words_next : (fates : List ℕ) (i : ℕ) (fates' : List ℕ) (j : ℕ) → SameWords fates i fates' j → SameWords fates (next_fate fates i) fates' (next_fate fates' j)
words_next fates i fates' j w k = word_past fates' j k ∙ w (1 + k) ∙ sym (word_past fates i k)

-- the words that are left, as a list of their own
word_left : (fates : List ℕ) (j k : ℕ) → fate_word (drop j fates) (0 + k) ≡ fate_word fates (j + k)
unfolding fate_word
word_left fates j k =
    let long = length-drop j fates in
    let here : 0 + k ≡ k = omega arith in
    ap (λ (i : ℕ). cond (ltb i (length (drop j fates))) (get_or (drop j fates) i 0) 0) here
    ∙ cases (ltb (j + k) (length fates))
    (λ t.
    let less = ltb-true (j + k) (length fates) t in
    rw (t, lt-ltb k (length (drop j fates)) (omega (arith, long, less))) (get_or-drop j fates k 0))
    (λ t.
    let far = ltb-false (j + k) (length fates) t in
    rw (t, le-ltb k (length (drop j fates)) (omega (arith, long, far))))

pub words_left : (fates : List ℕ) (i : ℕ) (fates' : List ℕ) (j : ℕ) → SameWords fates i fates' j → SameWords fates i (drop j fates') 0
words_left fates i fates' j w k = word_left fates' j k ∙ w k

-- an operation that was not cut
uncut_enough : (s : Setting) (l : Line) (op m : ℕ) → is_cut_off (ends_as s l op m) ≡ false → ltb l.left (total_for s l.chip m) ≡ false
unfolding is_cut_off
uncut_enough s l op m f = cases (ltb l.left (total_for s l.chip m)) (λ t. clash (rw t) f) (λ e. e)

-- how two such operations ended, from lines l and l': the same but for the fate words' places, and after as many cycles
pub record Ends (fates fates' : List ℕ) (l l' : Line) (e e' : End) : Type 0 where
  pub same_outcome : e'.outcome ≡ e.outcome
  pub same_array : e'.array ≡ e.array
  pub same_history : e'.history ≡ e.history
  pub words : SameWords fates e.fate fates' e'.fate
  pub as_many : l'.left + e.left ≡ l.left + e'.left
  pub within : e.left ≤ l.left
  pub within' : e'.left ≤ l'.left

module _ (g : Geometry) (mask fates fates' : List ℕ) (l l' : Line) (w : SameWords fates l.chip.interface.fate fates' l'.chip.interface.fate) where
  abbrev s : Setting
  s = setting g mask fates

  abbrev s' : Setting
  s' = setting g mask fates'

  same_word : word_for s' l'.chip ≡ word_for s l.chip
  same_word =
      ap (fate_word fates') (sym (add-zero l'.chip.interface.fate)) ∙ w 0 ∙ ap (fate_word fates) (add-zero l.chip.interface.fate)

  words_on : SameWords fates (next_fate fates l.chip.interface.fate) fates' (next_fate fates' l'.chip.interface.fate)
  words_on = words_next fates l.chip.interface.fate fates' l'.chip.interface.fate w

  -- a program or an erase
  module _ (op m : ℕ) (a₁ h₁ a₂ h₂ : List ℕ) where
    pub confirmed_alike : is_cut_off (ends_as s l op m) ≡ false → is_cut_off (ends_as s' l' op m) ≡ false → Ends fates fates' l l' (confirmed_end s l op m a₁ h₁ a₂ h₂) (confirmed_end s' l' op m a₁ h₁ a₂ h₂)
    unfolding confirmed_end
    confirmed_alike f f' =
        let n = uncut_enough s l op m f in
        let n' = uncut_enough s' l' op m f' in
        let h = ltb-false l.left (total_for s l.chip m) n in
        let h' = ltb-false l'.left (total_for s' l'.chip m) n' in
        let k = lt-leb l.left m (omega (arith, h)) in
        let k' = lt-leb l'.left m (omega (arith, h')) in
        let same : total_for s' l'.chip m ≡ total_for s l.chip m = ap (λ (x : ℕ). m + 2 + polls_for (busy_of x)) same_word in
        let passed : passes s' l' op m ≡ passes s l op m = rw (n, n') (ap (λ (x : ℕ). cond (ltb (busy_of x) 256) (eqb (failed_for op x) 0) false) same_word) in
        record {
          same_outcome = rw (n, n') (ap (λ (x : ℕ). cond (ltb (busy_of x) 256) (cond (eqb (failed_for op x) 0) Passed Failed) Silent) same_word);
          same_array = rw (k, k', passed);
          same_history = rw (k, k', passed);
          words = rw (k, k') words_on;
          as_many = omega (arith, same, h, h');
          within = omega arith;
          within' = omega arith;
        }

  -- a read of n bytes
  module _ (n : ℕ) (arrays : l'.chip.array ≡ l.chip.array) (histories : l'.chip.history ≡ l.chip.history) where
    pub read_alike : is_cut_off (read_end s l n).outcome ≡ false → is_cut_off (read_end s' l' n).outcome ≡ false → Ends fates fates' l l' (read_end s l n) (read_end s' l' n)
    unfolding read_end is_cut_off
    read_alike f f' =
        let x : ltb l.left (read_total s l.chip n) ≡ false = cases (ltb l.left (read_total s l.chip n)) (λ t. clash (rw t) f) (λ e. e) in
        let x' : ltb l'.left (read_total s' l'.chip n) ≡ false = cases (ltb l'.left (read_total s' l'.chip n)) (λ t. clash (rw t) f') (λ e. e) in
        let h = ltb-false l.left (read_total s l.chip n) x in
        let h' = ltb-false l'.left (read_total s' l'.chip n) x' in
        let k = lt-leb l.left 6 (omega (arith, h)) in
        let k' = lt-leb l'.left 6 (omega (arith, h')) in
        let same : read_total s' l'.chip n ≡ read_total s l.chip n = ap (λ (y : ℕ). 6 + 2 + polls_for (busy_of y) + cond (ltb (busy_of y) 256) (1 + n) 0) same_word in
        record {
          same_outcome = rw (x, x') (ap (λ (y : ℕ). cond (ltb (busy_of y) 256) Passed Silent) same_word);
          same_array = arrays;
          same_history = histories;
          words = rw (k, k') words_on;
          as_many = omega (arith, same, h, h');
          within = omega arith;
          within' = omega arith;
        }

  -- with as many cycles left, cut or not
  module _ (same : l'.left ≡ l.left) where
    pub ends_same : (op m : ℕ) → ends_as s' l' op m ≡ ends_as s l op m
    ends_same op m =
        ap₂ (λ (k x : ℕ). cond (ltb k (m + 2 + polls_for (busy_of x))) Cut (cond (ltb (busy_of x) 256) (cond (eqb (failed_for op x) 0) Passed Failed) Silent)) same same_word

    pub read_same : (n : ℕ) → (read_end s' l' n).outcome ≡ (read_end s l n).outcome
    unfolding read_end
    read_same n =
        ap₂ (λ (k x : ℕ). cond (ltb k (6 + 2 + polls_for (busy_of x) + cond (ltb (busy_of x) 256) (1 + n) 0)) Cut (cond (ltb (busy_of x) 256) Passed Silent)) same same_word
