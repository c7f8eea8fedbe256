-- What the answers mean, in terms of the rules' ends and without counting.
use Rattle.std.specs.Prelude.{ℕ, ◌≤◌, ◌<◌, List, ◌⊎◌, ◌≡◌, length, get_or}
use Rattle.price_rules.specs.Rules.{fault_of}

-- at most 200 rules, each with a last selection and a price
pub record Shaped (firsts lasts prices : ℕ) : Type 0 where
  pub few : firsts ≤ 200
  pub last_each : lasts ≡ firsts
  pub price_each : prices ≡ firsts

-- s falls in rule i
abbrev pub Falls : List ℕ → List ℕ → ℕ → ℕ → Type 0
Falls first last s i = (get_or first i 0 ≤ s) × (s ≤ get_or last i 0)

-- both ends lie in 1 to 99, and the last is not below the first
pub record Right (first last : ℕ) : Type 0 where
  pub low : 1 ≤ first
  pub rising : first ≤ last
  pub high : last ≤ 99

-- s falls in no rule
abbrev pub Gap : List ℕ → List ℕ → ℕ → Type 0
Gap first last s = (i : ℕ) → i < length first → Falls first last s i → ⊥

-- s falls in exactly one rule
pub record One (first last : List ℕ) (s : ℕ) : Type 0 where
  pub rule : ℕ
  pub there : rule < length first
  pub covers : Falls first last s rule
  pub alone : (j : ℕ) → j < length first → Falls first last s j → j ≡ rule

-- s falls in two rules
pub record Two (first last : List ℕ) (s : ℕ) : Type 0 where
  pub rule : ℕ
  pub other : ℕ
  pub apart : rule < other
  pub there : other < length first
  pub covers : Falls first last s rule
  pub also : Falls first last s other

-- a rule is not right, and s is its selection at fault
pub record Wrong (first last : List ℕ) (s : ℕ) : Type 0 where
  pub rule : ℕ
  pub there : rule < length first
  pub not_right : Right (get_or first rule 0) (get_or last rule 0) → ⊥
  pub fault : fault_of (get_or first rule 0) ≡ s

-- s is not at fault
pub record Clear (first last : List ℕ) (s : ℕ) : Type 0 where
  pub one : One first last s
  pub none_wrong : Wrong first last s → ⊥

-- s is a selection, and none below it is at fault
pub record Smallest (first last : List ℕ) (s : ℕ) : Type 0 where
  pub low : 1 ≤ s
  pub high : s ≤ 99
  pub below : (r : ℕ) → 1 ≤ r → r < s → Clear first last r

-- an accepted table: each selection falls in exactly one rule, and every rule is right
pub record Sound (first last price : List ℕ) : Type 0 where
  pub shape : Shaped (length first) (length last) (length price)
  pub right : (i : ℕ) → i < length first → Right (get_or first i 0) (get_or last i 0)
  pub one : (s : ℕ) → 1 ≤ s → s ≤ 99 → One first last s

-- refused with 17 at s: no rule covers it, no wrong rule has it at fault, and no smaller selection is at fault
pub record Uncovered (first last price : List ℕ) (s : ℕ) : Type 0 where
  pub shape : Shaped (length first) (length last) (length price)
  pub smallest : Smallest first last s
  pub gap : Gap first last s
  pub none_wrong : Wrong first last s → ⊥

-- refused with 18 at s: two rules cover it or a wrong rule has it at fault, and no smaller selection is at fault
pub record Disputed (first last price : List ℕ) (s : ℕ) : Type 0 where
  pub shape : Shaped (length first) (length last) (length price)
  pub smallest : Smallest first last s
  pub why : Two first last s ⊎ Wrong first last s
