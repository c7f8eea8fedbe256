-- The test of a mounted state is true exactly where what it stands for holds of every bit and every entry. Assumes nothing.
use Prim.Native.Nat.{ℕ, zero, suc, ◌+◌, ◌-◌, ◌≤◌, ◌<◌}
use mathlib.Core.Bool.{Bool, true, false, cond, false≢true}
use mathlib.Core.List.{List}
use mathlib.Core.Path.{◌≡◌, refl, sym, ap, subst, ◌∙◌}
use native.Mathlib.Omega.{arith}
use borrow.Table.Steps.{cases}
use borrow.Author.Tests.{eqb-true, eqb-false, eq-eqb, ltb-true, ltb-false, lt-ltb}
use lib.Dec.{eqb, ltb}
use lib.ListN.{length, get_or, replicate, length-replicate}
use Rattle.bitmaps.specs.Bitmap.{byte_of, bit_at, with_bit, clear_from, never_both}
use Rattle.bitmaps.proofs.BitLaws.{bit-set, bit_kept}
use Rattle.state_choose.specs.Choose.{permitted}
use Rattle.state.specs.State.{none, empty_from, sound_block, sound_from, sound_entries, mounted, Mounted}
use Rattle.state.specs.declared.State.{State}
use Rattle.state.proofs.StateLaws.{with_length}
use Rattle.bitmaps.proofs.BitmapLaws.{blank-bit}
use Rattle.bools.proofs.BoolLaws.{clash}

-- both of two tests hold
first_holds : (a b : Bool) → cond a b false ≡ true → a ≡ true
first_holds true b e = refl
first_holds false b e = e

second_holds : (a b : Bool) → cond a b false ≡ true → b ≡ true
second_holds true b e = e
second_holds false b e = absurd (false≢true e)

-- what holds at n and from n + 1 on holds from n on
from_next : (P : ℕ → Type 0) (n k l : ℕ) → n ≤ l → l < n + suc k → P n → (n + 1 ≤ l → l < n + 1 + k → P l) → P l
from_next P n k l h g here more =
    cases (eqb l n) (λ t. subst P (sym (eqb-true l n t)) here) (λ f. more (omega (arith, eqb-false l n f)) (omega arith))

-- no bit from n on is set exactly where each is clear
module _ (bits : List ℕ) where
  pub clear_each : (n k : ℕ) → clear_from bits n k ≡ true → (b : ℕ) → n ≤ b → b < n + k → bit_at bits b ≡ false
  unfolding clear_from
  clear_each n zero e b h g = absurd (omega arith)
  clear_each n (suc k) e b h g =
      cases (bit_at bits n)
      (λ t. absurd (false≢true (sym (rw t) ∙ e)))
      (λ f. from_next (λ (x : ℕ). bit_at bits x ≡ false) n k b h g f (clear_each (n + 1) k (sym (rw f) ∙ e) b))

  pub each_clear : (n k : ℕ) → ((b : ℕ) → n ≤ b → b < n + k → bit_at bits b ≡ false) → clear_from bits n k ≡ true
  unfolding clear_from
  each_clear n zero f = refl
  each_clear n (suc k) f =
      rw (f n (omega arith) (omega arith)) (each_clear (n + 1) k (λ b h g. f b (omega arith) (omega arith)))

-- no block has both bits set exactly where each with the first bit set has the second clear
module _ (xs ys : List ℕ) where
  pub never_each : (n : ℕ) → never_both xs ys n ≡ true → (b : ℕ) → b < n → bit_at xs b ≡ true → bit_at ys b ≡ false
  unfolding never_both
  never_each zero e b h t = absurd (omega arith)
  never_each (suc n) e b h t =
      cases (eqb b n)
      (λ q. here (subst (λ (x : ℕ). bit_at xs x ≡ true) (eqb-true b n q) t) (eqb-true b n q))
      (λ q. never_each n less b (omega (arith, eqb-false b n q)) t)
    where
      less : never_both xs ys n ≡ true
      less =
          cases (bit_at xs n)
          (λ s. cases (bit_at ys n) (λ u. absurd (false≢true (sym (rw (s, u)) ∙ e))) (λ u. sym (rw (s, u)) ∙ e))
          (λ s. sym (rw s) ∙ e)

      here : bit_at xs n ≡ true → b ≡ n → bit_at ys b ≡ false
      here s q =
          cases (bit_at ys n) (λ u. absurd (false≢true (sym (rw (s, u)) ∙ e))) (λ u. ap (bit_at ys) q ∙ u)

  pub each_never : (n : ℕ) → ((b : ℕ) → b < n → bit_at xs b ≡ true → bit_at ys b ≡ false) → never_both xs ys n ≡ true
  unfolding never_both
  each_never zero f = refl
  each_never (suc n) f =
      let less = each_never n (λ b h. f b (omega arith)) in
      cases (bit_at xs n) (λ t. rw (t, f n (omega arith) t) less) (λ t. rw t less)

-- the entries from n on are empty exactly where each is
module _ (map : List ℕ) where
  pub empty_each : (n k : ℕ) → empty_from map n k ≡ true → (l : ℕ) → n ≤ l → l < n + k → get_or map l 0 ≡ none
  unfolding empty_from
  empty_each n zero e l h g = absurd (omega arith)
  empty_each n (suc k) e l h g =
      cases (eqb (get_or map n 0) none)
      (λ t. from_next (λ (x : ℕ). get_or map x 0 ≡ none) n k l h g (eqb-true (get_or map n 0) none t) (empty_each (n + 1) k (sym (rw t) ∙ e) l))
      (λ f. absurd (false≢true (sym (rw f) ∙ e)))

  pub each_empty : (n k : ℕ) → ((l : ℕ) → n ≤ l → l < n + k → get_or map l 0 ≡ none) → empty_from map n k ≡ true
  unfolding empty_from
  each_empty n zero f = refl
  each_empty n (suc k) f =
      rw (eq-eqb (get_or map n 0) none (f n (omega arith) (omega arith)))
      (each_empty (n + 1) k (λ l h g. f l (omega arith) (omega arith)))

-- a sound block: on the chip, unmarked, valid, and not named before
pub record Sound (marked invalid named : List ℕ) (blocks b : ℕ) : Type 0 where
  pub below : b < blocks
  pub unmarked : bit_at marked b ≡ false
  pub valid : bit_at invalid b ≡ false
  pub unnamed : bit_at named b ≡ false

clear_first : (a b : Bool) → cond a false b ≡ true → a ≡ false
clear_first true b e = sym e
clear_first false b e = refl

clear_second : (a b : Bool) → cond a false b ≡ true → b ≡ true
clear_second true b e = absurd (false≢true e)
clear_second false b e = e

module _ (marked invalid named : List ℕ) (blocks b : ℕ) where
  pub sound_block_fact : sound_block marked invalid named blocks b ≡ true → Sound marked invalid named blocks b
  unfolding permitted
  sound_block_fact e =
      let free : permitted marked invalid named b ≡ true = second_holds (ltb b blocks) (permitted marked invalid named b) e in
      let rest = clear_second (bit_at marked b) (cond (bit_at invalid b) false (cond (bit_at named b) false true)) free in
      let last = clear_second (bit_at invalid b) (cond (bit_at named b) false true) rest in
      record {
        below = ltb-true b blocks (first_holds (ltb b blocks) (permitted marked invalid named b) e);
        unmarked = clear_first (bit_at marked b) (cond (bit_at invalid b) false (cond (bit_at named b) false true)) free;
        valid = clear_first (bit_at invalid b) (cond (bit_at named b) false true) rest;
        unnamed = clear_first (bit_at named b) true last;
      }

  pub block_sound : Sound marked invalid named blocks b → sound_block marked invalid named blocks b ≡ true
  unfolding permitted
  block_sound r = rw (lt-ltb b blocks r.below, r.unmarked, r.valid, r.unnamed)

-- a block below 4096 has its bit in a bitmap of 512 bytes
pub set_named : (named : List ℕ) (b : ℕ) → length named ≡ 512 → b < 4096 → bit_at (with_bit named b) b ≡ true
set_named named b e h = bit-set named b (let g : byte_of b < 512 = omega arith in omega (arith, g, e))

module _ (s : State) (blocks : ℕ) (room : blocks ≤ 4096) where
  abbrev entry : ℕ → ℕ
  entry l = get_or s.map l 0

  -- each of the k entries from n on is empty or of a sound block, and none names the block of an earlier one
  pub record Entries (named : List ℕ) (n k : ℕ) : Type 0 where
    pub each : (l : ℕ) → n ≤ l → l < n + k → (entry l ≡ none → ⊥) → Sound s.marked s.invalid named blocks (entry l)
    pub once : (l m : ℕ) → n ≤ l → l < m → m < n + k → (entry l ≡ none → ⊥) → entry l ≡ entry m → ⊥

  -- an empty entry before the others
  skipped : (named : List ℕ) (n k : ℕ) → entry n ≡ none → Entries named (n + 1) k → Entries named n (suc k)
  skipped named n k z r =
      record {
        each = λ l h g. from_next (λ (x : ℕ). (entry x ≡ none → ⊥) → Sound s.marked s.invalid named blocks (entry x)) n k l h g (λ x. absurd (x z)) (r.each l);
        once = λ l m h i g. from_next (λ (x : ℕ). x < m → (entry x ≡ none → ⊥) → entry x ≡ entry m → ⊥) n k l h (omega arith) (λ j x. absurd (x z)) (λ h' g' j. r.once l m h' j (omega arith)) i;
      }

  -- the entry of a sound block before the others, whose blocks it leaves unnamed
  module _ (named : List ℕ) (size : length named ≡ 512) (n k : ℕ) (full : entry n ≡ none → ⊥) where
    fewer : (b c : ℕ) → b < blocks → Sound s.marked s.invalid (with_bit named b) blocks c → Sound s.marked s.invalid named blocks c
    fewer b c h r =
        record {
          below = r.below;
          unmarked = r.unmarked;
          valid = r.valid;
          unnamed = cases (eqb c b)
              (λ t. clash (ap (bit_at (with_bit named b)) (eqb-true c b t) ∙ set_named named b size (omega arith)) r.unnamed)
              (λ f. sym (bit_kept named b c (eqb-false c b f)) ∙ r.unnamed);
        }

    named_first : Sound s.marked s.invalid named blocks (entry n) → Entries (with_bit named (entry n)) (n + 1) k → Entries named n (suc k)
    named_first here r =
        record {
          each = λ l h g. from_next (λ (x : ℕ). (entry x ≡ none → ⊥) → Sound s.marked s.invalid named blocks (entry x)) n k l h g (λ x. here) (λ h' g' x. fewer (entry n) (entry l) here.below (r.each l h' g' x));
          once = λ l m h i g. from_next (λ (x : ℕ). x < m → (entry x ≡ none → ⊥) → entry x ≡ entry m → ⊥) n k l h (omega arith) (λ j x q. again m j g q) (λ h' g' j. r.once l m h' j (omega arith)) i;
        }
      where
        again : (m : ℕ) → n < m → m < n + suc k → entry n ≡ entry m → ⊥
        again m j g q =
            clash
            (ap (bit_at (with_bit named (entry n))) (sym q) ∙ set_named named (entry n) size (omega (arith, room, here.below)))
            (r.each m (omega arith) (omega arith) (λ z. full (q ∙ z))).unnamed

  -- the walk over the entries is true exactly where this holds
  pub sound_all : (k n : ℕ) (named : List ℕ) → length named ≡ 512 → sound_from s blocks named n k ≡ true → Entries named n k
  unfolding sound_from
  sound_all zero n named size e =
      record {
        each = λ l h g. absurd (omega arith);
        once = λ l m h i g. absurd (omega arith);
      }
  sound_all (suc k) n named size e =
      cases (eqb (entry n) none)
      (λ t. skipped named n k (eqb-true (entry n) none t) (sound_all k (n + 1) named size (sym (rw t) ∙ e)))
      (λ f.
      let both : cond (sound_block s.marked s.invalid named blocks (entry n)) (sound_from s blocks (with_bit named (entry n)) (n + 1) k) false ≡ true = sym (rw f) ∙ e in
      named_first named size n k (eqb-false (entry n) none f)
      (sound_block_fact s.marked s.invalid named blocks (entry n) (first_holds (sound_block s.marked s.invalid named blocks (entry n)) (sound_from s blocks (with_bit named (entry n)) (n + 1) k) both))
      (sound_all k (n + 1) (with_bit named (entry n)) (with_length named (with_bit named (entry n)) (entry n) 512 refl size) (second_holds (sound_block s.marked s.invalid named blocks (entry n)) (sound_from s blocks (with_bit named (entry n)) (n + 1) k) both)))

  pub all_sound : (k n : ℕ) (named : List ℕ) → Entries named n k → sound_from s blocks named n k ≡ true
  unfolding sound_from
  all_sound zero n named r = refl
  all_sound (suc k) n named r =
      cases (eqb (entry n) none)
      (λ t. rw t
      (all_sound k (n + 1) named
      (record {
        each = λ l h g. r.each l (omega arith) (omega arith);
        once = λ l m h i g. r.once l m (omega arith) i (omega arith);
      })))
      (λ f. rw (f, block_sound s.marked s.invalid named blocks (entry n) (r.each n (omega arith) (omega arith) (eqb-false (entry n) none f)))
      (all_sound k (n + 1) (with_bit named (entry n))
      (record {
        each = λ l h g x. more l h g (eqb-false (entry n) none f) (r.each l (omega arith) (omega arith) x);
        once = λ l m h i g. r.once l m (omega arith) i (omega arith);
      })))
    where
      more : (l : ℕ) → n + 1 ≤ l → l < n + 1 + k → (entry n ≡ none → ⊥) → Sound s.marked s.invalid named blocks (entry l) → Sound s.marked s.invalid (with_bit named (entry n)) blocks (entry l)
      more l h g x a =
          record {
            below = a.below;
            unmarked = a.unmarked;
            valid = a.valid;
            unnamed = bit_kept named (entry n) (entry l) (λ q. r.once n l (omega arith) (omega arith) (omega arith) x (sym q)) ∙ a.unnamed;
          }

module _ (s : State) (blocks logical : ℕ) (room : blocks ≤ 4096) where
  -- the blocks named before the map is looked at: the table's
  abbrev start : List ℕ
  start = with_bit (replicate 512 0) s.table

  start_size : length start ≡ 512
  start_size = with_length (replicate 512 0) start s.table 512 refl (length-replicate {A = ℕ} 512 0)

  abbrev sound-table : Bool
  sound-table = sound_block s.marked s.invalid (replicate 512 0) blocks s.table

  abbrev sound-map : Bool
  sound-map = sound_from s blocks start 0 logical

  abbrev entries : Bool
  entries = cond (empty_from s.map logical (4096 - logical)) (cond sound-table sound-map false) false

  abbrev never : Bool
  never = cond (never_both s.marked s.invalid 4096) entries false

  abbrev ends : Bool
  ends = cond (clear_from s.invalid blocks (4096 - blocks)) never false

  -- the test of a mounted state is a chain of these
  record Tests : Type 0 where
    status : eqb s.status 1 ≡ true
    last : ltb s.last blocks ≡ true
    marks : clear_from s.marked blocks (4096 - blocks) ≡ true
    invalids : clear_from s.invalid blocks (4096 - blocks) ≡ true
    both : never_both s.marked s.invalid 4096 ≡ true
    empty : empty_from s.map logical (4096 - logical) ≡ true
    table : sound-table ≡ true
    map : sound-map ≡ true

  tests : mounted s blocks logical ≡ true → Tests
  unfolding mounted sound_entries
  tests e =
      let marks = cond (clear_from s.marked blocks (4096 - blocks)) ends false in
      let e1 = second_holds (eqb s.status 1) (cond (ltb s.last blocks) marks false) e in
      let e2 = second_holds (ltb s.last blocks) marks e1 in
      let e3 = second_holds (clear_from s.marked blocks (4096 - blocks)) ends e2 in
      let e4 = second_holds (clear_from s.invalid blocks (4096 - blocks)) never e3 in
      let e5 = second_holds (never_both s.marked s.invalid 4096) entries e4 in
      let e6 = second_holds (empty_from s.map logical (4096 - logical)) (cond sound-table sound-map false) e5 in
      record {
        status = first_holds (eqb s.status 1) (cond (ltb s.last blocks) marks false) e;
        last = first_holds (ltb s.last blocks) marks e1;
        marks = first_holds (clear_from s.marked blocks (4096 - blocks)) ends e2;
        invalids = first_holds (clear_from s.invalid blocks (4096 - blocks)) never e3;
        both = first_holds (never_both s.marked s.invalid 4096) entries e4;
        empty = first_holds (empty_from s.map logical (4096 - logical)) (cond sound-table sound-map false) e5;
        table = first_holds sound-table sound-map e6;
        map = second_holds sound-table sound-map e6;
      }

  facts : Tests → Sound s.marked s.invalid (replicate 512 0) blocks s.table → Entries s blocks room start 0 logical → Mounted s blocks logical
  facts t table r =
      record {
        status_one = eqb-true s.status 1 t.status;
        last_below = ltb-true s.last blocks t.last;
        marks_end = λ b h g. clear_each s.marked blocks (4096 - blocks) t.marks b h (omega arith);
        invalid_end = λ b h g. clear_each s.invalid blocks (4096 - blocks) t.invalids b h (omega arith);
        apart = never_each s.marked s.invalid 4096 t.both;
        entries_end = λ l h g. empty_each s.map logical (4096 - logical) t.empty l h (omega arith);
        table_below = table.below;
        table_unmarked = table.unmarked;
        table_valid = table.valid;
        copy_below = λ l h x. (r.each l (omega arith) (omega arith) x).below;
        copy_unmarked = λ l h x. (r.each l (omega arith) (omega arith) x).unmarked;
        copy_valid = λ l h x. (r.each l (omega arith) (omega arith) x).valid;
        copy_off_table = λ l h x q. clash (ap (bit_at start) q ∙ set_named (replicate 512 0) s.table (length-replicate {A = ℕ} 512 0) (omega (arith, room, table.below))) (r.each l (omega arith) (omega arith) x).unnamed;
        once = λ l k h g d x q. cases (ltb l k)
            (λ u. r.once l k (omega arith) (ltb-true l k u) (omega arith) x q)
            (λ u. r.once k l (omega arith) (omega (arith, ltb-false l k u, d)) (omega arith) (λ z. x (q ∙ z)) (sym q));
      }

  holds : Mounted s blocks logical → mounted s blocks logical ≡ true
  unfolding mounted sound_entries
  holds m =
      rw (
        eq-eqb s.status 1 m.status_one,
        lt-ltb s.last blocks m.last_below,
        each_clear s.marked blocks (4096 - blocks) (λ b h g. m.marks_end b h (omega arith)),
        each_clear s.invalid blocks (4096 - blocks) (λ b h g. m.invalid_end b h (omega arith)),
        each_never s.marked s.invalid 4096 m.apart,
        each_empty s.map logical (4096 - logical) (λ l h g. m.entries_end l h (omega arith)),
        block_sound s.marked s.invalid (replicate 512 0) blocks s.table table,
      )
      (all_sound s blocks room logical 0 start
      (record {
        each = λ l h g. copy l (omega arith);
        once = λ l k h i g. m.once l k (omega arith) (omega arith) (λ e. omega (arith, e, i));
      }))
    where
      table : Sound s.marked s.invalid (replicate 512 0) blocks s.table
      table =
          record {
            below = m.table_below;
            unmarked = m.table_unmarked;
            valid = m.table_valid;
            unnamed = blank-bit 512 s.table;
          }

      copy : (l : ℕ) → l < logical → (get_or s.map l 0 ≡ none → ⊥) → Sound s.marked s.invalid start blocks (get_or s.map l 0)
      copy l h x =
          record {
            below = m.copy_below l h x;
            unmarked = m.copy_unmarked l h x;
            valid = m.copy_valid l h x;
            unnamed = bit_kept (replicate 512 0) s.table (get_or s.map l 0) (m.copy_off_table l h x) ∙ blank-bit 512 (get_or s.map l 0);
          }

-- a state counts as mounted exactly where what the record says holds of it
pub mounted_facts : (s : State) (blocks logical : ℕ) → blocks ≤ 4096 → mounted s blocks logical ≡ true → Mounted s blocks logical
mounted_facts s blocks logical room e =
    let t = tests s blocks logical room e in
    facts s blocks logical room t
    (sound_block_fact s.marked s.invalid (replicate 512 0) blocks s.table t.table)
    (sound_all s blocks room logical 0 (start s blocks logical room) (start_size s blocks logical room) t.map)

pub mounted_holds : (s : State) (blocks logical : ℕ) → blocks ≤ 4096 → Mounted s blocks logical → mounted s blocks logical ≡ true
mounted_holds s blocks logical room m = holds s blocks logical room m
