-- The mounted state: what each of its methods makes of it.
use Rattle.std.specs.Prelude.{ℕ, zero, suc, ◌+◌, ◌-◌, ◌≤◌, ◌<◌, Bool, true, false, cond, List, ◌≡◌, eqb, leb, ltb, get_or, set, replicate}
use Rattle.bitmaps.specs.Bitmap.{bit_at, with_bit, clear_from, never_both}
use Rattle.state_choose.specs.Choose.{permitted, count_permitted}
use Rattle.state.specs.declared.State.{State}

-- a state that is 0 in all fields but its status: 0 not mounted, 1 mounted, 2 stopped
abbrev pub blank : ℕ → State
blank status =
    record { status = status; table = 0; last = 0; number = 0; marked = replicate 512 0; invalid = replicate 512 0; map = replicate 4096 0; kinds = replicate 4096 0 }

-- a mounted state: one less than the next number, table's block, block filled last, factory marks, invalid blocks, map, kinds of the copies
abbrev pub mounted_with : ℕ → ℕ → ℕ → List ℕ → List ℕ → List ℕ → List ℕ → State
mounted_with n table last marked invalid map kinds =
    record { status = 1; table = table; last = last; number = n; marked = marked; invalid = invalid; map = map; kinds = kinds }

-- the next number: the state holds one less, the greatest found or taken, 0 for none
abbrev pub next_number : State → ℕ
next_number s = s.number + 1

-- the numbers end below 18,446,744,073,709,551,616 ("spent")
abbrev pub number_end : ℕ
number_end = 18446744073709551616

abbrev pub numbers_left : State → ℕ
numbers_left s = number_end - next_number s

abbrev pub spent : State → Bool
spent s = leb number_end (next_number s)

-- another number
abbrev pub with_number : ℕ → State → State
with_number n s =
    record { status = s.status; table = s.table; last = s.last; number = n; marked = s.marked; invalid = s.invalid; map = s.map; kinds = s.kinds }

-- the next number is taken
abbrev pub taken : State → State
taken s = with_number (next_number s) s

-- a block that failed is invalid
abbrev pub with_invalid : ℕ → State → State
with_invalid b s =
    record { status = s.status; table = s.table; last = s.last; number = s.number; marked = s.marked; invalid = with_bit s.invalid b; map = s.map; kinds = s.kinds }

-- a passed fill: of a logical block's copy, of a kind, and of a table
abbrev pub with_copy : ℕ → ℕ → ℕ → State → State
with_copy kind logical b s =
    record { status = s.status; table = s.table; last = b; number = s.number; marked = s.marked; invalid = s.invalid; map = set s.map logical b; kinds = set s.kinds logical kind }

abbrev pub with_table : ℕ → State → State
with_table b s =
    record { status = s.status; table = b; last = b; number = s.number; marked = s.marked; invalid = s.invalid; map = s.map; kinds = s.kinds }

-- the block of a logical block; FFFFh stands for none
abbrev pub none : ℕ
none = 65535

-- bits with that of a block added, where it is one
abbrev pub add_block : ℕ → List ℕ → List ℕ
add_block b bits = cond (ltb b 4096) (with_bit bits b) bits

-- the bits of the blocks that the first n logical blocks have, added to some bits
unfoldable pub copy_bits : List ℕ → ℕ → List ℕ → List ℕ
copy_bits map zero bits = bits
copy_bits map (suc n) bits = let rest = copy_bits map n bits in add_block (get_or map n 0) rest

-- the blocks that hold something current: the table and the copies of n logical blocks
abbrev pub held_bits : State → ℕ → List ℕ
held_bits s n = copy_bits s.map n (add_block s.table (replicate 512 0))

-- the k entries of the map from n on are empty
unfoldable pub empty_from : List ℕ → ℕ → ℕ → Bool
empty_from map n zero = true
empty_from map n (suc k) = let more = empty_from map (n + 1) k in cond (eqb (get_or map n 0) none) more false

-- a block with something current: on the chip, unmarked, not invalid, and not named before
abbrev pub sound_block : List ℕ → List ℕ → List ℕ → ℕ → ℕ → Bool
sound_block marked invalid named blocks b = cond (ltb b blocks) (permitted marked invalid named b) false

-- each of the k entries of the map from n on is empty or sound, where named has the blocks named so far
unfoldable pub sound_from : State → ℕ → List ℕ → ℕ → ℕ → Bool
sound_from s blocks named n zero = true
sound_from s blocks named n (suc k) =
    let skip = sound_from s blocks named (n + 1) k in
    let more = sound_from s blocks (with_bit named (get_or s.map n 0)) (n + 1) k in
    cond (eqb (get_or s.map n 0) none) skip
    (cond (sound_block s.marked s.invalid named blocks (get_or s.map n 0)) more false)

-- the entries past the logical blocks are empty, and the table's block and those of the copies are sound
unfoldable pub sound_entries : State → ℕ → ℕ → Bool
sound_entries s blocks logical =
    cond (empty_from s.map logical (4096 - logical))
    (cond (sound_block s.marked s.invalid (replicate 512 0) blocks s.table)
    (sound_from s blocks (with_bit (replicate 512 0) s.table) 0 logical)
    false)
    false

-- a state counts as mounted for so many blocks and logical blocks
unfoldable pub mounted : State → ℕ → ℕ → Bool
mounted s blocks logical =
    cond (eqb s.status 1)
    (cond (ltb s.last blocks)
    (cond (clear_from s.marked blocks (4096 - blocks))
    (cond (clear_from s.invalid blocks (4096 - blocks))
    (cond (never_both s.marked s.invalid 4096) (sound_entries s blocks logical) false)
    false)
    false)
    false)
    false

-- what makes a state mounted, said of each block and each entry: the test holds exactly where this does
pub record Mounted (s : State) (blocks logical : ℕ) : Type 0 where
  pub status_one : s.status ≡ 1
  pub last_below : s.last < blocks
  pub marks_end : (b : ℕ) → blocks ≤ b → b < 4096 → bit_at s.marked b ≡ false
  pub invalid_end : (b : ℕ) → blocks ≤ b → b < 4096 → bit_at s.invalid b ≡ false
  pub apart : (b : ℕ) → b < 4096 → bit_at s.marked b ≡ true → bit_at s.invalid b ≡ false
  pub entries_end : (l : ℕ) → logical ≤ l → l < 4096 → get_or s.map l 0 ≡ none
  pub table_below : s.table < blocks
  pub table_unmarked : bit_at s.marked s.table ≡ false
  pub table_valid : bit_at s.invalid s.table ≡ false
  pub copy_below : (l : ℕ) → l < logical → (get_or s.map l 0 ≡ none → ⊥) → get_or s.map l 0 < blocks
  pub copy_unmarked : (l : ℕ) → l < logical → (get_or s.map l 0 ≡ none → ⊥) → bit_at s.marked (get_or s.map l 0) ≡ false
  pub copy_valid : (l : ℕ) → l < logical → (get_or s.map l 0 ≡ none → ⊥) → bit_at s.invalid (get_or s.map l 0) ≡ false
  pub copy_off_table : (l : ℕ) → l < logical → (get_or s.map l 0 ≡ none → ⊥) → get_or s.map l 0 ≡ s.table → ⊥
  pub once : (l k : ℕ) → l < logical → k < logical → (l ≡ k → ⊥) → (get_or s.map l 0 ≡ none → ⊥) → get_or s.map l 0 ≡ get_or s.map k 0 → ⊥

-- the bench's third figure: valid unmarked blocks that hold nothing current, 0 if not mounted
unfoldable pub free_blocks : State → ℕ → ℕ → ℕ
free_blocks s blocks logical =
    cond (mounted s blocks logical) (count_permitted s.marked s.invalid (held_bits s logical) blocks) 0

-- the kind of a logical block's copy, as the state has it
abbrev pub form_of : State → ℕ → ℕ
form_of s logical = get_or s.kinds logical 0
