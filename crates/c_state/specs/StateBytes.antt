-- The mounted state as bytes, and the state that such bytes are. The kinds of its copies, a byte each, stand apart from the others.
use Rattle.std.specs.Prelude.{ℕ, zero, suc, ◌<◌, ◌^◌, List, [], ◌∷◌, ◌++◌, ◌≡◌, length, get_or, take, drop}
use Rattle.cells.specs.Bytes.{Bytes}
use Rattle.cells.specs.Part.{part}
use Rattle.pages.specs.Layout.{bytes_of, number_of}
use Rattle.state.specs.declared.State.{State}

-- a state without its kinds has 9,248 bytes: four numbers of eight bytes, two bitmaps, and a map of two bytes an entry
abbrev pub state_length : ℕ
state_length = 9248

-- numbers of two bytes, low byte first, one after the other
unfoldable pub pairs : List ℕ → List ℕ
pairs [] = []
pairs (x ∷ xs) = bytes_of 2 x ++ pairs xs

-- the first n numbers of two bytes
unfoldable pub entries : ℕ → List ℕ → List ℕ
entries zero xs = []
entries (suc n) xs = number_of (take 2 xs) ∷ entries n (drop 2 xs)

-- all but the kinds
unfoldable pub state_bytes : State → List ℕ
state_bytes s =
    bytes_of 8 s.status
    ++ (bytes_of 8 s.table
    ++ (bytes_of 8 s.last
    ++ (bytes_of 8 s.number
    ++ (s.marked
    ++ (s.invalid
    ++ pairs s.map)))))

-- the state of these bytes and kinds
unfoldable pub bytes_state : List ℕ → List ℕ → State
bytes_state xs kinds =
    record {
      status = number_of (part 0 8 xs);
      table = number_of (part 8 8 xs);
      last = number_of (part 16 8 xs);
      number = number_of (part 24 8 xs);
      marked = part 32 512 xs;
      invalid = part 544 512 xs;
      map = entries 4096 (drop 1056 xs);
      kinds = kinds;
    }

-- each field is in the range of its type
pub record Ranged (s : State) : Type 0 where
  pub status_fits : s.status < 2 ^ 64
  pub table_fits : s.table < 2 ^ 64
  pub last_fits : s.last < 2 ^ 64
  pub number_fits : s.number < 2 ^ 64
  pub marked_long : length s.marked ≡ 512
  pub marked_bytes : Bytes s.marked
  pub invalid_long : length s.invalid ≡ 512
  pub invalid_bytes : Bytes s.invalid
  pub map_long : length s.map ≡ 4096
  pub map_fits : (i : ℕ) → get_or s.map i 0 < 65536
  pub kinds_long : length s.kinds ≡ 4096
  pub kinds_bytes : Bytes s.kinds
