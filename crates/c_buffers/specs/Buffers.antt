-- What a program in C lends, numbers and buffers, and what is handed back in them.
use Rattle.std.specs.Prelude.{ℕ, Bool, true, false, cond, List, [], ◌∷◌, ◌≡◌, eqb, length, get_or}
use Rattle.geometry.specs.declared.Geometry.{Geometry}
use Rattle.chip_interface.specs.declared.Interface.{Interface}
use Rattle.chip_array.specs.Device.{Device, device}
use Rattle.parameters.specs.declared.Sizes.{Sizes}
use Rattle.open_write.specs.Open.{OpenState}
use Rattle.open_write.specs.Requests.{OpenResult}
use Rattle.c_open.specs.OpenBytes.{open_length, open_bytes, bytes_open}

abbrev pub geometry_of : ℕ → ℕ → ℕ → ℕ → ℕ → Geometry
geometry_of main spare pages blocks logical = record { main = main; spare = spare; pages = pages; blocks = blocks; logical = logical }

-- the chip's interface as words, one a field
unfoldable pub interface_words : Interface → List ℕ
interface_words i =
    i.phase ∷ i.count ∷ i.address ∷ i.first ∷ i.column ∷ i.operation ∷ i.busy ∷ i.failed ∷ i.loaded ∷ i.fate ∷ i.illegal ∷ i.protected ∷ []

unfoldable pub interface_of : List ℕ → Interface
interface_of xs =
    record {
      phase = get_or xs 0 0;
      count = get_or xs 1 0;
      address = get_or xs 2 0;
      first = get_or xs 3 0;
      column = get_or xs 4 0;
      operation = get_or xs 5 0;
      busy = get_or xs 6 0;
      failed = get_or xs 7 0;
      loaded = get_or xs 8 0;
      fate = get_or xs 9 0;
      illegal = get_or xs 10 0;
      protected = get_or xs 11 0;
    }

-- the sizes that a chip tells, as words
abbrev pub size_words : Sizes → List ℕ
size_words z = z.main ∷ z.spare ∷ z.pages ∷ z.blocks ∷ []

-- what is lent to be written: the bytes of the state, the chip, and a word for the cycles sent
pub record Lent : Type 0 where
  pub state : List ℕ
  pub interface : List ℕ
  pub array : List ℕ
  pub register : List ℕ
  pub history : List ℕ
  pub sent : List ℕ

abbrev pub lent : List ℕ → List ℕ → List ℕ → List ℕ → List ℕ → List ℕ → Lent
lent state interface array register history sent =
    record { state = state; interface = interface; array = array; register = register; history = history; sent = sent }

-- the state that is lent, and the chip
abbrev pub state_of : Lent → OpenState
state_of l = bytes_open l.state

abbrev pub chip_of : Lent → Device
chip_of l = device (interface_of l.interface) l.array l.register l.history

-- the bytes of a state with its open write, 12 words of interface, one word for the cycles sent
unfoldable pub lengths_right : ℕ → ℕ → ℕ → Bool
lengths_right state interface sent = cond (eqb state open_length) (cond (eqb interface 12) (eqb sent 1) false) false

abbrev pub rightly : Lent → Bool
rightly l = lengths_right (length l.state) (length l.interface) (length l.sent)

-- the answer, and what was lent as it is left
pub record Handed : Type 0 where
  pub answer : ℕ
  pub left : Lent

abbrev pub handed : ℕ → Lent → Handed
handed answer left = record { answer = answer; left = left }

abbrev pub put_back : OpenResult → Handed
put_back r =
    handed r.answer
    (lent (open_bytes r.state) (interface_words r.chip.interface) r.chip.array r.chip.register r.chip.history (r.sent ∷ []))

-- 100: one of these lengths is wrong, and nothing is changed
unfoldable pub answered : Lent → OpenResult → Handed
answered l r = cond (rightly l) (put_back r) (handed 100 l)

-- the next call, handed these bytes, gets the state of this one's result
abbrev pub PassedOn : Lent → OpenResult → List ℕ → Type 0
PassedOn l r bytes = rightly l ≡ true → bytes_open bytes ≡ r.state
