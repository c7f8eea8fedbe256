-- What a line of sales says: four decimal numbers with one space between each two, of at most 8, 16, 32 and 16 bits.
use Rattle.std.specs.Prelude.{ℕ, cond, List, eqb, ltb, length, take, Option, Some, None, Result, Ok, Err, option_and_then}
use Rattle.journal.specs.declared.Sale.{Sale}
use Rattle.line_input.specs.declared.lines.LineError.{LineError}
use Rattle.line_input.specs.Fields.{number_at, field_at}

infixl 10 ◌>>=◌
abbrev pub ◌>>=◌ : {A B : Type 0} → Option A → (A → Option B) → Option B
o >>= f = option_and_then f o

-- the numbers fit a record
unfoldable pub fitting : ℕ → ℕ → ℕ → ℕ → Option Sale
fitting selection count price replaces =
    cond (ltb 255 selection) None
    (cond (ltb 65535 count) None
    (cond (ltb 4294967295 price) None
    (cond (ltb 65535 replaces) None (Some (record { selection = selection; count = count; price = price; replaces = replaces })))))

-- the replaced number ends the line
unfoldable pub parsed : List ℕ → Option Sale
parsed line = do
  selection ← number_at line 0 10
  count ← field_at line selection.end 10
  price ← field_at line count.end 10
  replaces ← field_at line price.end 10
  cond (eqb replaces.end (length line)) (fitting selection.value count.value price.value replaces.value) None

-- what a line says that is so many bytes long, or whose reading failed: only a whole line is taken
abbrev pub line_of : Result (Option ℕ) LineError → List ℕ → Result (Option (Option Sale)) LineError
line_of (Ok (Some n)) bytes = Ok (Some (parsed (take n bytes)))
line_of (Ok None) bytes = Ok None
line_of (Err error) bytes = Err error
