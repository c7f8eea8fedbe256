-- What a line of the bench's input says: a letter and its fields, and nothing else.
use Rattle.std.specs.Prelude.{ℕ, cond, List, eqb, ltb, get_or, length, take, Option, Some, None, Result, Ok, Err, option_and_then}
use Rattle.line_input.specs.declared.lines.LineError.{LineError}
use Rattle.line_input.specs.declared.lines.InputError.{InputError}
use Rattle.line_input.specs.declared.lines.InputError.TheVariants.{Malformed}
use Rattle.line_input.specs.Input.{input_error}
use Rattle.line_input.specs.Fields.{field_at}
use Rattle.bench_requests.specs.declared.Request.{Request}
use Rattle.bench_requests.specs.declared.Request.TheVariants.{Format, Write, Read, Erase}

infixl 10 ◌>>=◌
abbrev pub ◌>>=◌ : {A B : Type 0} → Option A → (A → Option B) → Option B
o >>= f = option_and_then f o

-- a request whose last field ends the line
abbrev pub ending : List ℕ → ℕ → Request → Option Request
ending line end request = cond (eqb end (length line)) (Some request) None

unfoldable pub erasing : List ℕ → Option Request
erasing line = do
  block ← field_at line 1 10
  ending line block.end (Erase block.value)

unfoldable pub reading : List ℕ → Option Request
reading line = do
  block ← field_at line 1 10
  page ← field_at line block.end 10
  ending line page.end (Read block.value page.value)

unfoldable pub writing : List ℕ → Option Request
writing line = do
  block ← field_at line 1 10
  page ← field_at line block.end 10
  byte ← field_at line page.end 16
  cond (ltb 255 byte.value) None (ending line byte.end (Write block.value page.value byte.value))

-- by the letter: F, W, R, E
unfoldable pub by_letter : List ℕ → ℕ → Option Request
by_letter line letter =
    cond
    (eqb letter 70)
    (ending line 1 Format)
    (cond (eqb letter 87) (writing line) (cond (eqb letter 82) (reading line) (cond (eqb letter 69) (erasing line) None)))

unfoldable pub parsed : List ℕ → Option Request
parsed line = cond (eqb (length line) 0) None (by_letter line (get_or line 0 0))

abbrev pub said : Option Request → Result (Option Request) InputError
said (Some request) = Ok (Some request)
said None = Err Malformed

-- what a line says that is so many bytes long, or whose reading failed: only a whole line is taken
abbrev pub line_of : Result (Option ℕ) LineError → List ℕ → Result (Option Request) InputError
line_of (Ok (Some n)) bytes = said (parsed (take n bytes))
line_of (Ok None) bytes = Ok None
line_of (Err error) bytes = Err (input_error error)
