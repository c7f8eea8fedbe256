-- What the line says that asks for a load: a decimal seed, one space and a decimal count, each of at most 32 bits.
use Rattle.std.specs.Prelude.{ℕ, cond, List, eqb, ltb, length, take, Option, Some, None, Result, Ok, Err, option_and_then, ok_or}
use Rattle.line_input.specs.declared.lines.LineError.{LineError}
use Rattle.line_input.specs.declared.lines.InputError.{InputError}
use Rattle.line_input.specs.declared.lines.InputError.TheVariants.{Malformed}
use Rattle.line_input.specs.Input.{input_error}
use Rattle.line_input.specs.Fields.{number_at, field_at}
use Rattle.demo_load.specs.declared.lines.Load.{Load}

infixl 10 ◌>>=◌
abbrev pub ◌>>=◌ : {A B : Type 0} → Option A → (A → Option B) → Option B
o >>= f = option_and_then f o

abbrev pub fitting : ℕ → ℕ → Option Load
fitting seed count =
    cond (ltb 4294967295 seed) None (cond (ltb 4294967295 count) None (Some (record { seed = seed; count = count })))

-- the count ends the line
unfoldable pub parsed : List ℕ → Option Load
parsed line = do
  seed ← number_at line 0 10
  count ← field_at line seed.end 10
  cond (eqb count.end (length line)) (fitting seed.value count.value) None

-- what a line says that is so many bytes long, or whose reading failed: only a whole line is taken
abbrev pub line_of : Result (Option ℕ) LineError → List ℕ → Result Load InputError
line_of (Ok (Some n)) bytes = ok_or (parsed (take n bytes)) Malformed
line_of (Ok None) bytes = Err Malformed
line_of (Err error) bytes = Err (input_error error)
