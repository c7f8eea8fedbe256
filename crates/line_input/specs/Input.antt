-- What a read of one byte gave, and how a line ends by it.
use Rattle.std.specs.Prelude.{ℕ, zero, suc, cond, eqb, Result, Ok, Err, Option, Some, None}
use Rattle.line_input.specs.declared.lines.LineError.{LineError}
use Rattle.line_input.specs.declared.lines.LineError.TheVariants.{TooLong, Unreadable}
use Rattle.line_input.specs.declared.lines.InputError.{InputError}
use Rattle.line_input.specs.declared.lines.InputError.TheVariants.{Malformed, Unreadable as Failed}

-- by the answer of the read: no byte is the end of the input, one byte is that byte, and anything else a failure
abbrev pub byte_got : {E : Type 0} → Result ℕ E → ℕ → Result (Option ℕ) LineError
byte_got (Ok zero) byte = Ok None
byte_got (Ok (suc zero)) byte = Ok (Some byte)
byte_got (Ok (suc (suc n))) byte = Err Unreadable
byte_got (Err e) byte = Err Unreadable

-- a line goes on with any byte but a newline; the end of the input and a failure end it too
abbrev pub byte_of_line : Result (Option ℕ) LineError → Option ℕ
byte_of_line (Ok (Some byte)) = cond (eqb byte 10) None (Some byte)
byte_of_line (Ok None) = None
byte_of_line (Err error) = None

-- a byte but a newline is one too many; the end of the input ends a line that has begun; a failure leaves none
abbrev pub ending_by : Result (Option ℕ) LineError → ℕ → Result (Option ℕ) LineError
ending_by (Ok (Some byte)) length = cond (eqb byte 10) (Ok (Some length)) (Err TooLong)
ending_by (Ok None) length = Ok (cond (eqb length 0) None (Some length))
ending_by (Err error) length = Err error

-- a line that is too long is malformed
abbrev pub input_error : LineError → InputError
input_error TooLong = Malformed
input_error Unreadable = Failed
