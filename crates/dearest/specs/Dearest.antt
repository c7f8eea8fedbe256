-- The dearest page write over an old copy that is acknowledged after so many failed fills: its fate words, its cycles, and the call that
-- tells them.
use Rattle.std.specs.Prelude.{ℕ, zero, suc, ◌+◌, ◌-◌, ◌*◌, cond, List, eqb, leb, length, set, replicate, Result, Ok, Err}
use Rattle.geometry.specs.declared.Geometry.{Geometry}
use Rattle.geometry.specs.Limits.{valid}
use Rattle.geometry.specs.Sizes.{page_size}
use Rattle.dearest.specs.declared.Refusal.{Refusal}
use Rattle.dearest.specs.declared.Refusal.TheVariants.{InvalidGeometry, TooManyFailures, WrongLength}

-- busy as often as an operation can be and still be heard; and with bit 16, which says fail
abbrev pub slow_word : ℕ
slow_word = 255

abbrev pub fail_word : ℕ
fail_word = 65791

-- the operations of a data fill: an erase, a read of each page but the one given, a program of each; those of a table fill: an erase, a
-- program of each
abbrev pub copy_operations : Geometry → ℕ
copy_operations g = 2 * g.pages

abbrev pub table_operations : Geometry → ℕ
table_operations g = 1 + g.pages

-- a word for each operation of the data fills, of which the last passes, and of a table fill if any failed
unfoldable pub dearest_length : Geometry → ℕ → ℕ
dearest_length g failed = (failed + 1) * copy_operations g + cond (eqb failed 0) 0 (table_operations g)

-- the last word of each of the first n fills, of so many words each, says fail
unfoldable pub failing_to : ℕ → ℕ → List ℕ → List ℕ
failing_to each zero words = words
failing_to each (suc n) words = set (failing_to each n words) (n * each + (each - 1)) fail_word

unfoldable pub dearest_fates : Geometry → ℕ → List ℕ
dearest_fates g failed = failing_to (copy_operations g) failed (replicate (dearest_length g failed) slow_word)

-- the cycles of a data fill and of a table fill: 6 for an erase, 9 and the main bytes for a read, 8 and the whole page for a program, and
-- 256 status reads for each
abbrev pub copy_cycles : Geometry → ℕ
copy_cycles g = 262 + ((g.pages - 1) * (265 + g.main) + g.pages * (264 + page_size g))

abbrev pub table_cycles : Geometry → ℕ
table_cycles g = 262 + g.pages * (264 + page_size g)

-- those of the write, which begins with two for the status
unfoldable pub dearest_cycles : Geometry → ℕ → ℕ
dearest_cycles g failed = 2 + (failed + 1) * copy_cycles g + cond (eqb failed 0) 0 (table_cycles g)

-- what the call gives: the answer, the cycles and the slice
pub record Told : Type 0 where
  pub answer : ℕ
  pub cycles : ℕ
  pub fates : List ℕ

abbrev pub told : ℕ → ℕ → List ℕ → Told
told answer cycles fates = record { answer = answer; cycles = cycles; fates = fates }

-- the paper's number of a refusal
abbrev pub number_of : Refusal → ℕ
number_of InvalidGeometry = 1
number_of TooManyFailures = 2
number_of WrongLength = 3

-- 0 and the cycles, or the refusal's number and 0
abbrev pub told_by : Result ℕ Refusal → List ℕ → Told
told_by (Ok cycles) fates = told 0 cycles fates
told_by (Err r) fates = told (number_of r) 0 fates

-- 1 for a geometry that the limits refuse, 2 for more failed fills than the permitted blocks can bear, 3 for another length of the slice
unfoldable pub dearest_told : Geometry → ℕ → List ℕ → Told
dearest_told g failed fates =
    cond (valid g)
    (cond (leb failed (g.blocks - 3))
    (cond (eqb (length fates) (dearest_length g failed)) (told 0 (dearest_cycles g failed) (dearest_fates g failed)) (told 3 0 fates))
    (told 2 0 fates))
    (told 1 0 fates)
