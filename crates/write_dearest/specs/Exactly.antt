-- How many fate words are taken and cycles sent on the way from one place of a request to another.
use Rattle.std.specs.Prelude.{ℕ, zero, suc, ◌+◌, ◌<◌, ◌≡◌, length}
use Rattle.chip_interface.specs.Interface.{fate_word, busy_of}
use Rattle.chip_array.specs.Device.{Setting}
use Rattle.progress.specs.Progress.{Progress}
use Rattle.fill.specs.Fill.{Source, given, kept}

-- f of each number below n, summed
unfoldable pub sum_to : (ℕ → ℕ) → ℕ → ℕ
sum_to f zero = 0
sum_to f (suc n) = sum_to f n + f n

-- the fate word at a place, with as many busy reads as an operation can have that is heard
pub record SlowWord (s : Setting) (at w : ℕ) : Type 0 where
  pub within : at < length s.fates
  pub word_is : fate_word s.fates at ≡ w
  pub busy : busy_of w ≡ 255

-- from p to q: so many fate words were taken, and so many cycles sent
pub record Exactly (p q : Progress) (words cycles : ℕ) : Type 0 where
  pub words_taken : q.line.chip.interface.fate ≡ p.line.chip.interface.fate + words
  pub cycles_sent : q.line.left + cycles ≡ p.line.left

-- the operations of a page: a program, and a read before it where the page is kept
unfoldable pub words_of : Source → ℕ
words_of (given main) = 1
words_of (kept old form) = 2
