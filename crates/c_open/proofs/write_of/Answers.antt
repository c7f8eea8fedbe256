-- `c_open::write_of` meets its contract. Assumes nothing.
use Rattle.c_open.specs.OpenBytes.{bytes_write}
use Rattle.c_open.proofs.write_of.Goals as goal

pub returns : goal.returns
unfolding bytes_write
returns c = λ i. record { opened = c.word_at.ensures i; phase = c.word_at-2.ensures i; step = c.word_at-3.ensures i; logical = c.word_at-4.ensures i; first = c.word_at-5.ensures i; old = c.word_at-6.ensures i; block = c.word_at-7.ensures i; number = c.word_at-8.ensures i; page = c.word_at-9.ensures i; failed = c.word_at-10.ensures i }
