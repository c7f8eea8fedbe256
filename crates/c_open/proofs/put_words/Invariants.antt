-- `c_open::put_words` meets its contract. Assumes nothing.
use mathlib.Core.Path.{◌≡◌}
use lib.ListN.{take}
use Rattle.cells.specs.Part.{put}
use Rattle.c_open.proofs.ByteLaws.{words_bytes, words_in}
use Rattle.c_open.proofs.put_words.Given as goal

abbrev pub invariant-loop-place : goal.invariant-loop-place
invariant-loop-place l = l.bytes ≡ put 9248 (words_bytes (take l.place (words_in l.fn.write))) l.initial.bytes
