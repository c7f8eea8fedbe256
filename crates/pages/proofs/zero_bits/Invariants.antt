-- `pages::zero_bits` meets its contract: at every turn the counts are those of the rows passed. Assumes nothing.
use mathlib.Core.Path.{◌≡◌}
use lib.ListN.{length}
use Rattle.std.specs.Slice.Iter.{chunks_exact_rest, chunks_exact_size}
use Rattle.pages.proofs.CountLaws.{Rows}
use Rattle.pages.proofs.zero_bits.Given as goal

abbrev pub invariant-loop-row : goal.invariant-loop-row
invariant-loop-row l =
    (length l.counts ≡ 256) × (chunks_exact_size l.row-iterator ≡ 256) × Rows l.bytes l.counts (chunks_exact_rest l.row-iterator) (length l.yielded)
