-- `pages::zero_bits` meets its contract: at every turn the counts are those of the rows passed. Assumes nothing.
use mathlib.Core.Path.{refl, ap, ◌∙◌}
use native.Mathlib.Omega.{arith}
use Rattle.std.specs.Slice.Iter.{chunks_exact_rest, chunks_exact_size}
use Rattle.std.proofs.lemmas.List.{length_push}
use Rattle.pages.specs.Check.{zero_bits}
use Rattle.pages.proofs.CountLaws.{rows_none, rows_fit, rows_more, rows_all}
use Rattle.pages.proofs.zero_bits.Goals as goal

pub loop-row-init : goal.loop-row-init
loop-row-init c =
    let e = c.into_iter-row-iterator.ensures.into_iter_gives in
    (refl, ap chunks_exact_size e ∙ c.chunks_exact-rows.ensures.size, rows_none _ _ _ (ap chunks_exact_rest e ∙ c.chunks_exact-rows.ensures.rest) refl)

pub add_zeros-requires : goal.add_zeros-requires
add_zeros-requires c =
    let s = c.in-Some.ensures.steps in
    let long = s.1.1 ∙ c.loop-row.invariant.1 in
    record { row_len = long; counts_len = c.loop-row.invariant.0; by_index = rows_fit c.in-Some.row.now _ c.loop-row.invariant.2 s.1.0 long c.requires }

pub loop-row-preserved : goal.loop-row-preserved
loop-row-preserved c =
    let s = c.in-Some.ensures.steps in
    let r = rows_more c.in-Some.row.now c.loop-row.invariant.2 s.1.0 (s.1.1 ∙ c.loop-row.invariant.1) c.add_zeros.ensures.counts_after c.add_zeros.ensures.by_index_2 in
    (c.add_zeros.ensures.counts_len_2, s.0 ∙ c.loop-row.invariant.1, rw length_push r)

pub returns : goal.returns
returns c =
    let s = c.in-None.ensures.steps in
    let behind = c.remainder.ensures ∙ c.chunks_exact-rows.ensures.remainder in
    rows_all _ _ c.loop-row.invariant.2 (omega (arith, s.1.0, c.loop-row.invariant.1)) (c.from.ensures ∙ c.total.ensures) (c.from-2.ensures ∙ c.rest_zero_bits-rest.ensures ∙ ap zero_bits behind)
