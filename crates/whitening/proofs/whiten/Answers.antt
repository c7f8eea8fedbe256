-- `whitening::whiten` meets its contract: the stream of the page is made in four runs, then the bytes are XORed with it. Assumes nothing.
use Prim.Native.Nat.{◌+◌}
use mathlib.Core.Path.{◌∙◌}
use native.Mathlib.Omega.{arith}
use Rattle.whitening.proofs.StreamLaws.{repeats_1, repeats_4, repeats_16}
use Rattle.whitening.proofs.WhitenedLaws.{begins_whitens}
use Rattle.whitening.proofs.whiten.Goals as goal

pub extend-requires : goal.extend-requires
extend-requires c = record { apart_nonzero = (omega arith, omega arith, omega arith); repeats = repeats_1; stream_len = c.begin.ensures.stream_len_2 }

pub extend-requires-2 : goal.extend-requires-2
extend-requires-2 c = record { apart_nonzero = (omega arith, omega arith, omega arith); repeats = repeats_4; stream_len = c.extend.ensures.stream_len_2 }

pub extend-requires-3 : goal.extend-requires-3
extend-requires-3 c = record { apart_nonzero = (omega arith, omega arith, omega arith); repeats = repeats_16; stream_len = c.extend-2.ensures.stream_len_2 }

pub returns : goal.returns
returns c =
    let r = c.args.page + 1 in
    c.mix.ensures
    ∙ begins_whitens c.args.page _ _ (c.extend-3.ensures.by_index r (c.extend-2.ensures.by_index r (c.extend.ensures.by_index r c.begin.ensures.begins)))
