-- `c_open::put_words` meets its contract. Assumes nothing.
use Prim.Native.Nat.{ℕ}
use mathlib.Core.List.{List}
use mathlib.Core.Path.{◌≡◌, refl, sym, ap, ◌∙◌}
use native.Mathlib.Omega.{arith}
use lib.ListN.{take}
use Rattle.cells.specs.Part.{put}
use Rattle.c_open.proofs.ByteLaws.{word_written, none_written, all_written, words_in, words_bytes}
use Rattle.c_open.proofs.put_words.Goals as goal

pub loop-place-init : goal.loop-place-init
loop-place-init c = sym (none_written c.args.bytes.now)

pub loop-place-preserved : goal.loop-place-preserved
loop-place-preserved c =
    word_written c.loop-place.place _ (words_in c.args.write) c.args.bytes.now c.loop-place.bytes _ c.loop-place-test.true refl (omega (arith, c.requires)) c.loop-place.invariant c.write_number.ensures

pub returns : goal.returns
returns c =
    let all : c.loop-place.place ≡ 10 = omega (arith, c.loop-place-test.false, c.loop-place.auto.place-end) in
    c.loop-place.invariant
    ∙ ap (λ (n : ℕ). put 9248 (words_bytes (take n (words_in c.args.write))) c.args.bytes.now) all
    ∙ ap (λ (ys : List ℕ). put 9248 ys c.args.bytes.now) (all_written c.args.write)
