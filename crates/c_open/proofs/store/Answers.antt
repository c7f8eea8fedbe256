-- `c_open::store` meets its contract. Assumes nothing.
use Prim.Native.Nat.{ℕ, ◌-◌}
use mathlib.Core.List.{List, ◌++◌}
use mathlib.Core.Path.{◌≡◌, sym, ap, ◌∙◌}
use lib.ListN.{length, take, drop}
use Rattle.cells.specs.Part.{put}
use Rattle.cells.proofs.PartLaws.{put-lent}
use Rattle.c_open.proofs.ByteLaws.{first-long, stored_open}
use borrow.Author.Rules.{rules}
use Rattle.c_open.proofs.store.Goals as goal

pub returns : goal.returns
returns c =
    let kinds_long : length c.args.state.kinds ≡ 4096 = search rules in
    let k : ℕ = 17520 - 13424 in
    let long = c.store.auto.bytes ∙ first-long c.args.bytes.now c.requires in
    stored_open c.args.state c.args.write c.args.bytes.now _ _ _ c.requires (sym (ap length c.store.ensures) ∙ long) (kinds_long)
    (put-lent 0 (9248 - 0) c.store.new.bytes c.args.bytes.now long ∙ ap (λ (ys : List ℕ). put 0 ys c.args.bytes.now) c.store.ensures) c.put_words.ensures
    (ap (λ (ys : List ℕ). take 13424 c.put_words.new.bytes ++ (ys ++ drop k (drop 13424 c.put_words.new.bytes))) c.copy_from_slice.ensures.after
    ∙ put-lent 13424 k c.args.state.kinds c.put_words.new.bytes kinds_long)
