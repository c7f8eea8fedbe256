-- `fill::put_given` meets its contract. Assumes nothing.
use Prim.Native.Nat.{ℕ, ◌+◌, ◌-◌, ◌*◌, ◌≤◌}
use mathlib.Core.List.{List}
use mathlib.Core.Path.{◌≡◌, ap, ◌∙◌}
use native.Mathlib.Omega.{arith}
use lib.ListN.{length, take, drop}
use Rattle.cells.proofs.PartLaws.{length_part}
use Rattle.copies.specs.Blocks.{formed}
use Rattle.fill.proofs.MainLaws.{given-from, given-room, put_given}
use Rattle.fill.proofs.put_given.Goals as goal

pub overflow_sub-at : goal.overflow_sub-at
overflow_sub-at c =
    (given-from c.args.content.first c.args.content.count c.args.place c.requires.place_value).0

pub overflow_mul-at : goal.overflow_mul-at
overflow_mul-at c =
    let at : ℕ = (c.args.place - c.args.content.first) * c.args.g.main in
    let room : (at + c.args.g.main ≤ c.args.content.count * c.args.g.main) × (at ≤ 262144) = given-room c.args.content.first c.args.content.count c.args.place c.args.g.main c.args.g.pages c.requires.valid.main_most c.requires.valid.pages_most c.requires.place_lt_pages c.requires.place_value in
    omega (arith, room)

pub overflow_add-end : goal.overflow_add-end
overflow_add-end c =
    let at : ℕ = (c.args.place - c.args.content.first) * c.args.g.main in
    let room : (at + c.args.g.main ≤ c.args.content.count * c.args.g.main) × (at ≤ 262144) = given-room c.args.content.first c.args.content.count c.args.place c.args.g.main c.args.g.pages c.requires.valid.main_most c.requires.valid.pages_most c.requires.place_lt_pages c.requires.place_value in
    omega (arith, room, c.requires.valid.main_most)

pub slice_bounds-copy-end : goal.slice_bounds-copy-end
slice_bounds-copy-end c =
    let at : ℕ = (c.args.place - c.args.content.first) * c.args.g.main in
    let room : (at + c.args.g.main ≤ c.args.content.count * c.args.g.main) × (at ≤ 262144) = given-room c.args.content.first c.args.content.count c.args.place c.args.g.main c.args.g.pages c.requires.valid.main_most c.requires.valid.pages_most c.requires.place_lt_pages c.requires.place_value in
    omega (arith, room, c.requires.bytes_len)

pub returns : goal.returns
returns c =
    let at : ℕ = (c.args.place - c.args.content.first) * c.args.g.main in
    let room : (at + c.args.g.main ≤ c.args.content.count * c.args.g.main) × (at ≤ 262144) = given-room c.args.content.first c.args.content.count c.args.place c.args.g.main c.args.g.pages c.requires.valid.main_most c.requires.valid.pages_most c.requires.place_lt_pages c.requires.place_value in
    let long : at + c.args.g.main - at ≡ c.args.g.main = omega arith in
    let lent = ap (λ k. take k (drop (at) c.args.bytes.now)) long in
    c.form_main.ensures
    ∙ ap (λ (xs : List ℕ). formed c.args.content.kind c.args.place xs)
    (put_given c.args.g.main c.args.page.now (omega (arith, c.requires.page_len)) _ _ c.copy.auto.into _
    (ap length lent ∙ length_part (at) c.args.g.main c.args.bytes.now (omega (arith, room, c.requires.bytes_len))) c.copy.ensures
    ∙ lent)
