-- `fill_cursor::prepare` meets its contract. Assumes nothing.
use Prim.Native.Nat.{ℕ, ◌≤◌, ◌<◌}
use mathlib.Core.List.{List}
use mathlib.Core.Path.{sym, ap₂, subst, ◌∙◌}
use borrow.Author.Tests.{leb-false}
use Rattle.state_choose.specs.Choose.{chosen}
use Rattle.state.specs.State.{next_number, number_end, taken}
use Rattle.state.specs.declared.State.{State}
use Rattle.fill_cursor.specs.Cursor.{running, filling}
use Rattle.fill_cursor.proofs.NextLaws.{prepared_spent, prepared_worn, prepared_block}
use Rattle.fill_cursor.proofs.prepare.Goals as goal

pub returns-then-is_spent : goal.returns-then-is_spent
returns-then-is_spent c =
    c.stop.ensures ∙ prepared_spent c.args.g c.args.c c.args.state (sym c.is_spent.ensures ∙ c.if-is_spent.true)

pub next_number-number-requires : goal.next_number-number-requires
next_number-number-requires c =
    leb-false number_end (next_number c.args.state) (sym c.is_spent.ensures ∙ c.if-is_spent.false)

pub take_number-taken-requires : goal.take_number-taken-requires
take_number-taken-requires c =
    leb-false number_end (next_number c.args.state) (sym c.is_spent.ensures ∙ c.if-is_spent.false)

pub choose_block-requires : goal.choose_block-requires
choose_block-requires c =
    subst (λ (x : State). (x.last < c.args.g.blocks) × (c.args.g.blocks ≤ 4096)) (sym c.take_number-taken.ensures) (c.requires.last_lt_blocks, c.requires.valid.blocks_most)

pub returns-in_default : goal.returns-in_default
returns-in_default c =
    let is = sym (c.choose_block.ensures ∙ ap₂ (λ (x : State) (h : List ℕ). chosen x.marked x.invalid h c.args.g.blocks x.last) c.take_number-taken.ensures c.held-held.ensures) in
    c.stop-in_default.ensures ∙ prepared_worn c.args.g c.args.c c.args.state (sym c.is_spent.ensures ∙ c.if-is_spent.false) (is ∙ c.in_default.is)

pub returns : goal.returns
returns c =
    let is = sym (c.choose_block.ensures ∙ ap₂ (λ (x : State) (h : List ℕ). chosen x.marked x.invalid h c.args.g.blocks x.last) c.take_number-taken.ensures c.held-held.ensures) in
    (λ i. running (c.fill.ensures i) (c.take_number-taken.ensures i)) ∙ (λ i. running (filling c.in-Some.block (c.next_number-number.ensures i) c.args.c) (taken c.args.state)) ∙ prepared_block c.args.g c.args.c c.args.state (sym c.is_spent.ensures ∙ c.if-is_spent.false) c.in-Some.block (is ∙ c.in-Some.is)
