-- `chip::command` meets its contract: the test of a confirm cycle gives what the cycle requires.
-- Assumes nothing.
use mathlib.Core.Path.{sym, ◌∙◌}
use Rattle.chip.specs.Chip.{commanded}
use Rattle.chip.proofs.ConfirmableLaws.{confirms}
use Rattle.chip.proofs.command.Goals as goal

pub confirm-requires : goal.confirm-requires
confirm-requires c = record { fitting = (confirms _ _ (sym (c.is_confirmable.ensures c.args.fates.now) ∙ c.if-is_confirmable.true)).0; mask_len = (confirms _ _ (sym (c.is_confirmable.ensures c.args.fates.now) ∙ c.if-is_confirmable.true)).1.0; i_bound = (confirms _ _ (sym (c.is_confirmable.ensures c.args.fates.now) ∙ c.if-is_confirmable.true)).1.1 }

pub returns-then-is_confirmable : goal.returns-then-is_confirmable
unfolding commanded
returns-then-is_confirmable c =
    c.confirm.ensures ∙ rw (sym c.is_confirm.ensures ∙ c.if-is_confirm.true, sym (c.is_confirmable.ensures c.args.fates.now) ∙ c.if-is_confirmable.true)

pub returns-then-is_confirm : goal.returns-then-is_confirm
unfolding commanded
returns-then-is_confirm c =
    rw (c.refuse.ensures, sym c.is_confirm.ensures ∙ c.if-is_confirm.true, sym (c.is_confirmable.ensures c.args.fates.now) ∙ c.if-is_confirmable.false)

pub returns : goal.returns
unfolding commanded
returns c = rw (c.plain_command.ensures, sym c.is_confirm.ensures ∙ c.if-is_confirm.false)
