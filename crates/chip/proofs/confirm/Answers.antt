-- `chip::confirm` meets its contract: each code goes to its own confirm cycle. Assumes nothing.
use mathlib.Core.Path.{◌∙◌}
use borrow.Author.Tests.{eq-eqb, ne_eqb}
use Rattle.chip.specs.Chip.{confirmed}
use Rattle.chip.proofs.confirm.Goals as goal

pub returns-then-code-eq48 : goal.returns-then-code-eq48
unfolding confirmed
returns-then-code-eq48 c =
    c.confirm_read.ensures c.args.mask.now c.args.history.now ∙ search eq-eqb

pub returns-then-code-eq16 : goal.returns-then-code-eq16
unfolding confirmed
returns-then-code-eq16 c = c.confirm_program.ensures ∙ search (eq-eqb, ne_eqb)

pub confirm_erase-requires : goal.confirm_erase-requires
confirm_erase-requires c = record { valid = c.requires.fitting.is_valid; array_len = c.requires.fitting.array_long; history_len = c.requires.fitting.history_long; mask_len = c.requires.mask_len; i_bound = c.requires.i_bound }

pub returns : goal.returns
unfolding confirmed
returns c = c.confirm_erase.ensures _ ∙ search ne_eqb
