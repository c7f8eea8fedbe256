-- `pages::number_in` meets its contract: the bytes, with zeros behind them, are eight. Assumes nothing.
use mathlib.Core.Path.{◌∙◌}
use Rattle.pages.proofs.ByteLaws.{number_padded}
use Rattle.pages.proofs.number_in.Goals as goal

pub returns : goal.returns
returns c =
    c.from_le_bytes.ensures ∙ number_padded c.args.bytes.now c.copy_from_slice.new.self c.requires c.copy_from_slice.ensures.after
