-- `format_erase::not_failed` meets its contract. Assumes nothing.
use Rattle.format_erase.proofs.not_failed.Goals as goal

pub returns : goal.returns
returns c =
    λ i. record { bus = c.args.bus; outcome = c.args.outcome; failed = 0; numbers = c.none.ensures i }
