-- `chip::put_out` meets its contract: past the source the definition has 0 too. Assumes nothing.
use mathlib.Core.Path.{refl}
use lib.ListN.{get_or-eq_default}
use borrow.Author.Tests.{lt-ltb, le-ltb}
use Rattle.chip.proofs.put_out.Goals as goal

pub returns-then-source-column : goal.returns-then-source-column
returns-then-source-column c = record { interface_value = rw c.nothing.ensures (search le-ltb); byte_value = rw (c.nothing.ensures, get_or-eq_default c.args.source.now 0 c.if-source-column.true) }

pub returns : goal.returns
returns c = record { interface_value = search lt-ltb; byte_value = refl }
