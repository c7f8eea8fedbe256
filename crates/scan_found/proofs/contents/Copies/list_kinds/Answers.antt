-- `scan_found::contents::Copies::list_kinds` meets its contract. Assumes nothing.
use mathlib.Core.Path.{refl}
use native.Mathlib.Numerals.{add-one}
use Rattle.scan_found.specs.Contents.{kinds_to}
use Rattle.scan_found.proofs.contents.Copies.list_kinds.Goals as goal

pub loop-l-init : goal.loop-l-init
unfolding kinds_to
loop-l-init c = refl

pub loop-l-preserved : goal.loop-l-preserved
unfolding kinds_to
loop-l-preserved c =
    rw (add-one, ← c.loop-l.invariant, ← c.from.ensures, ← c.kind_for.ensures)
