-- `scan_found::contents::Copies::map_copies` meets its contract. Assumes nothing.
use mathlib.Core.Path.{refl}
use native.Mathlib.Numerals.{add-one}
use Rattle.scan_found.specs.Contents.{map_to}
use Rattle.scan_found.proofs.contents.Copies.map_copies.Goals as goal

pub loop-b-init : goal.loop-b-init
unfolding map_to
loop-b-init c = refl

pub loop-b-preserved : goal.loop-b-preserved
unfolding map_to
loop-b-preserved c = rw (add-one, ← c.loop-b.invariant) c.note_entry.ensures
