-- `scan_found::contents::Copies::map_copies` meets its contract. Assumes nothing.
use mathlib.Core.Path.{◌≡◌}
use Rattle.scan_found.specs.Contents.{map_to}
use Rattle.scan_found.specs.Told.{told}
use Rattle.scan_found.proofs.contents.Copies.map_copies.Given as goal

abbrev pub invariant-loop-b : goal.invariant-loop-b
invariant-loop-b l = l.map ≡ map_to (told l.self) l.bits l.blocks l.logical l.initial.map l.b
