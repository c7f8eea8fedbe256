-- `scan_found::contents::Copies::list_kinds` meets its contract. Assumes nothing.
use mathlib.Core.Path.{◌≡◌}
use Rattle.scan_found.specs.Contents.{kinds_to}
use Rattle.scan_found.specs.Told.{told}
use Rattle.scan_found.proofs.contents.Copies.list_kinds.Given as goal

abbrev pub invariant-loop-l : goal.invariant-loop-l
invariant-loop-l l = l.current ≡ kinds_to (told l.self) l.map l.initial.current l.l
