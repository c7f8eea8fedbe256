-- `scan_found::contents::Copies::is_shared` meets its contract. Assumes nothing.
use Rattle.copies.proofs.PickLaws.{Searched}
use Rattle.scan_found.specs.Contents.{bears}
use Rattle.scan_found.specs.Told.{told}
use Rattle.scan_found.proofs.contents.Copies.is_shared.Given as goal

abbrev pub invariant-loop-b : goal.invariant-loop-b
invariant-loop-b l = Searched (bears (told l.self) l.bits l.number) l.below l.b
