-- `scan_found::contents::Copies::is_clash` meets its contract. Assumes nothing.
use Rattle.copies.proofs.PickLaws.{Searched}
use Rattle.scan_found.specs.Contents.{clashing}
use Rattle.scan_found.specs.Told.{told}
use Rattle.scan_found.proofs.contents.Copies.is_clash.Given as goal

abbrev pub invariant-loop-b : goal.invariant-loop-b
invariant-loop-b l = Searched (clashing (told l.self) l.bits l.logical) l.blocks l.b
