-- `scan_found::contents::Copies::note_entry` meets its contract. Assumes nothing.
use mathlib.Core.Path.{sym, ◌∙◌}
use Rattle.std.proofs.Common.{arith}
use Rattle.std.proofs.lemmas.Grind.{common_steps}
use Rattle.scan_found.specs.Contents.{entry_noted}
use Rattle.scan_found.specs.Told.{told}
use Rattle.scan_found.proofs.ContentsLaws.{candidate}
use Rattle.scan_found.proofs.contents.Copies.note_entry.Goals as goal

pub bounds-map-l : goal.bounds-map-l
bounds-map-l c =
    let d = candidate (told c.args.self.now) c.args.bits.now c.args.logical c.args.block (sym c.is_candidate.ensures ∙ c.if-is_candidate.true) in
    omega (arith, d.logical_below, c.requires.1, c.from-l.ensures)

pub bounds-map-l-then-does_replace : goal.bounds-map-l-then-does_replace
bounds-map-l-then-does_replace c =
    let d = candidate (told c.args.self.now) c.args.bits.now c.args.logical c.args.block (sym c.is_candidate.ensures ∙ c.if-is_candidate.true) in
    omega (arith, d.logical_below, c.requires.1, c.from-l.ensures)

pub returns-then-does_replace : goal.returns-then-does_replace
unfolding entry_noted
returns-then-does_replace c = grind (arith, common_steps)

pub returns-else-does_replace : goal.returns-else-does_replace
unfolding entry_noted
returns-else-does_replace c = grind (arith, common_steps)

pub returns-else-is_candidate : goal.returns-else-is_candidate
unfolding entry_noted
returns-else-is_candidate c = grind (arith, common_steps)
