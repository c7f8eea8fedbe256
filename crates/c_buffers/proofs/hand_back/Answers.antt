-- `c_buffers::hand_back` meets its contract. Assumes nothing.
use Prim.Native.Nat.{ℕ}
use mathlib.Core.Path.{◌≡◌, ap, ◌∙◌}
use native.Mathlib.Omega.{arith}
use lib.ListN.{length, get_or}
use mir.Syntax.{w8, w16, w64}
use mir.Val.{Fits}
use Rattle.cells.proofs.PartLaws.{length_part}
use Rattle.c_state.specs.StateBytes.{Ranged}
use Rattle.c_open.specs.OpenBytes.{bytes_page, bytes_open, left_open, WordsRanged}
use Rattle.c_open.proofs.RoundLaws.{load-left}
use Rattle.c_buffers.proofs.BufferLaws.{put_back_lem}
use borrow.Author.Rules.{rules}
use Rattle.c_buffers.proofs.hand_back.Goals as goal

pub returns : goal.returns
returns c =
    let status_fits : Fits w64 c.args.returned.state.status = search rules in
    let table_fits : Fits w64 c.args.returned.state.table = search rules in
    let last_fits : Fits w64 c.args.returned.state.last = search rules in
    let number_fits : Fits w64 c.args.returned.state.number = search rules in
    let marked_long : length c.args.returned.state.marked ≡ 512 = search (rules, c.well_formed.0.1.1.1.0.1.1.1.1.1.1.0.1.0) in
    let marked-fits : (i : ℕ) → Fits w8 (get_or c.args.returned.state.marked i 0) = λ i. search (rules, c.well_formed.0.1.1.1.0.1.1.1.1.1.1.0.1.1) in
    let invalid_long : length c.args.returned.state.invalid ≡ 512 = search (rules, c.well_formed.0.1.1.1.0.1.1.1.1.1.1.1.0.1.0) in
    let invalid-fits : (i : ℕ) → Fits w8 (get_or c.args.returned.state.invalid i 0) = λ i. search (rules, c.well_formed.0.1.1.1.0.1.1.1.1.1.1.1.0.1.1) in
    let map_long : length c.args.returned.state.map ≡ 4096 = search (rules, c.well_formed.0.1.1.1.0.1.1.1.1.1.1.1.1.0.1.0) in
    let map_fits : (i : ℕ) → Fits w16 (get_or c.args.returned.state.map i 0) = λ i. search (rules, c.well_formed.0.1.1.1.0.1.1.1.1.1.1.1.1.0.1.1) in
    let kinds_long : length c.args.returned.state.kinds ≡ 4096 = search (rules, c.well_formed.0.1.1.1.0.1.1.1.1.1.1.1.1.1.0.1.0) in
    let kinds-fit : (i : ℕ) → Fits w8 (get_or c.args.returned.state.kinds i 0) = λ i. search (rules, c.well_formed.0.1.1.1.0.1.1.1.1.1.1.1.1.1.0.1.1) in
    let ranged : Ranged c.args.returned.state = record { status_fits = (status_fits).fits; table_fits = (table_fits).fits; last_fits = (last_fits).fits; number_fits = (number_fits).fits; marked_long = marked_long; marked_bytes = λ i. (marked-fits i).fits; invalid_long = invalid_long; invalid_bytes = λ i. (invalid-fits i).fits; map_long = map_long; map_fits = λ i. (map_fits i).fits; kinds_long = kinds_long; kinds_bytes = λ i. (kinds-fit i).fits } in
    let opened-word : Fits w64 c.args.write.opened = search rules in
    let phase-word : Fits w64 c.args.write.phase = search rules in
    let step-word : Fits w64 c.args.write.step = search rules in
    let logical-word : Fits w64 c.args.write.logical = search rules in
    let first_word : Fits w64 c.args.write.first = search (rules, c.well_formed.1.0.1.1.1.1.1.1.0) in
    let old-word : Fits w64 c.args.write.old = search (rules, c.well_formed.1.0.1.1.1.1.1.1.1.0) in
    let block-word : Fits w64 c.args.write.block = search (rules, c.well_formed.1.0.1.1.1.1.1.1.1.1.0) in
    let number_word : Fits w64 c.args.write.number = search (rules, c.well_formed.1.0.1.1.1.1.1.1.1.1.1.0) in
    let page-word : Fits w64 c.args.write.page = search (rules, c.well_formed.1.0.1.1.1.1.1.1.1.1.1.1.0) in
    let failed-word : Fits w64 c.args.write.failed = search (rules, c.well_formed.1.0.1.1.1.1.1.1.1.1.1.1.1.0) in
    let words-ranged : WordsRanged c.args.write = record { opened_fits = (opened-word).fits; phase_fits = (phase-word).fits; step_fits = (step-word).fits; logical_fits = (logical-word).fits; first_fits = (first_word).fits; old_fits = (old-word).fits; block_fits = (block-word).fits; number_fits = (number_word).fits; page_fits = (page-word).fits; failed_fits = (failed-word).fits } in
    let page = bytes_page c.args.state.now in record { by_index = put_back_lem c.args.returned.answer c.args.returned.sent (left_open c.args.gone c.args.returned.state c.args.write page) c.args.returned.interface _ _ c.args.sent.now c.leave.ensures c.write_interface.ensures c.requires.sent_len; state_after = ap bytes_open c.leave.ensures ∙ load-left c.args.gone c.args.returned.state c.args.write page (ranged) (words-ranged) (length_part 9328 4096 c.args.state.now (omega (arith, c.requires.state_len))) }
