-- `open_requests::settle` meets its contract. Assumes nothing.
use Prim.Native.Nat.{ℕ}
use mathlib.Core.Path.{ap, ◌∙◌}
use Rattle.bus.specs.Line.{line}
use Rattle.bus_polling.proofs.OutcomeLaws.{passed_by_is, other_by_not}
use Rattle.fill_cursor.specs.Cursor.{first_cursor}
use Rattle.open_write.specs.Open.{open_state}
use Rattle.open_requests.proofs.EndLaws.{open_kept}
use Rattle.open_requests.proofs.settle.Goals as goal

pub stop-requires : goal.stop-requires
stop-requires c = record { left_le_allowed = c.requires.left_le_allowed; outcome_value = other_by_not _ c.in_default.not-Passed }

pub returns-in_default : goal.returns-in_default
returns-in_default c =
    λ a p h cs os. c.stop.ensures a p h cs os c.args.logical c.args.page c.args.bytes.now

pub returns : goal.returns
returns c =
    let first = c.begin-cursor.ensures ∙ ap (λ (b : ℕ). first_cursor 0 c.args.logical c.args.page 1 b) c.wide.ensures in
    λ a p h cs os. open_kept c.args.allowed (open_state c.args.state c.args.write c.args.kept.now) c.args.logical c.args.page c.args.bytes.now (line c.args.bus a p h) c.args.outcome cs os (passed_by_is _ c.in-Passed.is) (c.end-returned.ensures a p h) c.keep-opened.ensures first c.keep_page.ensures
