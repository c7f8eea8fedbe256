-- `open_requests::stop` meets its contract. Assumes nothing.
use mathlib.Core.Path.{sym, ap, ◌∙◌}
use Rattle.bus.specs.Line.{line}
use Rattle.request.specs.Call.{end_at}
use Rattle.open_write.specs.Open.{open_state}
use Rattle.open_write.specs.Requests.{stops}
use Rattle.open_requests.proofs.EndLaws.{stop_kept, stop_closed}
use Rattle.open_requests.proofs.stop.Goals as goal

pub returns-then-not-is_stopping : goal.returns-then-not-is_stopping
returns-then-not-is_stopping c =
    let kept = sym (c.is_stopping.ensures ∙ ap stops c.status_answer-answer.ensures) ∙ c.if-not-is_stopping.true in
    λ a p h cs os logical page bytes. stop_kept c.args.allowed (open_state c.args.state c.args.write c.args.kept.now) logical page bytes (line c.args.bus a p h) c.args.outcome cs os c.requires.outcome_value (c.end-returned.ensures a p h ∙ (λ i. end_at c.args.allowed (c.status_answer-answer.ensures i) (c.status_state.ensures i) (line c.args.bus a p h))) kept

pub returns : goal.returns
returns c =
    let gone = sym (c.is_stopping.ensures ∙ ap stops c.status_answer-answer.ensures) ∙ c.if-not-is_stopping.false in
    λ a p h cs os logical page bytes. stop_closed c.args.allowed (open_state c.args.state c.args.write c.args.kept.now) logical page bytes (line c.args.bus a p h) c.args.outcome cs os c.requires.outcome_value (c.end-returned.ensures a p h ∙ (λ i. end_at c.args.allowed (c.status_answer-answer.ensures i) (c.status_state.ensures i) (line c.args.bus a p h))) gone c.none-none.ensures c.clear.ensures
