-- `c_buffers::refuse` meets its contract. Assumes nothing.
use mathlib.Core.List.{[]}
use mathlib.Core.Path.{ap, ◌∙◌}
use Rattle.request.specs.Call.{Result}
use Rattle.open_write.specs.Open.{open_state}
use Rattle.open_write.specs.Requests.{open_result}
use Rattle.c_open.specs.OpenBytes.{bytes_page}
use Rattle.c_buffers.specs.Buffers.{put_back}
use Rattle.c_buffers.proofs.refuse.Goals as goal

pub returns : goal.returns
returns c =
    let page = bytes_page c.args.state.now in record { by_index = λ a p h. c.hand_back.ensures.by_index a p h ∙ ap (λ (r : Result). put_back (open_result r.answer (open_state r.state c.args.write page) r.chip r.sent)) (c.unchanged-returned.ensures a p h); state_after = c.hand_back.ensures.state_after ∙ ap (λ (r : Result). open_state r.state c.args.write page) (c.unchanged-returned.ensures [] [] []) }
