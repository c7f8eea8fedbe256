use Rattle.std.proofs.Common.{◌+◌, arith}
use Rattle.demo_load.specs.Load.{load, begun, following}
use Rattle.demo_load.proofs.LoadLaws.{begins, one_more, has_line, ends}
use Rattle.demo_load.proofs.serve.Goals as goal

pub show-requires : goal.show-requires
show-requires g c =
    let s = c.args in
    has_line (load s.seed s.count) 0 _ _ _ (begins s.seed s.count _ _ c.request_count-requests.ensures c.begin-ended.ensures) c.figures_of.ensures

pub show-requires-in-loop-made : goal.show-requires-in-loop-made
show-requires-in-loop-made g c =
    let s = c.args in
    let l = c.loop-made in
    has_line (load s.seed s.count) (l.made + 1) _ _ _ (one_more (load s.seed s.count) l.made _ l.last _ _ l.ended _ (omega arith) l.invariant c.choose-chosen.ensures c.ask.ensures c.perform-next.ensures) c.figures_of-in-loop-made.ensures

pub loop-made-preserved : goal.loop-made-preserved
loop-made-preserved g c =
    let s = c.args in
    let l = c.loop-made in
    one_more (load s.seed s.count) l.made _ l.last _ _ l.ended _ (omega arith) l.invariant c.choose-chosen.ensures c.ask.ensures c.perform-next.ensures

pub returns : goal.returns
returns g c =
    let s = c.args in
    let l = c.loop-made in
    ends (begun s.seed) (following s.seed s.count) l.made _ l.last l.ended (omega arith) l.invariant
