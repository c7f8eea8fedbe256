use Rattle.std.proofs.Common.{ap, ◌∙◌}
use Rattle.demo_store.specs.declared.Store.{Store}
use Rattle.bench_requests.specs.declared.Request.TheVariants.{Format}
use Rattle.bench_requests.specs.Requests.{performed}
use Rattle.demo_journal.proofs.SaleLaws.{reached_first, reached_next}
use Rattle.demo_journal.proofs.serve_all.Goals as goal

pub loop-init : goal.loop-init
loop-init g c = reached_first _ (c.perform-formatted.ensures ∙ ap (λ (s : Store). performed s Format) c.new.ensures)

pub loop-preserved : goal.loop-preserved
loop-preserved g c = reached_next _ _ _ c.loop.invariant c.serve-done.ensures
