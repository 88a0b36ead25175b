use Rattle.std.proofs.Common.{arith, ap, ◌∙◌}
use Rattle.exploring.specs.declared.random_runs.Worker.{Worker}
use Rattle.exploring.proofs.Openings.{first_ready}
use Rattle.exploring.proofs.Repeating.{ready_push}
use Rattle.exploring.proofs.random_runs.RandomRuns.lanes.Goals as goal

pub loop-index-preserved : goal.loop-index-preserved
loop-index-preserved c = record {
  len = omega (arith, c.in_ok-push.ensures.len, c.loop-index.invariant.len);
  ready =
      ready_push c.args.self.now c.loop-index.lanes.items c.push.new.self.items c.new-in-loop-index.result c.in_ok-push.ensures.items c.loop-index.invariant.ready
      (first_ready c.args.self.now _ c.requires (ap (λ (w : Worker). w.state) c.new-in-loop-index.ensures ∙ c.in_ok-new.ensures.start) (ap (λ (w : Worker). w.sample.events.items) c.new-in-loop-index.ensures ∙ c.in_ok-new.ensures.events)
      (ap (λ (w : Worker). w.sample.records.items) c.new-in-loop-index.ensures ∙ c.in_ok-new.ensures.records) (ap (λ (w : Worker). w.opening) c.new-in-loop-index.ensures ∙ c.in_ok-new.ensures.opening) (ap (λ (w : Worker). w.opening_row) c.new-in-loop-index.ensures ∙ c.in_ok-new.ensures.opening_row) (ap (λ (w : Worker). w.search) c.new-in-loop-index.ensures ∙ c.in_ok-new.ensures.search));
}
