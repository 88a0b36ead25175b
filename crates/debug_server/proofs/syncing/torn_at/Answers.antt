use Rattle.std.proofs.Common.{arith, sym}
use Rattle.scenario.specs.declared.event.Event.TheVariants.{Step}
use Rattle.debug_server.proofs.Torn.{torn_on, torn_here, torn_end, torn_none}
use Rattle.debug_server.proofs.syncing.torn_at.Goals as goal

pub returns-then-index-source : goal.returns-then-index-source
returns-then-index-source c = sym (torn_end c.args.events.now c.args.source.now c.loop-index.index (omega arith) (omega arith) c.loop-index.invariant)

pub returns-then-not-is_same : goal.returns-then-not-is_same
returns-then-not-is_same c = sym (torn_here c.args.events.now c.args.source.now c.loop-index.index (Step 0) c.loop-index-test.true c.if-index-source.false (λ e. let t = c.is_same.ensures.1 e in cc) c.loop-index.invariant)

pub loop-index-preserved : goal.loop-index-preserved
loop-index-preserved c = torn_on c.args.events.now c.args.source.now c.loop-index.index (Step 0) c.loop-index-test.true c.if-index-source.false (c.is_same.ensures.0 c.if-not-is_same.false) c.loop-index.invariant

pub returns : goal.returns
returns c = sym (torn_none c.args.events.now c.args.source.now c.loop-index.index (omega arith) c.loop-index.invariant)
