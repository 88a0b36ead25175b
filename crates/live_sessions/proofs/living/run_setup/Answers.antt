use Rattle.live_runner.specs.Actors.{actors}
use Rattle.live_sessions.proofs.Running.{running}
use Rattle.live_sessions.proofs.living.run_setup.Goals as goal

pub returns-clause-same : goal.returns-clause-same
returns-clause-same g c = rw (← c.setup.ensures.value) c.run_live.ensures.same

pub returns-clause-other : goal.returns-clause-other
returns-clause-other g c =
    rw (← c.setup.ensures.value) (running c.setup.result.now (actors c.setup.result.now c.args.kernel) c.run_live.result (λ n h. c.run_live.ensures.only_memory n h (rw c.setup.ensures.value c.setup.ensures.kept.setup)) c.run_live.ensures.strange)
