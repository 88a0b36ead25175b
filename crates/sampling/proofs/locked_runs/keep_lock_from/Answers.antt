use Rattle.std.proofs.Common.{[], sym, ap, ◌∙◌}
use Rattle.machine.specs.declared.whole.Machine.{Machine}
use Rattle.sampling.specs.Locks.{keep_lock}
use Rattle.sampling.proofs.LockedRuns.{kept_on}
use Rattle.sampling.proofs.RunLemmas.{programs_stay, run_programs}
use Rattle.sampling.proofs.locked_runs.keep_lock_from.Goals as goal

pub loop-event-init : goal.loop-event-init
loop-event-init c = record {
  programs = run_programs c.args.program.now c.args.state.now [] [] c.requires.starts;
  kept = ap (λ (m : Machine). keep_lock m c.args.events.now) (sym c.requires.starts);
}

pub loop-event-preserved : goal.loop-event-preserved
loop-event-preserved c =
    let next = c.in-Ok.ensures.next in
    record {
      programs = programs_stay c.loop-event.state c.step.new.self _ c.step.ensures.formed next ∙ c.loop-event.invariant.programs;
      kept = c.loop-event.invariant.kept ∙ kept_on c.loop-event.state c.step.new.self c.args.events.now c.loop-event.event-index _ c.keeps_lock.result c.loop-event-test.true c.keeps_lock.ensures c.if-not-keeps_lock.false next;
    }
