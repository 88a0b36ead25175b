use Rattle.std.proofs.Common.{◌≡◌, drop, map}
use Rattle.machine.specs.Runs.{start}
use Rattle.machine.specs.Threads.{program_of}
use Rattle.sampling.specs.Locks.{keep_lock}
use Rattle.sampling.proofs.locked_runs.keep_lock_from.Given as goal

abbrev pub invariant-loop-event : goal.invariant-loop-event
invariant-loop-event l = record {
  programs : map program_of l.state.threads ≡ l.program.threads;
  kept : keep_lock (start l.program) l.events ≡ keep_lock l.state (drop l.event-index l.events);
}
