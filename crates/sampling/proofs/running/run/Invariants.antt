use Rattle.std.proofs.Common.{◌-◌, length, vec_len}
use Rattle.machine.specs.Runs.{start}
use Rattle.sampling.specs.Samples.{IsBegun, IsBegin}
use Rattle.sampling.proofs.running.run.Given as goal

abbrev pub invariant-events : goal.invariant-events
invariant-events g l = record {
  begins : IsBegin l.fn.into.events.items l.into.events.items;
  begun : IsBegun l.source l.most (start l.program) l.into.events.items l.into.next_row l.into.records.items l.state;
  seen : g.O.Observer.has_seen l.observer l.program l.into.events.items (length l.into.events.items);
}

abbrev pub decreases-events : goal.decreases-events
decreases-events g l = l.most - vec_len l.into.events
