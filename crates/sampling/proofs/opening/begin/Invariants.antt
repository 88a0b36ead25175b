use Rattle.std.proofs.Common.{◌-◌, length, vec_len}
use Rattle.machine.specs.Runs.{start, Linked}
use Rattle.sampling.specs.Samples.{IsOpening}
use Rattle.sampling.proofs.opening.begin.Given as goal

abbrev pub invariant-events : goal.invariant-events
invariant-events g l = record {
  opening : IsOpening l.program l.options l.into.events.items l.into.next_row;
  linked : Linked (start l.program) l.into.events.items l.into.records.items l.state;
  seen : g.O.Observer.has_seen l.observer l.program l.into.events.items (length l.into.events.items);
}

abbrev pub decreases-events : goal.decreases-events
decreases-events g l = l.options.most - vec_len l.into.events
