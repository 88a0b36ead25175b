use Rattle.runs.proofs.Common.{IsAt}
use Rattle.runs.proofs.driving.drive.Given as goal

abbrev pub invariant-loop-index : goal.invariant-loop-index
invariant-loop-index g l = record {
  at : IsAt l.setup l.events l.index l.state;
  seen : g.O.Observer.has_seen l.observer l.setup l.events l.index;
}
