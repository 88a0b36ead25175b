use Rattle.std.proofs.Common.{◌≡◌}
use Rattle.inverse_log.specs.Tracks.{stepped}
use Rattle.inverse_log.proofs.trail.Trail.on_to.Given as goal

abbrev pub invariant-loop-at : goal.invariant-loop-at
invariant-loop-at l = record {
  walk : l.self ≡ stepped l.tally l.fn.self l.self.at;
  at : l.self.at ≡ l._at;
}
