use Rattle.std.proofs.Common.{◌≡◌, ◌+◌}
use Rattle.inverse_log.specs.Tracks.{stepped}
use Rattle.inverse_log.proofs.trail.Trail.back_to.Given as goal

abbrev pub invariant-loop-step : goal.invariant-loop-step
invariant-loop-step l = record {
  walk : l.self ≡ stepped l.tally l.fn.self l.self.at;
  at : l.self.at + l._step ≡ l.fn.self.at;
}
