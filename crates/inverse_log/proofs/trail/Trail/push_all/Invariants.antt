use Rattle.inverse_log.proofs.Pushing.{Pushed}
use Rattle.inverse_log.proofs.Copying.{Copied}
use Rattle.inverse_log.proofs.trail.Trail.push_all.Given as goal

abbrev pub invariant-loop-i : goal.invariant-loop-i
invariant-loop-i l = record {
  pushed : Pushed l.fn.self l.events l.i l.self;
  copied : Copied l.fn.self l.every l.copies.items l.self;
}
