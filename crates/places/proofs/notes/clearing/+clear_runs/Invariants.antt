use Rattle.std.proofs.Common.{length}
use Rattle.places.proofs.notes.clearing.+clear_runs.Given as goal

abbrev pub decreases-clear_runs : goal.decreases-clear_runs
decreases-clear_runs g l = length l.runs.now
