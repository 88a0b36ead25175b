use Rattle.run_log.proofs.Common.{◌≡◌, ◌+◌, drop}
use Rattle.run_log.proofs.Rows.{length_from}
use Rattle.run_log.proofs.joining.following.Given as goal

abbrev pub invariant-loop-changed : goal.invariant-loop-changed
invariant-loop-changed l = (l.count ≡ l.changed-index) × (length_from l.first.place l.rest ≡ l.count + length_from l.last (drop l.changed-index l.rest))
