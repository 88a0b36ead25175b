use Rattle.finding_rules.proofs.Common.{◌≡◌, ◌<◌, ℕ, false, FileByte, DurableByte, view, byte_in, differ}
use Rattle.finding_rules.proofs.unsynced.differs_below.Given as goal

abbrev pub invariant-loop-at : goal.invariant-loop-at
invariant-loop-at l = (i : ℕ) → i < l.at → differ (byte_in (view l.state (FileByte l.object i))) (byte_in (view l.state (DurableByte l.object i))) ≡ false
