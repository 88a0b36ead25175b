use Rattle.std.proofs.Common.{◌≡◌, ℕ, ◌<◌, Some, slice_get}
use Rattle.live_states.specs.Received.{receipts_of}
use Rattle.live_states.proofs.closing.first_torn.Given as goal

abbrev pub invariant-loop-actor : goal.invariant-loop-actor
invariant-loop-actor l = (k : ℕ) → k < l.actor → slice_get l.lists k ≡ Some (receipts_of k l.owners l.events)
