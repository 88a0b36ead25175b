use Rattle.live_states.proofs.ReceiptLemmas.{Agrees}
use Rattle.live_states.proofs.closing.are_receipts_of.Given as goal

abbrev pub invariant-loop-moment : goal.invariant-loop-moment
invariant-loop-moment l = Agrees l.actor l.owners l.events l.receipts l.next l.moment
