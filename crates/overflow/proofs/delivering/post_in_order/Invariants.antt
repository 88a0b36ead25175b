use Rattle.overflow.proofs.Posting.{Posting}
use Rattle.overflow.proofs.delivering.post_in_order.Given as goal

abbrev pub invariant-loop-completion : goal.invariant-loop-completion
invariant-loop-completion l = Posting l.fn.completions l.completions l.fn.notes l.notes l.list l.completion-index
