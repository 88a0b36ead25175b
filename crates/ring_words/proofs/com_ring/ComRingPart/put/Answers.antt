use Rattle.ring_words.proofs.Common.{◌≡◌, Some, Number, Completed}
use Rattle.ring_words.proofs.Seen.{com_seen_head, com_seen_tail, com_seen_slot}
use Rattle.ring_words.proofs.com_ring.ComRingPart.put.Goals as goal

pub returns-in-CompletionHead-Some-Number-clause-put : goal.returns-in-CompletionHead-Some-Number-clause-put
returns-in-CompletionHead-Some-Number-clause-put c =
    let e : c.args.value ≡ Some (Number c.in-CompletionHead-Some-Number.n) = cc in
    rw (← c.self.view_is, c.in-CompletionHead-Some-Number.is-0, e) (λ q. com_seen_head _ _ q)

pub returns-in-CompletionTail-Some-Number-clause-put : goal.returns-in-CompletionTail-Some-Number-clause-put
returns-in-CompletionTail-Some-Number-clause-put c =
    let e : c.args.value ≡ Some (Number c.in-CompletionTail-Some-Number.n) = cc in
    rw (← c.self.view_is, c.in-CompletionTail-Some-Number.is-0, e) (λ q. com_seen_tail _ _ q)

pub returns-in-Completion-Some-Completed-clause-put : goal.returns-in-Completion-Some-Completed-clause-put
returns-in-Completion-Some-Completed-clause-put c =
    let e : c.args.value ≡ Some (Completed c.in-Completion-Some-Completed.c) = cc in
    let r = rw (← c.self.view_is, c.in-Completion-Some-Completed.is-0, e) at c.requires in
    rw (← c.self.view_is, c.in-Completion-Some-Completed.is-0, e, c.set.ensures) (λ q. com_seen_slot _ _ _ r q)
