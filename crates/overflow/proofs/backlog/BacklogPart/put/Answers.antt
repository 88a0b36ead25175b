use Rattle.overflow.proofs.Common.{◌≡◌, Some, None, Number, Completed}
use Rattle.overflow.proofs.Seen.{seen_item, seen_taken, seen_front}
use Rattle.overflow.proofs.backlog.BacklogPart.put.Goals as goal

pub returns-in-Backlog-Some-Completed-clause-put : goal.returns-in-Backlog-Some-Completed-clause-put
returns-in-Backlog-Some-Completed-clause-put c =
    let e : c.args.value ≡ Some (Completed c.in-Backlog-Some-Completed.c) = cc in
    let r = rw (← c.self.view_is, c.in-Backlog-Some-Completed.is-0, e) at c.requires in
    rw (← c.self.view_is, c.in-Backlog-Some-Completed.is-0, e) (λ q. seen_item _ _ _ r q)

pub returns-in-Backlog-None-clause-put : goal.returns-in-Backlog-None-clause-put
returns-in-Backlog-None-clause-put c =
    let e : c.args.value ≡ None = cc in
    let r = rw (← c.self.view_is, c.in-Backlog-None.is-0, e) at c.requires in
    rw (← c.self.view_is, c.in-Backlog-None.is-0, e, c.truncate.ensures.items) (λ q. seen_taken _ _ r q)

pub returns-in-BacklogFront-Some-Number-clause-put : goal.returns-in-BacklogFront-Some-Number-clause-put
returns-in-BacklogFront-Some-Number-clause-put c =
    let e : c.args.value ≡ Some (Number c.in-BacklogFront-Some-Number.n) = cc in
    rw (← c.self.view_is, c.in-BacklogFront-Some-Number.is-0, e) (λ q. seen_front _ _ q)
