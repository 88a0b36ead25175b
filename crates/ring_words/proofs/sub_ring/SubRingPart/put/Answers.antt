use Rattle.ring_words.proofs.Common.{◌≡◌, Some, Number, Entry}
use Rattle.ring_words.proofs.Seen.{sub_seen_head, sub_seen_tail, sub_seen_flags, sub_seen_dropped, sub_seen_word, sub_seen_slot}
use Rattle.ring_words.proofs.sub_ring.SubRingPart.put.Goals as goal

pub returns-in-SubmissionHead-Some-Number-clause-put : goal.returns-in-SubmissionHead-Some-Number-clause-put
returns-in-SubmissionHead-Some-Number-clause-put c =
    let e : c.args.value ≡ Some (Number c.in-SubmissionHead-Some-Number.n) = cc in
    rw (← c.self.view_is, c.in-SubmissionHead-Some-Number.is-0, e) (λ q. sub_seen_head _ _ q)

pub returns-in-SubmissionTail-Some-Number-clause-put : goal.returns-in-SubmissionTail-Some-Number-clause-put
returns-in-SubmissionTail-Some-Number-clause-put c =
    let e : c.args.value ≡ Some (Number c.in-SubmissionTail-Some-Number.n) = cc in
    rw (← c.self.view_is, c.in-SubmissionTail-Some-Number.is-0, e) (λ q. sub_seen_tail _ _ q)

pub returns-in-SubmissionFlags-Some-Number-clause-put : goal.returns-in-SubmissionFlags-Some-Number-clause-put
returns-in-SubmissionFlags-Some-Number-clause-put c =
    let e : c.args.value ≡ Some (Number c.in-SubmissionFlags-Some-Number.n) = cc in
    rw (← c.self.view_is, c.in-SubmissionFlags-Some-Number.is-0, e) (λ q. sub_seen_flags _ _ q)

pub returns-in-SubmissionDropped-Some-Number-clause-put : goal.returns-in-SubmissionDropped-Some-Number-clause-put
returns-in-SubmissionDropped-Some-Number-clause-put c =
    let e : c.args.value ≡ Some (Number c.in-SubmissionDropped-Some-Number.n) = cc in
    rw (← c.self.view_is, c.in-SubmissionDropped-Some-Number.is-0, e) (λ q. sub_seen_dropped _ _ q)

pub returns-in-Array-Some-Number-clause-put : goal.returns-in-Array-Some-Number-clause-put
returns-in-Array-Some-Number-clause-put c =
    let e : c.args.value ≡ Some (Number c.in-Array-Some-Number.n) = cc in
    let r = rw (← c.self.view_is, c.in-Array-Some-Number.is-0, e) at c.requires in
    rw (← c.self.view_is, c.in-Array-Some-Number.is-0, e, c.set.ensures) (λ q. sub_seen_word _ _ _ r.0 q)

pub returns-in-Slot-Some-Entry-clause-put : goal.returns-in-Slot-Some-Entry-clause-put
returns-in-Slot-Some-Entry-clause-put c =
    let e : c.args.value ≡ Some (Entry c.in-Slot-Some-Entry.entry) = cc in
    let r = rw (← c.self.view_is, c.in-Slot-Some-Entry.is-0, e) at c.requires in
    rw (← c.self.view_is, c.in-Slot-Some-Entry.is-0, e, c.set-in-Slot-Some-Entry.ensures) (λ q. sub_seen_slot _ _ _ r q)
