use Rattle.timeline_values.proofs.Common.{◌≡◌, ◌+◌, length, min, ap, arith, EventRange}
use Rattle.timeline_values.proofs.Opened.{opened_before, opened_here}
use Rattle.timeline_values.proofs.opening.OpeningObserver.after.Goals as goal

pub returns-in_ok-self-clause-ok : goal.returns-in_ok-self-clause-ok
returns-in_ok-self-clause-ok g c =
    let at = c.args.at in
    let t = c.if-moment-min.true in
    let m = c.min.ensures in
    let same = c.requires.seen.0 in
    let a = ap (λ (r : EventRange). r.from) same in
    (same, c.requires.seen.1, opened_here at.setup.now at.events.now at.index g.K.Ranged.range.from at.state.now c.in_ok-self.field-0 c.requires.at.at (omega (arith, t, m, a)) c.in_ok-self.ensures)

pub returns-else-moment-min-clause-ok : goal.returns-else-moment-min-clause-ok
returns-else-moment-min-clause-ok g c =
    let at = c.args.at in
    let t = c.if-moment-min.false in
    let m = c.min.ensures in
    let same = c.requires.seen.0 in
    let a = ap (λ (r : EventRange). r.from) same in
    (same, c.requires.seen.1, opened_before at.setup.now at.events.now at.index g.K.Ranged.range.from c.args.self.now.values c.requires.seen.2 (λ (q : at.index + 1 ≡ min g.K.Ranged.range.from (length at.events.now)). omega (arith, q, t, m, a)))
