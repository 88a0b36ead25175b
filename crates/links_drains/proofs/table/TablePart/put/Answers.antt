use Rattle.links_drains.proofs.Common.{◌≡◌, Some, None, Requested}
use Rattle.links_drains.proofs.{Fixed.fixed_within, Fixed.fixed_all, Seen.seen_row, Seen.seen_taken}
use Rattle.links_drains.proofs.table.TablePart.put.Goals as goal

pub returns-in-Request-Some-Requested-clause-put :
    goal.returns-in-Request-Some-Requested-clause-put
returns-in-Request-Some-Requested-clause-put c =
    let e : c.args.value ≡ Some (Requested c.in-Request-Some-Requested.row) = cc in
    let fixed = rw (c.in-Request-Some-Requested.is-0, e) at c.requires in
    let within = fixed_within c.args.self.now c.in-Request-Some-Requested.i c.in-Request-Some-Requested.row fixed in
    rw (c.in-Request-Some-Requested.is-0, e, c.set.ensures) (λ q. seen_row c.args.self.now c.in-Request-Some-Requested.i c.in-Request-Some-Requested.row within q)

pub returns-in-Request-Some-Requested-clause-fixed :
    goal.returns-in-Request-Some-Requested-clause-fixed
returns-in-Request-Some-Requested-clause-fixed c =
    let e : c.args.value ≡ Some (Requested c.in-Request-Some-Requested.row) = cc in
    let fixed = rw (c.in-Request-Some-Requested.is-0, e) at c.requires in
    rw (e, c.set.ensures) (fixed_all c.args.self.now c.in-Request-Some-Requested.i c.in-Request-Some-Requested.row fixed)

pub returns-in-Request-None-clause-put : goal.returns-in-Request-None-clause-put
returns-in-Request-None-clause-put c =
    let e : c.args.value ≡ None = cc in
    let r = rw (c.in-Request-None.is-0, e) at c.requires in
    rw (c.in-Request-None.is-0, e, c.truncate.ensures) (λ q. seen_taken _ _ r q)
