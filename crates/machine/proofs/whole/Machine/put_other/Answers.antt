use Rattle.machine.proofs.Common.{◌≡◌, Some, Number}
use Rattle.machine.proofs.Lifting.{seen_clock, seen_counted}
use Rattle.machine.proofs.whole.Machine.put_other.Goals as goal

pub returns-in-Clock-Some-Number-clause-put : goal.returns-in-Clock-Some-Number-clause-put
returns-in-Clock-Some-Number-clause-put c =
    let e : c.args.value ≡ Some (Number c.in-Clock-Some-Number.n) = cc in
    rw (c.in-Clock-Some-Number.is-0, e) (seen_clock c.args.self.now _)

pub returns-in-Counted-Some-Number-clause-put : goal.returns-in-Counted-Some-Number-clause-put
returns-in-Counted-Some-Number-clause-put c =
    let e : c.args.value ≡ Some (Number c.in-Counted-Some-Number.n) = cc in
    rw (c.in-Counted-Some-Number.is-0, e) (seen_counted c.args.self.now _)
