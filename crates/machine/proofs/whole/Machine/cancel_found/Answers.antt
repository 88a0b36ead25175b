use Rattle.machine.proofs.Common.{◌≡◌, sym, subst, OnOk, Direct, Ending, List, cascaded, rules}
use Rattle.machine.proofs.CancelLemmas.{found_later}
use Rattle.machine.proofs.whole.Machine.cancel_found.Goals as goal

pub cascade-requires-in-Waiting-2-clause-direct : goal.cascade-requires-in-Waiting-2-clause-direct
cascade-requires-in-Waiting-2-clause-direct c =
    let r = c.in-Waiting-2.r in
    subst (Direct c.args.self.now.table) (found_later c.args.found c.args.me r c.in-Waiting.r c.in-Waiting.is c.in-Waiting-2.is c.if-r-me.false (c.requires.other r c.in-Waiting-2.is)) c.requires.direct

pub returns-in-Waiting-2-clause-ok : goal.returns-in-Waiting-2-clause-ok
returns-in-Waiting-2-clause-ok c =
    let r = c.in-Waiting-2.r in
    let listed = found_later c.args.found c.args.me r c.in-Waiting.r c.in-Waiting.is c.in-Waiting-2.is c.if-r-me.false (c.requires.other r c.in-Waiting-2.is) in
    subst (λ (es : List Ending). OnOk c.cascade-in-Waiting-2.result (c.cascade-in-Waiting-2.new.self ≡ cascaded c.args.self.now es)) (sym listed) c.cascade-in-Waiting-2.ensures.ok

pub returns-in-Running-clause-ok : goal.returns-in-Running-clause-ok
returns-in-Running-clause-ok c = search rules
