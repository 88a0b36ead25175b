use Rattle.std.proofs.Common.{rules, ◌≡◌, true, false, ◌∙◌, sym}
use Rattle.sampling.proofs.Locking.{ready_holds, waiting_holds}
use Rattle.sampling.proofs.locks.holds.Goals as goal

pub returns-then-not-spot : goal.returns-then-not-spot
returns-then-not-spot c =
    let spot = c.in-Some.spot in
    let ready : spot.is_waiting ≡ false = search rules in
    ready_holds c.args.state.now c.args.program.now.threads c.args.thread spot c.is_inside.result c.requires.programs (sym c.in-Some.is ∙ c.requires.spot) ready c.is_inside.ensures

pub returns-else-not-spot : goal.returns-else-not-spot
returns-else-not-spot c =
    let spot = c.in-Some.spot in
    let waits : spot.is_waiting ≡ true = search rules in
    waiting_holds c.args.state.now c.args.thread spot (sym c.in-Some.is ∙ c.requires.spot) waits
