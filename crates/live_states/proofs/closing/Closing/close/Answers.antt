use Rattle.std.proofs.Common.{rules, sym, subst}
use Rattle.live_states.specs.History.{Past, Whole}
use Rattle.live_states.specs.Received.{AllReceived}
use Rattle.live_states.proofs.closing.Closing.close.Goals as goal

pub invariant_of-result : goal.invariant_of-result
invariant_of-result g c =
    let received : AllReceived c.args.self.run.owners c.args.self.run.events c.args.self.lists = search rules in
    subst (λ (p : Past). Whole p) (sym c.end-ended.ensures.value) (c.end-ended.ensures.whole received)
