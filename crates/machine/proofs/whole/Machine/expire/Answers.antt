use Rattle.machine.proofs.Common.{◌≡◌, sym, ◌∙◌, ap, Row, Issued}
use Rattle.machine.proofs.{EnterLemmas.expired_row, ExpiryLemmas.direct_pair, GuardLemmas.same_row, GuardLemmas.guards_linked}
use Rattle.machine.proofs.whole.Machine.expire.Goals as goal

pub cascade-requires-clause-direct : goal.cascade-requires-clause-direct
cascade-requires-clause-direct c =
    let m = c.args.self.now in
    let x = expired_row m c.args.r c.requires.accepted in
    let same = same_row x.0 c.row_ref.result.now (sym x.1 ∙ c.row_ref.ensures) in
    let issued : c.row_ref.result.now.phase ≡ Issued = ap (λ (y : Row). y.phase) (sym same) ∙ x.2 in
    direct_pair m c.args.r c.in-Some.target c.row_ref.result.now c.requires.formed c.row_ref.ensures issued (sym c.waiting_target.ensures ∙ c.in-Some.is)

pub cascade-requires-clause-guards : goal.cascade-requires-clause-guards
cascade-requires-clause-guards c = guards_linked c.args.self.now.table c.requires.formed.guards

pub cascade-requires-in-None-clause-guards : goal.cascade-requires-in-None-clause-guards
cascade-requires-in-None-clause-guards c = guards_linked c.args.self.now.table c.requires.formed.guards
