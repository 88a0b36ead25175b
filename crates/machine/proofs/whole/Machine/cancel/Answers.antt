use Rattle.machine.proofs.Common.{◌≡◌, ◌∙◌, ap, sym, subst, length, arith, Direct, on_all, on_found, ending_with, waiting_by}
use Rattle.machine.proofs.{CancelLemmas.direct_cancel, CancelLemmas.few_waiting, CancelLemmas.verdict_all, CancelLemmas.verdict_first, CancelLemmas.other_found, GuardLemmas.guards_linked}
use Rattle.machine.proofs.whole.Machine.cancel.Goals as goal

pub ending_with-requires : goal.ending_with-requires
ending_with-requires c =
    let m = c.args.self.now in
    let a = few_waiting m.table m.world c.key_of-key.result c.args.r in
    let b : length c.deref.result.now ≡ length (waiting_by m.table m.world c.key_of-key.result c.args.r) = ap length (c.deref.ensures.value ∙ c.in_ok-rows.ensures) in
    let most = c.requires.formed.mostly.table in
    omega (arith, a, b, most)

pub cascade-requires-clause-direct : goal.cascade-requires-clause-direct
cascade-requires-clause-direct c =
    let m = c.args.self.now in
    let x = c.requires.can in
    let entry = c.row_ref.result.now.entry in
    let verdict = ap on_all (c.deref.ensures.value ∙ c.in_ok-rows.ensures) ∙ verdict_all m.table m.world c.args.r entry c.key_of-key.result c.key_of-key.ensures (sym c.takes_all.ensures ∙ c.if-takes_all.true) in
    let listed = c.deref-then-takes_all.ensures.value ∙ c.in_ok-direct.ensures ∙ ap (ending_with c.args.r) verdict in
    subst (Direct m.table) (sym listed) (direct_cancel m.table m.world c.args.r entry x.row x.there x.unfinished)

pub cascade-requires-clause-guards : goal.cascade-requires-clause-guards
cascade-requires-clause-guards c = guards_linked c.args.self.now.table c.requires.formed.guards

pub cancel_found-requires-clause-direct : goal.cancel_found-requires-clause-direct
cancel_found-requires-clause-direct c =
    let m = c.args.self.now in
    let x = c.requires.can in
    let entry = c.row_ref.result.now.entry in
    let verdict = ap on_found c.find_by-found.ensures ∙ verdict_first m.table m.world c.args.r entry c.key_of-key.result c.key_of-key.ensures (sym c.takes_all.ensures ∙ c.if-takes_all.false) in
    subst (Direct m.table) (sym (ap (ending_with c.args.r) verdict)) (direct_cancel m.table m.world c.args.r entry x.row x.there x.unfinished)

pub cancel_found-requires-clause-other : goal.cancel_found-requires-clause-other
cancel_found-requires-clause-other c r h = other_found c.args.self.now.table c.args.self.now.world c.key_of-key.result c.args.r r (sym c.find_by-found.ensures ∙ h)

pub cancel_found-requires-clause-guards : goal.cancel_found-requires-clause-guards
cancel_found-requires-clause-guards c = guards_linked c.args.self.now.table c.requires.formed.guards
