use Rattle.std.proofs.Common.{◌≡◌, ◌∙◌, sym, subst, Some, false, w32, FitsSigned, rules, ℤ}
use Rattle.machine.proofs.Common.{slice_get, to_z-of_z, Issued, is_held_by, is_cancel, is_timer, outcome_of, Res, Plans, Complete, Finish}
use Rattle.machine.proofs.{PipeCounts.puts_fit, PlanLemmas.complete_planned, PlanLemmas.finish_of_other}
use Rattle.machine.proofs.whole.Machine.plan_finish.Goals as goal

pub returns-in-Res-clause-ok : goal.returns-in-Res-clause-ok
returns-in-Res-clause-ok c =
    let m = c.args.self.now in
    let there : slice_get m.table c.args.r ≡ Some c.row_ref-row.result.now = c.row_ref-row.ensures in
    let timer : is_timer c.row_ref-row.result.now.entry.opcode ≡ false = sym c.is_timer.ensures ∙ c.if-is_timer.false in
    let issued : c.row_ref-row.result.now.phase ≡ Issued = search rules in
    let cancels : is_cancel c.row_ref-row.result.now.entry.opcode ≡ false = sym c.is_cancel.ensures ∙ c.if-is_cancel.false in
    let outcome : outcome_of (is_held_by m.table) m.world c.row_ref-row.result.now c.args.choice ≡ Res c.in-Res.res = sym c.decide-outcome.ensures.outcome ∙ c.in-Res.is in
    let fits : FitsSigned w32 c.in-Res.res = search rules in
    let p = complete_planned m c.args.r c.args.choice c.row_ref-row.result.now c.in-Res.res _ there issued cancels outcome (c.decide-outcome.ensures.effect _ c.in-Res.is c.requires.formed.mostly.world (puts_fit m c.requires.formed)) in
    subst (λ (z : ℤ). Plans m (Finish c.args.r c.args.choice) (Complete c.args.r z c.decide-outcome.result.1)) (sym (to_z-of_z w32 c.in-Res.res fits))
    (record { accepted = finish_of_other m c.args.r c.args.choice c.row_ref-row.result.now (Res c.in-Res.res) there timer issued cancels (sym outcome); can = p.0; same = p.1 })
