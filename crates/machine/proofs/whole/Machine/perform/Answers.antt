use Rattle.machine.proofs.Common.{sym, subst, ℤ, w32, FitsSigned, rules, to_z-of_z, CanDo, Complete}
use Rattle.machine.proofs.whole.Machine.perform.Goals as goal

pub complete-requires-clause-can : goal.complete-requires-clause-can
complete-requires-clause-can c =
    let fits : FitsSigned w32 c.in-Complete.res = search rules in
    subst (λ (z : ℤ). CanDo c.args.self.now (Complete c.in-Complete.r z c.in-Complete.effect)) (sym (to_z-of_z w32 c.in-Complete.res fits)) (subst (CanDo c.args.self.now) c.in-Complete.is c.requires.can)
