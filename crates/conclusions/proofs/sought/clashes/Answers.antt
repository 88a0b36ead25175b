use Rattle.std.proofs.Common.{rules, tests}
use Rattle.std.proofs.lemmas.Iterator.{cases_from_any, YieldsList-from_slice}
use Rattle.conclusions.specs.Conclusions.{Agree, Clash}
use Rattle.conclusions.proofs.Clashes.{clashes_cases}
use Rattle.conclusions.proofs.sought.clashes.Goals as goal

pub returns : goal.returns
returns c =
    let g = c.args.goal.now in
    clashes_cases c.args.goals.now g _ (cases_from_any _ _ _ (λ h. Clash h g) (λ h. Agree h g) c.any.ensures.ran (YieldsList-from_slice c.args.goals.now c.iter.ensures.rest) (λ x q k. search (rules, tests)) (λ x q k. search (rules, tests)))
