use Rattle.std.proofs.Common.{rules, tests}
use Rattle.std.proofs.lemmas.Iterator.{cases_from_all, YieldsList-from_slice}
use Rattle.machine.specs.Whole.{view}
use Rattle.symptoms.proofs.Taking.{Holds, hold_cases}
use Rattle.symptoms.proofs.reaching.hold_all.Goals as goal

pub returns : goal.returns
returns c =
    let v = view c.args.state.now in
    hold_cases v c.args.goals.now _ (cases_from_all _ _ _ (Holds v) (λ g. Holds v g → ⊥) c.all.ensures.ran (YieldsList-from_slice c.args.goals.now c.iter.ensures.rest) (λ x q k. search (rules, tests)) (λ x q k. search (rules, tests)))
