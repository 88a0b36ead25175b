use Rattle.machine.proofs.Common.{◌≡◌, ◌∙◌, ap, is_held_by, outcome_of}
use Rattle.model_files.specs.Holders.{is_held}
use Rattle.machine.proofs.whole.Machine.decide.Goals as goal

pub returns-clause-outcome : goal.returns-clause-outcome
returns-clause-outcome c =
    let same : is_held c.held.result.now ≡ is_held_by c.args.self.now.table = λ i fd. c.held.ensures fd i in
    c.outcome_and_effect.ensures.outcome ∙ ap (λ f. outcome_of f c.args.self.now.world c.args.row.now c.args.choice) same
