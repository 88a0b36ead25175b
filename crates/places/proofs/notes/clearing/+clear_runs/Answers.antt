use Rattle.std.proofs.Common.{◌≡◌, ◌∷◌, rules}
use Rattle.places.proofs.MaskedLemmas.{marked_runs}
use Rattle.places.proofs.notes.clearing.+clear_runs.Goals as goal

pub returns-in-Some-clause-kept : goal.returns-in-Some-clause-kept
returns-in-Some-clause-kept g t c =
    let parts : c.args.runs.now ≡ c.in-Some.run'.now ∷ c.in-Some.rest.now = search rules in
    rw (parts)
    (marked_runs _ c.in-Some.run'.now c.in-Some.rest.now c.args.olds.now c.split_at.result.0.now c.split_at.result.1.now c.args.gone.now c.clear_run.new.gone c.clear_runs.new.gone c.args.mark
    (search rules) (search rules) (search rules) (search rules) c.clear_run.ensures.others c.clear_runs.ensures.others c.clear_run.ensures.kept c.clear_runs.ensures.kept)
