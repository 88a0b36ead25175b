use Rattle.std.proofs.Common.{◌≡◌, [], refl, rules}
use Rattle.places.specs.Runs.{run_changes}
use Rattle.places.proofs.Summing.{summed_ones, summed_append, summed_runs}
use Rattle.places.proofs.summary.of_rest.Goals as goal

pub returns-then-not-has_no_odd : goal.returns-then-not-has_no_odd
returns-then-not-has_no_odd c = summed_ones _

pub returns-else-has_no_bytes : goal.returns-else-has_no_bytes
returns-else-has_no_bytes c =
    let none : c.args.rest.now.odd ≡ [] = search rules in
    rw none (summed_append _ (run_changes c.args.rest.now.runs c.args.rest.now.olds) [] (summed_runs _ c.args.rest.now.runs c.args.rest.now.olds refl) tt)
