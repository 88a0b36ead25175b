use Rattle.std.specs.Prelude.{map}
use Rattle.places.specs.Slots.{number_change, completion_change, row_change}
use Rattle.places.specs.Runs.{run_changes}
use Rattle.places.proofs.Summing.{summed_parts}
use Rattle.places.proofs.summary.summary_of.Goals as goal

pub returns : goal.returns
returns c =
    summed_parts c.of_rest-with_rest.result c.with_notes-with_numbers.result c.with_notes-with_completions.result c.with_notes.result
    (map number_change c.args.numbers.now) (map completion_change c.args.completions.now) (map row_change c.args.rows.now) (run_changes c.args.rest.now.runs c.args.rest.now.olds) c.args.rest.now.odd
    c.of_rest-with_rest.ensures c.with_notes-with_numbers.ensures.kept c.with_notes-with_numbers.ensures.set c.with_notes-with_completions.ensures.kept c.with_notes-with_completions.ensures.set c.with_notes.ensures.kept c.with_notes.ensures.set
