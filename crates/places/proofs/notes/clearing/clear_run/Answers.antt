use Rattle.places.proofs.MaskedLemmas.{marks_left}
use Rattle.std.proofs.Common.{rules}
use Rattle.places.proofs.notes.clearing.clear_run.Goals as goal

pub returns-in-Some-clause-kept : goal.returns-in-Some-clause-kept
returns-in-Some-clause-kept g c =
    marks_left _ c.args.region c.args.start c.args.olds.now c.in-Some.now.now c.args.gone.now c.clear_alike.new.gone c.args.mark (search rules) c.clear_alike.ensures.marks
