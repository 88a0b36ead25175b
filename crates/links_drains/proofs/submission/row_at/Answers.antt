use Rattle.links_drains.proofs.Common.{◌∙◌, ap, get_or_from_slice_get, result_err}
use Rattle.links_drains.proofs.Batching.{row_is_row_of}
use Rattle.links_drains.proofs.submission.row_at.Goals as goal

pub returns-clause-row : goal.returns-clause-row
returns-clause-row c = λ e g.
    row_is_row_of c.args.world.now c.args.first c.args.entries.now c.args.i c.args.unit _ e _ _ _ _ _ c.new_row.ensures c.check_timed-checked.ensures.time c.previous_at.ensures
    (c.err-error.ensures.value ∙ ap result_err c.check_timed-checked.ensures.op) c.target_at-target.ensures (get_or_from_slice_get c.args.entries.now c.args.i e _ g)
