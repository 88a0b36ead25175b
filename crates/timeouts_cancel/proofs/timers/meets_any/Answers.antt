use Rattle.timeouts_cancel.proofs.Common.{◌∙◌, sym}
use Rattle.timeouts_cancel.proofs.Meeting.{met_none}
use Rattle.timeouts_cancel.proofs.timers.meets_any.Goals as goal

pub returns : goal.returns
returns c = λ none. met_none c.args.table.now c.args.total c.next_met.result c.next_met.ensures.none (sym c.is_some.ensures ∙ none)
