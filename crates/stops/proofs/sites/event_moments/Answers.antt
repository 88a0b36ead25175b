use Rattle.std.proofs.Common.{◌∙◌, length, arith}
use Rattle.stops.proofs.Visits.{lone, none_past}
use Rattle.stops.proofs.sites.event_moments.Goals as goal

pub returns-then-index-len : goal.returns-then-index-len
returns-then-index-len c = c.new-moments.ensures.items ∙ none_past c.args.index 0 (length c.args.walker.now.events) (omega arith)

pub returns : goal.returns
returns c = rw c.new-moments.ensures.items at c.in_ok-push.ensures.items ∙ lone c.args.index 0 (length c.args.walker.now.events) (omega arith) (omega arith)
