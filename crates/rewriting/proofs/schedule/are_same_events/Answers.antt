use Rattle.std.proofs.Common.{rules}
use Rattle.std.proofs.lemmas.List.{same_lists}
use Rattle.rewriting.proofs.schedule.are_same_events.Goals as goal

pub returns : goal.returns
returns c = ((λ _. same_lists c.args.xs.now c.args.ys.now (search rules) (λ k d h. c.loop-i.invariant k d (search rules))), λ _. search rules)
