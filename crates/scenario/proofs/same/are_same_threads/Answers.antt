use Rattle.std.proofs.Common.{rules}
use Rattle.std.proofs.lemmas.List.{same_lists}
use Rattle.scenario.proofs.same.are_same_threads.Goals as goal

pub returns : goal.returns
returns c = ((λ _. same_lists c.args.xs.now c.args.ys.now (search rules) (λ k d h. c.loop-i.invariant k d (search rules))), λ _. search rules)
