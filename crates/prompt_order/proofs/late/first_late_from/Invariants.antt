use Rattle.prompt_order.proofs.Prompting.{IsPromptUpTo}
use Rattle.prompt_order.proofs.late.first_late_from.Given as goal

abbrev pub invariant-loop-index : goal.invariant-loop-index
invariant-loop-index l = IsPromptUpTo l.setup l.events l.index l.from l.state
