use Rattle.prompt_order.proofs.Prompting.{late_not_prompt}
use Rattle.prompt_order.proofs.late.is_prompt.Goals as goal

pub returns-in-Some : goal.returns-in-Some
returns-in-Some c = late_not_prompt c.args.setup.now c.args.events.now _ _ _ (rw c.in-Some.is at c.in_ok-first_late.ensures.some)
