use Rattle.std.proofs.Common.{sym, ◌∙◌}
use Rattle.live_rules.proofs.Ends.{timer_unfinished}
use Rattle.live_rules.proofs.offering.may_finish.Goals as goal

pub returns-in-Some : goal.returns-in-Some
returns-in-Some c = sym (timer_unfinished c.args.state.now c.args.r _ c.requires.formed (sym c.requires.deadline ∙ c.in-Some.is))
