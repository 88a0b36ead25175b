use Rattle.std.proofs.Common.{◌∙◌}
use Rattle.commands.proofs.Breaking.{break_seen, no_break}
use Rattle.commands.proofs.breaks.parse_break.Goals as goal

pub returns-in-Some : goal.returns-in-Some
returns-in-Some c = c.parse_parts.ensures ∙ break_seen c.args.setup.now c.args.words.now c.in-Some.at c.in-Some.ensures.value

pub returns-in-None : goal.returns-in-None
returns-in-None c = no_break c.args.setup.now c.args.words.now c.in-None.ensures.value
