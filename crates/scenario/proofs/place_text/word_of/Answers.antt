-- Answered here, so that a wrong body fails at once.
use Rattle.std.proofs.Common.{rules}
use Rattle.scenario.proofs.place_text.word_of.Goals as goal

pub returns-in-Got : goal.returns-in-Got
returns-in-Got c = search rules
