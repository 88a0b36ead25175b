-- Answered here, so that a wrong body fails at once.
use Rattle.findings.proofs.Common.{append_assoc, rules}
use Rattle.findings.proofs.record.add_of_event.Goals as goal

pub returns : goal.returns
returns c = search (rules, append_assoc)
