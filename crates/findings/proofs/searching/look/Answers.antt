use Rattle.findings.proofs.Common.{rules}
use Rattle.findings.proofs.searching.look.Goals as goal

pub returns-clause-added : goal.returns-clause-added
returns-clause-added c = search rules
