use Rattle.findings.proofs.Common.{append_assoc, rules}
use Rattle.findings.proofs.record.add_of_row.Goals as goal

pub returns : goal.returns
returns c = search (rules, append_assoc)
