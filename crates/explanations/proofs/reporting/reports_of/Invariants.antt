use Rattle.std.proofs.Common.{All}
use Rattle.explanations.proofs.Common.{◌≡◌, take, findings_in}
use Rattle.explanations.specs.ReportLists.{HasSubject}
use Rattle.explanations.proofs.reporting.reports_of.Given as goal

abbrev pub invariant-loop-index : goal.invariant-loop-index
invariant-loop-index l = record {
  listed : findings_in l.reports.items ≡ take l.index l.run.found.now;
  subjects : All HasSubject l.reports.items;
}
