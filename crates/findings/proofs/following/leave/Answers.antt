use Rattle.findings.proofs.Common.{rules, filter_same}
use Rattle.findings.proofs.following.leave.Goals as goal

pub returns : goal.returns
returns c = filter_same _ _ _ (λ x b f' k. search rules) _ _ c.retain.ensures.filtered
