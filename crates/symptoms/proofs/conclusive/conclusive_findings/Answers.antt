use Rattle.findings.proofs.Followed.{few_threads}
use Rattle.symptoms.proofs.ConclusiveFindings.{conclusive_at}
use Rattle.symptoms.proofs.conclusive.conclusive_findings.Goals as goal

pub ends_over-requires : goal.ends_over-requires
ends_over-requires c = few_threads _ _ c.args.state.now _ _ _ _ _ _ c.requires.seen c.requires.at

pub returns : goal.returns
returns c = conclusive_at _ _ _ _ _ _ c.requires.at c.in_ok-is_over.ensures c.in_ok-findings.ensures c.keep_conclusive.ensures
