use Rattle.std.proofs.Common.{length, arith}
use Rattle.findings.proofs.Prefixes.{searched_longer}
use Rattle.exploring.proofs.random_runs.RandomRuns.examine_run.Goals as goal

pub make-requires-clause-stays : goal.make-requires-clause-stays
make-requires-clause-stays c = λ o es more most h. searched_longer _ es more (length es) _ _ _ _ _ _ (omega arith) most h
