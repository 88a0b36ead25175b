use Rattle.traces.proofs.Kept.{canonical_starts, completion_size_kept, submission_size_kept}
use Rattle.traces.proofs.Trimming.{only_zeros}
use Rattle.traces.proofs.laws.spelled_setups_start.Goals as goal

pub returns-clause-starts : goal.returns-clause-starts
returns-clause-starts c = canonical_starts

pub returns-clause-sizes : goal.returns-clause-sizes
returns-clause-sizes c = λ s h. (submission_size_kept s h, completion_size_kept s h)

pub returns-clause-memory : goal.returns-clause-memory
returns-clause-memory c = λ s. let z = only_zeros s.memory in (z.count, z.are)
