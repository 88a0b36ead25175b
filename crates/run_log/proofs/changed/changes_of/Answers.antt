use Rattle.run_log.proofs.Common.{rules, IsNonDecreasingBy-from_sort_by_key, rank}
use Rattle.run_log.proofs.changed.changes_of.Goals as goal

pub returns-clause-listing : goal.returns-clause-listing
returns-clause-listing c = record {
  all = rw (← c.in_ok-list.ensures.listed) c.sort_unstable_by_key.ensures.permutation;
  order = IsNonDecreasingBy-from_sort_by_key (λ d. rank d.place) _ c.sort_unstable_by_key.ensures.sorted (λ a r q k. search rules);
}
