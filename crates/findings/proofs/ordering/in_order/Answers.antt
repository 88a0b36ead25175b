use Rattle.findings.proofs.Common.{dedup_is, Contains-dedup, Contains-from_dedup, IsStrictlySortedBy-dedup, Contains-permutation, IsPermutation-sym}
use Rattle.findings.proofs.Same.{finding_same}
use Rattle.finding_kinds.specs.contracts.finding.FindingOrd.TheImpl.Laws as ordered
use Rattle.finding_kinds.specs.contracts.finding.FindingEq.TheImpl.Laws as compared
use Rattle.findings.proofs.ordering.in_order.Goals as goal

pub returns-clause-rises : goal.returns-clause-rises
returns-clause-rises c = rw (dedup_is _ _ _ c.dedup.ensures.filtered) (IsStrictlySortedBy-dedup ordered.total-law ordered.matches_eq-law _ c.sort_unstable.ensures.sorted)

pub returns-clause-same : goal.returns-clause-same
returns-clause-same c =
    let is = dedup_is _ _ _ c.dedup.ensures.filtered in
    let moved = c.sort_unstable.ensures.permutation in
    record {
      there = λ f h. rw is (Contains-dedup compared.laws-law finding_same _ f (Contains-permutation _ _ f moved h));
      back = λ f h. Contains-permutation _ _ f (IsPermutation-sym _ _ moved) (Contains-from_dedup _ _ f (rw is at h));
    }
