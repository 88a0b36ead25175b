use Rattle.std.proofs.Common.{ltb, arith, rules}
use Rattle.std.proofs.lemmas.Bool.{ltb-true}
use Rattle.std.proofs.lemmas.Bool.Decides.{nat_tests}
use Rattle.std.proofs.lemmas.List.Sorted.{IsPartitionPoint-from_clause, IsPartitionedBy-ltb}
use Rattle.stops.proofs.moments.count_below.Goals as goal

pub returns-clause-point : goal.returns-clause-point
returns-clause-point c =
    let parted = IsPartitionedBy-ltb (λ m. m) _ c.args.at c.requires in
    let point = IsPartitionPoint-from_clause (λ m. ltb m c.args.at) _ _ c.partition_point.ensures.partitioned parted (λ a r q k. search rules) in
    (λ k d x y. ltb-true _ _ (point.0 k d x y), λ k d x y. let e = point.1 k d x y in grind (arith, nat_tests))
