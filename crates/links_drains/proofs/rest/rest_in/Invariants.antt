use Rattle.std.proofs.Common.{◌≡◌}
use Rattle.links_drains.proofs.RestOfUnit.{rest_to}
use Rattle.links_drains.proofs.rest.rest_in.Given as goal

abbrev pub invariant-loop-k : goal.invariant-loop-k
invariant-loop-k l = l.rest.items ≡ rest_to l.rows l.r l.k
