use Rattle.links_drains.proofs.Common.{◌≡◌, ◌-◌, take, drop, List, Sqe, WorldState, Submitted, direct_result, endings_from}
use Rattle.links_drains.proofs.failing.direct_ends.Given as goal

abbrev pub invariant-loop-i : goal.invariant-loop-i
invariant-loop-i l =
    (w : WorldState) (es : List Sqe) → Submitted w es l.first l.rows l.errors
    → l.direct.items ≡ endings_from (λ r row. direct_result w es (r - l.first)) l.first (take l.i (drop l.first l.rows))
