use Rattle.findings.proofs.Common.{◌≡◌, ◌++◌, length, flat_map, members_of, severs_chain, cancels_at}
use Rattle.findings.proofs.completed.add_changes.Given as goal

abbrev pub invariant-loop-change : goal.invariant-loop-change
invariant-loop-change l =
    (l.completed.severing.items ++ flat_map (members_of (severs_chain l.state.table) l.state.table) l.rest ≡ l.fn.completed.severing.items ++ flat_map (members_of (severs_chain l.state.table) l.state.table) l.fn.rest)
    × (l.completed.canceled.items ++ flat_map (members_of cancels_at l.state.table) l.rest ≡ l.fn.completed.canceled.items ++ flat_map (members_of cancels_at l.state.table) l.fn.rest)

abbrev pub decreases-loop-change : goal.decreases-loop-change
decreases-loop-change l = length l.rest
