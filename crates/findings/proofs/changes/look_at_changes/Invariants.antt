use Rattle.findings.proofs.Common.{◌≡◌, ◌++◌, length, flat_map, view, noted_by, of_change, after_notes, IsListed}
use Rattle.findings.proofs.changes.look_at_changes.Given as goal

abbrev pub invariant-loop-place : goal.invariant-loop-place
invariant-loop-place l = (l.found.items ++ flat_map (of_change l.at.moment (noted_by l.at.setup.now l.at.past.now l.at.before l.at.event l.at.state.now) l.at.state.now.table) l.rest ≡ l.fn.found.items ++ flat_map (of_change l.at.moment (noted_by l.at.setup.now l.at.past.now l.at.before l.at.event l.at.state.now) l.at.state.now.table) l.fn.rest)
    × (after_notes (view l.at.state.now) l.numbers.items l.rest ≡ after_notes (view l.at.state.now) l.fn.numbers.items l.fn.rest)
    × IsListed l.at.state.now l.at.past.now l.completed

abbrev pub decreases-loop-place : goal.decreases-loop-place
decreases-loop-place l = length l.rest

abbrev pub invariant-loop-change : goal.invariant-loop-change
invariant-loop-change l = (l.found.items ++ flat_map (of_change l.at.moment (noted_by l.at.setup.now l.at.past.now l.at.before l.at.event l.at.state.now) l.at.state.now.table) l.rest ≡ l.fn.found.items ++ flat_map (of_change l.at.moment (noted_by l.at.setup.now l.at.past.now l.at.before l.at.event l.at.state.now) l.at.state.now.table) l.fn.rest)
    × (after_notes (view l.at.state.now) l.numbers.items l.rest ≡ after_notes (view l.at.state.now) l.fn.numbers.items l.fn.rest)
    × IsListed l.at.state.now l.at.past.now l.completed

abbrev pub decreases-loop-change : goal.decreases-loop-change
decreases-loop-change l = length l.rest
