use Rattle.std.proofs.Common.{rules, ◌≡◌}
use Rattle.live_states.proofs.AppendingLemmas.{runs_on}
use Rattle.live_states.proofs.lives.Live.events.Goals as goal

pub returns-clause-runs : goal.returns-clause-runs
returns-clause-runs g c =
    let live = c.self.inside in
    let same : c.in_ok-events.events.items ≡ live.events.items = search rules in
    rw (← c.self.view_is) (runs_on (record { setup = live.setup; actors = live.actors; events = live.events.items; owners = live.owners.items; state = live.state; total = live.book.total }) live.records.items c.in_ok-events.events.items c.self.invariant.0 same)
