use Rattle.std.proofs.Common.{rules, ◌≡◌}
use Rattle.std.specs.Prelude.{◌≢◌}
use Rattle.traces.specs.Setups.{canonical, IsTrace2}
use Rattle.traces.proofs.SecondForm.{transfers}
use Rattle.rewriting.proofs.Setups.{same_setup, other_setup}
use Rattle.rewriting.proofs.trace.events_of.Goals as goal

pub write_trace2-requires-clause-transfers : goal.write_trace2-requires-clause-transfers
write_trace2-requires-clause-transfers c = rw c.deref.ensures.value (transfers c.in-Ok.found.1.items c.in-Ok.ensures.found.are_events.1)

pub returns-then-eq-clause-ok : goal.returns-then-eq-clause-ok
returns-then-eq-clause-ok c =
    let events = c.in-Ok.found.1.items in
    let same = c.in_ok-same.same.items in
    let written : IsTrace2 (canonical c.args.setup.now) events same = search rules in
    let equal : same ≡ c.args.trace.now = search rules in
    same_setup _ events _ same written equal

pub returns-else-eq-clause-err : goal.returns-else-eq-clause-err
returns-else-eq-clause-err c = λ text.
    let events = c.in-Ok.found.1.items in
    let same = c.in_ok-same.same.items in
    let written : IsTrace2 (canonical c.args.setup.now) events same = search rules in
    let differ : same ≢ c.args.trace.now = λ e. search rules in
    (c.in-Ok.found.0, events, c.in-Ok.ensures.found, other_setup _ _ events _ same c.in-Ok.ensures.found written differ)
