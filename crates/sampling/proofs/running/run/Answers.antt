use Rattle.std.proofs.Common.{rules, ◌<◌, ◌≤◌, length}
use Rattle.machine.specs.Runs.{start}
use Rattle.sampling.proofs.RunLemmas.{run_programs, next_accepted, begun_more, begins_more, run_ends, run_is_full}
use Rattle.sampling.proofs.running.run.Goals as goal

pub events-preserved : goal.events-preserved
events-preserved g c =
    let was = c.events.invariant in
    let less : length c.events.into.events.items < c.args.most = search rules in
    let more = c.in_ok-advance.ensures.events in
    record {
      begins = begins_more c.args.into.now.events.items c.events.into.events.items c.advance.new.into.events.items c.in-Some.next.event was.begins more;
      begun = begun_more c.args.source.now c.args.most (start c.args.program.now) c.events.state c.advance.new.state c.events.into.events.items c.advance.new.into.events.items c.events.into.next_row c.events.into.records.items c.advance.new.into.records.items c.in-Some.next.event c.in-Some.next.row was.begun less c.in-Some.ensures.some more (rw c.setup.ensures at c.advance.ensures.linked);
      seen = rw c.setup.ensures at c.in_ok-advance.ensures.seen;
    }

pub returns-in_default-clause-run : goal.returns-in_default-clause-run
returns-in_default-clause-run g c =
    run_ends c.args.source.now c.args.most (start c.args.program.now) c.events.state c.events.into.events.items c.events.into.next_row c.events.into.records.items c.events.invariant.begun c.in_default.ensures.none

pub returns-clause-run : goal.returns-clause-run
returns-clause-run g c =
    let full : c.args.most ≤ length c.events.into.events.items = search rules in
    run_is_full c.args.source.now c.args.most (start c.args.program.now) c.events.state c.events.into.events.items c.events.into.next_row c.events.into.records.items c.events.invariant.begun full

pub next_event-requires : goal.next_event-requires
next_event-requires g c =
    let linked = c.events.invariant.begun.linked in
    record { programs = run_programs c.args.program.now c.events.state c.events.into.events.items c.events.into.records.items linked }

pub advance-requires-clause-accepted : goal.advance-requires-clause-accepted
advance-requires-clause-accepted g c = next_accepted c.args.source.now c.events.state c.events.into.next_row c.in-Some.next.event c.in-Some.next.row c.in-Some.ensures.some
