use Rattle.std.proofs.Common.{rules, ◌<◌, length, refl}
use Rattle.sampling.specs.Draws.{source_of}
use Rattle.sampling.proofs.RunLemmas.{run_programs, next_accepted, opening_more}
use Rattle.sampling.proofs.opening.begin.Goals as goal

pub events-preserved : goal.events-preserved
events-preserved g c =
    let was = c.events.invariant in
    let less : length c.events.into.events.items < c.args.options.most = search rules in
    record {
      opening = opening_more c.args.program.now c.args.options c.events.state c.events.into.events.items c.advance.new.into.events.items c.events.into.records.items c.events.into.next_row c.in-Some.next.event c.in-Some.next.row was.opening was.linked less c.in-Some.ensures c.in_ok-advance.ensures.events;
      linked = rw c.setup.ensures at c.advance.ensures.linked;
      seen = rw c.setup.ensures at c.in_ok-advance.ensures.seen;
    }

pub forced-requires : goal.forced-requires
forced-requires g c =
    let linked = c.events.invariant.linked in
    record { programs = run_programs c.args.program.now c.events.state c.events.into.events.items c.events.into.records.items linked }

pub advance-requires-clause-accepted : goal.advance-requires-clause-accepted
advance-requires-clause-accepted g c = next_accepted (source_of c.args.options 0 0) c.events.state c.events.into.next_row c.in-Some.next.event c.in-Some.next.row (c.in-Some.ensures (source_of c.args.options 0 0) refl)
