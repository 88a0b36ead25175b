use Rattle.std.proofs.Common.{◌≡◌, ◌<◌, ◌∷◌, ◌++◌, [], IsTrue, length, arith, rules}
use Rattle.script.specs.Events.{event_at}
use Rattle.source_map.proofs.Lists.{located_more}
use Rattle.source_map.proofs.locating.locate_events.Goals as goal

pub loop-i-preserved : goal.loop-i-preserved
loop-i-preserved c =
    let lt : c.loop-i.i < length c.args.events.now = omega arith in
    let yes : IsTrue c.in_ok-is_event.field-0 = search rules in
    let more : c.push.new.self.items ≡ c.loop-i.items.items ++ c.in-Some.item ∷ [] = search rules in
    let m = located_more event_at c.args.text.now c.loop-i.items.items c.push.new.self.items c.args.events.now c.loop-i.i _ _ c.in-Some.item c.loop-i.cursor.offset lt (search rules) c.loop-i.invariant.items c.loop-i.invariant.offset (c.in_ok-is_event.ensures yes) c.in-Some.ensures.after c.in-Some.ensures.span c.in-Some.ensures.start c.in-Some.ensures.end more in
    record { items = m.0; cursor = c.in-Some.ensures.cursor; offset = omega (arith, c.in-Some.ensures.offset, m.1) }
