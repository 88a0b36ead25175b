use Rattle.std.proofs.Common.{◌≡◌, ◌<◌, ◌∷◌, ◌++◌, [], length, map, arith, rules, sym}
use Rattle.std.proofs.lemmas.Result.{err_from_is_err_and}
use Rattle.serde_json.specs.View.{view}
use Rattle.script.specs.Lists.{each}
use Rattle.script.specs.Events.{event_at}
use Rattle.script.proofs.Each.{each_on, each_err, fails_at}
use Rattle.script.proofs.event.read_events.Goals as goal

pub returns-in_err-event : goal.returns-in_err-event
returns-in_err-event c =
    let p = err_from_is_err_and c.from_residual.result c.from_residual.ensures.1 in
    let lt : c.loop-i.i < length c.args.items.now = omega arith in
    rw (p.1, p.2) (fails_at _ (each event_at 0 (map view c.args.items.now)) (each_err event_at c.args.items.now c.loop-i.i c.index-items-i.result _ c.loop-i.events.items _ lt c.index-items-i.is c.loop-i.invariant (sym c.in_err-event.ensures)))

pub loop-i-preserved : goal.loop-i-preserved
loop-i-preserved c =
    let lt : c.loop-i.i < length c.args.items.now = omega arith in
    let items : c.push.new.self.items ≡ c.loop-i.events.items ++ c.in_ok-event.event ∷ [] = search rules in
    rw items (each_on event_at c.args.items.now c.loop-i.i c.index-items-i.result c.in_ok-event.event c.loop-i.events.items _ lt c.index-items-i.is c.loop-i.invariant (sym c.in_ok-event.ensures))
