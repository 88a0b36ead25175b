use Rattle.std.proofs.Common.{◌≡◌, map, drop}
use Rattle.serde_json.specs.View.{view}
use Rattle.script.specs.Lists.{each}
use Rattle.script.specs.Events.{event_at}
use Rattle.script.proofs.Each.{with_front}
use Rattle.script.proofs.event.read_events.Given as goal

abbrev pub invariant-loop-i : goal.invariant-loop-i
invariant-loop-i l = with_front l.events.items (each event_at l.i (drop l.i (map view l.items))) ≡ each event_at 0 (map view l.items)
