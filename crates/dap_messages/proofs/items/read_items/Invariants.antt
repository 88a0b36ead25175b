use Rattle.std.proofs.Common.{◌≡◌, map, drop}
use Rattle.serde_json.specs.View.{view}
use Rattle.dap_messages.specs.Values.{each}
use Rattle.dap_messages.proofs.Each.{with_front}
use Rattle.dap_messages.proofs.items.read_items.Given as goal

abbrev pub invariant-loop-value : goal.invariant-loop-value
invariant-loop-value g l = with_front l.items.items (each g.T.Item.reads (drop l.value-index (map view l.values))) ≡ each g.T.Item.reads (map view l.values)
