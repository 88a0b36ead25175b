use Rattle.std.proofs.Common.{◌≡◌, take}
use Rattle.std.specs.List.{flat_map}
use Rattle.timeline_values.specs.Values.{byte_of, value_on}
use Rattle.timeline_values.proofs.changes.bytes_on.Given as goal

abbrev pub invariant-loop-changed : goal.invariant-loop-changed
invariant-loop-changed l = l.bytes.items ≡ flat_map (λ d. byte_of (value_on l.side d)) (take l.changed-index l.row)
