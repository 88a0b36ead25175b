use Rattle.timeline_values.proofs.Common.{◌≡◌, view, bytes_below}
use Rattle.timeline_values.proofs.values.read_bytes.Given as goal

abbrev pub invariant-loop-index : goal.invariant-loop-index
invariant-loop-index l = l.bytes.items ≡ bytes_below (view l.state) l.region l.index
