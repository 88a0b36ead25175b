use Rattle.std.proofs.Common.{take}
use Rattle.machine.specs.Whole.{view}
use Rattle.timeline_values.specs.Values.{AreRegions}
use Rattle.timeline_values.proofs.values.region_parts.Given as goal

abbrev pub invariant-loop-region : goal.invariant-loop-region
invariant-loop-region l = AreRegions l.setup (view l.state) l.count (take l.region-index l.regions) l.out.items
