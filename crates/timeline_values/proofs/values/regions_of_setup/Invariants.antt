use Rattle.std.proofs.Common.{◌≡◌, ◌++◌, drop}
use Rattle.timeline_values.specs.Values.{regions_from, setup_regions}
use Rattle.timeline_values.proofs.values.regions_of_setup.Given as goal

abbrev pub invariant-loop-number : goal.invariant-loop-number
invariant-loop-number l = l.regions.items ++ regions_from l.number (drop l.number l.setup.objects) ≡ setup_regions l.setup
