use Rattle.std.proofs.Common.{◌≤◌, length, arith}
use Rattle.links_drains.proofs.Counting.{ended-le-length}
use Rattle.machine.specs.Whole.{WellFormed}
use Rattle.machine.specs.declared.whole.Machine.{Machine}
use Rattle.dap_variables.proofs.counts.has_overflowed.Goals as goal

-- No more completions overflowed than requests completed.
most : (m : Machine) → WellFormed m → length m.backlog.items ≤ 65536
most m f = omega (arith, f.mostly.kept.overflowed, ended-le-length m.table, f.mostly.table.few)

pub returns-clause-most : goal.returns-clause-most
returns-clause-most c = most c.args.state.now c.value.ensures.formed
