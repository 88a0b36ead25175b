-- Which part of the machine a place belongs to. `Rest` is the machine's own numbers and the
-- poller's stage. Public contracts don't use it.
use Rattle.std.specs.Prelude.{◌≡◌, true, false, ◌||◌}
use Rattle.machine.specs.Common.{world_owns, sub_owns, com_owns, backlog_owns, Place, table_owns}
use Rattle.machine.specs.Threads.{threads_owns}
use Rattle.machine.specs.declared.whole.Owner.{Owner}
use Rattle.machine.specs.declared.whole.Owner.TheVariants.{Submissions, Completions, World, Table, Backlog, Threads, Rest}

abbrev pub Owns : Owner → Place → Type 0
Owns Submissions p = sub_owns p ≡ true
Owns Completions p = com_owns p ≡ true
Owns World p = world_owns p ≡ true
Owns Table p = table_owns p ≡ true
Owns Backlog p = backlog_owns p ≡ true
Owns Threads p = threads_owns p ≡ true
Owns Rest p =
    (sub_owns p || com_owns p || world_owns p || table_owns p || backlog_owns p || threads_owns p) ≡ false
