-- How many bytes are written to pipes in a whole run.
use Rattle.machine.proofs.Common.{◌*◌, ◌^◌, arith, ended_of, ended-le-length, PutsWithin, puts_more, WellFormed, Machine}

-- The counters of pipes have room for the bytes of one more request.
pub puts_fit : (m : Machine) → WellFormed m → PutsWithin (2 ^ 63) m.world
puts_fit m f = puts_more (65536 * ended_of m.table) (2 ^ 63) m.world (let a = ended-le-length m.table in let b = f.mostly.table.few in omega (arith, a, b)) f.puts
