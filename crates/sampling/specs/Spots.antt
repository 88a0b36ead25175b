-- Where a thread is in its program.
use Rattle.machine.specs.Threads.{ThreadState}
use Rattle.sampling.specs.Locks.{is_waiting}
use Rattle.sampling.specs.declared.locks.Spot.{Spot}

abbrev pub spot_of : ThreadState → Spot
spot_of x = record { counter = x.counter; is_waiting = is_waiting x.stage }
