-- The moments at which watches stop a run are on the way.
use Rattle.std.proofs.Common.{◌<◌, List, IfSome}
use Rattle.inverse_log.specs.Walks.{Walk}
use Rattle.places.specs.declared.place.Place.{Place}
use Rattle.watches.specs.Stops.{IsEarlier, IsLater}
use Rattle.watches.specs.Watchpoints.{Stops}
use Rattle.watches.specs.declared.stopping.Stop.{Stop}
use Rattle.watches.specs.declared.stopping.Stop.TheVariants as stop
use Rattle.dap_session.specs.Moves.{watched_moment}

pub watched_later : (w : Walk) (v : Stops) (s : Stop) → IsLater w v s → IfSome (watched_moment s) (λ m. w.at < m)
watched_later w v (stop.Change m) h = h.0
watched_later w v (stop.Met m) h = h.0
watched_later w v stop.Start h = tt
watched_later w v stop.End h = tt

pub watched_earlier : (w : Walk) (ps : List Place) (s : Stop) → IsEarlier w ps s → IfSome (watched_moment s) (λ m. m < w.at)
watched_earlier w ps (stop.Change m) h = h.0
watched_earlier w ps (stop.Met m) h = absurd h
watched_earlier w ps stop.Start h = tt
watched_earlier w ps stop.End h = tt
