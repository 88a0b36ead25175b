-- Assigning the value of one poller to another.
use Rattle.std.proofs.Common.{◌≡◌, refl}
use Rattle.places.specs.declared.place.Place.{Place}
use Rattle.places.specs.declared.place.Place.TheVariants.{PollerStage}
use Rattle.sqpoll.specs.declared.poller.Poller.{Poller}
use Rattle.sqpoll.specs.declared.poller.Poller.TheVariants.{Awake, Asleep}
use Rattle.sqpoll.specs.Pollers.{poller_seen}

-- Pollers with equal views are equal.
pub same_poller : (s m : Poller) → ((p : Place) → poller_seen s p ≡ poller_seen m p) → s ≡ m
same_poller Awake Awake e = refl
same_poller Awake Asleep e = let k = e PollerStage in absurd cc
same_poller Asleep Awake e = let k = e PollerStage in absurd cc
same_poller Asleep Asleep e = refl
