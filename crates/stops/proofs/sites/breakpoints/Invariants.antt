use Rattle.std.proofs.Common.{◌≡◌, take}
use Rattle.std.specs.List.{flat_map}
use Rattle.stops.specs.SiteMoments.{moments_before}
use Rattle.stops.proofs.sites.breakpoints.Given as goal

abbrev pub invariant-loop-site : goal.invariant-loop-site
invariant-loop-site l = l.moments.items ≡ flat_map (moments_before l.walker) (take l.site-index l.sites)
