-- The finder that a copy of a table shows.
use Rattle.links_drains.specs.declared.finder.Finder.{Finder}
use Rattle.links_drains.specs.declared.finder.sharing.SharedFinder.{SharedFinder}

abbrev pub finder_in : SharedFinder → Finder
finder_in copy = record { last = copy.last; previous = copy.previous; holding = copy.holding }
