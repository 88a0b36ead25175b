-- The invariant of a request table: its counts, its index and its finder match its rows.
use Rattle.std.specs.Prelude.{List}
use Rattle.links_drains.specs.Common.{Row, Held}
use Rattle.links_drains.specs.Finders.{Findable}
use Rattle.links_drains.specs.Holding.{Tallied}
use Rattle.links_drains.specs.Indexes.{Indexed}
use Rattle.links_drains.specs.declared.finder.Finder.{Finder}
use Rattle.links_drains.specs.declared.index.Index.{Index}

pub record Formed (rows : List Row) (held : Held) (index : Index) (finder : Finder) : Type 0 where
  pub tallied : Tallied rows held
  pub indexed : Indexed rows index
  pub findable : Findable rows finder
