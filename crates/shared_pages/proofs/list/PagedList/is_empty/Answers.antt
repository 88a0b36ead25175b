use Rattle.std.proofs.Common.{sym, ap}
use Rattle.std.specs.Prelude.{◌==◌}
use Rattle.shared_pages.proofs.Joining.{length-elements}
use Rattle.shared_pages.proofs.list.PagedList.is_empty.Goals as goal

pub returns : goal.returns
returns g c = rw (← c.self.view_is) (ap (λ n. n == 0) (sym (length-elements g.row.N c.self.inside.len c.self.inside.pages.items c.self.invariant)))
