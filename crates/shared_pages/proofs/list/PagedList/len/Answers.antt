use Rattle.std.proofs.Common.{sym}
use Rattle.shared_pages.proofs.Joining.{length-elements}
use Rattle.shared_pages.proofs.list.PagedList.len.Goals as goal

pub returns : goal.returns
returns g c = rw (← c.self.view_is) (sym (length-elements g.row.N c.self.inside.len c.self.inside.pages.items c.self.invariant))
