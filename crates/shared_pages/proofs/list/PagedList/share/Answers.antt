use Rattle.std.proofs.Common.{◌∙◌, ap}
use Rattle.shared_pages.specs.Lists.{elements}
use Rattle.shared_pages.proofs.Joining.{elements-take}
use Rattle.shared_pages.proofs.list.PagedList.share.Goals as goal

pub returns-clause-ok : goal.returns-clause-ok
returns-clause-ok g c =
    rw (← c.self.view_is) (
    ap (elements c.self.inside.len) c.in_ok-pages.ensures.ok
    ∙ elements-take g.row.N c.self.inside.len c.pages_of.result c.self.inside.pages.items c.self.invariant c.pages_of.ensures.enough
    )
