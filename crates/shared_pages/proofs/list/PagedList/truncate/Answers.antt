use Rattle.std.proofs.Common.{sym, arith}
use Rattle.std.proofs.lemmas.List.{take_all}
use Rattle.shared_pages.proofs.Joining.{length-elements, take-elements}
use Rattle.shared_pages.proofs.list.PagedList.truncate.Goals as goal

pub returns-then-n-self : goal.returns-then-n-self
returns-then-n-self g c = rw (← c.self.view_is) (sym (take-elements g.row.N c.self.inside.len c.args.n c.self.inside.pages.items (omega (arith, c.if-n-self.true))))

pub returns-else-n-self : goal.returns-else-n-self
returns-else-n-self g c =
    let len = length-elements g.row.N c.self.inside.len c.self.inside.pages.items c.self.invariant in
    rw (← c.self.view_is) (sym (take_all c.args.n _ (omega (arith, len, c.if-n-self.false))))
