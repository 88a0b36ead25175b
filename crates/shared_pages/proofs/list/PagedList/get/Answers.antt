use Rattle.std.proofs.Common.{refl, sym, length, arith}
use Rattle.std.proofs.lemmas.Option.{slice_get_past, slice_get_read}
use Rattle.shared_pages.proofs.Joining.{length-elements}
use Rattle.shared_pages.proofs.list.PagedList.get.Goals as goal

pub index-requires : goal.index-requires
index-requires g c =
    let len = length-elements g.row.N c.self.inside.len c.self.inside.pages.items c.self.invariant in
    (omega arith, rw (← c.self.view_is) (omega (arith, len, c.if-i-self.true)))

pub returns-then-i-self : goal.returns-then-i-self
returns-then-i-self g c =
    let len = length-elements g.row.N c.self.inside.len c.self.inside.pages.items c.self.invariant in
    sym (slice_get_read c.args.self.now (length c.args.self.now) c.args.i c.index.result.now refl (rw (← c.self.view_is) (omega (arith, len, c.if-i-self.true))) c.index.ensures)

pub returns-else-i-self : goal.returns-else-i-self
returns-else-i-self g c =
    let len = length-elements g.row.N c.self.inside.len c.self.inside.pages.items c.self.invariant in
    sym (slice_get_past c.args.self.now c.args.i (rw (← c.self.view_is) (omega (arith, len, c.if-i-self.false))))
