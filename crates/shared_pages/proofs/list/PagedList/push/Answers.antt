use Rattle.std.proofs.Common.{◌∙◌, ap, set, length, ◌+◌, ◌/◌, [], ◌∷◌, ◌++◌, arith}
use Rattle.std.proofs.lemmas.List.{length-set}
use Rattle.shared_pages.specs.Lists.{elements}
use Rattle.shared_pages.proofs.Joining.{length-elements, page_of, paged_more, paged_set, push-elements}
use Rattle.shared_pages.proofs.list.PagedList.push.Goals as goal

pub set-requires : goal.set-requires
set-requires g c =
    let room = c.in_ok-make_room.ensures.room in
    let more = paged_more g.row.N c.self.inside.len (c.self.inside.len + 1) c.make_room.new.pages.items c.in_ok-make_room.ensures.paged (omega (arith, room)) in
    (page_of g.row.N (c.self.inside.len + 1) c.make_room.new.pages.items c.self.inside.len c.index_mut-page.result.now more (omega arith) c.index_mut-page.ensures.value).2

pub overflow_add-self : goal.overflow_add-self
overflow_add-self g c =
    let few = rw (← c.self.view_is) at c.requires in
    let len = length-elements g.row.N c.self.inside.len c.self.inside.pages.items c.self.invariant in
    omega (arith, few, len)

pub invariant_of-self-2 : goal.invariant_of-self-2
invariant_of-self-2 g c =
    let room = c.in_ok-make_room.ensures.room in
    let more = paged_more g.row.N c.self.inside.len (c.self.inside.len + 1) c.make_room.new.pages.items c.in_ok-make_room.ensures.paged (omega (arith, room)) in
    let page = page_of g.row.N (c.self.inside.len + 1) c.make_room.new.pages.items c.self.inside.len c.index_mut-page.result.now more (omega arith) c.index_mut-page.ensures.value in
    paged_set g.row.N (c.self.inside.len + 1) c.make_room.new.pages.items (c.self.inside.len / g.row.N) c.set.new.self more (ap length c.set.ensures ∙ length-set c.index_mut-page.result.now _ _ ∙ page.1)

pub returns-clause-ok : goal.returns-clause-ok
returns-clause-ok g c =
    let room = c.in_ok-make_room.ensures.room in
    let more = paged_more g.row.N c.self.inside.len (c.self.inside.len + 1) c.make_room.new.pages.items c.in_ok-make_room.ensures.paged (omega (arith, room)) in
    let page = page_of g.row.N (c.self.inside.len + 1) c.make_room.new.pages.items c.self.inside.len c.index_mut-page.result.now more (omega arith) c.index_mut-page.ensures.value in
    rw (← c.self.view_is) (
    ap (λ p. elements (c.self.inside.len + 1) (set c.make_room.new.pages.items (c.self.inside.len / g.row.N) p)) c.set.ensures
    ∙ push-elements g.row.N c.self.inside.len c.make_room.new.pages.items c.index_mut-page.result.now c.args.element c.in_ok-make_room.ensures.paged room page.0
    ∙ ap (λ xs. xs ++ c.args.element ∷ []) c.in_ok-make_room.ensures.same
    )
