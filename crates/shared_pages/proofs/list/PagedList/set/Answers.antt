use Rattle.std.proofs.Common.{◌∙◌, ap, set, length, ◌/◌}
use Rattle.std.proofs.lemmas.List.{length-set}
use Rattle.shared_pages.specs.Lists.{elements}
use Rattle.shared_pages.proofs.Joining.{page_of, page_within, paged_set, set-elements, within_list}
use Rattle.shared_pages.proofs.list.PagedList.set.Goals as goal

pub index_mut-page-requires : goal.index_mut-page-requires
index_mut-page-requires g c =
    let below = within_list g.row.N c.self.inside.len c.self.inside.pages.items c.args.i c.self.invariant (rw (← c.self.view_is) at c.requires) in
    rw c.self.inside.pages.ok.0 (page_within g.row.N c.self.inside.len c.self.inside.pages.items c.args.i c.self.invariant below)

pub set-requires : goal.set-requires
set-requires g c =
    let below = within_list g.row.N c.self.inside.len c.self.inside.pages.items c.args.i c.self.invariant (rw (← c.self.view_is) at c.requires) in
    (page_of g.row.N c.self.inside.len c.self.inside.pages.items c.args.i c.index_mut-page.result.now c.self.invariant below c.index_mut-page.ensures.value).2

pub invariant_of-self : goal.invariant_of-self
invariant_of-self g c =
    let below = within_list g.row.N c.self.inside.len c.self.inside.pages.items c.args.i c.self.invariant (rw (← c.self.view_is) at c.requires) in
    let page = page_of g.row.N c.self.inside.len c.self.inside.pages.items c.args.i c.index_mut-page.result.now c.self.invariant below c.index_mut-page.ensures.value in
    paged_set g.row.N c.self.inside.len c.self.inside.pages.items (c.args.i / g.row.N) c.set.new.self c.self.invariant (ap length c.set.ensures ∙ length-set c.index_mut-page.result.now _ _ ∙ page.1)

pub returns : goal.returns
returns g c =
    let below = within_list g.row.N c.self.inside.len c.self.inside.pages.items c.args.i c.self.invariant (rw (← c.self.view_is) at c.requires) in
    let page = page_of g.row.N c.self.inside.len c.self.inside.pages.items c.args.i c.index_mut-page.result.now c.self.invariant below c.index_mut-page.ensures.value in
    rw (← c.self.view_is) (
    ap (λ p. elements c.self.inside.len (set c.self.inside.pages.items (c.args.i / g.row.N) p)) c.set.ensures
    ∙ set-elements g.row.N c.self.inside.len c.self.inside.pages.items c.args.i c.index_mut-page.result.now c.args.element c.self.invariant below page.0
    )
