use Rattle.std.proofs.Common.{◌∙◌, sym, ap, get_or, arith, ◌%◌}
use Rattle.shared_pages.proofs.Joining.{get-elements, page_of, page_within, within_list}
use Rattle.shared_pages.proofs.list.PagedListIndexUsize.index.Goals as goal

pub index-page-requires : goal.index-page-requires
index-page-requires g c =
    let below = within_list g.row.N c.self.inside.len c.self.inside.pages.items c.args.i c.self.invariant (rw (← c.self.view_is) at c.requires) in
    rw c.self.inside.pages.ok.0 (page_within g.row.N c.self.inside.len c.self.inside.pages.items c.args.i c.self.invariant below)

pub bounds-as_slice-i : goal.bounds-as_slice-i
bounds-as_slice-i g c =
    let below = within_list g.row.N c.self.inside.len c.self.inside.pages.items c.args.i c.self.invariant (rw (← c.self.view_is) at c.requires) in
    let page = page_of g.row.N c.self.inside.len c.self.inside.pages.items c.args.i c.index-page.result.now c.self.invariant below c.index-page.ensures in
    rw c.as_slice.ensures page.2

pub offset_bounds-as_slice-i : goal.offset_bounds-as_slice-i
offset_bounds-as_slice-i g c =
    let below = within_list g.row.N c.self.inside.len c.self.inside.pages.items c.args.i c.self.invariant (rw (← c.self.view_is) at c.requires) in
    let page = page_of g.row.N c.self.inside.len c.self.inside.pages.items c.args.i c.index-page.result.now c.self.invariant below c.index-page.ensures in
    let size = page.2 in
    rw c.as_slice.ensures (omega (arith, size))

pub returns : goal.returns
returns g c =
    let below = within_list g.row.N c.self.inside.len c.self.inside.pages.items c.args.i c.self.invariant (rw (← c.self.view_is) at c.requires) in
    let page = page_of g.row.N c.self.inside.len c.self.inside.pages.items c.args.i c.index-page.result.now c.self.invariant below c.index-page.ensures in
    rw (← c.self.view_is) (
    c.index-as_slice-i.is
    ∙ ap (λ xs. get_or xs (c.args.i % g.row.N) c.index-as_slice-i.result) c.as_slice.ensures
    ∙ sym (get-elements g.row.N c.self.inside.len c.self.inside.pages.items c.args.i c.index-page.result.now c.index-as_slice-i.result c.self.invariant below page.0)
    )
