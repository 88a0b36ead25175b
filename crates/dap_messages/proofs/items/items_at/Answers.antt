use Rattle.std.proofs.Common.{◌≡◌, Some, map, ap, sym, ◌∙◌, subst}
use Rattle.serde_json.specs.View.{view}
use Rattle.dap_messages.specs.Faults.{Gives}
use Rattle.dap_messages.specs.Values.{each, items_in, member_of}
use Rattle.dap_messages.specs.Views.{data_in}
use Rattle.dap_messages.proofs.Each.{items_in_some}
use Rattle.dap_messages.proofs.items.items_at.Goals as goal

pub returns : goal.returns
returns g c =
    let reads = g.T.Item.reads in
    let d = view c.in-Some.value.now in
    let found : member_of c.args.field (data_in c.args.found.now) ≡ Some d = sym (c.in-Some.ensures ∙ c.member-found.ensures) in
    subst (Gives c.read_items.result)
    (ap (λ vs. each reads (map view vs)) c.deref.ensures.value
    ∙ sym (items_in_some reads c.args.field d c.in-Some-as_array.values.now.items c.in-Some-as_array.ensures)
    ∙ ap (items_in reads c.args.field) (sym found))
    c.read_items.ensures
