use Rattle.occupancy.proofs.Common.{◌≡◌, true, false, is_some, Completed, arith, rules}
use Rattle.occupancy.proofs.Counting.{beyond_list, few_kept, within_list}
use Rattle.occupancy.proofs.filling.count_overflowed.Goals as goal

pub overflow_add-count : goal.overflow_add-count
overflow_add-count c =
    let few = few_kept _ c.value.ensures.formed in
    let h = c.items.invariant in
    omega (arith, few, h)

pub items-smaller : goal.items-smaller
items-smaller c =
    let some : is_some c.value.result ≡ true = search rules in
    let within = within_list Completed c.args.state.now.backlog.items c.items.count c.value.result c.value.ensures.value some in
    omega (arith, within)

pub items-preserved : goal.items-preserved
items-preserved c =
    let some : is_some c.value.result ≡ true = search rules in
    let within = within_list Completed c.args.state.now.backlog.items c.items.count c.value.result c.value.ensures.value some in
    omega (arith, within)

pub returns : goal.returns
returns c =
    let none : is_some c.value.result ≡ false = search rules in
    let beyond = beyond_list Completed c.args.state.now.backlog.items c.items.count c.value.result c.value.ensures.value none in
    let h = c.items.invariant in
    omega (arith, beyond, h)
