use Rattle.timeouts_cancel.proofs.Common.{◌≡◌, ◌∙◌, ◌+◌, ap, subst, arith, List, IfOk, Ending, Row, counted_in, guarding}
use Rattle.timeouts_cancel.proofs.{Whole.ms, Filters.met_direct, Filters.joined_direct, Filters.guards_direct, Filters.severed_few, Filters.counted_few, Filters.met_so, Filters.cascade_so}
use Rattle.timeouts_cancel.proofs.cascading.fall.Goals as goal

pub count-requires : goal.count-requires
count-requires c =
    let l = severed_few c.args.table.now c.args.direct.now c.deref.result.now (c.deref.ensures.value ∙ c.in_ok-severed.ensures) in
    record { few = omega (arith, l) }

pub overflow_add-total : goal.overflow_add-total
overflow_add-total c =
    let l = counted_few c.args.table.now c.args.direct.now c.deref.result.now (c.deref.ensures.value ∙ c.in_ok-severed.ensures) in
    omega (arith, l, c.count.ensures)

pub met-requires : goal.met-requires
met-requires c =
    let l = counted_few c.args.table.now c.args.direct.now c.deref.result.now (c.deref.ensures.value ∙ c.in_ok-severed.ensures) in
    let f = c.len.ensures.few in
    let n = c.requires.counted in
    omega (arith, l, c.count.ensures, f, n)

pub add-requires-clause-others : goal.add-requires-clause-others
add-requires-clause-others c = met_direct c.args.table.now _ _ (c.deref-2.ensures.value ∙ c.in_ok-met.ensures)

pub guards-requires-clause-listed : goal.guards-requires-clause-listed
guards-requires-clause-listed c = joined_direct c.args.table.now _ _ _ (c.deref-3.ensures.value ∙ c.in_ok-ended.ensures)

pub add-requires-2-clause-others : goal.add-requires-2-clause-others
add-requires-2-clause-others c = guards_direct c.args.table.now _ _ (c.deref-4.ensures.value ∙ c.in_ok-guards.ensures)

pub returns : goal.returns
returns c =
    let rows : List Row = c.args.table.now in
    let severed : List Ending = c.in_ok-severed.severed.items in
    let total : c.args.counted + c.count.result ≡ c.args.counted + counted_in rows severed = ap (λ n. c.args.counted + n) (c.count.ensures ∙ ap (counted_in rows) c.deref.ensures.value) in
    let ended : c.in_ok-ended.ended.items ≡ ms rows c.args.counted c.args.direct.now =
    met_so rows c.args.counted (c.args.counted + c.count.result) c.args.direct.now severed c.deref-2.result.now c.in_ok-ended.ended.items c.in_ok-severed.ensures total (c.deref-2.ensures.value ∙ c.in_ok-met.ensures) c.in_ok-ended.ensures in
    let guards : c.deref-4.result.now ≡ guarding rows c.in_ok-ended.ended.items = c.deref-4.ensures.value ∙ c.in_ok-guards.ensures ∙ ap (guarding rows) c.deref-3.ensures.value in
    let all = cascade_so rows c.args.counted c.args.direct.now c.in_ok-ended.ended.items c.deref-4.result.now ended guards in
    subst (λ (xs : List Ending). IfOk c.add-2.result (λ endings. endings.items ≡ xs)) all c.add-2.ensures
