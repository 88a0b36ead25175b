use Rattle.timeouts_cancel.proofs.Common.{◌+◌, ap, arith}
use Rattle.timeouts_cancel.proofs.Filters.{severed_few, counted_few, alone}
use Rattle.timeouts_cancel.proofs.cascading.falls_alone.Goals as goal

pub count-count-requires : goal.count-count-requires
count-count-requires c =
    let l = severed_few c.args.table.now c.args.direct.now c.args.direct.now (c.severs_any.ensures c.if-severs_any.false) in
    record { few = omega (arith, l) }

pub overflow_add-total : goal.overflow_add-total
overflow_add-total c =
    let l = counted_few c.args.table.now c.args.direct.now c.args.direct.now (c.severs_any.ensures c.if-severs_any.false) in
    omega (arith, l, c.count-count.ensures)

pub meets_any-requires : goal.meets_any-requires
meets_any-requires c =
    let l = counted_few c.args.table.now c.args.direct.now c.args.direct.now (c.severs_any.ensures c.if-severs_any.false) in
    let f = c.len.ensures.few in
    let n = c.requires.counted in
    omega (arith, l, c.count-count.ensures, f, n)

pub returns-clause-alone : goal.returns-clause-alone
returns-clause-alone c = alone c.args.table.now c.args.counted (c.args.counted + c.count-count.result) c.args.direct.now (c.severs_any.ensures c.if-severs_any.false) (ap (λ n. c.args.counted + n) c.count-count.ensures) (c.meets_any.ensures c.if-meets_any.false) (c.guards_any.ensures c.if-guards_any.false)
