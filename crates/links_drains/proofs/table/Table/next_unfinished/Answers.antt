use Rattle.links_drains.proofs.Common.{arith, slice_get_within, is_open}
use Rattle.links_drains.proofs.NextRows.{next_found, none_found}
use Rattle.links_drains.proofs.table.Table.next_unfinished.Goals as goal

pub overflow_cast-result : goal.overflow_cast-result
overflow_cast-result c =
    let next = next_found is_open c.self.inside.rows c.self.inside.index.unfinished c.args.from c.in-Some.r c.self.invariant.indexed.unfinished c.in-Some.ensures.some in
    let within = slice_get_within c.self.inside.rows c.in-Some.r next.row next.there in
    let most = c.self.invariant.tallied.most in
    omega (arith, within, most)

pub returns-in-Some-clause-some : goal.returns-in-Some-clause-some
returns-in-Some-clause-some c = rw (← c.self.view_is) (next_found is_open c.self.inside.rows c.self.inside.index.unfinished c.args.from c.in-Some.r c.self.invariant.indexed.unfinished c.in-Some.ensures.some)

pub returns-in-Some-clause-few : goal.returns-in-Some-clause-few
returns-in-Some-clause-few c =
    let next = next_found is_open c.self.inside.rows c.self.inside.index.unfinished c.args.from c.in-Some.r c.self.invariant.indexed.unfinished c.in-Some.ensures.some in
    let within = slice_get_within c.self.inside.rows c.in-Some.r next.row next.there in
    let most = c.self.invariant.tallied.most in
    omega (arith, within, most)

pub returns-in-None-clause-none : goal.returns-in-None-clause-none
returns-in-None-clause-none c = rw (← c.self.view_is) (none_found is_open c.self.inside.rows c.self.inside.index.unfinished c.args.from c.self.invariant.indexed.unfinished c.in-None.ensures.none)
