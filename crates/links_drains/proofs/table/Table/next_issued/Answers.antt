use Rattle.links_drains.proofs.Common.{sym, arith, slice_get_within, is_issued_row}
use Rattle.links_drains.proofs.NextRows.{next_found, next_is, none_found, none_is}
use Rattle.links_drains.proofs.table.Table.next_issued.Goals as goal

pub overflow_cast-result : goal.overflow_cast-result
overflow_cast-result c =
    let next = next_found is_issued_row c.self.inside.rows c.self.inside.index.issued c.args.from c.in-Some.r c.self.invariant.indexed.issued c.in-Some.ensures.some in
    let within = slice_get_within c.self.inside.rows c.in-Some.r next.row next.there in
    let most = c.self.invariant.tallied.most in
    omega (arith, within, most)

pub returns-in-Some-clause-value : goal.returns-in-Some-clause-value
returns-in-Some-clause-value c =
    rw (← c.self.view_is) (sym (next_is is_issued_row c.self.inside.rows c.args.from c.in-Some.r (next_found is_issued_row c.self.inside.rows c.self.inside.index.issued c.args.from c.in-Some.r c.self.invariant.indexed.issued c.in-Some.ensures.some)))

pub returns-in-Some-clause-some : goal.returns-in-Some-clause-some
returns-in-Some-clause-some c = rw (← c.self.view_is) (next_found is_issued_row c.self.inside.rows c.self.inside.index.issued c.args.from c.in-Some.r c.self.invariant.indexed.issued c.in-Some.ensures.some)

pub returns-in-Some-clause-few : goal.returns-in-Some-clause-few
returns-in-Some-clause-few c =
    let next = next_found is_issued_row c.self.inside.rows c.self.inside.index.issued c.args.from c.in-Some.r c.self.invariant.indexed.issued c.in-Some.ensures.some in
    let within = slice_get_within c.self.inside.rows c.in-Some.r next.row next.there in
    let most = c.self.invariant.tallied.most in
    omega (arith, within, most)

pub returns-in-None-clause-value : goal.returns-in-None-clause-value
returns-in-None-clause-value c =
    rw (← c.self.view_is) (sym (none_is is_issued_row c.self.inside.rows c.args.from (none_found is_issued_row c.self.inside.rows c.self.inside.index.issued c.args.from c.self.invariant.indexed.issued c.in-None.ensures.none)))

pub returns-in-None-clause-none : goal.returns-in-None-clause-none
returns-in-None-clause-none c = rw (← c.self.view_is) (none_found is_issued_row c.self.inside.rows c.self.inside.index.issued c.args.from c.self.invariant.indexed.issued c.in-None.ensures.none)
