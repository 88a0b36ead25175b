use Rattle.links_drains.proofs.Common.{sym, arith, slice_get_within, is_queued_row}
use Rattle.links_drains.proofs.NextRows.{queued_found, next_is, none_queued, none_is}
use Rattle.links_drains.proofs.table.Table.next_queued.Goals as goal

pub overflow_cast-result : goal.overflow_cast-result
overflow_cast-result c =
    let index = c.self.invariant.indexed in
    let next = queued_found c.self.inside.rows _ _ c.args.from c.in-Some.r index.unfinished index.issued c.in-Some.ensures.some in
    let within = slice_get_within c.self.inside.rows c.in-Some.r next.row next.there in
    let most = c.self.invariant.tallied.most in
    omega (arith, within, most)

pub returns-in-Some-clause-value : goal.returns-in-Some-clause-value
returns-in-Some-clause-value c =
    let index = c.self.invariant.indexed in
    rw (← c.self.view_is) (sym (next_is is_queued_row c.self.inside.rows c.args.from c.in-Some.r (queued_found c.self.inside.rows _ _ c.args.from c.in-Some.r index.unfinished index.issued c.in-Some.ensures.some)))

pub returns-in-Some-clause-some : goal.returns-in-Some-clause-some
returns-in-Some-clause-some c =
    let index = c.self.invariant.indexed in
    rw (← c.self.view_is) (queued_found c.self.inside.rows _ _ c.args.from c.in-Some.r index.unfinished index.issued c.in-Some.ensures.some)

pub returns-in-Some-clause-few : goal.returns-in-Some-clause-few
returns-in-Some-clause-few c =
    let index = c.self.invariant.indexed in
    let next = queued_found c.self.inside.rows _ _ c.args.from c.in-Some.r index.unfinished index.issued c.in-Some.ensures.some in
    let within = slice_get_within c.self.inside.rows c.in-Some.r next.row next.there in
    let most = c.self.invariant.tallied.most in
    omega (arith, within, most)

pub returns-in-None-clause-value : goal.returns-in-None-clause-value
returns-in-None-clause-value c =
    let index = c.self.invariant.indexed in
    rw (← c.self.view_is) (sym (none_is is_queued_row c.self.inside.rows c.args.from (none_queued c.self.inside.rows _ _ c.args.from index.unfinished index.issued c.in-None.ensures.none)))

pub returns-in-None-clause-none : goal.returns-in-None-clause-none
returns-in-None-clause-none c =
    let index = c.self.invariant.indexed in
    rw (← c.self.view_is) (none_queued c.self.inside.rows _ _ c.args.from index.unfinished index.issued c.in-None.ensures.none)
