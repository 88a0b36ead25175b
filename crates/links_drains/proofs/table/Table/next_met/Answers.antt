use Rattle.links_drains.proofs.Common.{arith, slice_get_within}
use Rattle.links_drains.proofs.MetRows.{met_found, none_met}
use Rattle.links_drains.proofs.table.Table.next_met.Goals as goal

pub overflow_cast-result : goal.overflow_cast-result
overflow_cast-result c =
    let next = met_found c.self.inside.rows c.self.inside.index.thresholds c.args.total c.args.from c.in-Some.r c.self.invariant.indexed.thresholds c.requires c.in-Some.ensures.some in
    let within = slice_get_within c.self.inside.rows c.in-Some.r next.row next.there in
    let most = c.self.invariant.tallied.most in
    omega (arith, within, most)

pub returns-in-Some-clause-some : goal.returns-in-Some-clause-some
returns-in-Some-clause-some c =
    rw (← c.self.view_is) (met_found c.self.inside.rows c.self.inside.index.thresholds c.args.total c.args.from c.in-Some.r c.self.invariant.indexed.thresholds c.requires c.in-Some.ensures.some)

pub returns-in-Some-clause-few : goal.returns-in-Some-clause-few
returns-in-Some-clause-few c =
    let next = met_found c.self.inside.rows c.self.inside.index.thresholds c.args.total c.args.from c.in-Some.r c.self.invariant.indexed.thresholds c.requires c.in-Some.ensures.some in
    let within = slice_get_within c.self.inside.rows c.in-Some.r next.row next.there in
    let most = c.self.invariant.tallied.most in
    omega (arith, within, most)

pub returns-in-None-clause-none : goal.returns-in-None-clause-none
returns-in-None-clause-none c =
    rw (← c.self.view_is) (none_met c.self.inside.rows c.self.inside.index.thresholds c.args.total c.args.from c.self.invariant.indexed.thresholds c.in-None.ensures.none)
