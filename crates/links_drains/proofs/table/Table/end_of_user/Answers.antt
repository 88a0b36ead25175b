use Rattle.std.proofs.Common.{arith}
use Rattle.links_drains.proofs.table.Table.end_of_user.Goals as goal

pub overflow_cast-result : goal.overflow_cast-result
overflow_cast-result c =
    let within = c.end_of_user.ensures.within in
    let most = c.self.invariant.tallied.most in
    omega (arith, within, most)

pub returns-clause-none : goal.returns-clause-none
returns-clause-none c = rw (← c.self.view_is) c.end_of_user.ensures.none
