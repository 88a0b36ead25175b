use Rattle.std.proofs.Common.{rules}
use Rattle.machine.proofs.EnterLemmas.{unknown_answered}
use Rattle.machine.proofs.whole.Machine.enter.Goals as goal

pub returns-then-flags-clause-ok : goal.returns-then-flags-clause-ok
returns-then-flags-clause-ok c =
    let same_answer = unknown_answered c.args.self.now c.args.t c.args.to_submit c.args.min_complete c.args.flags c.if-flags.true in
    search (rules, same_answer)
