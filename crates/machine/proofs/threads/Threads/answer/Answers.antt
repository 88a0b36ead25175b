use Rattle.machine.proofs.Common.{rules, w64, to_z-of_z}
use Rattle.std.specs.Prelude.{FitsSigned}
use Rattle.machine.proofs.ThreadLemmas.{updated_then}
use Rattle.machine.proofs.threads.Threads.answer.Goals as goal

pub returns-clause-ok : goal.returns-clause-ok
returns-clause-ok c =
    let fits : FitsSigned w64 c.args.n = search rules in
    rw (c.in_ok-set_last.ensures.ok, c.in_ok-advance.ensures.ok, updated_then _ _ c.args.self.now c.args.t, updated_then _ _ c.args.self.now c.args.t, to_z-of_z w64 c.args.n fits) at c.be_ready.ensures.ok
