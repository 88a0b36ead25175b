-- The reports stay those of the run.
use Rattle.dap_session.proofs.Searching.{stay_at_line}
use Rattle.dap_session.proofs.searched.Searched.line.Goals as goal

pub invariant_of-self : goal.invariant_of-self
invariant_of-self c = stay_at_line c.line.result c.self.inside.session c.line.new.self c.args.line.now _ c.line.ensures.next c.line.ensures.err c.self.invariant
