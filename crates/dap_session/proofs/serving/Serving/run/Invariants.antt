use Rattle.dap_session.specs.Serving.{Took}
use Rattle.dap_session.proofs.serving.Serving.run.Given as goal

abbrev pub invariant-reads : goal.invariant-reads
invariant-reads g l = Took (g.R.Read.remaining l.fn.reader) (g.R.Read.remaining l.reader) (g.W.Write.contents l.fn.writer) (g.W.Write.contents l.writer) l.self
