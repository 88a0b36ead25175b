use Rattle.debug_server.specs.Pending.{ReadsBy}
use Rattle.debug_server.proofs.serving.converse.Given as goal

abbrev pub invariant-reads : goal.invariant-reads
invariant-reads g l = ReadsBy g.S.Source.gives l.fn.source l.source l.fn.visitor (g.R.Read.remaining l.fn.reader) (g.R.Read.remaining l.reader) (g.W.Write.contents l.fn.writer) (g.W.Write.contents l.writer) l.visitor l.line
