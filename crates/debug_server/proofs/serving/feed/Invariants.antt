use Rattle.std.proofs.Common.{◌++◌, take, false}
use Rattle.debug_server.specs.Pending.{FillsBy}
use Rattle.debug_server.proofs.serving.feed.Given as goal

abbrev pub invariant-loop-byte : goal.invariant-loop-byte
invariant-loop-byte g l = FillsBy g.S.Source.gives l.fn.source l.source l.fn.visitor (l.fn.line ++ take l.byte-index l.bytes) (g.W.Write.contents l.fn.writer) (g.W.Write.contents l.writer) false l.visitor l.line
