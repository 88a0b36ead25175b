use Rattle.std.proofs.Common.{refl}
use Rattle.debug_server.proofs.Asking.{silent_line, asking_line, asked_none, asked_once}
use Rattle.debug_server.proofs.serving.ask.Goals as goal

pub returns-then-ne-clause-ok : goal.returns-then-ne-clause-ok
returns-then-ne-clause-ok g c = asked_none _ c.args.line.now _ (silent_line c.args.line.now c.as_slice.result.now c.ne.result c.ne.ensures c.as_slice.ensures c.if-ne.true)

pub returns-in-Ok-clause-ok : goal.returns-in-Ok-clause-ok
returns-in-Ok-clause-ok g c = asked_once _ c.args.line.now _ _ _ (asking_line c.args.line.now c.as_slice.result.now c.ne.result c.ne.ensures c.as_slice.ensures c.if-ne.false) c.in-Ok.ensures.answers_as

pub returns-in-Err-clause-err : goal.returns-in-Err-clause-err
returns-in-Err-clause-err g c = (refl, asking_line c.args.line.now c.as_slice.result.now c.ne.result c.ne.ensures c.as_slice.ensures c.if-ne.false, c.in-Err.ensures.fails_as)
