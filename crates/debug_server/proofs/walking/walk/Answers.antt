use Rattle.std.proofs.lemmas.Result.{err_from_is_err_and}
use Rattle.debug_server.proofs.walking.walk.Goals as goal

pub returns-in_err-walk_script-clause-schedule : goal.returns-in_err-walk_script-clause-schedule
returns-in_err-walk_script-clause-schedule g c =
    let p = err_from_is_err_and c.from_residual.result c.from_residual.ensures.1 in
    rw (p.1, p.2) (λ i n e. let k = c.in_err-walk_script.ensures.schedule i n e in (c.in-Ok.script, c.in-Ok.ensures.ok, k.0, k.1))
