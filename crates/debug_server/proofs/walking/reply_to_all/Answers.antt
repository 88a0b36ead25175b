use Rattle.std.proofs.Common.{refl}
use Rattle.debug_server.proofs.Alone.{none_asked}
use Rattle.debug_server.proofs.walking.reply_to_all.Goals as goal

pub returns-in-Ok-clause-ok : goal.returns-in-Ok-clause-ok
returns-in-Ok-clause-ok g c =
    let s = c.in-Ok.ensures.ok in
    record { answers = s.0; unanswered = none_asked _ _ s.0 s.1; next = _; quits = _; served = s.2 }

pub returns-in-Err-clause-err : goal.returns-in-Err-clause-err
returns-in-Err-clause-err g c =
    let s = c.in-Err.ensures.begins c.requires in
    record { fault = c.in-Err.fault; is_serve = refl; answers = s.answers; unanswered = none_asked _ _ s.answers s.gave.asked; broke = s.broke }
