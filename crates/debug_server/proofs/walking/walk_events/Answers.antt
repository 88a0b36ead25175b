use Rattle.std.proofs.KnownBytes.{Keeps-refl}
use Rattle.std.proofs.lemmas.Result.{err_from_is_err_and}
use Rattle.debug_server.proofs.Alone.{open_at}
use Rattle.debug_server.proofs.Walks.{walked_at, broken_at, no_schedule, no_memory, no_other, of_run}
use Rattle.debug_server.proofs.walking.walk_events.Goals as goal

pub returns-in_err-session-clause-schedule : goal.returns-in_err-session-clause-schedule
returns-in_err-session-clause-schedule g c =
    let p = err_from_is_err_and c.from_residual.result c.from_residual.ensures.1 in
    rw (p.1, p.2) (λ i n e. (c.in_err-session.ensures.schedule i n e, Keeps-refl _))

pub reply_to_all-requires : goal.reply_to_all-requires
reply_to_all-requires g c = open_at c.in_ok-session.session _ c.in_ok-session.ensures.ok

pub returns-clause-ok : goal.returns-clause-ok
returns-clause-ok g c =
    walked_at c.in_ok-session.session c.args.setup.now c.args.events.now _ _ c.reply_to_all.result c.in_ok-session.ensures.ok c.in_ok-session.ensures.accepts c.reply_to_all.ensures.ok

pub returns-clause-schedule : goal.returns-clause-schedule
returns-clause-schedule g c = no_schedule _ _ _ c.reply_to_all.result _ c.reply_to_all.ensures.err

pub returns-clause-memory : goal.returns-clause-memory
returns-clause-memory g c = no_memory _ _ _ c.reply_to_all.result _ c.reply_to_all.ensures.err

pub returns-clause-unread : goal.returns-clause-unread
returns-clause-unread g c = no_other _ _ _ c.reply_to_all.result _ c.reply_to_all.ensures.err

pub returns-clause-begins : goal.returns-clause-begins
returns-clause-begins g c =
    broken_at c.in_ok-session.session c.args.setup.now c.args.events.now _ _ c.reply_to_all.result c.in_ok-session.ensures.ok c.in_ok-session.ensures.accepts c.reply_to_all.ensures.err

pub returns-clause-open : goal.returns-clause-open
returns-clause-open g c = c.reply_to_all.ensures.open

pub returns-clause-other : goal.returns-clause-other
returns-clause-other g c = of_run _ _ _ c.reply_to_all.result c.reply_to_all.ensures.err
