use Rattle.std.proofs.KnownBytes.{Keeps-refl}
use Rattle.std.proofs.lemmas.Result.{err_from_is_err_and}
use Rattle.traces.specs.Setups.{canonical}
use Rattle.debug_server.proofs.Alone.{open_at}
use Rattle.debug_server.proofs.Walks.{walked_at, broken_at, no_schedule, no_trace, no_memory, no_other, of_replay}
use Rattle.debug_server.proofs.Replays.{walked_of_trace, broken_of_trace, walked_as_written}
use Rattle.debug_server.proofs.replaying.replay.Goals as goal

pub owning-requires-clause-starts : goal.owning-requires-clause-starts
owning-requires-clause-starts g c = c.in-Ok.ensures.found.starts

pub returns-in_err-session-clause-schedule : goal.returns-in_err-session-clause-schedule
returns-in_err-session-clause-schedule g c =
    let p = err_from_is_err_and c.from_residual.result c.from_residual.ensures.1 in
    rw (p.1, p.2) (λ i n e. (c.in-Ok.found.0, c.in-Ok.found.1.items, c.in-Ok.ensures.found, rw (← c.deref.ensures.value) (c.in_err-session.ensures.schedule i n e), Keeps-refl _))

pub reply_to_all-requires : goal.reply_to_all-requires
reply_to_all-requires g c = open_at c.in_ok-session.session _ c.in_ok-session.ensures.ok

pub returns-clause-ok : goal.returns-clause-ok
returns-clause-ok g c =
    walked_of_trace _ c.in-Ok.found.0 c.in-Ok.found.1.items c.deref.result.now _ _ c.reply_to_all.result c.in-Ok.ensures.found c.deref.ensures.value
    (walked_at c.in_ok-session.session c.in-Ok.found.0 c.deref.result.now _ _ c.reply_to_all.result c.in_ok-session.ensures.ok c.in_ok-session.ensures.accepts c.reply_to_all.ensures.ok)

pub returns-clause-again : goal.returns-clause-again
returns-clause-again g c = λ s es h t.
    let same = c.in-Ok.ensures.only (canonical s) es t in
    walked_as_written s c.in-Ok.found.0 es c.in-Ok.found.1.items c.deref.result.now _ _ c.reply_to_all.result h same.0 same.1 c.deref.ensures.value
    (walked_at c.in_ok-session.session c.in-Ok.found.0 c.deref.result.now _ _ c.reply_to_all.result c.in_ok-session.ensures.ok c.in_ok-session.ensures.accepts c.reply_to_all.ensures.ok)

pub returns-clause-trace : goal.returns-clause-trace
returns-clause-trace g c = no_trace _ _ _ c.reply_to_all.result _ c.reply_to_all.ensures.err

pub returns-clause-schedule : goal.returns-clause-schedule
returns-clause-schedule g c = no_schedule _ _ _ c.reply_to_all.result _ c.reply_to_all.ensures.err

pub returns-clause-memory : goal.returns-clause-memory
returns-clause-memory g c = no_memory _ _ _ c.reply_to_all.result _ c.reply_to_all.ensures.err

pub returns-clause-unread : goal.returns-clause-unread
returns-clause-unread g c = no_other _ _ _ c.reply_to_all.result _ c.reply_to_all.ensures.err

pub returns-clause-begins : goal.returns-clause-begins
returns-clause-begins g c =
    broken_of_trace _ c.in-Ok.found.0 c.in-Ok.found.1.items c.deref.result.now _ _ c.reply_to_all.result c.in-Ok.ensures.found c.deref.ensures.value
    (broken_at c.in_ok-session.session c.in-Ok.found.0 c.deref.result.now _ _ c.reply_to_all.result c.in_ok-session.ensures.ok c.in_ok-session.ensures.accepts c.reply_to_all.ensures.err)

pub returns-clause-open : goal.returns-clause-open
returns-clause-open g c = c.reply_to_all.ensures.open

pub returns-clause-other : goal.returns-clause-other
returns-clause-other g c = of_replay _ _ _ c.reply_to_all.result c.reply_to_all.ensures.err
