use Rattle.debug_server.proofs.Stopping.{refused_at, of_schedule}
use Rattle.debug_server.proofs.session.session_at_end.Goals as goal

pub returns-in-Err-clause-schedule : goal.returns-in-Err-clause-schedule
returns-in-Err-clause-schedule c =
    refused_at c.args.walker.setup c.args.events.now c.in-Err.fault (c.in-Err.ensures.stops c.args.walker.setup c.requires.fresh)

pub returns-in-Err-clause-other : goal.returns-in-Err-clause-other
returns-in-Err-clause-other c =
    of_schedule c.args.walker.setup c.args.events.now c.in-Err.fault (c.in-Err.ensures.stops c.args.walker.setup c.requires.fresh)
