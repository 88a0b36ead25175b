use Rattle.debug_server.proofs.Again.{refused_again}
use Rattle.debug_server.proofs.SessionsAgain.{broken_again, walked_again}
use Rattle.debug_server.proofs.laws.replays_are_the_run.Goals as goal

pub returns-clause-walked : goal.returns-clause-walked
returns-clause-walked c = walked_again

pub returns-clause-refused : goal.returns-clause-refused
returns-clause-refused c = refused_again

pub returns-clause-broken : goal.returns-clause-broken
returns-clause-broken c = broken_again
