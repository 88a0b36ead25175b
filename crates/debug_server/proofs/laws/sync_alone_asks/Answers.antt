use Rattle.debug_server.proofs.SyncLines.{asked_is_sync, sync_is_asked}
use Rattle.debug_server.proofs.laws.sync_alone_asks.Goals as goal

pub returns-clause-asked : goal.returns-clause-asked
returns-clause-asked c = asked_is_sync

pub returns-clause-sync : goal.returns-clause-sync
returns-clause-sync c = sync_is_asked
