use Rattle.std.proofs.Common.{◌≡◌, drop}
use Rattle.debug_server.specs.Syncs.{torn_from}
use Rattle.debug_server.proofs.syncing.torn_at.Given as goal

abbrev pub invariant-loop-index : goal.invariant-loop-index
invariant-loop-index l = torn_from 0 l.events l.source ≡ torn_from l.index (drop l.index l.events) (drop l.index l.source)
