use Rattle.std.proofs.Common.{◌≡◌, arith, subst}
use Rattle.debug_server.specs.Syncs.{IsTorn}
use Rattle.debug_server.proofs.SyncLaws.{torn_is, torn_whole}
use Rattle.debug_server.proofs.laws.torn_is_first.Goals as goal

pub returns-clause-first : goal.returns-clause-first
returns-clause-first c = λ es fs k h.
    let found = torn_is 0 es fs k h in
    let place = found.1 in
    let same : found.0 ≡ k = omega arith in
    subst (IsTorn es fs) same found.2

pub returns-clause-whole : goal.returns-clause-whole
returns-clause-whole c = torn_whole 0
