use Rattle.std.proofs.Common.{◌<◌, subst, arith}
use Rattle.std.proofs.lemmas.Result.{IfOk-weaker}
use Rattle.machine.specs.Whole.{view}
use Rattle.run_log.specs.Listings.{IsListing}
use Rattle.dap_lists.proofs.Changed.{lists_changes}
use Rattle.dap_lists.proofs.changes.changes_at.Goals as goal

pub returns : goal.returns
returns c =
    let past = c.record_of.result.now in
    let some : 0 < c.at-at.result = omega (arith, c.if-at-eq0.false) in
    IfOk-weaker c.changes_of.result _ _ (λ list l. lists_changes c.args.walker.now c.at-at.result past list.items some c.at-at.ensures.value c.record_of.ensures (subst (λ m. IsListing (view m) past list.items) c.state.ensures l)) c.changes_of.ensures.listing
