use Rattle.run_log.proofs.Common.{◌≡◌, false, arith, sym, ◌∙◌, rules}
use Rattle.run_log.proofs.Rows.{parted_before, parted_whole}
use Rattle.run_log.proofs.joining.following.Goals as goal

pub returns-then-not-is_next-clause-parted : goal.returns-then-not-is_next-clause-parted
returns-then-not-is_next-clause-parted c =
    let h : c.is_next.result ≡ false = search rules in
    parted_before c.args.first.now c.args.rest.now c.loop-changed.changed-index c.loop-changed.count c.loop-changed.last _ c.loop-changed-test.true (sym c.is_next.ensures ∙ h) c.loop-changed.invariant.1

pub returns-clause-parted : goal.returns-clause-parted
returns-clause-parted c =
    parted_whole c.args.first.now c.args.rest.now c.loop-changed.changed-index c.loop-changed.count c.loop-changed.last (omega (arith, c.loop-changed-test.false)) c.loop-changed.invariant.1
