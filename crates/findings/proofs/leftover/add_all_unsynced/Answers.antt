use Rattle.findings.proofs.Common.{of_object}
use Rattle.findings.proofs.Groups.{number_more}
use Rattle.findings.proofs.leftover.add_all_unsynced.Goals as goal

pub loop-object-preserved : goal.loop-object-preserved
loop-object-preserved c =
    number_more (of_object c.args.setup.now c.args.moment c.args.state.now) c.loop-object.object _ c.loop-object.found.items _ c.loop-object.invariant c.in_ok-add_unsynced.ensures
