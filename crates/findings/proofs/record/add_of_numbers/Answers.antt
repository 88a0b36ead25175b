use Rattle.findings.proofs.Common.{arith, of_number}
use Rattle.findings.proofs.Groups.{each_more}
use Rattle.findings.proofs.record.add_of_numbers.Goals as goal

pub loop-number-preserved : goal.loop-number-preserved
loop-number-preserved c =
    each_more (of_number c.args.at.moment c.args.at.setup.now c.args.at.state.now c.args.effect.now) c.args.numbers.now c.loop-number.number-index _ _ c.loop-number.found.items _ (omega arith) c.loop-number.invariant c.in_ok-add_of_number.ensures
