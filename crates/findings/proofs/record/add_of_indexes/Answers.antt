use Rattle.findings.proofs.Common.{◌≤◌, length, drop, sub_list, arith, length-drop}
use Rattle.findings.proofs.OverwrittenTimes.{indexes_all, indexes_more}
use Rattle.findings.proofs.record.add_of_indexes.Goals as goal

pub loop-place-preserved : goal.loop-place-preserved
loop-place-preserved c =
    indexes_more c.args.moment c.args.ring.now.slots c.args.range (sub_list c.args.ring.now) c.args.passed c.loop-place.place c.word-slot.result c.is_over_slot-test.result _ c.loop-place.found.items _ c.word-slot.ensures c.is_over_slot-test.ensures c.loop-place.invariant c.in_ok-add_if.ensures

pub returns : goal.returns
returns c =
    let l : length (drop c.args.passed (sub_list c.args.ring.now)) ≤ c.loop-place.place = omega (arith, length-drop c.args.passed (sub_list c.args.ring.now), c.waiting.ensures.list, c.loop-place-test.false) in
    indexes_all c.args.moment c.args.ring.now.slots c.args.range (drop c.args.passed (sub_list c.args.ring.now)) c.loop-place.place _ c.loop-place.found.items l c.loop-place.invariant
