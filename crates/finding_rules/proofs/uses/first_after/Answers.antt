use Rattle.finding_rules.proofs.Common.{◌≤◌, true, false, length, drop, sub_list, sym, ◌∙◌, arith, length-drop, is_sought}
use Rattle.finding_rules.proofs.{Looking.any_here, Looking.any_none, Looking.none_more, Waiting.looked_at}
use Rattle.finding_rules.proofs.uses.first_after.Goals as goal

pub returns-then-is_sought : goal.returns-then-is_sought
returns-then-is_sought c =
    sym (any_here _ _ c.loop-place.place
    (looked_at (sub_list c.args.ring.now) (is_sought c.args.ring.now.slots c.args.sought) c.args.passed _ _ true c.word-word.ensures (sym c.is_sought.ensures ∙ c.if-is_sought.true)))

pub loop-place-preserved : goal.loop-place-preserved
loop-place-preserved c =
    none_more _ _ c.loop-place.place c.loop-place.invariant
    (looked_at (sub_list c.args.ring.now) (is_sought c.args.ring.now.slots c.args.sought) c.args.passed _ _ false c.word-word.ensures (sym c.is_sought.ensures ∙ c.if-is_sought.false))

pub returns : goal.returns
returns c =
    let l : length (drop c.args.passed (sub_list c.args.ring.now)) ≤ c.loop-place.place = omega (arith, length-drop c.args.passed (sub_list c.args.ring.now), c.waiting.ensures.list, c.loop-place-test.false) in
    sym (any_none _ _ c.loop-place.place c.loop-place.invariant l)
