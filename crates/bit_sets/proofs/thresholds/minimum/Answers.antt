use Rattle.std.proofs.Common.{arith, inl, inr}
use Rattle.std.proofs.lemmas.Bool.{cases_lt}
use Rattle.std.proofs.lemmas.List.{get_or_past}
use Rattle.bit_sets.specs.Thresholds.{never}
use Rattle.bit_sets.proofs.thresholds.minimum.Goals as goal

pub returns : goal.returns
returns c = λ i. elim (cases_lt i c.loop-threshold.threshold-index) [
  | inl inside ↦ c.loop-threshold.invariant.1 i inside
  | inr past ↦
      let t = c.loop-threshold-test.false in
      let e = get_or_past c.args.thresholds.now i never (omega (arith, t, past)) in
      let most = c.loop-threshold.invariant.0 in
      omega (arith, e, most)
]
