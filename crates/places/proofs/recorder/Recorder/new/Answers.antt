use Rattle.std.proofs.Common.{inr, ap}
use Rattle.places.proofs.Sound.{sound_empty}
use Rattle.places.proofs.recorder.Recorder.new.Goals as goal

pub invariant_of-result : goal.invariant_of-result
invariant_of-result c = (
  sound_empty c.new.result c.new-2.result c.new-3.result c.new-4.result c.new-5.result c.new-4.ensures.olds c.new-4.ensures.odd c.new-5.ensures,
  inr (record { numbers = c.new.ensures; completions = c.new-2.ensures; rows = c.new-3.ensures; held = ap (λ r. r.held) c.new-5.ensures }),
)
