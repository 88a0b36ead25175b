use Rattle.std.proofs.Common.{ap, inr}
use Rattle.places.proofs.Sound.{sound_empty}
use Rattle.places.proofs.recorder.Recorder.forget.Goals as goal

pub invariant_of-self : goal.invariant_of-self
invariant_of-self c = (
  sound_empty c.forget.new.self c.forget-2.new.self c.forget-3.new.self c.forget-4.new.self c.new-self-inside.result c.forget-4.ensures.no_olds c.forget-4.ensures.no_odd c.new-self-inside.ensures,
  inr (record { numbers = c.forget.ensures; completions = c.forget-2.ensures; rows = c.forget-3.ensures; held = ap (λ r. r.held) c.new-self-inside.ensures }),
)
