-- The numbers of refusals.
use Rattle.std.specs.Prelude.{ℕ}
use Rattle.live_states.specs.declared.lives.LiveRefusal.{LiveRefusal}
use Rattle.live_states.specs.declared.lives.LiveRefusal.TheVariants as refusal

abbrev pub refusal_number : LiveRefusal → ℕ
refusal_number refusal.NotYours = 1
refusal_number refusal.TraceFull = 2
refusal_number (refusal.Step n) = 3
