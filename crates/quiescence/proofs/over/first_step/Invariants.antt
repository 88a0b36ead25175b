use Rattle.std.proofs.Common.{◌≡◌, ℕ, ◌<◌, false}
use Rattle.std.specs.Prelude.{is_none}
use Rattle.machine.specs.Steps.{refusal}
use Rattle.scenario.specs.declared.event.Event.TheVariants.{Step}
use Rattle.quiescence.proofs.over.first_step.Given as goal

abbrev pub invariant-loop-thread : goal.invariant-loop-thread
invariant-loop-thread l = (k : ℕ) → k < l.thread → is_none (refusal l.state (Step k)) ≡ false
