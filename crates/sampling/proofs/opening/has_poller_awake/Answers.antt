use Rattle.std.proofs.Common.{rules, ◌≡◌}
use Rattle.std.specs.Prelude.{Some}
use Rattle.scenario.specs.declared.event.Event.TheVariants.{Sleep}
use Rattle.scenario.specs.declared.event.Refusal.TheVariants.{NoPoller, Asleep}
use Rattle.machine.specs.Steps.{refusal}
use Rattle.sampling.proofs.Forcing.{poller_quiet}
use Rattle.sampling.proofs.opening.has_poller_awake.Goals as goal

pub returns-in-Some-NoPoller : goal.returns-in-Some-NoPoller
returns-in-Some-NoPoller c = λ e s. let none : refusal c.args.state.now Sleep ≡ Some NoPoller = search rules in poller_quiet s c.args.state.now NoPoller none (λ p. cc)

pub returns-in-Some-Asleep : goal.returns-in-Some-Asleep
returns-in-Some-Asleep c = λ e s. let asleep : refusal c.args.state.now Sleep ≡ Some Asleep = search rules in poller_quiet s c.args.state.now Asleep asleep (λ p. cc)
