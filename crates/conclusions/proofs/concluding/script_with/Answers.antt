use Rattle.std.proofs.Common.{List, subst}
use Rattle.scenario.specs.declared.event.Event.{Event}
use Rattle.rewriting.specs.Rewriting.{IsRewritten}
use Rattle.conclusions.proofs.Hits.{of_text}
use Rattle.conclusions.proofs.concluding.script_with.Goals as goal

pub returns-in_ok-with_schedule-in-Some : goal.returns-in_ok-with_schedule-in-Some
returns-in_ok-with_schedule-in-Some c =
    let made = c.in_ok-with_schedule-in-Some.ensures.ok in
    let bytes = c.in_ok-with_schedule-in-Some.field-0.items in
    let P : List Event → Type 0 = λ es. IsRewritten c.args.reporting.script.now c.args.setup.now es bytes in
    subst P c.deref.ensures.value (of_text c.args.reporting.script.now c.args.setup.now made.0 c.deref.result.now bytes c.requires.text made.1 made.2)
