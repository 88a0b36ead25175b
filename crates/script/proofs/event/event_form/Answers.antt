use Rattle.std.proofs.Common.{◌∙◌, sym, ap, map}
use Rattle.serde_json.specs.View.{view}
use Rattle.script.specs.Events.{event_words}
use Rattle.script.proofs.Each.{of_list_some}
use Rattle.script.proofs.event.event_form.Goals as goal

pub returns-in-Some : goal.returns-in-Some
returns-in-Some c =
    c.event_words.ensures
    ∙ ap (λ vs. event_words (map view vs)) c.deref.ensures.value
    ∙ sym (of_list_some event_words (view c.args.value.now) c.in-Some.items.now.items c.in-Some.ensures)
