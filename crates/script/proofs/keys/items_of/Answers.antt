use Rattle.std.proofs.Common.{◌∙◌, sym, ap, map, Ok}
use Rattle.serde_json.specs.View.{view}
use Rattle.script.proofs.Each.{listed_some}
use Rattle.script.proofs.keys.items_of.Goals as goal

pub returns-in-Some : goal.returns-in-Some
returns-in-Some c = listed_some c.args.path (view c.args.value.now) c.in-Some.items.now.items c.in-Some.ensures ∙ ap (λ vs. Ok (map view vs)) (sym c.deref.ensures.value)
