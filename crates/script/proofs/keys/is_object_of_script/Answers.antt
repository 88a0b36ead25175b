use Rattle.serde_json.specs.View.{view}
use Rattle.script.specs.Objects.{is_object_key}
use Rattle.script.proofs.Each.{has_keys_some}
use Rattle.script.proofs.keys.is_object_of_script.Goals as goal

pub returns-in-Some : goal.returns-in-Some
returns-in-Some c = has_keys_some is_object_key (view c.args.value.now) c.in-Some.members.now.entries c.has_object_keys.result c.in-Some.ensures c.has_object_keys.ensures
