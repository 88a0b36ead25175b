use Rattle.watches.proofs.Naming.{not_named}
use Rattle.watches.proofs.searching.names_place.Goals as goal

pub returns-else-may_name : goal.returns-else-may_name
returns-else-may_name c = not_named _ c.may_name.result c.may_name.ensures c.if-may_name.false
