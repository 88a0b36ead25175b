use Rattle.scenario.proofs.PrintedNames.{parse}
use Rattle.scenario.proofs.laws.printed_names_parse.Goals as goal

pub returns : goal.returns
returns c = parse
