use Rattle.std.proofs.Common.{◌∙◌, rules, tests}
use Rattle.std.proofs.lemmas.Iterator.{YieldsList-from_slice}
use Rattle.std.proofs.lemmas.Iterator.Search.{find_from_yields_List}
use Rattle.symptoms.specs.Symptoms.{is_wanted}
use Rattle.symptoms.proofs.examining.first_wanted.Goals as goal

pub returns : goal.returns
returns c = c.copied.ensures ∙ find_from_yields_List (λ f. is_wanted c.args.wanted.now f.kind) _ _ c.find.result c.find.ensures.ran (YieldsList-from_slice c.args.findings.now c.iter.ensures.rest) (λ x b q k. search (rules, tests))
