use Rattle.std.proofs.Common.{◌∙◌, rules, tests}
use Rattle.std.proofs.lemmas.Iterator.{YieldsList-from_slice}
use Rattle.std.proofs.lemmas.Iterator.Search.{find_from_yields_List}
use Rattle.scenario.specs.Names.{kinds, place_in}
use Rattle.scenario.specs.PlaceTexts.{is_word_of}
use Rattle.scenario.proofs.numbered.kind_of_name.Goals as goal

pub returns : goal.returns
returns c = c.copied.ensures ∙ find_from_yields_List (λ kind. is_word_of c.args.name.now (place_in kind 0)) _ _ c.find.result c.find.ensures.ran (YieldsList-from_slice kinds c.iter.ensures.rest) (λ x b q k. search (rules, tests))
