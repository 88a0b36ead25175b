use Rattle.std.proofs.Common.{◌∙◌, rules, tests}
use Rattle.std.proofs.lemmas.Iterator.{YieldsList-from_slice}
use Rattle.std.proofs.lemmas.Iterator.Search.{find_from_yields_List}
use Rattle.scenario.specs.Names.{object_places, place_of_object}
use Rattle.scenario.specs.PlaceTexts.{is_word_of}
use Rattle.scenario.proofs.owned.object_place_of_name.Goals as goal

pub returns : goal.returns
returns c = c.copied.ensures ∙ find_from_yields_List (λ place. is_word_of c.args.name.now (place_of_object place 0)) _ _ c.find.result c.find.ensures.ran (YieldsList-from_slice object_places c.iter.ensures.rest) (λ x b q k. search (rules, tests))
