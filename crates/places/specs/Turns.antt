-- The meaning of one step of the iterator over recorded bytes.
use Rattle.std.specs.Prelude.{◌≡◌, List, [], ◌∷◌}
use Rattle.places.specs.declared.value.Change.{Change}
use Rattle.places.specs.declared.notes.byte_changes.Turn.{Turn}
use Rattle.places.specs.declared.notes.byte_changes.Turn.TheVariants.{End, Nothing, Found}

abbrev pub MatchTurn : Turn → List Change → List Change → Type 0
MatchTurn End before after = (before ≡ []) × (after ≡ [])
MatchTurn Nothing before after = before ≡ after
MatchTurn (Found c) before after = before ≡ c ∷ after
