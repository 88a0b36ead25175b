use Rattle.std.proofs.Common.{sym}
use Rattle.places.proofs.ValueLemmas.{awake_spells}
use Rattle.places.proofs.packing.values.awake_numbers.Goals as goal

pub returns-then-awake : goal.returns-then-awake
returns-then-awake c = awake_spells 1 _ (sym c.if-awake.true)

pub returns-else-awake : goal.returns-else-awake
returns-else-awake c = awake_spells 0 _ (sym c.if-awake.false)
