use Rattle.std.proofs.Common.{rules}
use Rattle.places.specs.declared.value.Stage.TheVariants.{Ready, Waiting}
use Rattle.places.proofs.ValueLemmas.{stage_spells}
use Rattle.places.proofs.packing.values.stage_numbers.Goals as goal

pub returns-in-Ready : goal.returns-in-Ready
returns-in-Ready c = rw (c.in-Ready.is) (stage_spells Ready tt)

pub returns-in-Waiting : goal.returns-in-Waiting
returns-in-Waiting c = rw (c.in-Waiting.is) (stage_spells (Waiting c.in-Waiting.submitted c.in-Waiting.needed) (search rules))
