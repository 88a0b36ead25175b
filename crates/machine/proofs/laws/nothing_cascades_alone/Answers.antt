use Rattle.machine.proofs.NothingTaken.{enter_of_nothing, nothing_cascades, take_of_nothing}
use Rattle.machine.proofs.laws.nothing_cascades_alone.Goals as goal

pub returns-clause-cascades : goal.returns-clause-cascades
returns-clause-cascades c = nothing_cascades

pub returns-clause-take : goal.returns-clause-take
returns-clause-take c = take_of_nothing

pub returns-clause-enter : goal.returns-clause-enter
returns-clause-enter c = enter_of_nothing
