use Rattle.model_files.specs.Worlds.{OneSetup as OneWorldSetup}
use Rattle.model_files.proofs.Fixing as worlds
use Rattle.machine.proofs.Growing.{grows_parts}
use Rattle.machine.proofs.whole.Machine.close.Goals as goal

pub returns-clause-grows : goal.returns-clause-grows
returns-clause-grows c =
    let shut : OneWorldSetup c.args.self.now.world c.close.new.self = rw c.in_ok-close.ensures.ok (worlds.setup_closed _ c.args.self.now.world) in
    grows_parts c.args.self.now c.close.new.self c.answer-2.new.self shut c.answer-2.ensures.programs
