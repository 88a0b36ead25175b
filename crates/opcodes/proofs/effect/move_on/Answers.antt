use Rattle.opcodes.proofs.Moving.{position_seen}
use Rattle.opcodes.proofs.effect.move_on.Goals as goal

pub set_position-requires : goal.set_position-requires
set_position-requires c = position_seen c.args.world.now c.in-Some.fd (c.requires.there (c.in-Some.fd, c.in-Some.position) c.in-Some.is)

pub returns-in-Some-clause-there : goal.returns-in-Some-clause-there
returns-in-Some-clause-there c more = c.set_position.ensures.there more (c.requires.there (c.in-Some.fd, c.in-Some.position) c.in-Some.is).few
