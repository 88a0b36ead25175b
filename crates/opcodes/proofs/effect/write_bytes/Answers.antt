use Rattle.opcodes.proofs.Common.{ap, WorldState}
use Rattle.opcodes.proofs.Moving.{position_still}
use Rattle.opcodes.proofs.effect.write_bytes.Goals as goal

pub move_on-requires : goal.move_on-requires
move_on-requires c = record { there = λ m h. position_still c.args.world.now c.write_at.new.self m.0 (ap (λ (w : WorldState). w.descriptors) c.in_ok-write_at.ensures.ok) (c.requires.can.moves m h) }
