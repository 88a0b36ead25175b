use Rattle.std.specs.Prelude.{IsSome}
use Rattle.model_files.specs.Worlds.{WorldState, descriptor_of}
use Rattle.model_files.proofs.Describing.{closed_is, keeps_closed}
use Rattle.model_files.proofs.world.World.close.Goals as goal

pub returns-clause-ok : goal.returns-clause-ok
returns-clause-ok c =
    let w : WorldState = record { memory = c.self.inside.memory; objects = c.self.inside.objects.items; descriptors = c.self.inside.descriptors.items } in
    let there : IsSome (descriptor_of w c.args.fd) = rw (← c.self.view_is) at c.requires in
    rw (← c.self.view_is) (closed_is w c.args.fd c.index_mut.result.now there c.index_mut.ensures.value)

pub returns-clause-keeps : goal.returns-clause-keeps
returns-clause-keeps c =
    let w : WorldState = record { memory = c.self.inside.memory; objects = c.self.inside.objects.items; descriptors = c.self.inside.descriptors.items } in
    let there : IsSome (descriptor_of w c.args.fd) = rw (← c.self.view_is) at c.requires in
    rw (← c.self.view_is) (keeps_closed w c.args.fd c.index_mut.result.now c.index.result.now _ _ there c.index_mut.ensures.value c.index.ensures (rw c.mark_number.ensures at c.in_ok-note_number.ensures.ok))
