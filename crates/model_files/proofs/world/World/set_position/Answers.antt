use Rattle.std.specs.Prelude.{IsSome}
use Rattle.places.specs.declared.place.Place.TheVariants.{Position}
use Rattle.model_files.specs.Worlds.{WorldState, world_seen}
use Rattle.model_files.proofs.Describing.{moved_is, keeps_moved, positioned_there}
use Rattle.model_files.proofs.world.World.set_position.Goals as goal

pub returns-clause-ok : goal.returns-clause-ok
returns-clause-ok c =
    let w : WorldState = record { memory = c.self.inside.memory; objects = c.self.inside.objects.items; descriptors = c.self.inside.descriptors.items } in
    let there : IsSome (world_seen w (Position c.args.fd)) = rw (← c.self.view_is) at c.requires in
    rw (← c.self.view_is) (moved_is w c.args.fd c.args.position c.index_mut.result.now (positioned_there w c.args.fd there) c.index_mut.ensures.value)

pub returns-clause-keeps : goal.returns-clause-keeps
returns-clause-keeps c =
    let w : WorldState = record { memory = c.self.inside.memory; objects = c.self.inside.objects.items; descriptors = c.self.inside.descriptors.items } in
    let there : IsSome (world_seen w (Position c.args.fd)) = rw (← c.self.view_is) at c.requires in
    rw (← c.self.view_is) (keeps_moved w c.args.fd c.args.position c.in-Some.old c.index_mut.result.now c.index.result.now _ _ (positioned_there w c.args.fd there) c.index_mut.ensures.value c.index.ensures c.in-Some.is c.in_ok-note_number.ensures.ok)
