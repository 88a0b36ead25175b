use Rattle.std.proofs.Common.{◌≡◌, refl, sym, ◌<◌, ◌-◌, length, arith}
use Rattle.std.specs.Prelude.{Some, IsSome, ◌==◌}
use Rattle.places.specs.declared.place.Place.TheVariants.{Position, OpenMark}
use Rattle.model_files.specs.Objects.{CanPut, object_in}
use Rattle.model_files.specs.Worlds.{WorldState, world_seen}
use Rattle.model_files.proofs.Lifting.{body_there, can_put_body, one_setup_body, owns_own, put_object}
use Rattle.model_files.proofs.Setting.{byte_within}
use Rattle.model_files.proofs.Remembering.{put_memory}
use Rattle.model_files.proofs.Describing.{within_there, positioned_there, marked_there, put_position_read, put_mark_read, one_setup_read, positioned_same, mark_fits}
use Rattle.model_files.proofs.world.WorldPart.put.Goals as goal

pub set-requires : goal.set-requires
set-requires c =
    let w : WorldState = record { memory = c.self.inside.memory; objects = c.self.inside.objects.items; descriptors = c.self.inside.descriptors.items } in
    let asked : CanPut (world_seen w) c.args.place c.in-Some.value = rw (← c.self.view_is, c.in-Some.is) at c.requires in
    let owner : object_in c.args.place ≡ Some c.in-Some-object_in.object = sym c.in-Some-object_in.ensures in
    let found = body_there w c.in-Some-object_in.object c.index_mut.result.now c.args.place owner asked.there c.index_mut.ensures.value in
    can_put_body w c.in-Some-object_in.object c.index_mut.result.now c.args.place c.in-Some.value found (owns_own c.args.place c.in-Some-object_in.object owner) asked

pub returns-in-Some-object_in-clause-put : goal.returns-in-Some-object_in-clause-put
returns-in-Some-object_in-clause-put c =
    let w : WorldState = record { memory = c.self.inside.memory; objects = c.self.inside.objects.items; descriptors = c.self.inside.descriptors.items } in
    let asked : CanPut (world_seen w) c.args.place c.in-Some.value = rw (← c.self.view_is, c.in-Some.is) at c.requires in
    let owner : object_in c.args.place ≡ Some c.in-Some-object_in.object = sym c.in-Some-object_in.ensures in
    let found = body_there w c.in-Some-object_in.object c.index_mut.result.now c.args.place owner asked.there c.index_mut.ensures.value in
    rw (← c.self.view_is, c.in-Some.is)
    (put_object w c.in-Some-object_in.object c.index_mut.result.now c.set.new.self c.args.place c.in-Some.value found (owns_own c.args.place c.in-Some-object_in.object owner) c.set.ensures.put)

pub returns-in-Some-object_in-clause-setup : goal.returns-in-Some-object_in-clause-setup
returns-in-Some-object_in-clause-setup c =
    let w : WorldState = record { memory = c.self.inside.memory; objects = c.self.inside.objects.items; descriptors = c.self.inside.descriptors.items } in
    let asked : CanPut (world_seen w) c.args.place c.in-Some.value = rw (← c.self.view_is, c.in-Some.is) at c.requires in
    let owner : object_in c.args.place ≡ Some c.in-Some-object_in.object = sym c.in-Some-object_in.ensures in
    let found = body_there w c.in-Some-object_in.object c.index_mut.result.now c.args.place owner asked.there c.index_mut.ensures.value in
    rw (← c.self.view_is) (one_setup_body w c.in-Some-object_in.object c.index_mut.result.now c.set.new.self found c.set.ensures.kind)

pub set-requires-in-MemoryByte-Byte : goal.set-requires-in-MemoryByte-Byte
set-requires-in-MemoryByte-Byte c =
    let w : WorldState = record { memory = c.self.inside.memory; objects = c.self.inside.objects.items; descriptors = c.self.inside.descriptors.items } in
    let asked : CanPut (world_seen w) c.args.place c.in-Some.value = rw (← c.self.view_is, c.in-Some.is) at c.requires in
    let there = rw c.in-MemoryByte-Byte.is-0 at asked.there in
    byte_within w.memory c.in-MemoryByte-Byte.address there

pub returns-in-MemoryByte-Byte-clause-put : goal.returns-in-MemoryByte-Byte-clause-put
returns-in-MemoryByte-Byte-clause-put c =
    let w : WorldState = record { memory = c.self.inside.memory; objects = c.self.inside.objects.items; descriptors = c.self.inside.descriptors.items } in
    let asked : CanPut (world_seen w) c.args.place c.in-Some.value = rw (← c.self.view_is, c.in-Some.is) at c.requires in
    let there = rw c.in-MemoryByte-Byte.is-0 at asked.there in
    rw (← c.self.view_is, c.in-Some.is, c.in-MemoryByte-Byte.is-0, c.in-MemoryByte-Byte.is-1, c.set-in-MemoryByte-Byte.ensures) (put_memory w c.in-MemoryByte-Byte.address c.in-MemoryByte-Byte.byte (byte_within w.memory c.in-MemoryByte-Byte.address there))

pub index_mut-requires-in-Position-Number : goal.index_mut-requires-in-Position-Number
index_mut-requires-in-Position-Number c =
    let w : WorldState = record { memory = c.self.inside.memory; objects = c.self.inside.objects.items; descriptors = c.self.inside.descriptors.items } in
    let asked : CanPut (world_seen w) c.args.place c.in-Some.value = rw (← c.self.view_is, c.in-Some.is) at c.requires in
    let there : IsSome (world_seen w (Position c.in-Position-Number.fd)) = rw c.in-Position-Number.is-0 at asked.there in
    let within : c.in-Position-Number.fd - 3 < length w.descriptors = within_there w c.in-Position-Number.fd (positioned_there w c.in-Position-Number.fd there) in
    omega (arith, c.self.inside.descriptors.ok.0, within)

pub index_mut-requires-in-OpenMark-Number : goal.index_mut-requires-in-OpenMark-Number
index_mut-requires-in-OpenMark-Number c =
    let w : WorldState = record { memory = c.self.inside.memory; objects = c.self.inside.objects.items; descriptors = c.self.inside.descriptors.items } in
    let asked : CanPut (world_seen w) c.args.place c.in-Some.value = rw (← c.self.view_is, c.in-Some.is) at c.requires in
    let there : IsSome (world_seen w (OpenMark c.in-OpenMark-Number.fd)) = rw c.in-OpenMark-Number.is-0 at asked.there in
    let within : c.in-OpenMark-Number.fd - 3 < length w.descriptors = within_there w c.in-OpenMark-Number.fd (marked_there w c.in-OpenMark-Number.fd there) in
    omega (arith, c.self.inside.descriptors.ok.0, within)

pub returns-in-Position-Number-clause-put : goal.returns-in-Position-Number-clause-put
returns-in-Position-Number-clause-put c =
    let w : WorldState = record { memory = c.self.inside.memory; objects = c.self.inside.objects.items; descriptors = c.self.inside.descriptors.items } in
    let asked : CanPut (world_seen w) c.args.place c.in-Some.value = rw (← c.self.view_is, c.in-Some.is) at c.requires in
    let there : IsSome (world_seen w (Position c.in-Position-Number.fd)) = rw c.in-Position-Number.is-0 at asked.there in
    rw (← c.self.view_is, c.in-Some.is, c.in-Position-Number.is-0, c.in-Position-Number.is-1)
    (put_position_read w c.in-Position-Number.fd c.in-Position-Number.n c.index_mut-in-Position-Number.result.now (positioned_there w c.in-Position-Number.fd there) c.index_mut-in-Position-Number.ensures.value)

pub returns-in-Position-Number-clause-setup : goal.returns-in-Position-Number-clause-setup
returns-in-Position-Number-clause-setup c =
    let w : WorldState = record { memory = c.self.inside.memory; objects = c.self.inside.objects.items; descriptors = c.self.inside.descriptors.items } in
    let asked : CanPut (world_seen w) c.args.place c.in-Some.value = rw (← c.self.view_is, c.in-Some.is) at c.requires in
    let there : IsSome (world_seen w (Position c.in-Position-Number.fd)) = rw c.in-Position-Number.is-0 at asked.there in
    let d = c.index_mut-in-Position-Number.result.now in
    rw (← c.self.view_is)
    (one_setup_read w c.in-Position-Number.fd d (record d { position = Some c.in-Position-Number.n }) (positioned_there w c.in-Position-Number.fd there) c.index_mut-in-Position-Number.ensures.value
    (positioned_same w c.in-Position-Number.fd c.in-Position-Number.n d there c.index_mut-in-Position-Number.ensures.value))

pub returns-in-OpenMark-Number-clause-put : goal.returns-in-OpenMark-Number-clause-put
returns-in-OpenMark-Number-clause-put c =
    let w : WorldState = record { memory = c.self.inside.memory; objects = c.self.inside.objects.items; descriptors = c.self.inside.descriptors.items } in
    let asked : CanPut (world_seen w) c.args.place c.in-Some.value = rw (← c.self.view_is, c.in-Some.is) at c.requires in
    let there : IsSome (world_seen w (OpenMark c.in-OpenMark-Number.fd)) = rw c.in-OpenMark-Number.is-0 at asked.there in
    let fits = rw (c.in-OpenMark-Number.is-0, c.in-OpenMark-Number.is-1) at asked.fits in
    rw (← c.self.view_is, c.in-Some.is, c.in-OpenMark-Number.is-0, c.in-OpenMark-Number.is-1)
    (put_mark_read w c.in-OpenMark-Number.fd c.in-OpenMark-Number.n c.index_mut-in-OpenMark-Number.result.now (marked_there w c.in-OpenMark-Number.fd there) c.index_mut-in-OpenMark-Number.ensures.value (mark_fits c.in-OpenMark-Number.n fits))

pub returns-in-OpenMark-Number-clause-setup : goal.returns-in-OpenMark-Number-clause-setup
returns-in-OpenMark-Number-clause-setup c =
    let w : WorldState = record { memory = c.self.inside.memory; objects = c.self.inside.objects.items; descriptors = c.self.inside.descriptors.items } in
    let asked : CanPut (world_seen w) c.args.place c.in-Some.value = rw (← c.self.view_is, c.in-Some.is) at c.requires in
    let there : IsSome (world_seen w (OpenMark c.in-OpenMark-Number.fd)) = rw c.in-OpenMark-Number.is-0 at asked.there in
    let d = c.index_mut-in-OpenMark-Number.result.now in
    rw (← c.self.view_is)
    (one_setup_read w c.in-OpenMark-Number.fd d (record d { is_open = c.in-OpenMark-Number.n == 1 }) (marked_there w c.in-OpenMark-Number.fd there) c.index_mut-in-OpenMark-Number.ensures.value refl)
