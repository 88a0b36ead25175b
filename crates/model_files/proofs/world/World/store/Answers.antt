use Rattle.std.proofs.Common.{◌+◌, ◌-◌, ◌≤◌, length, arith}
use Rattle.model_files.specs.Worlds.{WorldState}
use Rattle.model_files.proofs.Remembering.{keeps_memory, keeps_memory_bytes}
use Rattle.model_files.proofs.world.World.store.Goals as goal

pub returns-in_err-note_differing-clause-keeps : goal.returns-in_err-note_differing-clause-keeps
returns-in_err-note_differing-clause-keeps c =
    let w : WorldState = record { memory = c.self.inside.memory; objects = c.self.inside.objects.items; descriptors = c.self.inside.descriptors.items } in
    rw (← c.self.view_is)
    (keeps_memory_bytes w c.args.address ((c.args.address + length c.args.bytes.now) - c.args.address) _ _ (rw c.as_slice.ensures at c.in_err-note_differing.ensures.among))

pub returns-clause-keeps : goal.returns-clause-keeps
returns-clause-keeps c =
    let w : WorldState = record { memory = c.self.inside.memory; objects = c.self.inside.objects.items; descriptors = c.self.inside.descriptors.items } in
    let room : c.args.address + length c.args.bytes.now ≤ length w.memory = omega (arith, c.requires.in_memory, c.self.invariant) in
    rw (← c.self.view_is, c.overwrite.ensures.next)
    (keeps_memory w c.args.address ((c.args.address + length c.args.bytes.now) - c.args.address) _ _ _ (omega arith) (omega arith) (rw c.as_slice.ensures at c.in_ok-note_differing.ensures.among)
    (rw c.as_slice.ensures at c.in_ok-note_differing.ensures.noted))
