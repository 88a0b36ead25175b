use Rattle.std.proofs.Common.{◌≡◌, ◌+◌, ◌-◌, ◌≤◌, ◌∙◌, length, arith}
use Rattle.std.specs.Prelude.{IsSome}
use Rattle.model_files.specs.Files.{part}
use Rattle.model_files.specs.Worlds.{WorldState, file_in, file_of}
use Rattle.model_files.proofs.Lifting.{found_body, read_is}
use Rattle.model_files.proofs.Noting.{length-part}
use Rattle.model_files.proofs.Remembering.{keeps_memory, keeps_memory_bytes}
use Rattle.model_files.proofs.world.World.read_at.Goals as goal

pub returns-clause-ok : goal.returns-clause-ok
returns-clause-ok c =
    let w : WorldState = record { memory = c.self.inside.memory; objects = c.self.inside.objects.items; descriptors = c.self.inside.descriptors.items } in
    let there : IsSome (file_of w c.args.object) = rw (← c.self.view_is) at c.requires.file in
    let found = found_body file_in w c.args.object c.index.result.now there c.index.ensures in
    rw (← c.self.view_is)
    (read_is w c.args.object c.args.offset c.args.count c.args.address c.index.result.now c.in-File.file c.bytes.result.now c.overwrite.new.bytes found c.in-File.is c.bytes.ensures.value c.overwrite.ensures.next)

pub returns-in_err-note_differing-clause-keeps : goal.returns-in_err-note_differing-clause-keeps
returns-in_err-note_differing-clause-keeps c =
    let w : WorldState = record { memory = c.self.inside.memory; objects = c.self.inside.objects.items; descriptors = c.self.inside.descriptors.items } in
    rw (← c.self.view_is) (keeps_memory_bytes w c.args.address ((c.args.address + c.args.count) - c.args.address) _ _ (rw c.as_slice.ensures at c.in_err-note_differing.ensures.among))

pub returns-clause-keeps : goal.returns-clause-keeps
returns-clause-keeps c =
    let w : WorldState = record { memory = c.self.inside.memory; objects = c.self.inside.objects.items; descriptors = c.self.inside.descriptors.items } in
    let room : c.args.address + c.args.count ≤ length w.memory = omega (arith, c.requires.in_memory, c.self.invariant) in
    let size = c.bytes.ensures.len in
    let count : length (part c.bytes.result.now c.args.offset ((c.args.offset + c.args.count) - c.args.offset)) ≡ (c.args.address + c.args.count) - c.args.address =
    length-part c.bytes.result.now c.args.offset ((c.args.offset + c.args.count) - c.args.offset) (let w = c.requires.in_file in omega arith) ∙ omega arith in
    rw (← c.self.view_is, c.overwrite.ensures.next)
    (keeps_memory w c.args.address ((c.args.address + c.args.count) - c.args.address) _ _ _ (omega arith) count (rw c.as_slice.ensures at c.in_ok-note_differing.ensures.among)
    (rw c.as_slice.ensures at c.in_ok-note_differing.ensures.noted))
