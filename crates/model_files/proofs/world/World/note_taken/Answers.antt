use Rattle.std.proofs.Common.{◌≡◌, ◌∙◌, ap, length, ◌+◌, ◌≤◌, arith}
use Rattle.std.specs.Prelude.{Some, IsSomeAnd, slice_get}
use Rattle.model_files.specs.declared.body.Body.TheVariants.{Pipe}
use Rattle.model_files.specs.Pipes.{GivesOut}
use Rattle.model_files.specs.Worlds.{WorldState, pipe_in, pipe_of}
use Rattle.model_files.proofs.Lifting.{found_body, some_and}
use Rattle.places.proofs.Keeping.{keeps_then}
use Rattle.model_files.specs.Worlds.{world_owns, world_seen}
use Rattle.model_files.proofs.CopiedOut.{keeps_count, keeps_two, names_taken, second_part_fresh}
use Rattle.model_files.proofs.Remembering.{keeps_memory_bytes}
use Rattle.model_files.proofs.world.World.note_taken.Goals as goal

pub returns-in_err-note_memory-clause-keeps : goal.returns-in_err-note_memory-clause-keeps
returns-in_err-note_memory-clause-keeps c = keeps_memory_bytes c.args.self.now c.args.address (length c.oldest.result.0.now) _ _ c.in_err-note_memory.ensures.among

pub note_memory-requires-2-clause-fresh : goal.note_memory-requires-2-clause-fresh
note_memory-requires-2-clause-fresh c =
    let size = c.oldest.ensures.len in
    let room : c.args.address + c.args.count ≤ length c.args.self.now.memory = rw (← c.self.view_is) (omega (arith, c.requires.in_memory, c.self.invariant)) in
    second_part_fresh c.args.self.now c.args.address (length c.oldest.result.0.now) (length c.oldest.result.1.now) _ _ (omega (arith, size, room)) c.in_ok-note_memory.ensures.among (λ i l. c.requires.fresh i (omega (arith, size, l)))

pub returns-in_err-note_memory-2-clause-keeps : goal.returns-in_err-note_memory-2-clause-keeps
returns-in_err-note_memory-2-clause-keeps c = keeps_two c.args.self.now c.args.address (length c.oldest.result.0.now) (c.args.address + length c.oldest.result.0.now) (length c.oldest.result.1.now) _ _ _ c.in_ok-note_memory.ensures.among c.in_err-note_memory-2.ensures.among

pub returns-in_err-note_number-clause-keeps : goal.returns-in_err-note_number-clause-keeps
returns-in_err-note_number-clause-keeps c = rw c.in_err-note_number.ensures.err (keeps_two c.args.self.now c.args.address (length c.oldest.result.0.now) (c.args.address + length c.oldest.result.0.now) (length c.oldest.result.1.now) _ _ _ c.in_ok-note_memory.ensures.among c.in_ok-note_memory-2.ensures.among)

pub returns-clause-keeps : goal.returns-clause-keeps
returns-clause-keeps c =
    let w : WorldState = record { memory = c.self.inside.memory; objects = c.self.inside.objects.items; descriptors = c.self.inside.descriptors.items } in
    let there : IsSomeAnd (pipe_of w c.args.object) (GivesOut c.args.count) = rw (← c.self.view_is) at c.requires.there in
    let found : slice_get w.objects c.args.object ≡ Some (Pipe c.in-Pipe.pipe) = found_body pipe_in w c.args.object c.index.result.now (some_and (GivesOut c.args.count) (pipe_of w c.args.object) there) c.index.ensures ∙ ap Some c.in-Pipe.is in
    let room : c.args.address + c.args.count ≤ length w.memory = omega (arith, c.requires.in_memory, c.self.invariant) in
    let size = c.oldest.ensures.len in
    let here : slice_get c.args.self.now.objects c.args.object ≡ Some (Pipe c.in-Pipe.pipe) = rw (← c.self.view_is) found in
    let v = world_seen c.args.self.now in
    keeps_then world_owns v v v _ _ _
    (keeps_two c.args.self.now c.args.address (length c.oldest.result.0.now) (c.args.address + length c.oldest.result.0.now) (length c.oldest.result.1.now) _ _ _ c.in_ok-note_memory.ensures.among c.in_ok-note_memory-2.ensures.among)
    (keeps_count c.args.self.now c.args.object c.in-Pipe.pipe _ _ here (rw c.taken.ensures at c.in_ok-note_number.ensures.ok))

pub returns-clause-noted : goal.returns-clause-noted
returns-clause-noted c =
    let w : WorldState = record { memory = c.self.inside.memory; objects = c.self.inside.objects.items; descriptors = c.self.inside.descriptors.items } in
    let there : IsSomeAnd (pipe_of w c.args.object) (GivesOut c.args.count) = rw (← c.self.view_is) at c.requires.there in
    let found : slice_get w.objects c.args.object ≡ Some (Pipe c.in-Pipe.pipe) = found_body pipe_in w c.args.object c.index.result.now (some_and (GivesOut c.args.count) (pipe_of w c.args.object) there) c.index.ensures ∙ ap Some c.in-Pipe.is in
    let room : c.args.address + c.args.count ≤ length w.memory = omega (arith, c.requires.in_memory, c.self.invariant) in
    let size = c.oldest.ensures.len in
    let here : slice_get c.args.self.now.objects c.args.object ≡ Some (Pipe c.in-Pipe.pipe) = rw (← c.self.view_is) found in
    let all : c.args.address + c.args.count ≤ length c.args.self.now.memory = rw (← c.self.view_is) (omega (arith, c.requires.in_memory, c.self.invariant)) in
    names_taken c.args.self.now c.args.object c.args.count c.args.address c.in-Pipe.pipe c.oldest.result.0.now c.oldest.result.1.now _ _ _ here c.oldest.ensures.bytes (omega (arith, size, all)) c.in_ok-note_memory.ensures.noted c.in_ok-note_memory-2.ensures.among c.in_ok-note_memory-2.ensures.noted (rw c.taken.ensures at c.in_ok-note_number.ensures.ok)
