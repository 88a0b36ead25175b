use Rattle.std.proofs.Common.{◌≡◌, ◌∙◌, ap, length, ◌+◌, ◌≤◌, arith}
use Rattle.std.specs.Prelude.{Some, IsSome, slice_get}
use Rattle.std.proofs.lemmas.Option.{slice_get_within}
use Rattle.model_files.specs.declared.body.Body.TheVariants.{EventFd}
use Rattle.model_files.specs.Worlds.{WorldState, counter_in, counter_of}
use Rattle.model_files.proofs.Lifting.{found_body}
use Rattle.model_files.proofs.CopiedOut.{cleared_is, keeps_cleared}
use Rattle.model_files.proofs.Remembering.{keeps_memory_bytes}
use Rattle.model_files.proofs.world.World.clear_event.Goals as goal

pub returns-in_err-note_memory-clause-keeps : goal.returns-in_err-note_memory-clause-keeps
returns-in_err-note_memory-clause-keeps c = keeps_memory_bytes c.args.self.now c.args.address (length c.to_le_bytes-bytes.result) _ _ c.in_err-note_memory.ensures.among

pub returns-in_err-note_number-clause-keeps : goal.returns-in_err-note_number-clause-keeps
returns-in_err-note_number-clause-keeps c = rw c.in_err-note_number.ensures.err (keeps_memory_bytes c.args.self.now c.args.address (length c.to_le_bytes-bytes.result) _ _ c.in_ok-note_memory.ensures.among)

pub index_mut-requires : goal.index_mut-requires
index_mut-requires c =
    let w : WorldState = record { memory = c.self.inside.memory; objects = c.self.inside.objects.items; descriptors = c.self.inside.descriptors.items } in
    let there : IsSome (counter_of w c.args.object) = rw (← c.self.view_is) at c.requires.counter in
    let found : slice_get w.objects c.args.object ≡ Some (EventFd c.in-EventFd.counter) = found_body counter_in w c.args.object c.index.result.now there c.index.ensures ∙ ap Some c.in-EventFd.is in
    let within = slice_get_within w.objects c.args.object (EventFd c.in-EventFd.counter) found in
    omega (arith, c.self.inside.objects.ok.0, within)

pub returns-clause-ok : goal.returns-clause-ok
returns-clause-ok c =
    let w : WorldState = record { memory = c.self.inside.memory; objects = c.self.inside.objects.items; descriptors = c.self.inside.descriptors.items } in
    let there : IsSome (counter_of w c.args.object) = rw (← c.self.view_is) at c.requires.counter in
    let found : slice_get w.objects c.args.object ≡ Some (EventFd c.in-EventFd.counter) = found_body counter_in w c.args.object c.index.result.now there c.index.ensures ∙ ap Some c.in-EventFd.is in
    rw (← c.self.view_is) (cleared_is w c.args.object c.args.address c.in-EventFd.counter c.to_le_bytes-bytes.result c.overwrite.new.bytes found c.to_le_bytes-bytes.ensures c.overwrite.ensures.next)

pub returns-clause-keeps : goal.returns-clause-keeps
returns-clause-keeps c =
    let w : WorldState = record { memory = c.self.inside.memory; objects = c.self.inside.objects.items; descriptors = c.self.inside.descriptors.items } in
    let there : IsSome (counter_of w c.args.object) = rw (← c.self.view_is) at c.requires.counter in
    let found : slice_get w.objects c.args.object ≡ Some (EventFd c.in-EventFd.counter) = found_body counter_in w c.args.object c.index.result.now there c.index.ensures ∙ ap Some c.in-EventFd.is in
    let room : c.args.address + 8 ≤ length w.memory = omega (arith, c.requires.in_memory, c.self.invariant) in
    let size : length c.to_le_bytes-bytes.result ≡ 8 = ap length c.to_le_bytes-bytes.ensures in
    rw (← c.self.view_is)
    (keeps_cleared w c.args.object c.args.address c.in-EventFd.counter c.to_le_bytes-bytes.result c.overwrite.new.bytes _ _ _ found (omega (arith, size, room)) (rw (← c.self.view_is) at c.in_ok-note_memory.ensures.among) (rw (← c.self.view_is) at c.in_ok-note_memory.ensures.noted) c.in_ok-note_number.ensures.ok c.overwrite.ensures.next)
