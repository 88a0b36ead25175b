use Rattle.std.proofs.Common.{◌≡◌, ◌∙◌, ap, length, ◌+◌, ◌≤◌, arith}
use Rattle.std.specs.Prelude.{Some, IsSomeAnd, slice_get}
use Rattle.model_files.specs.declared.body.Body.TheVariants.{Pipe}
use Rattle.model_files.specs.Pipes.{GivesOut}
use Rattle.model_files.specs.Worlds.{WorldState, pipe_in, pipe_of}
use Rattle.model_files.proofs.Lifting.{found_body, some_and}
use Rattle.model_files.proofs.CopiedOut.{copied_is}
use Rattle.model_files.proofs.world.World.copy_oldest.Goals as goal

pub returns : goal.returns
returns c =
    let w : WorldState = record { memory = c.self.inside.memory; objects = c.self.inside.objects.items; descriptors = c.self.inside.descriptors.items } in
    let there : IsSomeAnd (pipe_of w c.args.object) (GivesOut c.args.count) = rw (← c.self.view_is) at c.requires.there in
    let found : slice_get w.objects c.args.object ≡ Some (Pipe c.in-Pipe.pipe) = found_body pipe_in w c.args.object c.index.result.now (some_and (GivesOut c.args.count) (pipe_of w c.args.object) there) c.index.ensures ∙ ap Some c.in-Pipe.is in
    let room : c.args.address + c.args.count ≤ length w.memory = omega (arith, c.requires.in_memory, c.self.invariant) in
    let size = c.oldest.ensures.len in
    rw (← c.self.view_is)
    (copied_is w c.args.object c.args.count c.args.address c.in-Pipe.pipe c.oldest.result.0.now c.oldest.result.1.now c.overwrite.new.bytes c.overwrite-2.new.bytes found c.oldest.ensures.bytes (omega (arith, size, room)) c.overwrite.ensures.next c.overwrite-2.ensures.next)
