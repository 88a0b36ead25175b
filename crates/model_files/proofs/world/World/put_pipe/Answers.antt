use Rattle.std.proofs.Common.{◌≡◌, ◌∙◌, ap}
use Rattle.std.specs.Prelude.{Some, IsSomeAnd, slice_get}
use Rattle.std.proofs.lemmas.Result.{on_ok_weaker}
use Rattle.model_files.specs.declared.body.Body.TheVariants.{Pipe}
use Rattle.model_files.specs.Files.{part}
use Rattle.model_files.specs.Pipes.{put_in, TakesIn}
use Rattle.model_files.specs.Worlds.{WorldState, on_pipe, pipe_in, pipe_of}
use Rattle.model_files.proofs.Lifting.{changed_body, found_body, keeps_object, range_is, some_and}
use Rattle.model_files.proofs.world.World.put_pipe.Goals as goal

pub returns-clause-ok : goal.returns-clause-ok
returns-clause-ok c =
    let w : WorldState = record { memory = c.self.inside.memory; objects = c.self.inside.objects.items; descriptors = c.self.inside.descriptors.items } in
    let there : IsSomeAnd (pipe_of w c.args.object) (TakesIn c.args.count) = rw (← c.self.view_is) at c.requires.room in
    let found : slice_get w.objects c.args.object ≡ Some (Pipe c.in-Pipe.pipe) = found_body pipe_in w c.args.object c.index_mut.result.now (some_and (TakesIn c.args.count) (pipe_of w c.args.object) there) c.index_mut.ensures.value ∙ ap Some c.in-Pipe.is in
    let done = rw (c.as_slice.ensures, range_is w.memory c.args.address c.args.count) at c.put_noted.ensures.ok in
    rw (← c.self.view_is) (on_ok_weaker c.put_noted.result (λ e. changed_body (on_pipe (put_in (part w.memory c.args.address c.args.count))) w c.args.object (Pipe c.in-Pipe.pipe) (Pipe c.put_noted.new.self) found (ap Pipe e)) done)

pub returns-clause-keeps : goal.returns-clause-keeps
returns-clause-keeps c =
    let w : WorldState = record { memory = c.self.inside.memory; objects = c.self.inside.objects.items; descriptors = c.self.inside.descriptors.items } in
    let there : IsSomeAnd (pipe_of w c.args.object) (TakesIn c.args.count) = rw (← c.self.view_is) at c.requires.room in
    let found : slice_get w.objects c.args.object ≡ Some (Pipe c.in-Pipe.pipe) = found_body pipe_in w c.args.object c.index_mut.result.now (some_and (TakesIn c.args.count) (pipe_of w c.args.object) there) c.index_mut.ensures.value ∙ ap Some c.in-Pipe.is in
    rw (← c.self.view_is) (keeps_object w c.args.object (Pipe c.in-Pipe.pipe) (Pipe c.put_noted.new.self) _ _ found c.put_noted.ensures.keeps)
