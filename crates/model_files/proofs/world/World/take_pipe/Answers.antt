use Rattle.std.proofs.Common.{◌≡◌, ◌∙◌}
use Rattle.model_files.specs.Pipes.{GivesOut}
use Rattle.model_files.specs.Worlds.{WorldState, pipe_of, world_taken}
use Rattle.model_files.proofs.CopiedOut.{keeps_taken, taken_is}
use Rattle.model_files.proofs.Lifting.{with_body, some_and}
use Rattle.model_files.proofs.world.World.take_pipe.Goals as goal

pub returns-clause-ok : goal.returns-clause-ok
returns-clause-ok c =
    let v : WorldState = record { memory = c.self.inside.memory; objects = c.self.inside.objects.items; descriptors = c.self.inside.descriptors.items } in
    taken_is c.args.self.now v c.args.object c.args.count c.args.address c.index_mut.result.now c.take.new.self (c.self.view_is ∙ c.copy_oldest.ensures) (some_and (GivesOut c.args.count) (pipe_of c.args.self.now c.args.object) c.requires.there) c.index_mut.ensures.value c.take.ensures

pub returns-clause-keeps : goal.returns-clause-keeps
returns-clause-keeps c =
    let v : WorldState = record { memory = c.self.inside.memory; objects = c.self.inside.objects.items; descriptors = c.self.inside.descriptors.items } in
    let is : with_body v c.args.object c.take.new.self ≡ world_taken c.args.object c.args.count c.args.address c.args.self.now =
    taken_is c.args.self.now v c.args.object c.args.count c.args.address c.index_mut.result.now c.take.new.self (c.self.view_is ∙ c.copy_oldest.ensures) (some_and (GivesOut c.args.count) (pipe_of c.args.self.now c.args.object) c.requires.there) c.index_mut.ensures.value c.take.ensures in
    keeps_taken c.args.self.now (with_body v c.args.object c.take.new.self) c.args.object c.args.count c.args.address _ _ is c.in_ok-note_taken.ensures.keeps c.in_ok-note_taken.ensures.noted
