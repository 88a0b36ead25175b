use Rattle.std.proofs.Common.{◌≡◌, ◌∙◌, ap}
use Rattle.std.specs.Prelude.{Some, IsSomeAnd, slice_get}
use Rattle.std.proofs.lemmas.Result.{on_ok_weaker}
use Rattle.model_files.specs.declared.body.Body.TheVariants.{File}
use Rattle.model_files.specs.Files.{written, part, FileFormed}
use Rattle.model_files.specs.Worlds.{WorldState, file_in, file_of, on_file}
use Rattle.model_files.proofs.Lifting.{changed_body, found_body, keeps_object, range_is, some_and}
use Rattle.model_files.proofs.world.World.write_at.Goals as goal

pub returns-clause-ok : goal.returns-clause-ok
returns-clause-ok c =
    let w : WorldState = record { memory = c.self.inside.memory; objects = c.self.inside.objects.items; descriptors = c.self.inside.descriptors.items } in
    let there : IsSomeAnd (file_of w c.args.object) FileFormed = rw (← c.self.view_is) at c.requires.file in
    let found : slice_get w.objects c.args.object ≡ Some (File c.in-File.file) = found_body file_in w c.args.object c.index_mut.result.now (some_and FileFormed (file_of w c.args.object) there) c.index_mut.ensures.value ∙ ap Some c.in-File.is in
    let done = rw (c.as_slice.ensures, range_is w.memory c.args.address c.args.count) at c.write_at.ensures.ok in
    rw (← c.self.view_is) (on_ok_weaker c.write_at.result (λ e. changed_body (on_file (written (part w.memory c.args.address c.args.count) c.args.offset)) w c.args.object (File c.in-File.file) (File c.write_at.new.self) found (ap File e)) done)

pub returns-clause-keeps : goal.returns-clause-keeps
returns-clause-keeps c =
    let w : WorldState = record { memory = c.self.inside.memory; objects = c.self.inside.objects.items; descriptors = c.self.inside.descriptors.items } in
    let there : IsSomeAnd (file_of w c.args.object) FileFormed = rw (← c.self.view_is) at c.requires.file in
    let found : slice_get w.objects c.args.object ≡ Some (File c.in-File.file) = found_body file_in w c.args.object c.index_mut.result.now (some_and FileFormed (file_of w c.args.object) there) c.index_mut.ensures.value ∙ ap Some c.in-File.is in
    rw (← c.self.view_is) (keeps_object w c.args.object (File c.in-File.file) (File c.write_at.new.self) _ _ found c.write_at.ensures.keeps)
