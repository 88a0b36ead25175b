use Rattle.std.proofs.Common.{◌≡◌, sym, ◌∙◌, ap}
use Rattle.std.specs.Prelude.{None}
use Rattle.places.specs.Stretched.{kept_of}
use Rattle.places.specs.Runs.{place_in}
use Rattle.places.specs.declared.notes.runs.Region.TheVariants.{Memory}
use Rattle.model_files.specs.Objects.{object_in}
use Rattle.model_files.specs.Worlds.{WorldState}
use Rattle.model_files.proofs.PuttingBack.{is_memory, put_memory_bytes}
use Rattle.model_files.proofs.world.World.put_back.Goals as goal

pub returns-clause-put : goal.returns-clause-put
returns-clause-put c =
    let w : WorldState = record { memory = c.self.inside.memory; objects = c.self.inside.objects.items; descriptors = c.self.inside.descriptors.items } in
    let none : object_in (place_in c.args.stretch.region c.args.stretch.start) ≡ None = ap object_in (sym c.place.ensures) ∙ sym c.object_in.ensures ∙ c.in_default.is in
    let m : c.args.stretch.region ≡ Memory = is_memory c.args.stretch.region c.args.stretch.start none in
    let present = rw (← c.self.view_is, m) at c.requires.present in
    rw (← c.self.view_is, m) (put_memory_bytes w c.args.stretch.start (kept_of c.args.stretch) _ c.put_over.ensures.over present)
