use Rattle.std.proofs.Common.{◌≡◌, take}
use Rattle.std.specs.Prelude.{map}
use Rattle.places.specs.declared.object.Object.{Object}
use Rattle.model_files.specs.Worlds.{body_start}
use Rattle.model_files.proofs.start.start_objects.Given as goal

abbrev pub invariant-loop-object : goal.invariant-loop-object
invariant-loop-object l = l.bodies.items ≡ map (λ (o : Object). body_start o.contents) (take l.object-index l.objects)
