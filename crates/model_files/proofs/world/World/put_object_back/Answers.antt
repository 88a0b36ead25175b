use Rattle.std.proofs.Common.{◌≡◌, ◌<◌, refl, length, arith}
use Rattle.std.specs.Prelude.{Some, slice_get}
use Rattle.std.proofs.lemmas.Option.{slice_get_read}
use Rattle.places.specs.Stretched.{kept_of}
use Rattle.places.specs.Runs.{place_in}
use Rattle.model_files.specs.Worlds.{WorldState}
use Rattle.model_files.proofs.Lifting.{owns_own, one_setup_body}
use Rattle.model_files.proofs.PuttingBack.{present_body, put_body_bytes, put_absent}
use Rattle.model_files.proofs.world.World.put_object_back.Goals as goal

pub put_back-requires-clause-present : goal.put_back-requires-clause-present
put_back-requires-clause-present c =
    let w : WorldState = record { memory = c.self.inside.memory; objects = c.self.inside.objects.items; descriptors = c.self.inside.descriptors.items } in
    let own = owns_own (place_in c.args.stretch.region c.args.stretch.start) c.args.object c.requires.its in
    let within : c.args.object < length w.objects = omega arith in
    let found : slice_get w.objects c.args.object ≡ Some c.index_mut.result.now = slice_get_read w.objects (length w.objects) c.args.object c.index_mut.result.now refl within c.index_mut.ensures.value in
    let present = rw (← c.self.view_is) at c.requires.present in
    present_body w c.args.object c.index_mut.result.now c.args.stretch.region c.args.stretch.start (kept_of c.args.stretch) found own present

pub returns-then-index-len-clause-put : goal.returns-then-index-len-clause-put
returns-then-index-len-clause-put c =
    let w : WorldState = record { memory = c.self.inside.memory; objects = c.self.inside.objects.items; descriptors = c.self.inside.descriptors.items } in
    let own = owns_own (place_in c.args.stretch.region c.args.stretch.start) c.args.object c.requires.its in
    let within : c.args.object < length w.objects = omega arith in
    let found : slice_get w.objects c.args.object ≡ Some c.index_mut.result.now = slice_get_read w.objects (length w.objects) c.args.object c.index_mut.result.now refl within c.index_mut.ensures.value in
    rw (← c.self.view_is) (put_body_bytes w c.args.object c.index_mut.result.now c.put_back.new.self c.args.stretch.region c.args.stretch.start (kept_of c.args.stretch) found own c.put_back.ensures.put)

pub returns-then-index-len-clause-setup : goal.returns-then-index-len-clause-setup
returns-then-index-len-clause-setup c =
    let w : WorldState = record { memory = c.self.inside.memory; objects = c.self.inside.objects.items; descriptors = c.self.inside.descriptors.items } in
    let within : c.args.object < length w.objects = omega arith in
    let found : slice_get w.objects c.args.object ≡ Some c.index_mut.result.now = slice_get_read w.objects (length w.objects) c.args.object c.index_mut.result.now refl within c.index_mut.ensures.value in
    rw (← c.self.view_is) (one_setup_body w c.args.object c.index_mut.result.now c.put_back.new.self found c.put_back.ensures.kind)

pub returns-else-index-len-clause-put : goal.returns-else-index-len-clause-put
returns-else-index-len-clause-put c =
    let w : WorldState = record { memory = c.self.inside.memory; objects = c.self.inside.objects.items; descriptors = c.self.inside.descriptors.items } in
    let present = rw (← c.self.view_is) at c.requires.present in
    rw (← c.self.view_is) (put_absent w c.args.object c.args.stretch.region c.args.stretch.start (kept_of c.args.stretch) c.requires.its (omega arith) present)
