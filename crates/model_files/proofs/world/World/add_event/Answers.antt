use Rattle.std.proofs.Common.{◌≡◌, ◌∙◌, ap, refl, ◌+◌, ◌<◌, ◌^◌}
use Rattle.std.specs.Prelude.{Some, IsSomeAnd, slice_get}
use Rattle.model_files.specs.declared.body.Body.TheVariants.{EventFd}
use Rattle.model_files.specs.Worlds.{WorldState, on_counter, counter_in, counter_of}
use Rattle.model_files.proofs.Lifting.{changed_body, found_body, keeps_object, some_and}
use Rattle.model_files.proofs.Piping.{keeps_counter}
use Rattle.model_files.proofs.world.World.add_event.Goals as goal

pub returns-clause-ok : goal.returns-clause-ok
returns-clause-ok c =
    let w : WorldState = record { memory = c.self.inside.memory; objects = c.self.inside.objects.items; descriptors = c.self.inside.descriptors.items } in
    let there : IsSomeAnd (counter_of w c.args.object) (λ n. n + c.args.number < 2 ^ 64) = rw (← c.self.view_is) at c.requires.room in
    let n = c.in-EventFd.counter in
    let found : slice_get w.objects c.args.object ≡ Some (EventFd c.in-EventFd.counter) = found_body counter_in w c.args.object c.index_mut.result.now (some_and (λ n. n + c.args.number < 2 ^ 64) (counter_of w c.args.object) there) c.index_mut.ensures.value ∙ ap Some c.in-EventFd.is in
    rw (← c.self.view_is) (changed_body (on_counter (λ n. n + c.args.number)) w c.args.object (EventFd n) (EventFd (n + c.args.number)) found refl)

pub returns-clause-keeps : goal.returns-clause-keeps
returns-clause-keeps c =
    let w : WorldState = record { memory = c.self.inside.memory; objects = c.self.inside.objects.items; descriptors = c.self.inside.descriptors.items } in
    let there : IsSomeAnd (counter_of w c.args.object) (λ n. n + c.args.number < 2 ^ 64) = rw (← c.self.view_is) at c.requires.room in
    let n = c.in-EventFd.counter in
    let found : slice_get w.objects c.args.object ≡ Some (EventFd c.in-EventFd.counter) = found_body counter_in w c.args.object c.index_mut.result.now (some_and (λ n. n + c.args.number < 2 ^ 64) (counter_of w c.args.object) there) c.index_mut.ensures.value ∙ ap Some c.in-EventFd.is in
    rw (← c.self.view_is) (keeps_object w c.args.object (EventFd n) (EventFd (n + c.args.number)) _ _ found (keeps_counter c.args.object n (n + c.args.number) _ _ c.in_ok-note_number.ensures.ok))
