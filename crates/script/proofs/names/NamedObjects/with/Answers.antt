use Rattle.std.proofs.Common.{◌∷◌, [], arith, length-append}
use Rattle.script.proofs.Numbered.{kept_names}
use Rattle.script.proofs.names.NamedObjects.with.Goals as goal

pub invariant_of-named : goal.invariant_of-named
invariant_of-named c =
    let fresh = rw (← c.self.view_is) at c.requires.new in
    let room = rw (← c.self.view_is) at c.requires.room in
    rw c.in-Ok.ensures.items (record {
      names = kept_names c.self.inside.names.keys c.insert.new.self.keys c.self.inside.objects.items c.args.name c.args.object c.self.invariant.names c.requires.same fresh c.in-Ok-insert.ensures.keys;
      few = let l = length-append c.self.inside.objects.items (c.args.object ∷ []) in omega (arith, l, room);
    })
