use Rattle.std.proofs.Common.{◌≡◌, [], rules, refl}
use Rattle.places.specs.View.{named}
use Rattle.places.proofs.notes.more.More.names.Goals as goal

pub returns-in-Nothing : goal.returns-in-Nothing
unfolding named
returns-in-Nothing c = let e : c.args.self.now.rest.odd ≡ [] = search rules in rw (e) refl
