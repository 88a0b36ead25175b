use Rattle.std.proofs.Common.{◌≡◌, [], rules, refl}
use Rattle.places.specs.View.{named}
use Rattle.places.proofs.notes.kept.Kept.names.Goals as goal

pub returns-in-None : goal.returns-in-None
unfolding named
returns-in-None c = let e : c.args.self.now.odd ≡ [] = search rules in rw (e) refl
