-- Looking up objects by name.
use Rattle.std.specs.Prelude.{◌≡◌, ℕ, ◌≤◌, List, map, length}
use Rattle.places.specs.declared.object.Object.{Object}
use denote.Ref.{Bor}

-- The bytes of borrowed texts.
abbrev pub texts : List (Bor (List ℕ)) → List (List ℕ)
texts ks = map (λ k. k.now) ks

-- The keys are the objects' names in order, and there are at most 32.
pub record AreNumbered (keys : List (Bor (List ℕ))) (objects : List Object) : Type 0 where
  pub names : texts keys ≡ map (λ o. o.name) objects
  pub few : length objects ≤ 32
