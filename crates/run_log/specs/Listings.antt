-- The changes of a step, in the order of places.
use Rattle.std.specs.Prelude.{ℕ, ◌+◌, ◌*◌, ◌^◌, List, map, IsPermutation}
use Rattle.run_log.specs.Common.{IsNonDecreasingBy, Place, Change, kind_of, index_of, second_of, View, Changed}

-- The order of places: by kind, then by object, thread or index, then by the index within an
-- object. The latter two are below 2 ^ 32.
abbrev pub rank : Place → ℕ
rank p = (kind_of p * 2 ^ 32 + index_of p) * 2 ^ 32 + second_of p

-- A change of an undo record, together with the value after the step.
abbrev pub changed_to : View → Change → Changed
changed_to after c = record { place = c.place; old = c.old; new = after c.place }

-- All changes of an undo record, each once, in the order of places.
pub record IsListing (after : View) (cs : List Change) (ds : List Changed) : Type 0 where
  pub all : IsPermutation (map (changed_to after) cs) ds
  pub order : IsNonDecreasingBy (λ d. rank d.place) ds
