-- The first moment at which goals are reached, as far as a run was looked at.
use Rattle.std.specs.Prelude.{ℕ, ◌≤◌, Bool, true, false, Option, Some, None, List, length}
use Rattle.scenario.specs.declared.event.Event.{Event}
use Rattle.scenario.specs.declared.setup.Setup.{Setup}
use Rattle.symptoms.specs.declared.symptom.Goal.{Goal}
use Rattle.symptoms.specs.Symptoms.{TakesAt}

-- The first moment up to moment i at which the goals are reached: None if there is none.
abbrev pub IsFirstUpTo : Setup → List Event → ℕ → List Goal → Option ℕ → Type 0
IsFirstUpTo s es i goals (Some k) = TakesAt s es goals k × ((m : ℕ) → TakesAt s es goals m → k ≤ m)
IsFirstUpTo s es i goals None = (m : ℕ) → m ≤ i → TakesAt s es goals m → ⊥

-- The first moment, once moment m is looked at too.
abbrev pub first_of : Option ℕ → Bool → ℕ → Option ℕ
first_of (Some k) is_taken m = Some k
first_of None true m = Some m
first_of None false m = None

-- The first i events of a run were searched for the first moment at which the goals are reached.
pub record HasLooked (s : Setup) (es : List Event) (i : ℕ) (goals : List Goal) (reached : Option ℕ) : Type 0 where
  pub most : length es ≤ 1048576
  pub first : IsFirstUpTo s es i goals reached
