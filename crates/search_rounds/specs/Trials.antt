-- Runs in order of their numbers, up to the first that shows what is searched for.
use Rattle.std.specs.Prelude.{◌≡◌, ℕ, ◌+◌, ◌<◌, ◌≤◌, ◌↔◌, ◌++◌, true, false, IsTrue, Option, Some, None, List, [], ◌∷◌, length}
use Rattle.search_rounds.specs.declared.outcome.Outcome.{Outcome}
use Rattle.search_rounds.specs.declared.outcome.Totals.{Totals}
use Rattle.search_rounds.specs.Counting.{Counts}

-- An outcome is that of run `n`: it says whether the run shows what is searched for.
pub record IsOutcome (shows : ℕ → Type 0) (gives : ℕ → Outcome → Type 0) (n : ℕ) (o : Outcome) : Type 0 where
  pub decides : IsTrue o.shows ↔ shows n
  pub given : gives n o

-- The runs from a number on have these outcomes, and none shows what is searched for.
abbrev pub Trials : (ℕ → Outcome → Type 0) → ℕ → List Outcome → Type 0
Trials gives n [] = Unit {0}
Trials gives n (o ∷ os) = gives n o × (o.shows ≡ false) × Trials gives (n + 1) os

-- No run from `a` up to `b` shows what is searched for, and these are their totals.
pub record IsQuiet (gives : ℕ → Outcome → Type 0) (a b : ℕ) (t : Totals) : Type 0 where
  pub outcomes : List Outcome
  pub until : a + length outcomes ≡ b
  pub trials : Trials gives a outcomes
  pub totals : Counts t outcomes

-- Run `n` shows what is searched for, and no run from `a` up to it does. The totals are of all these.
pub record IsFirst (gives : ℕ → Outcome → Type 0) (a n : ℕ) (t : Totals) : Type 0 where
  pub before : List Outcome
  pub last : Outcome
  pub until : a + length before ≡ n
  pub trials : Trials gives a before
  pub gives_last : gives n last
  pub shows : last.shows ≡ true
  pub totals : Counts t (before ++ last ∷ [])

-- What a search through the runs from `a` up to `b` reports.
abbrev pub Reports : (ℕ → Outcome → Type 0) → ℕ → ℕ → Option ℕ → Totals → Type 0
Reports gives a b None t = IsQuiet gives a b t
Reports gives a b (Some n) t = (n < b) × IsFirst gives a n t

-- No number from `a` up to `b` shows.
abbrev pub NoneShows : (ℕ → Type 0) → ℕ → ℕ → Type 0
NoneShows shows a b = (n : ℕ) → a ≤ n → n < b → shows n → ⊥

-- The least number from `a` up to `b` that shows, if there is one.
abbrev pub IsLeast : (ℕ → Type 0) → ℕ → ℕ → Option ℕ → Type 0
IsLeast shows a b None = NoneShows shows a b
IsLeast shows a b (Some n) = (a ≤ n) × (n < b) × shows n × NoneShows shows a n
