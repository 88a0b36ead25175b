-- Totals over runs.
use Rattle.std.specs.Prelude.{◌≡◌, ℕ, ◌+◌, ◌<◌, List, length, slice_index, sum_by}
use Rattle.std.specs.Int.{bit_at}
use Rattle.search_rounds.specs.declared.outcome.Outcome.{Outcome}
use Rattle.search_rounds.specs.declared.outcome.Totals.{Totals}

-- one run more
pub record Adds (old : Totals) (o : Outcome) (new : Totals) : Type 0 where
  pub runs : new.runs ≡ old.runs + 1
  pub events : new.events ≡ old.events + o.events
  pub kinds : (k : ℕ) → k < 64 → slice_index new.kinds k ≡ slice_index old.kinds k + bit_at o.kinds k

-- the runs of both
pub record IsSum (a b both : Totals) : Type 0 where
  pub runs : both.runs ≡ a.runs + b.runs
  pub events : both.events ≡ a.events + b.events
  pub kinds : (k : ℕ) → k < 64 → slice_index both.kinds k ≡ slice_index a.kinds k + slice_index b.kinds k

-- the totals of runs with these outcomes: each kind counts the runs that showed it
pub record Counts (t : Totals) (os : List Outcome) : Type 0 where
  pub runs : t.runs ≡ length os
  pub events : t.events ≡ sum_by (λ (o : Outcome). o.events) os
  pub kinds : (k : ℕ) → k < 64 → slice_index t.kinds k ≡ sum_by (λ (o : Outcome). bit_at o.kinds k) os
