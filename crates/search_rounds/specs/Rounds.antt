-- Rounds: each worker has a part of the numbers.
use Rattle.std.specs.Prelude.{ℕ, ◌+◌, ◌*◌, min, IfOk, OnOk}
use Rattle.search_rounds.specs.declared.outcome.Outcome.{Outcome}
use Rattle.search_rounds.specs.declared.lanes.Lane.{Lane}
use Rattle.search_rounds.specs.Trials.{Reports}

-- Where the part of a worker begins: each has 64 numbers, and the last ends at `until`.
abbrev pub part_start : ℕ → ℕ → ℕ → ℕ
part_start from until i = min (from + 64 * i) until

-- A lane has made the runs from `a` up to `b`, and reports what they show.
pub record HasRun {W : Type 0} (ready : W → Type 0) (gives : ℕ → Outcome → Type 0) (a b : ℕ) (lane : Lane W) : Type 0 where
  pub worker : OnOk lane.found (ready lane.worker)
  pub reports : IfOk lane.found (λ found. Reports gives a b found lane.totals)
