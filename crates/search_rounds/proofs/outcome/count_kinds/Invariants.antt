use Rattle.std.proofs.Common.{◌≡◌, ℕ, ◌+◌, ◌<◌, ◌≤◌, slice_index}
use Rattle.std.specs.Int.{bit_at}
use Rattle.search_rounds.proofs.outcome.count_kinds.Given as goal

pub record IsCounted (first now : ℕ → ℕ) (shown n : ℕ) : Type 0 where
  pub counted : (k : ℕ) → k < n → now k ≡ first k + bit_at shown k
  pub left : (k : ℕ) → n ≤ k → now k ≡ first k

abbrev pub invariant-loop-k : goal.invariant-loop-k
invariant-loop-k l = IsCounted (slice_index l.fn.kinds) (slice_index l.kinds) l.shown l.k
