use Rattle.std.proofs.Common.{◌≡◌, ℕ, ◌+◌, ◌<◌, ◌≤◌, slice_index}
use Rattle.search_rounds.proofs.outcome.add_kinds.Given as goal

pub record IsAdded (first now more : ℕ → ℕ) (n : ℕ) : Type 0 where
  pub added : (k : ℕ) → k < n → now k ≡ first k + more k
  pub left : (k : ℕ) → n ≤ k → now k ≡ first k

abbrev pub invariant-loop-k : goal.invariant-loop-k
invariant-loop-k l = IsAdded (slice_index l.fn.kinds) (slice_index l.kinds) (slice_index l.more) l.k
