use Rattle.std.proofs.Common.{◌≡◌, ℕ, ◌-◌, ◌<◌, ◌≤◌, length}
use Rattle.std.specs.Prelude.{None}
use Rattle.prompt_order.specs.Prompt.{prompt_event}
use Rattle.prompt_order.proofs.due.first_in.Given as goal

abbrev pub invariant-rows : goal.invariant-rows
invariant-rows l = record {
  within : l.from ≤ l.next;
  quiet : (k : ℕ) → l.from ≤ k → k < l.next → prompt_event l.turn l.state k ≡ None;
}

abbrev pub decreases-rows : goal.decreases-rows
decreases-rows l = length l.state.table - l.next
