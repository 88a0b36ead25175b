use Rattle.findings.proofs.Common.{◌≡◌, ◌*◌, ◌≤◌, ℕ, length, nat_lt, ◌&&◌, ◌||◌, has}
use Rattle.findings.proofs.Marks.{is_volatile_byte}
use Rattle.findings.proofs.marking.mark_below.Given as goal

abbrev pub invariant-loop-at : goal.invariant-loop-at
invariant-loop-at l = ((k : ℕ) → has l.bytes k ≡ (has l.fn.bytes k || (nat_lt k l.at && is_volatile_byte l.state l.object l.durable k))) × (l.at ≤ 64 * length l.bytes)
