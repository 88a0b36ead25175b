use Rattle.std.proofs.Common.{◌≡◌, ◌+◌, ◌-◌, ◌≤◌, ◌++◌, length, replicate}
use Rattle.shared_pages.proofs.list.PagedList.grow.Given as goal

abbrev pub invariant-loop-element : goal.invariant-loop-element
invariant-loop-element g l = record { same : l.self ≡ l.initial.self ++ replicate (length l.self - length l.initial.self) l.element; more : length l.initial.self ≤ length l.self; most : length l.self ≤ length l.initial.self + (l.n - length l.initial.self) }

abbrev pub decreases-loop-element : goal.decreases-loop-element
decreases-loop-element g l = l.n - length l.self
