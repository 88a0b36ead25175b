use Rattle.std.proofs.Common.{◌≡◌, map}
use Rattle.shared_pages.proofs.Joining.{lent_to}
use Rattle.shared_pages.proofs.shared.SharedList.restore.Given as goal

abbrev pub invariant-loop-k : goal.invariant-loop-k
invariant-loop-k g l = l.pages.items ≡ lent_to l.k (map (λ s. s.value.items) l.self-inside.pages.items) l.initial.pages.items
