use Rattle.std.proofs.Common.{◌≡◌, map, take}
use Rattle.shared_pages.proofs.list.share_pages.Given as goal

abbrev pub invariant-loop-k : goal.invariant-loop-k
invariant-loop-k g l = record { same : l.pages.items ≡ l.initial.pages.items; kept : map (λ s. s.value.items) l.shared.items ≡ take l.k l.initial.pages.items }
