use Rattle.std.proofs.Common.{◌≡◌, length, map}
use Rattle.shared_pages.specs.Lists.{Extends}
use Rattle.shared_pages.proofs.shared.add_pages.Given as goal

abbrev pub invariant-loop-k : goal.invariant-loop-k
invariant-loop-k g l = record { extends : Extends (map (λ s. s.value.items) l.copy) l.initial.pages.items l.pages.items; count : length l.pages.items ≡ l.k }
