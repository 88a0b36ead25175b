-- The order of findings, and kinds by their names.
use Rattle.finding_kinds.specs.Common.{Bool, Ordering, nat_cmp, ordering_then, Finding, Kind}
use Rattle.finding_kinds.specs.Kinds.{first_named}
use Rattle.finding_kinds.specs.contracts.kind.KindOrd.TheImpl as ordered
use Rattle.finding_kinds.specs.contracts.kind.KindPartialEq.TheImpl as compared

-- Kinds are ordered by group, then by their place in the group, as their enums list them.
abbrev pub kind_order : Kind → Kind → Ordering
kind_order = (ordered.ghosts).cmp

-- Findings are ordered by moment, then kind, then subject.
abbrev pub order_of : Finding → Finding → Ordering
order_of f g = ordering_then (nat_cmp f.moment g.moment) (ordering_then (kind_order f.kind g.kind) (nat_cmp f.subject g.subject))

-- Whether two kinds have one name.
abbrev pub have_one_name : Kind → Kind → Bool
have_one_name a b = (compared.ghosts).eq (first_named a) (first_named b)
