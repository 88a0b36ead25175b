use Rattle.std.proofs.Common.{◌≡◌, false, arith}
use Rattle.std.specs.Prelude.{◌==◌}
use Rattle.places.proofs.HeadLemmas.{other_kind}
use Rattle.places.proofs.packing.changes.is_of.Goals as goal

pub returns-else-head-kind : goal.returns-else-head-kind
returns-else-head-kind c =
    let h = c.if-head-kind.false in
    let t : (c.args.head.kind == c.kind.result) ≡ false = grind arith in
    other_kind _ _ _ _ c.requires c.kind.ensures t
