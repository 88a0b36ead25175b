use Rattle.finding_rules.proofs.Common.{◌≡◌, Some, not, Entry, is_same, ap, ◌∙◌, same_from_decides, same_decides}
use Rattle.finding_rules.proofs.uses.differs.Goals as goal

pub returns : goal.returns
returns c =
    let same : c.is_same.result ≡ is_same c.value.result (Some (Entry c.args.entry)) = same_from_decides _ _ c.is_same.ensures (same_decides c.value.result (Some (Entry c.args.entry))) in
    ap not (same ∙ ap (λ v. is_same v (Some (Entry c.args.entry))) c.value.ensures.value)
