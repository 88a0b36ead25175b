use Rattle.timeouts_cancel.proofs.Common.{◌∙◌, ap, ◌∷◌, [], ◌++◌, ◌+◌, w32, FitsSigned, rules, to_z-of_z}
use Rattle.timeouts_cancel.proofs.Joining.{merged_all, merged_next}
use Rattle.timeouts_cancel.proofs.merging.merge.Goals as goal

pub loop-r-preserved : goal.loop-r-preserved
loop-r-preserved c =
    let fits : FitsSigned w32 c.in-Some.res = search rules in
    let items = c.in_ok-push.ensures.items ∙ ap (λ z. c.loop-r.all.items ++ (c.in-Some.r, z) ∷ []) (to_z-of_z w32 c.in-Some.res fits) in (
      c.in-Some.r + 1,
      merged_next c.args.table.now c.args.first.now c.args.second.now _ c.loop-r.i c.loop-r.j c.past-i.result c.past-j.result c.loop-r.all.items _ (c.in-Some.r, c.in-Some.res) c.requires.first c.requires.second c.loop-r.invariant.1 c.in-Some.ensures.some c.past-i.ensures.splits c.past-j.ensures.splits items,
    )

pub returns : goal.returns
returns c = merged_all c.args.table.now c.args.first.now c.args.second.now _ c.loop-r.i c.loop-r.j c.loop-r.all.items c.loop-r.invariant.1 c.in_default.ensures.none.0 c.in_default.ensures.none.1
