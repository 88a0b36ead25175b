use Rattle.std.proofs.Common.{◌+◌, ◌<◌, ◌∙◌, [], length, map, ap, arith}
use Rattle.std.proofs.lemmas.Result.{err_from_is_err_and}
use Rattle.serde_json.specs.View.{view}
use Rattle.script.specs.Lists.{folded}
use Rattle.script.specs.Objects.{object_at}
use Rattle.script.proofs.Each.{folded_on, folded_fails}
use Rattle.script.proofs.object.read_object_list.Goals as goal

pub returns-in_err-objects : goal.returns-in_err-objects
returns-in_err-objects c =
    let p = err_from_is_err_and c.from_residual.result c.from_residual.ensures.1 in
    let lt : c.loop-i.i < length c.args.items.now = omega arith in
    rw (p.1, p.2) (folded_fails object_at c.args.items.now c.loop-i.i c.index-items-i.result _ c.loop-i.objects (folded object_at [] 0 (map view c.args.items.now)) lt c.index-items-i.is c.loop-i.invariant.0 c.in_err-objects.ensures.next)

pub loop-i-preserved : goal.loop-i-preserved
loop-i-preserved c =
    let lt : c.loop-i.i < length c.args.items.now = omega arith in
    (folded_on object_at c.args.items.now c.loop-i.i c.index-items-i.result c.loop-i.objects c.in_ok-objects.objects _ lt c.index-items-i.is c.loop-i.invariant.0 c.in_ok-objects.ensures.next, c.in_ok-objects.ensures.len ∙ ap (λ n. n + 1) c.loop-i.invariant.1)
