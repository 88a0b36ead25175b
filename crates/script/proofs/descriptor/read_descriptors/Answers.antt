use Rattle.std.proofs.Common.{◌≡◌, ◌<◌, ◌∷◌, ◌++◌, [], length, map, arith, rules, sym}
use Rattle.std.proofs.lemmas.Result.{err_from_is_err_and}
use Rattle.serde_json.specs.View.{view}
use Rattle.script.specs.Lists.{each}
use Rattle.script.specs.Objects.{descriptor_at}
use Rattle.script.proofs.Each.{each_on, each_err, fails_at}
use Rattle.script.proofs.descriptor.read_descriptors.Goals as goal

pub returns-in_err-descriptor : goal.returns-in_err-descriptor
returns-in_err-descriptor c =
    let p = err_from_is_err_and c.from_residual.result c.from_residual.ensures.1 in
    let lt : c.loop-i.i < length c.args.items.now = omega arith in
    let f = descriptor_at c.args.objects.now in
    rw (p.1, p.2) (fails_at _ (each f 0 (map view c.args.items.now)) (each_err f c.args.items.now c.loop-i.i c.index-items-i.result _ c.loop-i.descriptors.items _ lt c.index-items-i.is c.loop-i.invariant (sym c.in_err-descriptor.ensures)))

pub loop-i-preserved : goal.loop-i-preserved
loop-i-preserved c =
    let lt : c.loop-i.i < length c.args.items.now = omega arith in
    let items : c.push.new.self.items ≡ c.loop-i.descriptors.items ++ c.in_ok-descriptor.descriptor ∷ [] = search rules in
    rw items (each_on (descriptor_at c.args.objects.now) c.args.items.now c.loop-i.i c.index-items-i.result c.in_ok-descriptor.descriptor c.loop-i.descriptors.items _ lt c.index-items-i.is c.loop-i.invariant (sym c.in_ok-descriptor.ensures))
