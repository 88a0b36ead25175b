use Rattle.std.proofs.Common.{◌≡◌, ◌<◌, ◌∷◌, ◌++◌, [], length, map, arith, rules}
use Rattle.std.proofs.lemmas.Result.{err_from_is_err_and}
use Rattle.serde_json.specs.View.{view}
use Rattle.dap_messages.specs.Values.{each}
use Rattle.dap_messages.proofs.Each.{each_on, each_fails}
use Rattle.dap_messages.proofs.items.read_items.Goals as goal

pub returns-in_err-read : goal.returns-in_err-read
returns-in_err-read g c =
    let p = err_from_is_err_and c.from_residual.result c.from_residual.ensures.1 in
    let lt : c.loop-value.value-index < length c.args.values.now = omega arith in
    rw (p.1, p.2) (each_fails g.T.Item.reads c.args.values.now c.loop-value.value-index c.value-item.result _ c.loop-value.items.items (each g.T.Item.reads (map view c.args.values.now)) lt c.value-item.is c.loop-value.invariant c.in_err-read.ensures)

pub loop-value-preserved : goal.loop-value-preserved
loop-value-preserved g c =
    let lt : c.loop-value.value-index < length c.args.values.now = omega arith in
    let items : c.push.new.self.items ≡ c.loop-value.items.items ++ c.in_ok-read.field-0 ∷ [] = search rules in
    rw items (each_on g.T.Item.reads c.args.values.now c.loop-value.value-index c.value-item.result c.in_ok-read.field-0 c.loop-value.items.items _ lt c.value-item.is c.loop-value.invariant c.in_ok-read.ensures)
