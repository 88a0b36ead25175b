use Rattle.std.proofs.lemmas.Result.{err_from_is_err_and}
use Rattle.traces.specs.Cursors.{at_offset}
use Rattle.traces.specs.Reading.{object_at}
use Rattle.traces.proofs.Items.{items_continue, ends, is_done}
use Rattle.traces.proofs.objects.read_objects_counted.Goals as goal

pub loop-preserved : goal.loop-preserved
loop-preserved c =
    let read = rw c.deref.ensures.value at c.in_ok-object.ensures in
    rw c.in_ok-push.ensures.items
    (items_continue object_at c.args.count c.loop.counter c.loop.objects.items (at_offset c.args.bytes.now c.loop.at) c.in_ok-object.object (at_offset c.args.bytes.now c.in_ok-object.after) _ c.loop-test.true read c.loop.invariant)

pub returns-in_err-object : goal.returns-in_err-object
returns-in_err-object c =
    let read = rw c.deref.ensures.value at c.in_err-object.ensures in
    let p = err_from_is_err_and c.from_residual.result c.from_residual.ensures.1 in
    rw (p.1, p.2)
    (ends object_at c.args.count c.loop.counter c.loop.objects.items (at_offset c.args.bytes.now c.loop.at) c.in_err-object.field-0.0 _ c.loop-test.true read c.loop.invariant)

pub returns : goal.returns
returns c = is_done object_at c.args.count c.loop.counter c.loop.objects.items (at_offset c.args.bytes.now c.loop.at) _ c.loop-test.false c.loop.invariant
