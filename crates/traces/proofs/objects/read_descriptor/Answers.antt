use Rattle.std.proofs.Common.{ℕ}
use Rattle.traces.specs.Cursors.{Cursor, at_offset}
use Rattle.traces.proofs.ObjectLaws.{descriptor_is}
use Rattle.traces.proofs.objects.read_descriptor.Goals as goal

pub returns : goal.returns
returns c =
    let objects = c.args.objects.now in
    let here : ℕ → Cursor = at_offset c.args.bytes.now in
    let i = c.in_ok-object.object in
    let there = rw c.from.ensures at c.index-objects-from.is in
    rw c.from-object.ensures
    (descriptor_is objects (here c.args.offset) i (here c.in_ok-object.after) c.index-objects-from.result c.in_ok-end.end (here c.in_ok-end.after) c.in_ok-object.ensures.below c.in_ok-object.ensures.read there c.in_ok-end.ensures)
