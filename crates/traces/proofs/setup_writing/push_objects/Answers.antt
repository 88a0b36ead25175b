use Rattle.std.proofs.Common.{[], length}
use Rattle.byteorder.specs.Endian.{little_bytes}
use Rattle.traces.specs.Limits.{keeps_object}
use Rattle.traces.specs.Setups.{object_bytes}
use Rattle.traces.proofs.Written.{kept_with_prefix, object_kept, item_written}
use Rattle.traces.proofs.setup_writing.push_objects.Goals as goal

pub push_object-requires-clause-name : goal.push_object-requires-clause-name
push_object-requires-clause-name c =
    let kept = kept_with_prefix keeps_object c.args.objects.now [] c.loop-object.object-index c.object-item.result c.loop-object-test.true c.object-item.is c.requires.kept in
    (object_kept kept.0 c.object-item.result kept.1).0

pub push_object-requires-clause-contents : goal.push_object-requires-clause-contents
push_object-requires-clause-contents c =
    let kept = kept_with_prefix keeps_object c.args.objects.now [] c.loop-object.object-index c.object-item.result c.loop-object-test.true c.object-item.is c.requires.kept in
    (object_kept kept.0 c.object-item.result kept.1).1

pub loop-object-preserved : goal.loop-object-preserved
loop-object-preserved c =
    let objects = c.args.objects.now in
    item_written object_bytes objects c.loop-object.object-index c.object-item.result c.args.out.now.items (little_bytes 4 (length objects)) _ _ c.loop-object-test.true c.object-item.is c.loop-object.invariant c.in_ok-push_object.ensures
