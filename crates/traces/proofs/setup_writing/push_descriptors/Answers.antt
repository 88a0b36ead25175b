use Rattle.std.proofs.Common.{length, get_or}
use Rattle.std.proofs.lemmas.List.{get_or_default}
use Rattle.byteorder.specs.Endian.{little_bytes}
use Rattle.places.specs.declared.object.Descriptor.{Descriptor}
use Rattle.places.specs.declared.object.End.TheVariants.{Whole}
use Rattle.traces.specs.Setups.{descriptor_bytes}
use Rattle.traces.proofs.Written.{item_written}
use Rattle.traces.proofs.setup_writing.push_descriptors.Goals as goal

pub loop-descriptor-preserved : goal.loop-descriptor-preserved
loop-descriptor-preserved c =
    let descriptors = c.args.descriptors.now in
    let i = c.loop-descriptor.descriptor-index in
    let none : Descriptor = record { object = 0; end = Whole } in
    let x = get_or descriptors i none in
    let lt = c.loop-descriptor-test.true in
    item_written descriptor_bytes descriptors i x c.args.out.now.items (little_bytes 4 (length descriptors)) _ _ lt (get_or_default descriptors i none x lt) c.loop-descriptor.invariant c.in_ok-push_descriptor.ensures
