use Rattle.traces.specs.Setups.{long_bytes, list_bytes, object_bytes, descriptor_bytes, program_bytes, rings_bytes, trimmed, canonical}
use Rattle.traces.proofs.Written.{numbers_small}
use Rattle.traces.proofs.Trimming.{required, chained}
use Rattle.traces.proofs.setup_writing.push_setup.Goals as goal

pub push_rings-requires : goal.push_rings-requires
push_rings-requires c = (required c.args.setup.now c.requires).rings

pub push_memory-requires : goal.push_memory-requires
push_memory-requires c = rw c.as_slice.ensures (required c.args.setup.now c.requires).memory

pub push_objects-requires-clause-few : goal.push_objects-requires-clause-few
push_objects-requires-clause-few c = rw c.as_slice-2.ensures (required c.args.setup.now c.requires).few_objects

pub push_objects-requires-clause-kept : goal.push_objects-requires-clause-kept
push_objects-requires-clause-kept c = rw c.as_slice-2.ensures (required c.args.setup.now c.requires).objects

pub push_descriptors-requires-clause-few : goal.push_descriptors-requires-clause-few
push_descriptors-requires-clause-few c = rw c.as_slice-3.ensures (required c.args.setup.now c.requires).few_fds

pub push_descriptors-requires-clause-small : goal.push_descriptors-requires-clause-small
push_descriptors-requires-clause-small c =
    let s = c.args.setup.now in
    let a = required s c.requires in
    rw c.as_slice-3.ensures (numbers_small s.objects s.fds a.few_objects a.fds)

pub push_threads-requires-clause-few : goal.push_threads-requires-clause-few
push_threads-requires-clause-few c = rw c.as_slice-4.ensures (required c.args.setup.now c.requires).few_threads

pub push_threads-requires-clause-kept : goal.push_threads-requires-clause-kept
push_threads-requires-clause-kept c = rw (c.as_slice-4.ensures, c.ring_size.ensures) (required c.args.setup.now c.requires).threads

pub returns-clause-spelled : goal.returns-clause-spelled
returns-clause-spelled c =
    let s = c.args.setup.now in
    let memory = rw c.as_slice.ensures at c.in_ok-push_memory.ensures in
    let objects = rw c.as_slice-2.ensures at c.in_ok-push_objects.ensures in
    let fds = rw c.as_slice-3.ensures at c.in_ok-push_descriptors.ensures in
    let threads = rw c.as_slice-4.ensures at c.in_ok-push_threads.ensures.spelled in
    chained c.args.out.now.items (rings_bytes (canonical s)) (long_bytes (trimmed s.memory)) (list_bytes object_bytes s.objects) (list_bytes descriptor_bytes s.fds) (list_bytes program_bytes s.threads)
    _ _ _ _ _ c.in_ok-push_rings.ensures.spelled memory objects fds threads
