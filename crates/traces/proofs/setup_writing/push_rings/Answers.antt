use Rattle.std.proofs.Common.{arith}
use Rattle.traces.proofs.Trimming.{entries_most, completion_most, rings_kept}
use Rattle.traces.proofs.setup_writing.push_rings.Goals as goal

pub overflow_cast-ring_size : goal.overflow_cast-ring_size
overflow_cast-ring_size c =
    let s = c.args.setup.now in
    let kept = rings_kept s c.requires in
    omega (arith, entries_most s.entries kept.0, c.ring_size.ensures)

pub overflow_cast-completion_size : goal.overflow_cast-completion_size
overflow_cast-completion_size c =
    let s = c.args.setup.now in
    let kept = rings_kept s c.requires in
    omega (arith, completion_most s.entries s.cq kept.0 kept.1, c.completion_size.ensures)
