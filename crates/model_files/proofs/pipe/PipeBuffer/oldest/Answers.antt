use Rattle.std.proofs.Common.{◌≡◌, ap, ◌<◌, ◌≤◌, length}
use Rattle.model_files.proofs.Wrapping.{oldest_is}
use Rattle.model_files.proofs.pipe.PipeBuffer.oldest.Goals as goal

pub returns-clause-bytes : goal.returns-clause-bytes
returns-clause-bytes c =
    let some : 0 < length c.self.inside.slots = rw (← c.self.view_is) at c.requires.some in
    let within : c.args.count ≤ length c.self.inside.slots = rw (← c.self.view_is) at c.requires.within in
    let slots = c.as_slice-slots.result.now in
    let whole : slots ≡ c.self.inside.slots = c.as_slice-slots.ensures in
    let size : length slots ≡ length c.self.inside.slots = ap length whole in
    rw (← c.self.view_is)
    (oldest_is c.self.inside.slots slots slots c.self.inside.taken c.args.count (length slots) (length slots) c.min-first.result whole whole size size c.min-first.ensures some within)
