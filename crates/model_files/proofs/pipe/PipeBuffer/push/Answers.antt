use Rattle.std.proofs.Common.{◌<◌, ◌≤◌, length}
use Rattle.model_files.specs.Pipes.{PipeState}
use Rattle.model_files.proofs.Wrapping.{pushed_is}
use Rattle.model_files.proofs.pipe.PipeBuffer.push.Goals as goal

pub returns : goal.returns
returns c =
    let p : PipeState = record { slots = c.self.inside.slots; put = c.self.inside.put; taken = c.self.inside.taken } in
    let some : 0 < length p.slots = rw (← c.self.view_is) at c.requires.some in
    let room : length c.args.others.now ≤ length p.slots = rw (← c.self.view_is) at c.requires.room in
    rw (← c.self.view_is)
    (pushed_is p c.overwrite.new.bytes c.overwrite-2.new.bytes c.args.others.now c.split_at.result.0.now c.split_at.result.1.now c.len.result c.len-2.result c.min.result c.len.ensures c.len-2.ensures c.min.ensures c.split_at.ensures.front c.split_at.ensures.back some room c.overwrite.ensures.next c.overwrite-2.ensures.next)
