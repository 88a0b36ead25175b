use Rattle.model_files.proofs.PuttingBack.{put_pipe_bytes, put_no_pipe_bytes}
use Rattle.model_files.proofs.pipe.PipeBuffer.put_back.Goals as goal

pub returns-in-Pipe-clause-put : goal.returns-in-Pipe-clause-put
returns-in-Pipe-clause-put c =
    let present = rw (← c.self.view_is, c.in-Pipe.is) at c.requires.present in
    rw (← c.self.view_is, c.in-Pipe.is) (put_pipe_bytes _ _ _ _ _ c.put_over.ensures.over present)

pub returns-in-Memory-clause-put : goal.returns-in-Memory-clause-put
returns-in-Memory-clause-put c = put_no_pipe_bytes _ _ _ _ c.in-Memory.is c.requires.present
