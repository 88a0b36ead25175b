use Rattle.model_files.proofs.PuttingBack.{put_no_counter_bytes}
use Rattle.model_files.proofs.body.Body.put_back.Goals as goal

pub returns-in-EventFd-clause-put : goal.returns-in-EventFd-clause-put
returns-in-EventFd-clause-put c =
    let present = rw (c.in-EventFd.is) at c.requires.present in
    rw (c.in-EventFd.is) (put_no_counter_bytes _ _ _ _ present)
