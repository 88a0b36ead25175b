use Rattle.model_files.proofs.Setting.{byte_within, set_pipe_byte, set_put_count, set_taken_count}
use Rattle.model_files.proofs.pipe.PipeBuffer.set.Goals as goal

pub returns-in-PipeByte-Byte-clause-put : goal.returns-in-PipeByte-Byte-clause-put
returns-in-PipeByte-Byte-clause-put c =
    let there = rw (← c.self.view_is, c.in-PipeByte-Byte.is-0) at c.requires.there in
    rw (← c.self.view_is, c.in-PipeByte-Byte.is-0, c.in-PipeByte-Byte.is-1, c.set.ensures) (set_pipe_byte _ _ _ _ (byte_within _ _ there))

pub returns-in-PutCount-Number-clause-put : goal.returns-in-PutCount-Number-clause-put
returns-in-PutCount-Number-clause-put c = rw (← c.self.view_is, c.in-PutCount-Number.is-0, c.in-PutCount-Number.is-1) (set_put_count _ _ _)

pub returns-in-TakenCount-Number-clause-put : goal.returns-in-TakenCount-Number-clause-put
returns-in-TakenCount-Number-clause-put c = rw (← c.self.view_is, c.in-TakenCount-Number.is-0, c.in-TakenCount-Number.is-1) (set_taken_count _ _ _)
