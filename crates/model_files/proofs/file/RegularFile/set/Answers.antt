use Rattle.model_files.proofs.Setting.{byte_within, set_file_byte, set_durable_byte, set_file_length, set_durable_length}
use Rattle.model_files.proofs.file.RegularFile.set.Goals as goal

pub returns-in-FileByte-Byte-clause-put : goal.returns-in-FileByte-Byte-clause-put
returns-in-FileByte-Byte-clause-put c =
    let there = rw (← c.self.view_is, c.in-FileByte-Byte.is-0) at c.requires.there in
    rw (← c.self.view_is, c.in-FileByte-Byte.is-0, c.in-FileByte-Byte.is-1, c.set.ensures) (set_file_byte _ _ _ _ (byte_within _ _ there))

pub returns-in-DurableByte-Byte-clause-put : goal.returns-in-DurableByte-Byte-clause-put
returns-in-DurableByte-Byte-clause-put c =
    let there = rw (← c.self.view_is, c.in-DurableByte-Byte.is-0) at c.requires.there in
    rw (← c.self.view_is, c.in-DurableByte-Byte.is-0, c.in-DurableByte-Byte.is-1, c.set-in-DurableByte-Byte.ensures) (set_durable_byte _ _ _ _ (byte_within _ _ there))

pub returns-in-FileLength-Number-clause-put : goal.returns-in-FileLength-Number-clause-put
returns-in-FileLength-Number-clause-put c = rw (← c.self.view_is, c.in-FileLength-Number.is-0, c.in-FileLength-Number.is-1) (set_file_length _ _ _)

pub returns-in-DurableLength-Number-clause-put : goal.returns-in-DurableLength-Number-clause-put
returns-in-DurableLength-Number-clause-put c = rw (← c.self.view_is, c.in-DurableLength-Number.is-0, c.in-DurableLength-Number.is-1) (set_durable_length _ _ _)
