use Rattle.model_files.proofs.Paging.{keeps_synced, names_durable}
use Rattle.model_files.proofs.file.RegularFile.note_sync.Goals as goal

pub returns-clause-keeps : goal.returns-clause-keeps
returns-clause-keeps c =
    keeps_synced c.args.self.now _ _ _ _ c.note_pages.ensures.keeps (rw c.durable_len.ensures.value at c.in_ok-note_number.ensures.ok)

pub returns-clause-noted : goal.returns-clause-noted
returns-clause-noted c =
    names_durable c.args.self.now _ _ _ _ c.durable_len.ensures.sized c.in_ok-note_pages.ensures.noted c.in_ok-note_number.ensures.ok
