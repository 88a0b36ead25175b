use Rattle.std.proofs.Common.{arith}
use Rattle.model_files.proofs.Paging.{keeps_durable_bytes, page_fresh, page_noted}
use Rattle.model_files.proofs.file.RegularFile.note_page.Goals as goal

pub returns-in_err-note_differing-clause-keeps : goal.returns-in_err-note_differing-clause-keeps
returns-in_err-note_differing-clause-keeps c =
    keeps_durable_bytes c.args.self.now _ _ _ _ _ (rw c.durable.ensures.value at c.in_err-note_differing.ensures.among)

pub returns-in_err-note_differing-clause-fresh : goal.returns-in_err-note_differing-clause-fresh
returns-in_err-note_differing-clause-fresh c i h l =
    page_fresh c.args.self.now _ _ _ _ _ c.durable.ensures.sized (let p = c.requires.page in omega arith) (rw c.durable.ensures.value at c.in_err-note_differing.ensures.among) i (omega arith) (c.requires.fresh i (omega arith) l)

pub returns-clause-keeps : goal.returns-clause-keeps
returns-clause-keeps c =
    keeps_durable_bytes c.args.self.now _ _ _ _ _ (rw c.durable.ensures.value at c.in_ok-note_differing.ensures.among)

pub returns-clause-noted : goal.returns-clause-noted
returns-clause-noted c =
    page_noted c.args.self.now _ _ _ _ _ (omega arith) (rw c.durable.ensures.value at c.in_ok-note_differing.ensures.among)
    (rw (c.durable.ensures.value, c.bytes.ensures.value) at c.in_ok-note_differing.ensures.noted)

pub returns-clause-fresh : goal.returns-clause-fresh
returns-clause-fresh c i h l =
    page_fresh c.args.self.now _ _ _ _ _ c.durable.ensures.sized (let p = c.requires.page in omega arith) (rw c.durable.ensures.value at c.in_ok-note_differing.ensures.among) i (omega arith) (c.requires.fresh i (omega arith) l)
