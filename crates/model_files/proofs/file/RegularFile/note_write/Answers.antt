use Rattle.std.proofs.Common.{◌≤◌, ◌+◌, length, arith}
use Rattle.model_files.proofs.Transfers.{keeps_file_bytes, keeps_written, names_within, names_past}
use Rattle.model_files.proofs.file.RegularFile.note_write.Goals as goal

pub returns-in_err-note_differing-clause-keeps : goal.returns-in_err-note_differing-clause-keeps
returns-in_err-note_differing-clause-keeps c =
    keeps_file_bytes c.args.self.now _ _ _ _ _ (rw c.bytes.ensures.value at c.in_err-note_differing.ensures.among)

pub returns-then-end-len-clause-keeps : goal.returns-then-end-len-clause-keeps
returns-then-end-len-clause-keeps c =
    keeps_file_bytes c.args.self.now _ _ _ _ _ (rw c.bytes.ensures.value at c.in_ok-note_differing.ensures.among)

pub returns-then-end-len-clause-noted : goal.returns-then-end-len-clause-noted
returns-then-end-len-clause-noted c =
    let less : c.args.offset + length c.args.others.now ≤ c.args.self.now.len = let l = c.len.ensures.value in let t = c.if-end-len.true in omega arith in
    names_within c.args.self.now _ _ _ _ _ c.requires.formed c.requires.some c.requires.within (omega arith) (rw c.bytes.ensures.value at c.in_ok-note_differing.ensures.noted) less

pub returns-in_err-note_number-clause-keeps : goal.returns-in_err-note_number-clause-keeps
returns-in_err-note_number-clause-keeps c =
    rw c.in_err-note_number.ensures.err (keeps_file_bytes c.args.self.now _ _ _ _ _ (rw c.bytes.ensures.value at c.in_ok-note_differing.ensures.among))

pub returns-clause-keeps : goal.returns-clause-keeps
returns-clause-keeps c =
    keeps_written c.args.self.now _ _ _ _ _ _ (rw c.bytes.ensures.value at c.in_ok-note_differing.ensures.among) (rw c.len-2.ensures.value at c.in_ok-note_number.ensures.ok)

pub returns-clause-noted : goal.returns-clause-noted
returns-clause-noted c =
    names_past c.args.self.now _ _ _ _ _ _ _ c.requires.formed c.requires.some c.requires.within (omega arith) (rw c.bytes.ensures.value at c.in_ok-note_differing.ensures.noted) c.in_ok-note_number.ensures.ok
