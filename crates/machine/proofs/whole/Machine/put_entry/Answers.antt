use Rattle.machine.proofs.Common.{◌<◌, sym, subst, length, Keeps, keeps_then, SubWords, view, everywhere}
use Rattle.machine.proofs.{Lifting.keeps_slot, Lifting.lift_threads, InstructionLemmas.thread_there, InstructionLemmas.can_advance, InstructionLemmas.is_done}
use Rattle.machine.proofs.whole.Machine.put_entry.Goals as goal

pub put_entry-requires : goal.put_entry-requires
put_entry-requires c = is_done c.args.self.now _ _ c.requires.formed c.requires.next

pub advance-requires-clause-there : goal.advance-requires-clause-there
advance-requires-clause-there c = thread_there c.args.self.now _ _ c.requires.next

pub advance-requires-clause-can_advance : goal.advance-requires-clause-can_advance
advance-requires-clause-can_advance c = can_advance c.args.self.now _ c.requires.formed

pub returns-clause-keeps : goal.returns-clause-keeps
returns-clause-keeps c =
    let m = c.args.self.now in
    let there : c.args.slot < length m.submissions.slots = is_done m _ _ c.requires.formed c.requires.next in
    let written = keeps_slot m c.args.slot c.args.entry _ _ there (rw c.at.ensures at c.in_ok-note.ensures.ok) in
    let put = subst (λ (w : SubWords). Keeps everywhere (view m) (view (record m { submissions = w })) c.args.notes.now.made c.note.new.self.made) (sym c.put_entry.ensures) written in
    keeps_then _ _ _ _ _ _ _ put (lift_threads (record m { submissions = c.put_entry.new.self }) _ _ _ c.advance.ensures.keeps)
