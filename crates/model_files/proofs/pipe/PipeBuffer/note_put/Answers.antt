use Rattle.model_files.proofs.Piping.{keeps_put, names_put}
use Rattle.model_files.proofs.pipe.PipeBuffer.note_put.Goals as goal

pub returns-clause-keeps : goal.returns-clause-keeps
returns-clause-keeps c = keeps_put c.args.self.now c.args.object _ _ _ c.in_ok-note_slots.ensures.keeps (rw c.put_count.ensures at c.in_ok-note_number.ensures.ok)

pub returns-clause-noted : goal.returns-clause-noted
returns-clause-noted c = names_put c.args.self.now c.args.others.now c.args.object _ _ c.in_ok-note_slots.ensures.noted (rw c.put_count.ensures at c.in_ok-note_number.ensures.ok)
