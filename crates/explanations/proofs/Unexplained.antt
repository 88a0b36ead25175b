-- Why a run isn't explained, from why it isn't read or searched.
use Rattle.explanations.proofs.Common.{ℕ, List, Scenario, ReportFault, Schedule, Memory, RunFault, of_reading, Reads, IsUnread, Unexplained, UnexplainedRun}
use Rattle.runs.specs.declared.reading.RunFault.TheVariants as unread

pub unexplained_run : (bytes : List ℕ) (p : Scenario) (f : ReportFault) → Reads bytes p → Unexplained p.setup p.schedule f → UnexplainedRun bytes f
unexplained_run bytes p (Schedule i n) r h = (p, r, h)
unexplained_run bytes p Memory r h = h
unexplained_run bytes p f r h = absurd h

pub unexplained_unread : (bytes : List ℕ) (f : RunFault) → IsUnread bytes f → UnexplainedRun bytes (of_reading f)
unexplained_unread bytes (unread.Script f) h = h
unexplained_unread bytes (unread.Trace f) h = h
unexplained_unread bytes unread.Memory h = tt
