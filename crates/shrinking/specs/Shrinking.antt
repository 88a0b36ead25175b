-- What a schedule keeps while it is made short.
use Rattle.std.specs.Prelude.{◌≡◌, ◌≤◌, Bool, true, false, Option, Some, None, List, length}
use Rattle.scenario.specs.declared.event.Event.{Event}
use Rattle.scenario.specs.declared.setup.Setup.{Setup}
use Rattle.machine.specs.Runs.{start, run, Accepts}
use Rattle.quiescence.specs.Over.{IsOver}
use Rattle.finding_kinds.specs.declared.finding.Finding.{Finding}
use Rattle.prompt_order.specs.Prompt.{IsPrompt, SaysPrompt}
use Rattle.sampling.specs.Locks.{keep_lock}
use Rattle.symptoms.specs.declared.symptom.Sighting.{Sighting}
use Rattle.symptoms.specs.declared.symptom.Symptom.{Symptom}
use Rattle.symptoms.specs.declared.symptom.Symptom.TheVariants as sought
use Rattle.symptoms.specs.declared.symptom.Wanted.TheVariants.{Exactly}
use Rattle.symptoms.specs.Symptoms.{is_of_end, Shows, IsSighting}
use Rattle.shrinking.specs.declared.goal.Goal.{Goal}

-- Whether a finding is about the end of a run.
abbrev pub is_at_end : Option Finding → Bool
is_at_end (Some f) = is_of_end f.kind
is_at_end None = false

-- The symptom that is kept: the kind of the finding, with its verdict, or the values of places.
abbrev pub narrowed : Symptom → Option Finding → Symptom
narrowed wanted (Some f) = sought.Finding (Exactly f.kind)
narrowed wanted None = wanted

-- ---- goals

-- A schedule is accepted, shows the goal's symptom first as the sighting says, and has no more events
-- than the goal allows.
pub record IsCandidate (goal : Goal) (es : List Event) (x : Sighting) : Type 0 where
  pub runs : Accepts (start goal.program.now) es
  pub sighting : IsSighting goal.program.now es goal.symptom x
  pub short : length es ≤ goal.most

-- A schedule keeps the ring's lock, if the goal does.
abbrev pub KeepsLock : Goal → List Event → Type 0
KeepsLock goal es = goal.keeps_lock ≡ true → keep_lock (start goal.program.now) es ≡ true

-- A schedule is prompt, if the goal is.
abbrev pub StaysPrompt : Goal → List Event → Type 0
StaysPrompt goal es = goal.is_prompt ≡ true → IsPrompt goal.program.now es

-- A schedule keeps a goal.
pub record IsKept (goal : Goal) (es : List Event) (x : Sighting) : Type 0 where
  pub candidate : IsCandidate goal es x
  pub lock : KeepsLock goal es
  pub prompt : StaysPrompt goal es

-- The goal for a run and the finding that it shows.
pub record IsGoal (s : Setup) (es : List Event) (wanted : Symptom) (found : Option Finding) (goal : Goal) : Type 0 where
  pub setup : goal.program.now ≡ s
  pub symptom : goal.symptom ≡ narrowed wanted found
  pub most : goal.most ≡ length es
  pub lock : goal.keeps_lock ≡ keep_lock (start s) es
  pub prompt : SaysPrompt goal.is_prompt s es

-- ---- the result

-- A schedule fs is made from es, which shows a symptom as the sighting x says: it is accepted, shows
-- the symptom, and the same kind or value, and isn't longer. If the finding is about the end of a
-- run, fs is over then. If es keeps the ring's lock, so does fs, and if es is prompt, so is fs.
pub record IsShrunk (s : Setup) (es : List Event) (wanted : Symptom) (x : Sighting) (fs : List Event) (y : Sighting) : Type 0 where
  pub runs : Accepts (start s) fs
  pub shown : Shows s fs wanted y.moment
  pub same : IsSighting s fs (narrowed wanted x.finding) y
  pub short : length fs ≤ length es
  pub over : is_at_end x.finding ≡ true → IsOver (run (start s) fs)
  pub lock : keep_lock (start s) es ≡ true → keep_lock (start s) fs ≡ true
  pub prompt : IsPrompt s es → IsPrompt s fs
