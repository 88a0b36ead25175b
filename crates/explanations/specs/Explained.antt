-- What `explain` reports about the run of a script or a trace.
use Rattle.std.specs.Prelude.{◌≡◌, ◌==◌, Bool, not, ◌&&◌, ◌||◌, List, length, ℕ}
use Rattle.explanations.specs.Common.{list_any, Event, Setup, start, Accepts, IsRefused, Scenario, ReportFault, Script, Trace, Schedule, Write, Memory, Reads, IsUnread, Finding, Kind, IsReportOf, is_fault, have_one_name}
use Rattle.runs.specs.declared.reading.RunFault.TheVariants as unread
use Rattle.explanations.specs.declared.explaining.Explanation.{Explanation}

-- Whether a kind has the name of one of some kinds.
abbrev pub is_among : List Kind → Kind → Bool
is_among kinds kind = list_any (λ other. have_one_name other kind) kinds

-- Whether a kind is requested: one with the name of one of these, or any if there are none.
abbrev pub is_requested : List Kind → Kind → Bool
is_requested kinds kind = (length kinds == 0) || is_among kinds kind

-- Whether a finding is a fault of a requested kind.
abbrev pub is_fault_of : List Kind → Finding → Bool
is_fault_of kinds f = is_requested kinds f.kind && is_fault f.kind

-- Whether a finding counts for the exit status: it is a fault of a requested kind that isn't
-- allowed.
abbrev pub counts : List Kind → List Kind → Finding → Bool
counts kinds allowed f = is_fault_of kinds f && not (is_among allowed f.kind)

-- Whether a run has threads and no event.
abbrev pub is_unscheduled : Setup → List Event → Bool
is_unscheduled s es = (length es == 0) && not (length s.threads == 0)

-- The result for a run: no event is refused, it says whether a finding counts, and whether the run
-- has threads and no event.
pub record Explains (s : Setup) (es : List Event) (kinds allowed : List Kind) (x : Explanation) : Type 0 where
  pub runs : Accepts (start s) es
  pub found : List Finding
  pub reported : IsReportOf s es found
  pub faults : x.is_faulty ≡ list_any (counts kinds allowed) found
  pub unscheduled : x.is_unscheduled ≡ is_unscheduled s es

-- The result for the run that the bytes describe.
abbrev pub ExplainsRun : List ℕ → List Kind → List Kind → Explanation → Type 0
ExplainsRun bytes kinds allowed x =
    (p : Scenario) × Reads bytes p × Explains p.setup p.schedule kinds allowed x

-- ---- why a run isn't explained

-- The first refused event of a run, or an allocation failure.
abbrev pub Unexplained : Setup → List Event → ReportFault → Type 0
Unexplained s es (Schedule i n) = IsRefused s es i n
Unexplained s es Memory = Unit {0}
Unexplained s es f = ⊥

-- Why bytes are not explained: their first fault, the first refused event, or an allocation failure.
abbrev pub UnexplainedRun : List ℕ → ReportFault → Type 0
UnexplainedRun bytes (Schedule i n) = (p : Scenario) × Reads bytes p × IsRefused p.setup p.schedule i n
UnexplainedRun bytes Memory = Unit {0}
UnexplainedRun bytes Write = ⊥
UnexplainedRun bytes (Script f) = IsUnread bytes (unread.Script f)
UnexplainedRun bytes (Trace f) = IsUnread bytes (unread.Trace f)
