-- What `check` decides about a script: it is fine, it is faulty, or an event of it is refused.
use Rattle.std.specs.Prelude.{◌≡◌, ◌≢◌, ◌<◌, ◌≤◌, ℕ, List, [], length, Ok, Err}
use Rattle.scenario.specs.declared.event.Event.{Event}
use Rattle.scenario.specs.declared.setup.Setup.{Setup}
use Rattle.machine.specs.Runs.{start, Accepts, IsRefused}
use Rattle.script.specs.Faults.{at_key}
use Rattle.script.specs.Scripts.{Scenario, Reads, limit}
use Rattle.script.specs.declared.fault.Key.TheVariants.{Document}
use Rattle.script.specs.declared.fault.ScriptFault.TheVariants.{Limit}
use Rattle.runs.specs.declared.fault.ReportFault.{ReportFault}
use Rattle.runs.specs.declared.fault.ReportFault.TheVariants.{Script, Write, Memory}
use Rattle.script_check.specs.declared.verdict.Verdict.{Verdict}
use Rattle.script_check.specs.declared.verdict.Verdict.TheVariants.{Fine, Unscheduled, Faulty, Refused}

-- Whether a script has threads, and no event for them.
abbrev pub IsUnscheduled : Setup → List Event → Type 0
IsUnscheduled s es = (es ≡ []) × (s.threads ≢ [])

-- How the schedule of a valid script ends: every event is accepted, or there is none though the
-- script has threads, or event i is the first that is refused, for reason n.
abbrev pub Ends : Setup → List Event → Verdict → Type 0
Ends s es Fine = Accepts (start s) es × (IsUnscheduled s es → ⊥)
Ends s es Unscheduled = IsUnscheduled s es
Ends s es (Refused i n) = IsRefused s es i n
Ends s es (Faulty f) = ⊥

-- The verdict on a text: its first fault, or how its schedule ends. A text of more than 8,388,608
-- bytes gets no verdict.
abbrev pub IsVerdict : List ℕ → Verdict → Type 0
IsVerdict text (Faulty f) = (length text ≤ limit) × Reads text (Err f)
IsVerdict text Fine = (p : Scenario) × Reads text (Ok p) × Ends p.setup p.schedule Fine
IsVerdict text Unscheduled =
    (p : Scenario) × Reads text (Ok p) × Ends p.setup p.schedule Unscheduled
IsVerdict text (Refused i n) =
    (p : Scenario) × Reads text (Ok p) × Ends p.setup p.schedule (Refused i n)

-- The fault of a report that can't be written: a write or an allocation failed.
abbrev pub IsOfOutput : ReportFault → Type 0
IsOfOutput Write = Unit {0}
IsOfOutput Memory = Unit {0}
IsOfOutput f = ⊥

-- Why a text gets no verdict. One of more than 8,388,608 bytes has the fault of that limit. For any
-- other text, a write or an allocation failed.
abbrev pub IsUnreported : List ℕ → ReportFault → Type 0
IsUnreported text (Script f) = (limit < length text) × (f ≡ Limit (at_key Document))
IsUnreported text f = (length text ≤ limit) × IsOfOutput f
