-- What a search looks for, and what it concludes.
use Rattle.std.specs.Prelude.{◌≡◌, ◌≢◌, ◌≤◌, ◌==◌, ◌++◌, ℕ, List, Option, Some, None, Result, Ok, Err, length, take, map, slice_get, codes, if◌then◌else◌}
use Rattle.std.specs.List.{All, Contains}
use Rattle.std.specs.Borrow.{Bor}
use Rattle.commands.specs.declared.command.Command.{Command}
use Rattle.commands.specs.declared.command.Command.TheVariants.{Break}
use Rattle.commands.specs.declared.command.CommandFault.{CommandFault}
use Rattle.commands.specs.declared.command.CommandFault.TheVariants as fault
use Rattle.commands.specs.Commands.{command_of}
use Rattle.scenario.specs.declared.event.Event.{Event}
use Rattle.scenario.specs.declared.setup.Setup.{Setup}
use Rattle.script.specs.Scripts.{Scenario, Reads}
use Rattle.finding_kinds.specs.declared.kind.Kind.{Kind}
use Rattle.symptoms.specs.declared.symptom.Goal.{Goal}
use Rattle.symptoms.specs.declared.symptom.Sighting.{Sighting}
use Rattle.symptoms.specs.declared.symptom.Symptom.{Symptom}
use Rattle.symptoms.specs.declared.symptom.Symptom.TheVariants.{Finding, Reaches}
use Rattle.symptoms.specs.declared.symptom.Wanted.{Wanted}
use Rattle.symptoms.specs.declared.symptom.Wanted.TheVariants.{FaultsBut, Kinds}
use Rattle.symptoms.specs.Symptoms.{IsSighting}
use Rattle.exploring.specs.declared.random_runs.RandomRuns.{RandomRuns}
use Rattle.exploring.specs.RandomRuns.{HasEvents, RunShows}
use Rattle.shrinking.specs.Shrinking.{IsShrunk}
use Rattle.rewriting.specs.Rewriting.{IsRewritten}
use Rattle.conclusions.specs.declared.fault.UntilFault.{UntilFault}
use Rattle.conclusions.specs.declared.fault.UntilFault.TheVariants as until

-- ---- what is looked for

-- The place and the value of a `break` command.
abbrev pub goal_by : Command → Result Goal CommandFault
goal_by (Break p v) = Ok (record { place = p; value = v })
goal_by command = Err fault.Command

-- The same of a line, or its fault.
abbrev pub goal_in : Result Command CommandFault → Result Goal CommandFault
goal_in (Ok command) = goal_by command
goal_in (Err f) = Err f

-- The goal of a text, as the command `break` has it.
abbrev pub goal_of : Setup → List ℕ → Result Goal CommandFault
goal_of s text = goal_in (command_of s (codes "break " ++ text))

-- Goals that have one place have one value.
abbrev pub Agree : Goal → Goal → Type 0
Agree g h = g.place ≡ h.place → g.value ≡ h.value

-- Two goals have one place and two values.
abbrev pub Clash : Goal → Goal → Type 0
Clash g h = (g.place ≡ h.place) × (g.value ≢ h.value)

-- The goals of some texts, in order. Any two of them agree.
pub record AreGoals (s : Setup) (texts : List (Bor (List ℕ))) (goals : List Goal) : Type 0 where
  pub each : map (λ text. goal_of s text.now) texts ≡ map Ok goals
  pub agree : All (λ g. All (Agree g) goals) goals

-- The fault of the text at an index, given the goals of those before: `break` refuses it, or an
-- earlier goal clashes with its goal.
abbrev pub IsFaultOf : Setup → List Goal → ℕ → List ℕ → UntilFault → Type 0
IsFaultOf s earlier index text (until.Command f) = goal_of s text ≡ Err f
IsFaultOf s earlier index text (until.Twice i) = (i ≡ index) × ((goal : Goal) × (goal_of s text ≡ Ok goal) × ((g : Goal) × Contains earlier g × Clash g goal))

-- The first fault of some texts: those before its text have goals.
pub record IsUntilFault (s : Setup) (texts : List (Bor (List ℕ))) (f : UntilFault) : Type 0 where
  pub index : ℕ
  pub text : Bor (List ℕ)
  pub here : slice_get texts index ≡ Some text
  pub earlier : List Goal
  pub goals : AreGoals s (take index texts) earlier
  pub fault : IsFaultOf s earlier index text.now f

-- Findings of some kinds, or faults but those allowed if there are no kinds.
abbrev pub wanted_of : Bor (List Kind) → Bor (List Kind) → Wanted
wanted_of kinds allowed = if length kinds.now == 0 then FaultsBut allowed else Kinds kinds

-- The goals if there are some, else findings.
abbrev pub symptom_of : Bor (List Goal) → Bor (List Kind) → Bor (List Kind) → Symptom
symptom_of goals kinds allowed = if length goals.now == 0 then Finding (wanted_of kinds allowed) else Reaches goals

-- ---- what is concluded

-- The events fs are those of run n, made short. They show the symptom first as y says.
pub record IsShown (r : RandomRuns) (n : ℕ) (fs : List Event) (y : Sighting) : Type 0 where
  pub events : List Event
  pub made : HasEvents r n events
  pub x : Sighting
  pub sighting : IsSighting r.setup.now events r.symptom x
  pub shrunk : IsShrunk r.setup.now events r.symptom x fs y
  pub few : length fs ≤ 65536

-- A script, made from a text by another schedule: that of the run that was found, made short.
pub record IsFoundScript (text : List ℕ) (r : RandomRuns) (found : Option ℕ) (made : List ℕ) : Type 0 where
  pub number : ℕ
  pub hit : found ≡ Some number
  pub events : List Event
  pub sighting : Sighting
  pub shown : IsShown r number events sighting
  pub rewritten : IsRewritten text r.setup.now events made

-- The text of a script of this setup.
abbrev pub IsScriptOf : List ℕ → Setup → Type 0
IsScriptOf text s = (p : Scenario) × Reads text (Ok p) × (p.setup ≡ s)

-- The run that was found shows the symptom.
abbrev pub IsHit : RandomRuns → Option ℕ → Type 0
IsHit r None = Unit {0}
IsHit r (Some n) = RunShows r n
