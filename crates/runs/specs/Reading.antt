-- The run that bytes describe, or why they describe none.
use Rattle.std.specs.Prelude.{◌≡◌, ◌==◌, ℕ, ◌≤◌, List, [], ◌∷◌, length, Bool, true, false, Ok, Err, None}
use Rattle.runs.specs.Common.{setup_refusal, Scenario, ReadsScript, IsFault2, IsTrace2, RunFault, Script, Trace, Memory, Source}
use Rattle.runs.specs.declared.reading.Source.TheVariants as from

-- The run that was read from a script or a trace.
abbrev pub scenario_of : Source → Scenario
scenario_of (from.Script p) = p
scenario_of (from.Trace s es) = record { setup = s; schedule = es }

-- A run that can be stepped: its setup is accepted, and it has at most 1,048,576 events.
pub record Startable (p : Scenario) : Type 0 where
  pub starts : setup_refusal p.setup ≡ None
  pub most : length p.schedule ≤ 1048576

-- Bytes are a trace if they begin with a `U` (`URTRACE1`, `URTRACE2`), and otherwise a script.
abbrev pub is_trace : List ℕ → Bool
is_trace [] = false
is_trace (b ∷ bs) = b == 85

-- The bytes describe this run: as a trace of the second form, or else as a script.
abbrev pub ReadsAs : Bool → List ℕ → Scenario → Type 0
ReadsAs true bytes p = IsTrace2 p.setup p.schedule bytes
ReadsAs false bytes p = ReadsScript bytes (Ok p)

-- The bytes describe this run.
abbrev pub Reads : List ℕ → Scenario → Type 0
Reads bytes p = ReadsAs (is_trace bytes) bytes p

-- Why the bytes of a trace, or else of a script, describe no run.
abbrev pub IsUnreadAs : Bool → List ℕ → RunFault → Type 0
IsUnreadAs true bytes (Trace f) = IsFault2 bytes f
IsUnreadAs false bytes (Script f) = ReadsScript bytes (Err f)
IsUnreadAs trace bytes Memory = Unit {0}
IsUnreadAs trace bytes f = ⊥

-- Why the bytes describe no run, or an allocation failure.
abbrev pub IsUnread : List ℕ → RunFault → Type 0
IsUnread bytes f = IsUnreadAs (is_trace bytes) bytes f
