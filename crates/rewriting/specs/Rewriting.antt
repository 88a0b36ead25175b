-- Replacing the schedule in the text of a script.
use Rattle.std.specs.Prelude.{◌≡◌, ◌≢◌, ◌+◌, ◌*◌, ◌<◌, ℕ, List, ◌++◌, length, Ok, Err, Some}
use Rattle.serde_json.specs.Data.{Items, array}
use Rattle.serde_json.specs.Read.{read}
use Rattle.scenario.specs.declared.event.Event.{Event}
use Rattle.scenario.specs.declared.setup.Setup.{Setup}
use Rattle.script.specs.Scripts.{Scenario, Reads, limit}
use Rattle.traces.specs.Reading.{IsFault2}
use Rattle.traces.specs.Setups.{canonical, IsTrace2}
use Rattle.rewriting.specs.declared.fault.RewriteFault.{RewriteFault}
use Rattle.rewriting.specs.declared.fault.RewriteFault.TheVariants.{Script, TooLong, Place, Memory}
use Rattle.rewriting.specs.declared.fault.ScheduleFault.{ScheduleFault}
use Rattle.rewriting.specs.declared.fault.ScheduleFault.TheVariants.{Rewrite, Trace, OtherSetup, TooMany}

-- The bytes are a JSON list.
abbrev pub IsList : List ℕ → Type 0
IsList bytes = (items : Items) × (read bytes ≡ Some (array items))

-- The text with another list in place of one of its lists. All other bytes are kept.
pub record HasOtherList (text made : List ℕ) : Type 0 where
  pub before : List ℕ
  pub old : List ℕ
  pub new : List ℕ
  pub after : List ℕ
  pub was : text ≡ before ++ (old ++ after)
  pub is : made ≡ before ++ (new ++ after)
  pub was_list : IsList old
  pub is_list : IsList new

-- The text with another list, such that it is a script with this setup and these events.
pub record IsRewritten (text : List ℕ) (setup : Setup) (events : List Event) (made : List ℕ) : Type 0 where
  pub kept : HasOtherList text made
  pub reads : Reads made (Ok (record { setup = setup; schedule = events }))

-- More bytes than the layout of this many events has.
abbrev pub most_bytes : ℕ → ℕ
most_bytes events = 128 * (events + 1)

-- Why a script's text isn't rewritten. It can only be too long if the limit doesn't leave 128 bytes
-- for each event.
abbrev pub IsUnreplaced : List ℕ → List Event → RewriteFault → Type 0
IsUnreplaced text events (Script f) = ⊥
IsUnreplaced text events TooLong = limit < length text + most_bytes (length events)
IsUnreplaced text events Place = Unit {0}
IsUnreplaced text events Memory = Unit {0}

-- Why a text isn't rewritten: it is no script, or it is one and can't be rewritten.
abbrev pub IsUnwritten : List ℕ → List Event → RewriteFault → Type 0
IsUnwritten text events (Script f) = Reads text (Err f)
IsUnwritten text events Memory = Unit {0}
IsUnwritten text events f = ((p : Scenario) × Reads text (Ok p)) × IsUnreplaced text events f

-- Why a script with this setup isn't rewritten with the events of a trace: an allocation failed, the
-- trace has a fault or another setup, or the script can't have its events.
abbrev pub IsUnplanned : List ℕ → Setup → List ℕ → ScheduleFault → Type 0
IsUnplanned text setup trace (Rewrite Memory) = Unit {0}
IsUnplanned text setup trace (Rewrite f) =
    (events : List Event) × IsTrace2 (canonical setup) events trace × IsUnreplaced text events f
IsUnplanned text setup trace (Trace f) = IsFault2 trace f
IsUnplanned text setup trace OtherSetup =
    (other : Setup) × (events : List Event) × IsTrace2 other events trace × (other ≢ canonical setup)
IsUnplanned text setup trace (TooMany count) =
    (events : List Event) × IsTrace2 (canonical setup) events trace × (count ≡ length events) × (65536 < count)

-- Why a text isn't rewritten with the events of a trace. The script's fault comes first.
abbrev pub IsUnscheduled : List ℕ → List ℕ → ScheduleFault → Type 0
IsUnscheduled text trace (Rewrite (Script f)) = Reads text (Err f)
IsUnscheduled text trace (Rewrite Memory) = Unit {0}
IsUnscheduled text trace f = (p : Scenario) × Reads text (Ok p) × IsUnplanned text p.setup trace f
