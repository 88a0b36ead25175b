-- What a search for findings has seen of a run.
use Rattle.std.specs.Prelude.{◌≡◌, ℕ, zero, suc, ◌≤◌, Bool, Option, Some, None, option_map, List, length, map, slice_get}
use Rattle.findings.specs.Common.{Event, Setup, machine_at, IsRefused, Refused, Stopped, Finding, Before, Written, Watch, Memory}
use Rattle.runs.specs.declared.driving.Ended.{Ended}
use Rattle.findings.specs.{Findings.condition_holds_at, Records.Covers, Records.FoundBefore, Suspects.FollowsFiles, Watched.continued, Watched.watched}
use Rattle.finding_rules.specs.NextSteps.{next_of}
pub use Rattle.finding_rules.specs.Facts.{facts_before}

-- The facts before event i of a run.
abbrev pub NotesFacts : Setup → List Event → ℕ → Before → Type 0
NotesFacts s es i b = option_map (facts_before s (machine_at s es i)) (slice_get es i) ≡ Some b

-- Since when a condition has held at each moment up to this one; None if it doesn't hold now.
unfoldable pub since_of : (ℕ → Bool) → ℕ → Option ℕ
since_of holds zero = continued (holds zero) None zero
since_of holds (suc n) = continued (holds (suc n)) (since_of holds n) (suc n)

-- A watched condition at moment n of a run, with what its thread does next.
abbrev pub watch_at : Setup → List Event → ℕ → Watch → Watch
watch_at s es n w = record w { next = next_of s (machine_at s es n) w.subject; since = since_of (condition_holds_at s es w.condition w.subject) n }

-- The search has seen the first n events of a run: it has their findings, follows each incomplete
-- READ and WRITE, knows since when each watched condition holds, and has followed the WRITEs and
-- FSYNCs. The machine has the threads of the setup.
pub record HasSearched (s : Setup) (es : List Event) (n : ℕ) (fs : List Finding) (numbers : List ℕ) (ws : List Watch) (writes : List Written) (sets : List (List ℕ)) (retried : List Finding) : Type 0 where
  pub most : length es ≤ 1048576
  pub found : FoundBefore s es n fs
  pub covered : Covers (machine_at s es n).table numbers
  pub watching : ws ≡ map (watch_at s es n) (watched s)
  pub threads : length (machine_at s es n).threads ≡ length s.threads
  pub files : FollowsFiles s es n writes sets retried

-- Why a search ends early: the first refused event of the run, or an allocation failure.
abbrev pub Halted : {E : Type 0} → Setup → List Event → Ended E → Type 0
Halted s es (Refused i r) = IsRefused s es i r
Halted s es Memory = Unit {0}
Halted s es (Stopped x) = Unit {0}
