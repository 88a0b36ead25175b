-- What a search computes about WRITEs and FSYNCs.
use Rattle.std.specs.Prelude.{◌≡◌, ℕ, ◌<◌, ◌==◌, Bool, true, false, not, ◌&&◌, ◌||◌, ◌++◌, ◌⊎◌, Option, Some, None, List, length, map, MatchBool, option_to_list}
use Rattle.findings.specs.Common.{option_map_or, list_any, Event, Setup, Machine, Finding, Kind, Conflict, FsyncRetried, FsyncEarly, Fsync, Written, Effect}
use Rattle.findings.specs.{Given.given, Records.RetriedBefore, Records.judged}
use Rattle.finding_rules.specs.Durability.{IsSuspect, failed, fsync_of, good, has_byte_of, is_volatile_at, moves, written_before, written_of}
pub use Rattle.finding_rules.specs.Verdicts.{is_marked}

-- Whether an FSYNC, if there is one, is of object o.
abbrev pub is_fsync_of : Option Fsync → ℕ → Bool
is_fsync_of x o = option_map_or (λ (y : Fsync). y.file == o) x false

-- The test says whether the set of object o has a byte.
abbrev pub SaysMarked : Bool → List (List ℕ) → ℕ → Type 0
SaysMarked test sets o = MatchBool test ((k : ℕ) × (is_marked sets o k ≡ true)) ((k : ℕ) → is_marked sets o k ≡ false)

-- The findings about an FSYNC that an event completes without error, if it completes one: a finding
-- if the file has a suspect byte.
abbrev pub AddsRetried : ℕ → Option Fsync → List (List ℕ) → List Finding → List Finding → Type 0
AddsRetried i None sets fs gs = gs ≡ fs
AddsRetried i (Some x) sets fs gs = (test : Bool) × SaysMarked test sets x.file × (gs ≡ fs ++ given test (record { moment = i; kind = FsyncRetried; subject = x.row }))

-- What the completion of a READ, WRITE or FSYNC by event i changes, by the machine after it: the
-- completed WRITEs, the suspect bytes, and the findings about retried FSYNCs.
pub record Follows (s : Setup) (i : ℕ) (m : Machine) (effect : Effect) (ws vs : List Written) (old new : List (List ℕ)) (fs gs : List Finding) : Type 0 where
  pub writes : vs ≡ ws ++ option_to_list (written_of s m effect)
  pub count : length new ≡ length old
  pub marks : (o k : ℕ) → o < length old → is_marked new o k ≡ ((is_marked old o k && not (moves (written_of s m effect) o k)) || (is_fsync_of (fsync_of s failed effect) o && is_volatile_at m o k))
  pub added : AddsRetried i (fsync_of s good effect) old fs gs

-- The search has followed the WRITEs and FSYNCs of the first n events.
pub record FollowsFiles (s : Setup) (es : List Event) (n : ℕ) (ws : List Written) (sets : List (List ℕ)) (fs : List Finding) : Type 0 where
  pub writes : ws ≡ written_before s es n
  pub count : length sets ≡ length s.objects
  pub suspects : (o k : ℕ) → MatchBool (is_marked sets o k) (IsSuspect s es n o k) (IsSuspect s es n o k → ⊥)
  pub retried : RetriedBefore s es n fs

-- Whether the end of a run decides the verdict of a kind.
abbrev pub is_early : Kind → Bool
is_early (Conflict (FsyncEarly verdict)) = true
is_early kind = false

-- Whether it decides the verdict of some finding.
abbrev pub has_early : List Finding → Bool
has_early fs = list_any (λ (f : Finding). is_early f.kind) fs

-- The findings with their verdicts, by sets of the bytes that are not durable at the end.
pub record JudgesBy (s : Setup) (m : Machine) (ws : List Written) (fs gs : List Finding) : Type 0 where
  pub sets : List (List ℕ)
  pub volatile : (o k : ℕ) → o < length s.objects → is_marked sets o k ≡ is_volatile_at m o k
  pub replaced : gs ≡ map (judged (has_byte_of (is_marked sets) ws)) fs

-- The same, or the findings as they are if the end decides no verdict.
abbrev pub Judges : Setup → Machine → List Written → List Finding → List Finding → Type 0
Judges s m ws fs gs = ((has_early fs ≡ false) × (gs ≡ fs)) ⊎ JudgesBy s m ws fs gs
